-- The law of versions: calls keep the content of every version that is there, and each version was made at some moment.
-- Assumes nothing.
use Rattle.std.proofs.Common.{◌≡◌, ℕ, suc, ◌+◌, ◌<◌, Bool, ◌⊎◌, List, [], ◌∷◌, ◌++◌, length, None, sym, refl, ap, ◌∙◌, subst₂, inl, inr, arith}
use Rattle.std.proofs.lemmas.List.{append_assoc}
use Rattle.std.proofs.lemmas.Bool.{cases_lt}
use Rattle.ledger.proofs.Effects.{begin_held, next_keeps, original_within, run_held}
use Rattle.ledger.proofs.Held.{Held, Keeps, News}
use Rattle.ledger.proofs.Calls.{run_append}
use Rattle.ledger.proofs.Sources.{version_same}
use Rattle.ledger.specs.Calls.{Call, next, run}
use Rattle.ledger.specs.History.{story}
use Rattle.ledger.specs.Ledgers.{Ledger, begin, content, text, steps_open}
use Rattle.ledger.specs.Moments.{Made, Stands, Stood, content_at, text_at}
use Rattle.ledger.specs.Places.{elements_at}
use Rattle.ledger.specs.Steps.{replay}

-- with no group open, the present content is that of the current version
module _ {E : Type 0} (l : Ledger E) (idle : l.group ≡ None) where
  idle_content : content l ≡ content_at l.current l
  idle_content = ap (λ group. replay (length l.original) (steps_open group ++ story l.current l.versions)) idle

  idle_text : text l ≡ text_at l.current l
  idle_text = ap (λ c. elements_at l.original l.added c.places) idle_content

-- a call keeps every version that is there, with its content
module _ {E : Type 0} (l : Ledger E) (call : Call E) (m : Ledger E) (h : Held 1 l) (keeps : Keeps 1 l call m) (k : ℕ) (lt : k < length l.versions) where
  kept_version : k < length m.versions
  kept_version =
      elim keeps.growth [
        | inl same ↦ omega arith
        | inr news ↦ omega (arith, news.longer)
      ]

  kept_content : content_at k m ≡ content_at k l
  kept_content = λ i. replay (length (keeps.original i)) (keeps.stories k lt i)

  kept_text : text_at k m ≡ text_at k l
  kept_text =
      (λ i. elements_at (keeps.original i) m.added (kept_content i).places)
      ∙ version_same l.original m.added l.added k l.versions h.placed keeps.added

module _ {E : Type 0} (breaks : E → Bool) where
  -- so do some calls
  run_kept : (l : Ledger E) → Held 1 l → (calls : List (Call E)) (k : ℕ) → k < length l.versions → (text_at k (run breaks l calls) ≡ text_at k l) × ((content_at k (run breaks l calls)).marks ≡ (content_at k l).marks)
  run_kept l h [] k lt = (refl, refl)
  run_kept l h (call ∷ more) k lt =
      let m : Ledger E = next breaks l call in
      let keeps = next_keeps breaks 1 l h call in
      let rest = run_kept m keeps.held more k (kept_version l call m h keeps k lt) in
      (rest.0 ∙ kept_text l call m h keeps k lt, rest.1 ∙ ap (λ c. c.marks) (kept_content l call m h keeps k lt))

  -- one of some calls is a closing that makes version k
  record Closes (l : Ledger E) (k : ℕ) (calls : List (Call E)) : Type 0 where
    earlier : List (Call E)
    call : Call E
    after : List (Call E)
    split : calls ≡ earlier ++ call ∷ after
    not_yet : length (run breaks l earlier).versions ≡ k
    news : News (run breaks l earlier) call (next breaks (run breaks l earlier) call)

  -- a version that is there after some calls was there before them, or one of them made it
  found : (l : Ledger E) → Held 1 l → (k : ℕ) (calls : List (Call E)) → k < length (run breaks l calls).versions → (k < length l.versions) ⊎ Closes l k calls
  found l h k [] lt = inl lt
  found l h k (call ∷ more) lt =
      elim (found (next breaks l call) (next_keeps breaks 1 l h call).held k more lt) [
        | inl below ↦
            elim (cases_lt k (length l.versions)) [
              | inl older ↦ inl older
              | inr newest ↦
                  elim (next_keeps breaks 1 l h call).growth [
                    | inl same ↦ absurd (omega arith)
                    | inr news ↦ inr (record { earlier = []; call = call; after = more; split = refl; not_yet = omega (arith, news.longer); news = news })
                  ]
            ]
        | inr c ↦ inr (record { earlier = call ∷ c.earlier; call = c.call; after = c.after; split = ap (λ cs. call ∷ cs) c.split; not_yet = c.not_yet; news = c.news })
      ]

  module _ (start : Ledger E) (h : Held 1 start) (calls : List (Call E)) (k : ℕ) where
    -- version k has what stood at the moment when it was made
    abbrev Kept : Type 0
    Kept = Stood breaks start calls k (text_at k (run breaks start calls)) (content_at k (run breaks start calls)).marks

    stood : (before after : List (Call E)) → calls ≡ before ++ after → Made breaks start k before → k < length (run breaks start before).versions → Kept
    stood before after split made lt =
        let m : Ledger E = run breaks start before in
        let kept = run_kept m (run_held breaks 1 start h before) after k lt in
        let there : run breaks m after ≡ run breaks start calls = sym (run_append breaks start before after) ∙ ap (run breaks start) (sym split) in
        record {
          before = before;
          after = after;
          split = split;
          moment = made;
          same_text = idle_text m made.idle ∙ ap (λ j. text_at j m) made.current ∙ sym kept.0 ∙ ap (text_at k) there;
          same_marks = ap (λ c. c.marks) (idle_content m made.idle) ∙ ap (λ j. (content_at j m).marks) made.current ∙ sym kept.1 ∙ ap (λ n. (content_at k n).marks) there;
        }

    -- so where a closing made it
    closed : Closes start k calls → Kept
    closed c =
        let before : List (Call E) = c.earlier ++ c.call ∷ [] in
        let there : run breaks start before ≡ next breaks (run breaks start c.earlier) c.call = run_append breaks start c.earlier (c.call ∷ []) in
        let made : length (run breaks start before).versions ≡ suc k = ap (λ n. length n.versions) there ∙ c.news.longer ∙ ap suc c.not_yet in
        stood before c.after (c.split ∙ sym (append_assoc c.earlier (c.call ∷ []) c.after))
        (record {
          by = inr (record { earlier = c.earlier; closed = ap (λ x. c.earlier ++ x ∷ []) c.news.closes; not_yet = c.not_yet; made = made });
          current = ap (λ n. n.current) there ∙ c.news.current ∙ c.not_yet;
          idle = ap (λ n. n.group) there ∙ c.news.idle;
        })
        (omega arith)

  pub stands : Stands breaks
  stands original capacities calls =
      let start : Ledger E = begin original capacities in
      let l : Ledger E = run breaks start calls in
      let h = begin_held 1 original capacities (original_within (length original) (1 + capacities.pieces) (omega arith)) in
      let each : (k : ℕ) → k < length l.versions → Kept start h calls k = λ k lt.
      elim (found start h k calls lt) [
        | inl below ↦
            let zeroth : k ≡ 0 = omega arith in
            stood start h calls k [] calls refl (record { by = inl (zeroth, refl); current = sym zeroth; idle = refl }) below
        | inr c ↦ closed start h calls k c
      ] in
      record {
        each = each;
        present = λ idle.
            subst₂ (Stood breaks start calls l.current) (sym (idle_text l idle)) (ap (λ c. c.marks) (sym (idle_content l idle)))
            (each l.current (run_held breaks 1 start h calls).current);
      }
