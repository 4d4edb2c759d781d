-- A step taken back gives the text before it. Assumes nothing.
use Rattle.std.proofs.Common.{◌≡◌, ℕ, zero, suc, ◌+◌, ◌≤◌, List, [], ◌∷◌, ◌++◌, length, take, drop, sym, refl, ap, ◌∙◌, subst, arith, length-append, length-drop, take-append-drop, length-take, drop-drop}
use Rattle.element.specs.declared.Element.{Ghosts as Elements}
use Rattle.measure.specs.declared.Measure.{Ghosts as Measures}
use Rattle.measure.specs.declared.Total.{Ghosts as Totals}
use Rattle.ledger.specs.Legal.{Fit}
use Rattle.ledger.specs.Places.{elements_at, pieces_of, source_list, stretch}
use Rattle.ledger.specs.Steps.{Content, apply}
use Rattle.ledger.specs.declared.words.Piece.{Piece}
use Rattle.ledger.specs.declared.words.Place.{Place}
use Rattle.ledger.specs.declared.words.Source.TheVariants.{Added}
use Rattle.ledger.specs.declared.words.Step.{Step}
use Rattle.ledger.specs.declared.words.Step.TheVariants.{Insert, Delete, SetMark, DropMark}
use Rattle.marks.specs.Bounds.{Inside}
use Rattle.marks.specs.Tables.{marks_of}
use Rattle.marks.specs.declared.table.Marks.{Marks}
use Rattle.pieces.proofs.Elements.{elements_append}
use Rattle.pieces.proofs.Spreads.{stretch_length}
use Rattle.pieces.specs.Spread.{spelled}
use Rattle.reading.proofs.Longest.{spelled_pieces}
use Rattle.text.proofs.Edited.{some_pieces}
use Rattle.text.specs.Texts.{added_of, original_of, text_places}
use Rattle.content.proofs.Staying.{same_content}
use Rattle.content.specs.declared.Sheet.{Sheet}
use Rattle.content.specs.Sheets.{kept_runs, taken_back, MadeOf, Restorable, Undoable}

module _ {X : Type 0} where
  -- the front of a front with more behind it
  take_front : (x : ℕ) (ps more : List X) → x ≤ length ps → take x (take x ps ++ more) ≡ take x ps
  take_front zero ps more le = refl
  take_front (suc x) [] more le = absurd (omega arith)
  take_front (suc x) (p ∷ ps) more le = ap {B = List X} (λ l. p ∷ l) (take_front x ps more (omega arith))

  -- and what is behind it
  drop_front : (x : ℕ) (ps more : List X) → x ≤ length ps → drop x (take x ps ++ more) ≡ more
  drop_front zero ps more le = refl
  drop_front (suc x) [] more le = absurd (omega arith)
  drop_front (suc x) (p ∷ ps) more le = drop_front x ps more (omega arith)

  -- behind a list of n comes the rest
  drop_list : (n : ℕ) (run more : List X) → length run ≡ n → drop n (run ++ more) ≡ more
  drop_list zero [] more e = refl
  drop_list zero (p ∷ run) more e = absurd (omega (arith, e))
  drop_list (suc n) [] more e = absurd (omega (arith, e))
  drop_list (suc n) (p ∷ run) more e = drop_list n run more (omega (arith, e))

  -- a part in three: what is before it, it, and what is behind it
  in_three : (x n : ℕ) (ps : List X) → take x ps ++ (take n (drop x ps) ++ drop (x + n) ps) ≡ ps
  in_three x n ps =
      ap (λ l. take x ps ++ (take n (drop x ps) ++ l)) (sym (drop-drop n x ps))
      ∙ ap (λ l. take x ps ++ l) (take-append-drop n (drop x ps))
      ∙ take-append-drop x ps

  -- what was put in is taken out
  out_again : (x n : ℕ) (run ps : List X) → x ≤ length ps → length run ≡ n → take x (take x ps ++ (run ++ drop x ps)) ++ drop (x + n) (take x ps ++ (run ++ drop x ps)) ≡ ps
  out_again x n run ps le e =
      let qs : List X = take x ps ++ (run ++ drop x ps) in
      let back : drop (x + n) qs ≡ drop x ps = sym (drop-drop n x qs) ∙ ap (drop n) (drop_front x ps (run ++ drop x ps) le) ∙ drop_list n run (drop x ps) e in
      ap (λ l. l ++ drop (x + n) qs) (take_front x ps (run ++ drop x ps) le) ∙ ap (λ l. take x ps ++ l) back ∙ take-append-drop x ps

  -- what was taken out is put in
  in_again : (x n : ℕ) (run ps : List X) → x ≤ length ps → run ≡ take n (drop x ps) → take x (take x ps ++ drop (x + n) ps) ++ (run ++ drop x (take x ps ++ drop (x + n) ps)) ≡ ps
  in_again x n run ps le e =
      let qs : List X = take x ps ++ drop (x + n) ps in
      ap (λ l. l ++ (run ++ drop x qs)) (take_front x ps (drop (x + n) ps) le)
      ∙ ap (λ l. take x ps ++ (run ++ l)) (drop_front x ps (drop (x + n) ps) le)
      ∙ ap (λ l. take x ps ++ (l ++ drop (x + n) ps)) e
      ∙ in_three x n ps

-- a step taken back gives the places before it
back_again : (step : Step) (c : Content) → Fit step c → taken_back step (kept_runs step c) (apply step c).places ≡ c.places
back_again (Insert x n start) c fit = out_again x n (stretch Added start n) c.places fit.1 (stretch_length Added start n)
back_again (Delete x n) c fit =
    in_again x n (spelled (pieces_of (take n (drop x c.places)))) c.places (omega (arith, fit.1)) (spelled_pieces (take n (drop x c.places)))
back_again (SetMark name mark) c fit = refl
back_again (DropMark name) c fit = refl

module _ {E : Type 0} (original added : List E) where
  -- no more elements than places
  at_most : (ps : List Place) → length (elements_at original added ps) ≤ length ps
  at_most [] = omega arith
  at_most (p ∷ ps) =
      let one = length-take 1 (drop p.index (source_list original added p.source)) in
      let parts = length-append (take 1 (drop p.index (source_list original added p.source))) (elements_at original added ps) in
      let more = at_most ps in
      omega (arith, one, parts, more)

  -- where all places have an element, those of a part have one
  whole_part : (front part back : List Place) → length (elements_at original added (front ++ (part ++ back))) ≡ length (front ++ (part ++ back)) → length (elements_at original added part) ≡ length part
  whole_part front part back whole =
      let at = elements_at original added in
      let outer = ap length (elements_append original added front (part ++ back)) ∙ length-append (at front) (at (part ++ back)) in
      let inner = ap length (elements_append original added part back) ∙ length-append (at part) (at back) in
      omega (arith, whole, outer, inner, length-append front (part ++ back), length-append part back, at_most front, at_most part, at_most back)

module _ {E T : Type 0} {e : Elements E} {m : Measures T E} {total : Totals T} (s : Sheet E T e m total) (marks : Marks) where
  -- so it does for every content that the step was made out of
  places_again : (step : Step) (runs : List Piece) (before : Content) → MadeOf step marks runs s before → taken_back step runs (text_places s.text) ≡ before.places
  places_again step runs before h =
      ap (λ rs. taken_back step rs (text_places s.text)) h.runs_are
      ∙ ap (λ c. taken_back step (kept_runs step before) c.places) h.made
      ∙ back_again step before h.fit

  -- with the marks given, it gives that content
  pub content_again : (step : Step) (runs : List Piece) (ps : List Place) (before : Content) → ps ≡ taken_back step runs (text_places s.text) → MadeOf step marks runs s before → record { places = ps; marks = marks_of marks } ≡ before
  content_again step runs ps before is h =
      same_content ps (marks_of marks) before (is ∙ places_again step runs before h) h.marks_are

  -- in which the marks lie
  pub inside_again : (step : Step) (runs : List Piece) (ps : List Place) → ps ≡ taken_back step runs (text_places s.text) → Undoable step marks runs s → Inside (record { places = ps; marks = marks_of marks })
  inside_again step runs ps is u = subst Inside (sym (content_again step runs ps u.before is u.made_of)) u.inside

  -- the text is within the bounds of the change that takes the step back
  pub restorable : (step : Step) (runs : List Piece) → Undoable step marks runs s → Restorable step runs s.text
  restorable (Insert x n start) runs u =
      let h = u.made_of in
      let ps : List Place = u.before.places in
      let run : List Place = stretch Added start n in
      let long : length (text_places s.text) ≡ length (take x ps ++ (run ++ drop x ps)) = ap (λ c. length c.places) h.made in
      let fit : Fit (Insert x n start) u.before = h.fit in
      (fit.0, omega (arith, fit.0, fit.1, long, length-append (take x ps) (run ++ drop x ps), length-append run (drop x ps), stretch_length Added start n, length-take x ps))
  restorable (Delete x n) runs u =
      let h = u.made_of in
      let ps : List Place = u.before.places in
      let part : List Place = take n (drop x ps) in
      let fit : Fit (Delete x n) u.before = h.fit in
      let long : length (text_places s.text) ≡ length (take x ps ++ drop (x + n) ps) = ap (λ c. length c.places) h.made in
      let parts = length-append (take x ps) (drop (x + n) ps) in
      let runs_are : runs ≡ pieces_of part = h.runs_are in
      let spelt : spelled runs ≡ part = ap spelled runs_are ∙ spelled_pieces part in
      let long_part : length (spelled runs) ≡ n = omega (arith, ap length spelt, length-take n (drop x ps), length-drop x ps, fit.1) in
      let original = original_of s.text in
      let added = added_of s.text in
      let three = in_three x n ps in
      let whole : length (elements_at original added (take x ps ++ (part ++ drop (x + n) ps))) ≡ length (take x ps ++ (part ++ drop (x + n) ps)) =
      subst (λ qs. length (elements_at original added qs) ≡ length qs) (sym three) u.whole in
      record {
        some = omega (arith, ap length runs_are, some_pieces part (omega (arith, ap length spelt, long_part, fit.0)));
        longest = runs_are ∙ ap pieces_of (sym spelt);
        inside = subst (λ qs. length (elements_at original added qs) ≡ length qs) (sym spelt) (whole_part original added (take x ps) part (drop (x + n) ps) whole);
        within = omega (arith, long, parts, length-take x ps, fit.1);
        short = omega (arith, long, parts, long_part, length-take x ps, length-drop (x + n) ps, fit.1, u.short);
      }
  restorable (SetMark name mark) runs u = tt
  restorable (DropMark name) runs u = tt

  -- and it leaves no more pieces than there may be
  pub few_again : (step : Step) (runs : List Piece) → Undoable step marks runs s → length (pieces_of (taken_back step runs (text_places s.text))) ≤ s.text.limit
  few_again step runs u =
      subst (λ ps. length (pieces_of ps) ≤ s.text.limit) (sym (places_again step runs u.before u.made_of)) u.few
