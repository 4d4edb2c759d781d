-- The ways in which a call changes a ledger: each keeps it legal, the path to its current version taken, and the versions that
-- were there. Assumes nothing.
use Rattle.std.proofs.Common.{◌≡◌, ℕ, suc, ◌+◌, ◌-◌, ◌<◌, ◌≤◌, max, true, false, eqb, ◌⊎◌, List, [], ◌∷◌, ◌++◌, length, take, Some, None, Option, refl, ap, ◌∙◌, subst, inl, inr, arith, length-append, length-take}
use Rattle.std.proofs.lemmas.List.{take-append-le, take-take}
use Rattle.std.proofs.lemmas.Bool.{cond_both, eqb-false}
use Rattle.ledger.proofs.Histories.{length_along, story_along, steps_along, added_along, kept_along, sound_along, placed_along, version_there, story_there}
use Rattle.ledger.proofs.Paths.{made_parts, along_twice, sound_parent, children_along, favours_as, favours_at}
use Rattle.ledger.proofs.Calls.{opened, shut}
use Rattle.ledger.specs.Calls.{Call, closing, with_group, with_step, without_last, at_version, at_child, closed, cancelled, retracted, favoured_child, parent_or_zero}
use Rattle.ledger.specs.History.{Version, version, version_at, story, along, steps_made, added_made, kept_made}
use Rattle.ledger.specs.Ledgers.{Ledger, steps_open, is_open, path, content, added_used, steps_used, runs_used}
use Rattle.ledger.specs.Legal.{Fit, Fitting, StartsAt, Placed, AllPlaced, Made, Sound, Favours, Child, pieces_made, to_come}
use Rattle.ledger.specs.Steps.{all_added, all_kept, added_by, kept_by}
use Rattle.ledger.specs.declared.words.Step.{Step}

-- an added source of so many elements, some versions and a group are within the capacities of a ledger
pub record Counts {E : Type 0} (l : Ledger E) (size : ℕ) (vs : List Version) (g : Option (List Step)) : Type 0 where
  pub is : size ≡ all_added (steps_open g) + added_made vs
  pub added : size ≤ l.capacities.added
  pub steps : length (steps_open g) + steps_made vs ≤ l.capacities.steps
  pub runs : all_kept (length l.original) (story l.current l.versions) (steps_open g) + kept_made (length l.original) vs ≤ l.capacities.runs
  pub versions : length vs + to_come g ≤ max 1 l.capacities.versions

-- a ledger, with capacity for some pieces to spare
module _ {E : Type 0} (spare : ℕ) (l : Ledger E) where
  -- a group goes with the current version, and with an added source of so many elements
  pub record Goes (size : ℕ) (g : Option (List Step)) : Type 0 where
    pub fits : Fitting (length l.original) (spare + l.capacities.pieces) (steps_open g) (story l.current l.versions)
    pub placed : Placed (added_made l.versions) (steps_open g)
    pub counts : Counts l size l.versions g

  -- What holds of a ledger after any calls. Where the capacity for pieces is 0 and the original is not empty, it takes one piece to
  -- spare.
  pub record Held : Type 0 where
    pub original : pieces_made (length l.original) [] ≤ spare + l.capacities.pieces
    pub sound : Sound (length l.original) (spare + l.capacities.pieces) l.versions
    pub current : l.current < length l.versions
    pub favoured : Favours (Child l.versions) l.versions
    pub placed : AllPlaced l.versions
    -- the path to the current version is taken already
    pub settled : along l.current None l.versions ≡ l.versions
    pub group : Goes (length l.added) l.group

-- a closing that makes a version
pub record News {E : Type 0} (l : Ledger E) (call : Call E) (m : Ledger E) : Type 0 where
  pub closes : call ≡ closing
  pub longer : length m.versions ≡ suc (length l.versions)
  pub current : m.current ≡ length l.versions
  pub idle : m.group ≡ None

-- what a call that makes m of l keeps
pub record Keeps {E : Type 0} (spare : ℕ) (l : Ledger E) (call : Call E) (m : Ledger E) : Type 0 where
  pub held : Held spare m
  pub original : m.original ≡ l.original
  -- what the versions added, and their stories
  pub added : take (added_made l.versions) m.added ≡ take (added_made l.versions) l.added
  pub stories : (k : ℕ) → k < length l.versions → story k m.versions ≡ story k l.versions
  pub growth : (length m.versions ≡ length l.versions) ⊎ News l call m

-- the texts of sound versions are within the pieces that they are made with: first those of fitting steps
fitting_within : (n most : ℕ) (steps base : List Step) → Fitting n most steps base → pieces_made n base ≤ most → pieces_made n (steps ++ base) ≤ most
fitting_within n most [] base f b = b
fitting_within n most (step ∷ before) base f b = f.1

-- then those of every version
story_within : (n most k : ℕ) (vs : List Version) → Sound n most vs → pieces_made n [] ≤ most → pieces_made n (story k vs) ≤ most
story_within n most k [] s o = o
story_within n most k (v ∷ older) s o =
    cond_both (eqb k (length older)) (v.steps ++ story v.parent older) (story k older)
    (λ steps. pieces_made n steps ≤ most)
    (λ e. fitting_within n most v.steps (story v.parent older) (made_parts n most v older s.0).1 (story_within n most v.parent older s.1 o))
    (λ e. story_within n most k older s.1 o)

-- a version with a parent and fitting steps is made
made_from : (n most : ℕ) (v : Version) (older : List Version) → v.parent < length older → Fitting n most v.steps (story v.parent older) → Made n most v older
made_from n most v [] below f = absurd (omega arith)
made_from n most v (w ∷ older) below f = (below, f)

-- a child is a child where a version more is made
child_older : (v : Version) (older : List Version) (p c : ℕ) → Child older p c → Child (v ∷ older) p c
child_older v older p c h =
    let below = h.1 in
    (h.0, omega arith, ap parent_or_zero (version_there c v older (λ e. omega arith)) ∙ h.2)

module _ {E : Type 0} (spare : ℕ) (l : Ledger E) (h : Held spare l) where
  abbrev n : ℕ
  n = length l.original

  abbrev most : ℕ
  most = spare + l.capacities.pieces

  -- the present text is within the pieces
  pub path_within : pieces_made n (path l) ≤ most
  path_within =
      fitting_within n most (steps_open l.group) (story l.current l.versions) h.group.fits
      (story_within n most l.current l.versions h.sound h.original)

  -- the parent of the current version is older than it
  pub parent_older : eqb l.current 0 ≡ false → parent_or_zero (version_at l.current l.versions) < l.current
  parent_older nonzero =
      let pos : 0 < l.current = omega (arith, eqb-false l.current 0 nonzero) in
      sound_parent n most l.current l.versions h.sound pos h.current

  -- without its last k elements the added source still has what the versions added
  cut : (k : ℕ) → k + added_made l.versions ≤ length l.added → take (added_made l.versions) (without_last l k) ≡ take (added_made l.versions) l.added
  cut k few = take-take (added_made l.versions) (length l.added - k) l.added (omega arith)

  -- another current version of some versions, and no group
  at_held : (vs : List Version) (k : ℕ)
      → Sound n most vs
      → k < length vs
      → Favours (Child vs) vs
      → AllPlaced vs
      → Counts l (length l.added) vs None
      → Held spare (at_version l vs k)
  at_held vs k sound below f placed counts =
      record {
        original = h.original;
        sound = sound_along k None vs n most sound;
        current = rw (length_along k None vs) below;
        favoured = children_along n most k vs sound f;
        placed = placed_along k None vs placed;
        settled = along_twice k None vs;
        group = record {
          fits = tt;
          placed = tt;
          counts = omega (arith, added_along k None vs, steps_along k None vs, kept_along k None vs n, length_along k None vs);
        };
      }

  module _ (call : Call E) where
    -- nothing changes
    pub stays : Keeps spare l call l
    stays = record { held = h; original = refl; added = refl; stories = λ k below. refl; growth = inl refl }

    -- another group over the same versions
    pub regrouped : (added : List E) (g : Option (List Step))
        → take (added_made l.versions) added ≡ take (added_made l.versions) l.added
        → Goes spare l (length added) g
        → Keeps spare l call (with_group l added g)
    regrouped added g same goes =
        record {
          held = record {
            original = h.original;
            sound = h.sound;
            current = h.current;
            favoured = h.favoured;
            placed = h.placed;
            settled = h.settled;
            group = record { fits = goes.fits; placed = goes.placed; counts = omega arith };
          };
          original = refl;
          added = same;
          stories = λ k below. refl;
          growth = inl refl;
        }

    -- a step more in the open group
    pub stepped : (step : Step) (new : List E)
        → is_open l.group ≡ true
        → Fit step (content l)
        → StartsAt (length l.added) step
        → pieces_made (length l.original) (step ∷ path l) ≤ spare + l.capacities.pieces
        → added_by step ≡ length new
        → steps_used l < l.capacities.steps
        → added_used l + length new ≤ l.capacities.added
        → runs_used l + kept_by step (content l) ≤ l.capacities.runs
        → Keeps spare l call (with_step l step new)
    stepped step new open_now fit starts pieces by s a r =
        let one = ap to_come (opened l.group open_now) in
        let long = length-append l.added new in
        let now = h.group in
        regrouped (l.added ++ new) (Some (step ∷ steps_open l.group))
        (take-append-le (added_made l.versions) l.added new (omega arith))
        (record {
          fits = (fit, pieces, now.fits);
          placed = (subst (λ used. StartsAt used step) now.counts.is starts, now.placed);
          counts = omega arith;
        })

    -- the last step taken out
    pub retracts : (g : Option (List Step)) → Goes spare l (length l.added) g → Keeps spare l call (retracted l g)
    retracts None now = stays
    retracts (Some []) now = stays
    retracts (Some (step ∷ before)) now =
        let long = length-take (length l.added - added_by step) l.added in
        regrouped (without_last l (added_by step)) (Some before) (cut (added_by step) (omega arith))
        (record { fits = now.fits.2; placed = now.placed.1; counts = omega arith })

    -- the group taken out
    pub cancels : (g : Option (List Step)) → Goes spare l (length l.added) g → Keeps spare l call (cancelled l g)
    cancels None now = stays
    cancels (Some steps) now =
        let long = length-take (length l.added - all_added steps) l.added in
        regrouped (without_last l (all_added steps)) None (cut (all_added steps) (omega arith))
        (record { fits = tt; placed = tt; counts = omega arith })

    -- the group made a version, if it has steps
    pub closes : call ≡ closing → (g : Option (List Step)) → Goes spare l (length l.added) g → Keeps spare l call (closed l g)
    closes is None now = stays
    closes is (Some []) now = regrouped l.added None refl (record { fits = tt; placed = tt; counts = omega arith })
    closes is (Some (step ∷ before)) now =
        let vs : List Version = l.versions in
        let new : Version = version l.current None (step ∷ before) in
        record {
          held = at_held (new ∷ vs) (length vs)
              (made_from n most new vs h.current now.fits, h.sound) (omega arith)
              (tt, favours_as (Child vs) (Child (new ∷ vs)) (child_older new vs) vs h.favoured)
              (now.placed, h.placed) (omega arith);
          original = refl;
          added = refl;
          stories = λ j below. story_along (length vs) None (new ∷ vs) j ∙ story_there j new vs (λ q. omega arith);
          growth = inr (record { closes = is; longer = length_along (length vs) None (new ∷ vs); current = refl; idle = refl });
        }

    -- a version made current where no group is open
    pub moves : (k : ℕ) → is_open l.group ≡ false → k < length l.versions → Keeps spare l call (at_version l l.versions k)
    moves k e below =
        let now : Goes spare l (length l.added) None = subst (Goes spare l (length l.added)) (shut l.group e) h.group in
        record {
          held = at_held l.versions k h.sound below h.favoured h.placed now.counts;
          original = refl;
          added = refl;
          stories = λ j lt. story_along k None l.versions j;
          growth = inl (length_along k None l.versions);
        }

    -- the parent made current
    pub undoes : is_open l.group ≡ false → eqb l.current 0 ≡ false → Keeps spare l call (at_version l l.versions (parent_or_zero (version_at l.current l.versions)))
    undoes e nonzero =
        let up = parent_older nonzero in
        let below : l.current < length l.versions = h.current in
        moves (parent_or_zero (version_at l.current l.versions)) e (omega arith)

    -- the favoured child made current
    pub redoes : is_open l.group ≡ false → (o : Option ℕ) → favoured_child (version_at l.current l.versions) ≡ o → Keeps spare l call (at_child l o)
    redoes e None is = stays
    redoes e (Some k) is = moves k e (favours_at (Child l.versions) l.current k l.versions h.favoured is).1
