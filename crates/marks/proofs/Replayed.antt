-- The marks of a text stand in it. Assumes nothing.
use Rattle.std.proofs.Common.{◌≡◌, ℕ, zero, suc, ◌+◌, ◌-◌, ◌≤◌, eqb, List, [], ◌∷◌, ◌++◌, length, take, drop, Some, None, sym, refl, ap, ◌∙◌, subst, append-nil, arith, length-append, length-drop, length-set, length-take}
use Rattle.std.proofs.lemmas.List.{length-map}
use Rattle.std.proofs.lemmas.Bool.{cond_both}
use Rattle.std.specs.Option.{option_map}
use Rattle.ledger.specs.History.{Version, story}
use Rattle.ledger.specs.Ledgers.{Ledger, steps_open, content}
use Rattle.ledger.specs.Legal.{Fit, Fitting, Made, Sound, Legal}
use Rattle.ledger.specs.Places.{stretch}
use Rattle.ledger.specs.Steps.{Content, shifted, pulled, apply, replay}
use Rattle.ledger.specs.declared.words.Place.{Place}
use Rattle.ledger.specs.declared.words.Source.{Source}
use Rattle.ledger.specs.declared.words.Source.TheVariants.{Added}
use Rattle.ledger.specs.declared.words.Step.{Step}
use Rattle.ledger.specs.declared.words.Step.TheVariants.{Insert, Delete, SetMark, DropMark}
use Rattle.marks.proofs.Kept.{each_none, within_shifted, within_pulled, within_set, within_dropped}
use Rattle.marks.specs.Bounds.{AllWithin, Inside}

-- a stretch is as long as it says
length_stretch : (source : Source) (start n : ℕ) → length (stretch source start n) ≡ n
length_stretch source start zero = refl
length_stretch source start (suc n) = ap suc (length_stretch source (suc start) n)

-- how long the text is after an insert
inserted_long : (x n start : ℕ) (ps : List Place) → x ≤ length ps → length ps + n ≡ length (take x ps ++ (stretch Added start n ++ drop x ps))
inserted_long x n start ps le =
    omega (arith, length-append (take x ps) (stretch Added start n ++ drop x ps), length-append (stretch Added start n) (drop x ps), length_stretch Added start n, length-take x ps, length-drop x ps)

-- and after a delete
deleted_long : (x n : ℕ) (ps : List Place) → x + n ≤ length ps → length ps - n ≡ length (take x ps ++ drop (x + n) ps)
deleted_long x n ps le = omega (arith, length-append (take x ps) (drop (x + n) ps), length-take x ps, length-drop (x + n) ps)

-- a step that fits leaves the marks inside
pub apply_inside : (step : Step) (c : Content) → Fit step c → Inside c → Inside (apply step c)
apply_inside (Insert x n start) c fit h =
    subst (λ long. AllWithin long (apply (Insert x n start) c).marks) (inserted_long x n start c.places fit.1)
    (within_shifted (length c.places) x n c.marks h)
apply_inside (Delete x n) c fit h =
    subst (λ long. AllWithin long (apply (Delete x n) c).marks) (deleted_long x n c.places fit.1)
    (within_pulled (length c.places) x n c.marks fit.1 h)
apply_inside (SetMark name m) c fit h = within_set (length c.places) (name - 97) m c.marks fit.1 h
apply_inside (DropMark name) c fit h = within_dropped (length c.places) (name - 97) c.marks h

-- a step leaves an entry for each name
apply_names : (step : Step) (c : Content) → length (apply step c).marks ≡ length c.marks
apply_names (Insert x n start) c = length-map c.marks (option_map (shifted x n))
apply_names (Delete x n) c = length-map c.marks (option_map (pulled x n))
apply_names (SetMark name m) c = length-set c.marks (name - 97) (Some m)
apply_names (DropMark name) c = length-set c.marks (name - 97) None

-- and so do any steps
pub replay_names : (n : ℕ) (steps : List Step) → length (replay n steps).marks ≡ 26
replay_names n [] = refl
replay_names n (step ∷ before) = apply_names step (replay n before) ∙ replay_names n before

-- steps that fit, behind others that leave the marks inside, leave them inside
pub marks_within_behind : (n most : ℕ) (steps base : List Step) → Fitting n most steps base → Inside (replay n base) → Inside (replay n (steps ++ base))
marks_within_behind n most [] base fits h = h
marks_within_behind n most (step ∷ before) base fits h =
    apply_inside step (replay n (before ++ base)) fits.0 (marks_within_behind n most before base fits.2 h)

-- an original has no marks
pub untouched_inside : (n : ℕ) → Inside (replay n [])
untouched_inside n = each_none (λ m. m.offset.0 ≤ length (replay n []).places) 26

-- of steps that fit, every mark has an offset within the text
pub marks_within : (n most : ℕ) (steps : List Step) → Fitting n most steps [] → AllWithin (length (replay n steps).places) (replay n steps).marks
marks_within n most steps fits =
    subst (λ all. Inside (replay n all)) (append-nil steps) (marks_within_behind n most steps [] fits (untouched_inside n))

-- a version's steps, behind those of its parent, leave the marks inside
made_inside : (n most : ℕ) (v : Version) (older : List Version) → Made n most v older → Inside (replay n (story v.parent older)) → Inside (replay n (v.steps ++ story v.parent older))
made_inside n most v [] made h = subst (λ steps. Inside (replay n (steps ++ []))) (sym made) h
made_inside n most v (w ∷ older) made h = marks_within_behind n most v.steps (story v.parent (w ∷ older)) made.1 h

-- the marks of every version stand in its text
pub story_inside : (n most k : ℕ) (versions : List Version) → Sound n most versions → Inside (replay n (story k versions))
story_inside n most k [] sound = untouched_inside n
story_inside n most k (v ∷ older) sound =
    cond_both (eqb k (length older)) (v.steps ++ story v.parent older) (story k older) (λ steps. Inside (replay n steps))
    (λ e. made_inside n most v older sound.0 (story_inside n most v.parent older sound.1))
    (λ e. story_inside n most k older sound.1)

-- the marks of a legal ledger stand in its text
pub legal_inside : {E : Type 0} (l : Ledger E) → Legal l → Inside (content l)
legal_inside l legal =
    let n = length l.original in
    let most = l.capacities.pieces in
    let base = story l.current l.versions in
    marks_within_behind n most (steps_open l.group) base legal.group (story_inside n most l.current l.versions legal.sound)
