-- Runs of places, and the runs of a tree. Assumes nothing.
use Rattle.std.proofs.Common.{◌≡◌, ℕ, zero, suc, ◌+◌, ◌<◌, ◌≤◌, List, [], ◌∷◌, ◌++◌, length, get_or, take, drop, sym, refl, ap, ◌∙◌, append_assoc, append-nil, arith, length-append, take-append-drop}
use Rattle.std.proofs.lemmas.List.{take_more}
use Rattle.ledger.specs.Places.{piece, stretch}
use Rattle.ledger.specs.declared.words.Piece.{Piece}
use Rattle.ledger.specs.declared.words.Place.{Place}
use Rattle.ledger.specs.declared.words.Source.TheVariants.{Original}
use Rattle.pieces.specs.Spread.{spelled, AllFit, Fits}
use Rattle.pieces.proofs.Spreads.{stretch_length}

spelled_append : (xs ys : List Piece) → spelled (xs ++ ys) ≡ spelled xs ++ spelled ys
spelled_append [] ys = refl
spelled_append (x ∷ xs) ys =
    let own = stretch x.source x.start x.length in
    ap (λ ps. own ++ ps) (spelled_append xs ys) ∙ sym (append_assoc own (spelled xs) (spelled ys))

-- what the checker reads past the end of a list of runs
abbrev pub blank : Piece
blank = piece Original 0 0

-- one run more
pub spelled_more : (runs : List Piece) (i : ℕ) → i < length runs → spelled (take (i + 1) runs) ≡ spelled (take i runs) ++ stretch (get_or runs i blank).source (get_or runs i blank).start (get_or runs i blank).length
spelled_more runs i within =
    let run = get_or runs i blank in
    ap spelled (take_more runs i blank within) ∙ spelled_append (take i runs) (run ∷ []) ∙ ap (λ ps. spelled (take i runs) ++ ps) (append-nil (stretch run.source run.start run.length))

pub length_more : (runs : List Piece) (i : ℕ) → i < length runs → length (spelled (take (i + 1) runs)) ≡ length (spelled (take i runs)) + (get_or runs i blank).length
length_more runs i within =
    let run = get_or runs i blank in
    omega (
      arith,
      ap length (spelled_more runs i within),
      length-append (spelled (take i runs)) (stretch run.source run.start run.length),
      stretch_length run.source run.start run.length,
    )

-- a run put behind those before it
pub run_added : (before : List Place) (runs : List Piece) (i : ℕ) {left all : List Place} → i < length runs → left ≡ before ++ spelled (take i runs) → all ≡ left ++ stretch (get_or runs i blank).source (get_or runs i blank).start (get_or runs i blank).length → all ≡ before ++ spelled (take (i + 1) runs)
run_added before runs i within so_far added =
    let run = get_or runs i blank in
    let own = stretch run.source run.start run.length in
    added ∙ ap (λ ps. ps ++ own) so_far ∙ append_assoc before (spelled (take i runs)) own ∙ ap (λ ps. before ++ ps) (sym (spelled_more runs i within))

-- the first runs spell no more places than all
pub spelled_few : (runs : List Piece) (i : ℕ) → length (spelled (take i runs)) ≤ length (spelled runs)
spelled_few runs i =
    let parted = ap (λ rs. length (spelled rs)) (take-append-drop i runs) in
    let both = ap length (spelled_append (take i runs) (drop i runs)) in
    omega (arith, parted, both, length-append (spelled (take i runs)) (spelled (drop i runs)))

-- each of some runs fits
pub fits_at : (original added : ℕ) (runs : List Piece) (i : ℕ) → AllFit original added runs → i < length runs → Fits original added (get_or runs i blank)
fits_at original added [] i all within = absurd (omega (arith, within))
fits_at original added (r ∷ runs) zero all within = all.0
fits_at original added (r ∷ runs) (suc i) all within = fits_at original added runs i all.1 (omega (arith, within))

-- what is put between two parts
pub between : (put : List Place) {front back left all before after : List Place} → all ≡ left ++ back → left ≡ front ++ put → front ≡ before → back ≡ after → all ≡ before ++ (put ++ after)
between put {back = back} {before = before} sewn_up filled is_front is_back =
    sewn_up ∙ ap (λ ps. ps ++ back) (filled ∙ ap (λ ps. ps ++ put) is_front) ∙ append_assoc before put back ∙ ap (λ ps. before ++ (put ++ ps)) is_back

-- two parts, one after the other
pub both_parts : {front back all before after : List Place} → all ≡ front ++ back → front ≡ before → back ≡ after → all ≡ before ++ after
both_parts {back = back} {before = before} sewn_up is_front is_back =
    sewn_up ∙ ap (λ ps. ps ++ back) is_front ∙ ap (λ ps. before ++ ps) is_back
