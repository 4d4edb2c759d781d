-- Numbers of pieces of parts of a text, and of a text with a run put in. Assumes nothing.
use Rattle.std.proofs.Common.{◌≡◌, ℕ, ◌+◌, ◌-◌, ◌<◌, ◌≤◌, List, [], ◌∷◌, ◌++◌, length, take, drop, sym, ap, ◌∙◌, arith, length-drop, take-append-drop, length-take, take-add}
use Rattle.std.proofs.lemmas.List.{drop_all, drop-take}
use Rattle.ledger.specs.Places.{pieces_of, place, stretch}
use Rattle.ledger.specs.declared.words.Place.{Place}
use Rattle.ledger.specs.declared.words.Source.{Source}
use Rattle.nodes.specs.declared.types.Tree.{Tree}
use Rattle.nodes.specs.Trees.{items, long, placed, Weighed}
use Rattle.pieces.specs.Spread.{places, Apart}
use Rattle.pieces.proofs.Spreads.{places_length}
use Rattle.seeking.proofs.Standing.{placed_is}
use Rattle.reading.specs.Joints.{joint}
use Rattle.reading.proofs.Counting.{count_joint, joint_ends, joint_few, joint_first, joint_last, joint_take, pieces_few}
use Rattle.reading.proofs.Longest.{all_some, count_items, one_piece}
use Rattle.reading.proofs.Places.{stretch_first, stretch_last}

-- the place at an offset is the last of those up to it
pub last_place : (ps : List Place) (o x : ℕ) (p : Place) → drop o ps ≡ p ∷ drop (o + 1) ps → x ≡ o + 1 → p ∷ [] ≡ drop (x - 1) (take x ps)
last_place ps o x p at e =
    let before : x - 1 ≡ o = omega (arith, e) in
    sym ((λ k. drop (before k) (take (e k) ps)) ∙ drop-take o 1 ps ∙ ap (take 1) at)

module _ {T : Type 0} (tree : Tree Place T) (w : Weighed tree) where
  pub long_places : length (places tree) ≡ long tree
  long_places = places_length tree w

  pub front_long : (x : ℕ) → x ≤ long tree → length (take x (places tree)) ≡ x
  front_long x l = let cut = length-take x (places tree) in omega (arith, cut, long_places, l)

  -- the places before a gap go on to those behind it just where the last before it goes on to the first behind
  pub across : (x y : ℕ) (last : List Place) (p : Place) → x ≤ long tree → last ≡ drop (x - 1) (take x (places tree)) → drop y (places tree) ≡ p ∷ drop (y + 1) (places tree) → joint last (p ∷ []) ≡ joint (take x (places tree)) (drop y (places tree))
  across x y last p l before behind =
      ap (λ ps. joint ps (p ∷ [])) before ∙ ap (joint (drop (x - 1) (take x (places tree)))) (sym (ap (take 1) behind)) ∙ joint_ends (take x (places tree)) (drop y (places tree)) x (front_long x l)

  pub none_behind : (x : ℕ) → x ≡ long tree → drop x (places tree) ≡ []
  none_behind x e = let h = long_places in drop_all x (places tree) (omega (arith, h, e))

  -- the carried number is that of the pieces
  pub placed_pieces : Apart (items tree) → placed tree ≡ length (pieces_of (places tree))
  placed_pieces a = placed_is tree w ∙ sym (count_items (items tree) (all_some tree w) a)

  -- no more pieces than places
  pub few_before : (x : ℕ) → x ≤ long tree → length (pieces_of (take x (places tree))) ≤ x
  few_before x l = let few = pieces_few (take x (places tree)) in let cut = length-take x (places tree) in omega (arith, few, cut)

  pub few_behind : (x : ℕ) → x ≤ long tree → length (pieces_of (drop x (places tree))) + x ≤ long tree
  few_behind x l =
      let few = pieces_few (drop x (places tree)) in
      let cut = length-drop x (places tree) in
      let all = long_places in
      omega (arith, few, cut, all, l)

-- the pieces of a part of a text
module _ (ps : List Place) (x : ℕ) where
  cut_pieces : length (pieces_of (take x ps)) + length (pieces_of (drop x ps)) ≡ length (pieces_of ps) + joint (take x ps) (drop x ps)
  cut_pieces =
      let h = count_joint (take x ps) (drop x ps) in
      let all : length (pieces_of (take x ps ++ drop x ps)) ≡ length (pieces_of ps) = ap (λ qs. length (pieces_of qs)) (take-append-drop x ps) in
      omega (arith, h, all)

  pub behind_few : length (pieces_of (drop x ps)) ≤ length (pieces_of ps)
  behind_few = let h = cut_pieces in let few = joint_few (take x ps) (drop x ps) in omega (arith, h, few)

  pub part_pieces : (n : ℕ) → 0 < n → length (pieces_of (take n (drop x ps))) + length (pieces_of ps) ≡ length (pieces_of (take (x + n) ps)) + length (pieces_of (drop x ps))
  part_pieces n some =
      let h = cut_pieces in
      let k = count_joint (take x ps) (take n (drop x ps)) in
      let all : length (pieces_of (take (x + n) ps)) ≡ length (pieces_of (take x ps ++ take n (drop x ps))) = ap (λ qs. length (pieces_of qs)) (take-add x n ps) in
      let same = joint_take (take x ps) (drop x ps) n some in
      omega (arith, h, k, all, same)

-- a run between two parts is a piece more, less one for each end that goes on
pub run_pieces : (front back : List Place) (source : Source) (start n : ℕ) → 0 < n → length (pieces_of (front ++ (stretch source start n ++ back))) + joint front (place source (start + 0) ∷ []) + joint (place source (start + (n - 1)) ∷ []) back ≡ length (pieces_of front) + 1 + length (pieces_of back)
run_pieces front back source start n some =
    let run : List Place = stretch source start n in
    let on : start ≡ start + 0 = omega arith in
    let outer = count_joint front (run ++ back) in
    let inner = count_joint run back in
    let one = one_piece source start n some in
    let first : joint front (run ++ back) ≡ joint front (place source (start + 0) ∷ []) = ap (λ r. joint front (r ++ back)) (stretch_first source start n some) ∙ joint_first front (place source start) (drop 1 run ++ back) ∙ ap (λ k. joint front (place source k ∷ [])) on in
    let last : joint run back ≡ joint (place source (start + (n - 1)) ∷ []) back = ap (λ r. joint r back) (stretch_last source start n some) ∙ joint_last (take (n - 1) run) (place source (start + (n - 1))) back in
    omega (arith, outer, inner, one, first, last)
