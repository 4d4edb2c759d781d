-- Places and elements at an offset inside an item. Assumes nothing.
use Rattle.std.proofs.Common.{◌≡◌, ℕ, zero, suc, ◌+◌, ◌-◌, ◌<◌, ◌≤◌, List, [], ◌∷◌, ◌++◌, length, get_or, take, drop, sym, refl, ap, ◌∙◌, subst, arith, length-append}
use lib.Seq.{take-append-add, drop-append-add}
use Rattle.std.proofs.lemmas.List.{drop_more, get_or-append-add, get_or_append_left}
use Rattle.ledger.specs.Places.{place, stretch}
use Rattle.ledger.specs.declared.words.Place.{Place}
use Rattle.ledger.specs.declared.words.Source.{Source}
use Rattle.nodes.specs.declared.types.Item.{Item}
use Rattle.nodes.specs.declared.types.Tree.{Tree}
use Rattle.nodes.specs.Trees.{items}
use Rattle.pieces.specs.Faithful.{elements, source_part}
use Rattle.pieces.specs.Spread.{places, spread, Inside}
use Rattle.pieces.proofs.Elements.{part_long}
use Rattle.pieces.proofs.Spreads.{inside_back, inside_front, spread_append, stretch_length}
use Rattle.reading.proofs.LineItems.{spelt, spelt_append, spelt_first, spelt_long}
use Rattle.seeking.specs.declared.types.Found.{Found}
use Rattle.seeking.specs.Seeks.{elements_in, Stands}

-- what stands inside a part of a list
read_part : {X : Type 0} (xs part ys : List X) (n offset : ℕ) (x : X) → length xs + n ≡ offset → n < length part → x ≡ get_or part n x → drop offset (xs ++ (part ++ ys)) ≡ x ∷ drop (offset + 1) (xs ++ (part ++ ys))
read_part xs part ys n offset x at l is =
    let long = length-append xs (part ++ ys) in
    let more = length-append part ys in
    let there : get_or (xs ++ (part ++ ys)) offset x ≡ x = ap (λ k. get_or (xs ++ (part ++ ys)) k x) (sym at) ∙ get_or-append-add xs (part ++ ys) n x ∙ get_or_append_left part ys x n l ∙ sym is in
    drop_more (xs ++ (part ++ ys)) offset x (omega (arith, long, more, at, l)) ∙ ap (λ y. y ∷ drop (offset + 1) (xs ++ (part ++ ys))) there

get_d_stretch : (source : Source) (start n i : ℕ) (d : Place) → i < n → get_or (stretch source start n) i d ≡ place source (start + i)
get_d_stretch source start zero i d l = absurd (omega arith)
get_d_stretch source start (suc n) zero d l = let on : start ≡ start + 0 = omega arith in ap (place source) on
get_d_stretch source start (suc n) (suc i) d l =
    let on : suc start + i ≡ start + suc i = omega arith in
    get_d_stretch source (suc start) n i d (omega (arith, l)) ∙ ap (place source) on

take_stretch : (source : Source) (start n m : ℕ) (ps : List Place) → n ≤ m → take n (stretch source start m ++ ps) ≡ stretch source start n
take_stretch source start zero m ps l = refl
take_stretch source start (suc n) zero ps l = absurd (omega arith)
take_stretch source start (suc n) (suc m) ps l = ap (λ qs. place source start ∷ qs) (take_stretch source (suc start) n m ps (omega (arith, l)))

drop_stretch : (source : Source) (start n m : ℕ) (ps : List Place) → n ≤ m → drop n (stretch source start m ++ ps) ≡ stretch source (start + n) (m - n) ++ ps
drop_stretch source start zero m ps l =
    let first : start ≡ start + 0 = omega arith in
    let all : m ≡ m - 0 = omega arith in
    λ k. stretch source (first k) (all k) ++ ps
drop_stretch source start (suc n) zero ps l = absurd (omega arith)
drop_stretch source start (suc n) (suc m) ps l =
    let first : suc start + n ≡ start + suc n = omega arith in
    let all : m - n ≡ suc m - suc n = omega arith in
    drop_stretch source (suc start) n m ps (omega (arith, l)) ∙ (λ k. stretch source (first k) (all k) ++ ps)

-- the last place of a run
pub stretch_last : (source : Source) (start n : ℕ) → 0 < n → stretch source start n ≡ take (n - 1) (stretch source start n) ++ place source (start + (n - 1)) ∷ []
stretch_last source start zero l = absurd (omega arith)
stretch_last source start (suc zero) l = let on : start ≡ start + 0 = omega arith in ap (λ k. place source k ∷ []) on
stretch_last source start (suc (suc n)) l =
    let on : suc start + (suc n - 1) ≡ start + (suc (suc n) - 1) = omega arith in
    let one : suc (suc n - 1) ≡ suc (suc n) - 1 = omega arith in
    ap (λ qs. place source start ∷ qs) (stretch_last source (suc start) (suc n) (omega arith))
    ∙ (λ k. take (one k) (place source start ∷ stretch source (suc start) (suc n)) ++ place source (on k) ∷ [])

pub stretch_first : (source : Source) (start n : ℕ) → 0 < n → stretch source start n ≡ place source start ∷ drop 1 (stretch source start n)
stretch_first source start zero l = absurd (omega arith)
stretch_first source start (suc n) l = refl

module _ {T : Type 0} where
  pub length_spread : (xs : List (Item Place T)) → length (spread xs) ≡ elements_in xs
  length_spread [] = refl
  length_spread (x ∷ xs) =
      let here : List Place = stretch x.piece.source x.piece.index x.length in
      let own = stretch_length x.piece.source x.piece.index x.length in
      let both = length-append here (spread xs) in
      let rest = length_spread xs in
      omega (arith, own, both, rest)

  module _ (front : List (Item Place T)) (i : Item Place T) (back : List (Item Place T)) (n offset : ℕ) (at : elements_in front + n ≡ offset) where
    whole : spread (front ++ i ∷ back) ≡ spread front ++ (stretch i.piece.source i.piece.index i.length ++ spread back)
    whole = spread_append front (i ∷ back)

    begun : offset ≡ length (spread front) + n
    begun = let long = length_spread front in omega (arith, at, long)

    -- the places before one inside an item, and those from it on
    pub take_found : n ≤ i.length → take offset (spread (front ++ i ∷ back)) ≡ spread front ++ stretch i.piece.source i.piece.index n
    take_found l =
        let here : List Place = stretch i.piece.source i.piece.index i.length in
        (λ k. take (begun k) (whole k)) ∙ take-append-add (spread front) (here ++ spread back) n ∙ ap (λ ps. spread front ++ ps) (take_stretch i.piece.source i.piece.index n i.length (spread back) l)

    pub drop_found : n ≤ i.length → drop offset (spread (front ++ i ∷ back)) ≡ stretch i.piece.source (i.piece.index + n) (i.length - n) ++ spread back
    drop_found l =
        let here : List Place = stretch i.piece.source i.piece.index i.length in
        (λ k. drop (begun k) (whole k)) ∙ drop-append-add (spread front) (here ++ spread back) n ∙ drop_stretch i.piece.source i.piece.index n i.length (spread back) l

    -- the place inside an item
    place_in : n < i.length → drop offset (spread (front ++ i ∷ back)) ≡ place i.piece.source (i.piece.index + n) ∷ drop (offset + 1) (spread (front ++ i ∷ back))
    place_in l =
        let here : List Place = stretch i.piece.source i.piece.index i.length in
        let p : Place = place i.piece.source (i.piece.index + n) in
        let own = stretch_length i.piece.source i.piece.index i.length in
        subst (λ ps. drop offset ps ≡ p ∷ drop (offset + 1) ps) (sym whole)
        (read_part (spread front) here (spread back) n offset p (sym begun) (omega (arith, own, l)) (sym (get_d_stretch i.piece.source i.piece.index i.length n p l)))

  module _ {neutral : T} {joined : T → T → T} {tree : Tree Place T} {found : Found Place T} (stands : Stands neutral joined tree found) {offset : ℕ} (at : found.before.length + found.inner ≡ offset) (inner : found.inner < found.item.length) where
    -- the place at an offset
    pub place_found : drop offset (places tree) ≡ place found.item.piece.source (found.item.piece.index + found.inner) ∷ drop (offset + 1) (places tree)
    place_found =
        subst (λ is. drop offset (spread is) ≡ place found.item.piece.source (found.item.piece.index + found.inner) ∷ drop (offset + 1) (spread is)) (sym stands.parts)
        (place_in stands.front found.item stands.back found.inner offset (omega (arith, stands.elements, at)) inner)

    -- the element at an offset
    pub element_found : {E : Type 0} (original added : List E) (e : E) → Inside (length original) (length added) (items tree) → e ≡ get_or (source_part original added found.item.piece found.item.length) found.inner e → drop offset (elements original added tree) ≡ e ∷ drop (offset + 1) (elements original added tree)
    element_found original added e within is =
        let all : Inside (length original) (length added) (stands.front ++ found.item ∷ stands.back) = subst (Inside (length original) (length added)) stands.parts within in
        let front = spelt original added stands.front in
        let part = source_part original added found.item.piece found.item.length in
        let whole_is : elements original added tree ≡ front ++ (part ++ spelt original added stands.back) = ap (spelt original added) stands.parts ∙ spelt_append original added stands.front (found.item ∷ stands.back) ∙ ap (λ es. front ++ es) (spelt_first original added found.item stands.back) in
        let before = spelt_long original added stands.front (inside_front (length original) (length added) stands.front (found.item ∷ stands.back) all) in
        let own = part_long original added found.item.piece found.item.length (inside_back (length original) (length added) stands.front (found.item ∷ stands.back) all).0 in
        subst (λ es. drop offset es ≡ e ∷ drop (offset + 1) es) (sym whole_is)
        (read_part front part (spelt original added stands.back) found.inner offset e (omega (arith, before, stands.elements, at)) (omega (arith, own, inner)) is)
