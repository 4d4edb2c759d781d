-- Items that stand apart are the longest stretches of their places. Assumes nothing.
use Rattle.std.proofs.Common.{◌≡◌, ℕ, zero, suc, ◌+◌, ◌-◌, ◌<◌, ◌≤◌, true, false, cond, ◌&&◌, eqb, List, [], ◌∷◌, ◌++◌, map, length, take, drop, sym, refl, ap, ◌∙◌, subst, append-nil, arith, length-append, eq-eqb, eqb-true}
use lib.ListN.{length-map}
use Rattle.std.proofs.ByRecursion.{All-append}
use Rattle.std.proofs.lemmas.Bool.{and_parts, cond_both}
use Rattle.std.specs.List.{AllByRecursion as All}
use Rattle.ledger.specs.Places.{before_pieces, piece, pieces_of, place, same_source, stretch}
use Rattle.ledger.specs.declared.words.Piece.{Piece}
use Rattle.ledger.specs.declared.words.Place.{Place}
use Rattle.ledger.specs.declared.words.Source.{Source}
use Rattle.ledger.specs.declared.words.Source.TheVariants.{Original, Added}
use Rattle.nodes.specs.declared.types.Item.{Item}
use Rattle.nodes.specs.declared.types.Tree.{Tree}
use Rattle.nodes.specs.declared.types.Tree.TheVariants.{Empty, Place'}
use Rattle.nodes.specs.Trees.{items, Weighed}
use Rattle.pieces.specs.Spread.{piece_of, places, size_of, spelled, spread, AllFit, Apart, Inside, StartsApart}
use Rattle.seeking.specs.declared.types.Found.{Found}
use Rattle.seeking.specs.Seeks.{Stands}
use Rattle.reading.proofs.Counting.{begins}
use Rattle.pieces.proofs.Sewn.{same_true}
use Rattle.pieces.proofs.Spreads.{apart_back, apart_first, apart_last, spread_append}
use Rattle.reading.proofs.Places.{drop_found, take_found}

same_source_itself : (source : Source) → same_source source source ≡ true
same_source_itself Original = refl
same_source_itself Added = refl

-- no place goes on where a stretch before it ends
abbrev Ends : Source → ℕ → List Place → Type 0
Ends source stop [] = Unit {0}
Ends source stop (p ∷ ps) = (same_source source p.source && eqb stop p.index) ≡ false

-- a stretch before places that do not go on from it is a piece of its own
stretch_ends : (source : Source) (start n stop : ℕ) (ps : List Place) → stop ≡ start + suc n → Ends source stop ps → pieces_of (stretch source start (suc n) ++ ps) ≡ piece source start (suc n) ∷ pieces_of ps
stretch_ends source start zero stop [] e h = refl
stretch_ends source start zero stop (p ∷ ps) e h =
    let b = begins p (pieces_of ps) in
    let first : Piece = piece p.source p.index b.run in
    let on : suc start ≡ stop = omega (arith, e) in
    let no : (same_source source p.source && eqb (suc start) p.index) ≡ false = ap (λ k. same_source source p.source && eqb k p.index) on ∙ h in
    ap (before_pieces (place source start)) b.is
    ∙ ap (λ t. cond t (piece source start (suc b.run) ∷ b.more) (piece source start 1 ∷ first ∷ b.more)) no
    ∙ ap (λ l. piece source start 1 ∷ l) (sym b.is)
stretch_ends source start (suc n) stop ps e h =
    let rest = stretch_ends source (suc start) n stop ps (omega (arith, e)) h in
    let yes : (same_source source source && eqb (suc start) (suc start)) ≡ true = ap (λ t. t && eqb (suc start) (suc start)) (same_source_itself source) ∙ eq-eqb (suc start) (suc start) refl in
    ap (before_pieces (place source start)) rest
    ∙ ap (λ t. cond t (piece source start (suc (suc n)) ∷ pieces_of ps) (piece source start 1 ∷ piece source (suc start) (suc n) ∷ pieces_of ps)) yes

stretch_piece : (source : Source) (start n : ℕ) (ps : List Place) → 0 < n → Ends source (start + n) ps → pieces_of (stretch source start n ++ ps) ≡ piece source start n ∷ pieces_of ps
stretch_piece source start zero ps l h = absurd (omega arith)
stretch_piece source start (suc n) ps l h = stretch_ends source start n (start + suc n) ps refl h

-- a run of places is one piece
pub one_piece : (source : Source) (start n : ℕ) → 0 < n → length (pieces_of (stretch source start n)) ≡ 1
one_piece source start n l =
    ap (λ ps. length (pieces_of ps)) (sym (append-nil (stretch source start n))) ∙ ap length (stretch_piece source start n [] l tt)

ends_stretch : (source : Source) (stop : ℕ) (next : Source) (start n : ℕ) (ps : List Place) → 0 < n → (same_source source next && eqb stop start) ≡ false → Ends source stop (stretch next start n ++ ps)
ends_stretch source stop next start zero ps l h = absurd (omega arith)
ends_stretch source stop next start (suc n) ps l h = h

module _ {T : Type 0} where
  -- an item has an element at least
  abbrev pub Some : Item Place T → Type 0
  Some i = 0 < i.length

  pub all_some : (tree : Tree Place T) → Weighed tree → All Some (items tree)
  all_some Empty w = tt
  all_some (Place' p colour left item right sums) w =
      All-append Some (items left) (item ∷ items right) (all_some left w.4) (w.3.0, all_some right w.5)

  ends_spread : (i : Item Place T) (more : List (Item Place T)) → All Some more → StartsApart i more → Ends i.piece.source (i.piece.index + i.length) (spread more)
  ends_spread i [] s a = tt
  ends_spread i (j ∷ more) s a =
      ends_stretch i.piece.source (i.piece.index + i.length) j.piece.source j.piece.index j.length (spread more) s.0 a

  pub longest_items : (is : List (Item Place T)) → All Some is → Apart is → map piece_of is ≡ pieces_of (spread is)
  longest_items [] s a = refl
  longest_items (i ∷ more) s a =
      ap (λ l. piece_of i ∷ l) (longest_items more s.1 a.1)
      ∙ sym (stretch_piece i.piece.source i.piece.index i.length (spread more) s.0 (ends_spread i more s.1 a.0))

  -- the items of a tree of longest pieces are the pieces of its places
  pub longest : (tree : Tree Place T) → Weighed tree → Apart (items tree) → map piece_of (items tree) ≡ pieces_of (places tree)
  longest tree w a = longest_items (items tree) (all_some tree w) a

  pub count_items : (is : List (Item Place T)) → All Some is → Apart is → length (pieces_of (spread is)) ≡ length is
  count_items is s a = ap length (sym (longest_items is s a)) ∙ length-map is piece_of

  -- the front and the back of an item
  abbrev front_of : Item Place T → ℕ → Item Place T
  front_of i n = record { piece = i.piece; length = n; breaks = i.breaks; total = i.total }

  abbrev back_of : Item Place T → ℕ → Item Place T
  back_of i n = record { piece = place i.piece.source (i.piece.index + n); length = i.length - n; breaks = i.breaks; total = i.total }

  some_front : (front : List (Item Place T)) (i : Item Place T) (back : List (Item Place T)) (n : ℕ) → 0 < n → All Some (front ++ i ∷ back) → All Some (front ++ front_of i n ∷ [])
  some_front [] i back n l s = (l, tt)
  some_front (x ∷ front) i back n l s = (s.0, some_front front i back n l s.1)

  some_back : (front : List (Item Place T)) (i : Item Place T) (back : List (Item Place T)) (n : ℕ) → n < i.length → All Some (front ++ i ∷ back) → All Some (back_of i n ∷ back)
  some_back [] i back n l s = (omega (arith, l), s.1)
  some_back (x ∷ front) i back n l s = some_back front i back n l s.1

  module _ {neutral : T} {joined : T → T → T} {tree : Tree Place T} {found : Found Place T} (stands : Stands neutral joined tree found) (w : Weighed tree) (a : Apart (items tree)) (inner : found.inner < found.item.length) where
    all_apart : Apart (stands.front ++ found.item ∷ stands.back)
    all_apart = subst Apart stands.parts a

    every_some : All Some (stands.front ++ found.item ∷ stands.back)
    every_some = subst (All Some) stands.parts (all_some tree w)

    -- the pieces of the places up to a found one: those before its piece, and a front of that
    pub count_to : (offset : ℕ) → found.before.length + found.inner + 1 ≡ offset → length (pieces_of (take offset (places tree))) ≡ found.before.pieces + 1
    count_to offset at =
        let n = found.inner + 1 in
        let i = found.item in
        let front = stands.front in
        let is : List (Item Place T) = front ++ front_of i n ∷ [] in
        let cut : take offset (places tree) ≡ spread is = ap (λ is. take offset (spread is)) stands.parts ∙ take_found front i stands.back n offset (omega (arith, stands.elements, at)) (omega (arith, inner)) ∙ ap (λ ps. spread front ++ ps) (sym (append-nil (stretch i.piece.source i.piece.index n))) ∙ sym (spread_append front (front_of i n ∷ [])) in
        let counted = count_items is (some_front front i stands.back n (omega arith) every_some) (apart_last front stands.back i (front_of i n) refl all_apart) in
        let got : length (pieces_of (take offset (places tree))) ≡ length front + 1 = ap (λ ps. length (pieces_of ps)) cut ∙ counted ∙ length-append front (front_of i n ∷ []) in
        omega (arith, got, stands.pieces)

    -- the pieces of the places from a found one on: a back of its piece, and those behind that
    pub count_from : (offset : ℕ) → found.before.length + found.inner ≡ offset → length (pieces_of (drop offset (places tree))) + found.before.pieces ≡ length (items tree)
    count_from offset at =
        let n = found.inner in
        let i = found.item in
        let is : List (Item Place T) = back_of i n ∷ stands.back in
        let cut : drop offset (places tree) ≡ spread is = ap (λ is. drop offset (spread is)) stands.parts ∙ drop_found stands.front i stands.back n offset (omega (arith, stands.elements, at)) (omega (arith, inner)) in
        let counted = count_items is (some_back stands.front i stands.back n inner every_some) (apart_first stands.back i (back_of i n) refl (omega (arith, inner)) (apart_back stands.front (i ∷ stands.back) all_apart)) in
        let got : length (pieces_of (drop offset (places tree))) ≡ suc (length stands.back) = ap (λ ps. length (pieces_of ps)) cut ∙ counted in
        let whole = ap length stands.parts ∙ length-append stands.front (i ∷ stands.back) in
        omega (arith, got, whole, stands.pieces)

-- where a place goes on to a piece, the piece begins at the next place of the same source
goes_on_true : (p : Place) (first : Piece) → (same_source p.source first.source && eqb (suc p.index) first.start) ≡ true → (p.source ≡ first.source) × (suc p.index ≡ first.start)
goes_on_true p first met =
    let both = and_parts (same_source p.source first.source) (eqb (suc p.index) first.start) met in
    (same_true p.source first.source both.0, eqb-true (suc p.index) first.start both.1)

spelled_before : (p : Place) (pieces : List Piece) → spelled (before_pieces p pieces) ≡ p ∷ spelled pieces
spelled_before p [] = refl
spelled_before p (first ∷ more) =
    cond_both (same_source p.source first.source && eqb (suc p.index) first.start)
    (piece p.source p.index (suc first.length) ∷ more)
    (piece p.source p.index 1 ∷ first ∷ more)
    (λ l. spelled l ≡ p ∷ spelled (first ∷ more))
    (λ met. let on = goes_on_true p first met in λ k. p ∷ (stretch (on.0 k) (on.1 k) first.length ++ spelled more))
    (λ _. refl)

-- the pieces of some places spell them
pub spelled_pieces : (ps : List Place) → spelled (pieces_of ps) ≡ ps
spelled_pieces [] = refl
spelled_pieces (p ∷ ps) = spelled_before p (pieces_of ps) ∙ ap (λ l. p ∷ l) (spelled_pieces ps)

-- sources of so many elements
module _ (original added : ℕ) where
  -- a place is in its source
  abbrev pub Kept : Place → Type 0
  Kept p = p.index < size_of original added p.source

  fits_before : (p : Place) (pieces : List Piece) → Kept p → AllFit original added pieces → AllFit original added (before_pieces p pieces)
  fits_before p [] l h = ((omega arith, omega (arith, l)), tt)
  fits_before p (first ∷ more) l h =
      cond_both (same_source p.source first.source && eqb (suc p.index) first.start)
      (piece p.source p.index (suc first.length) ∷ more)
      (piece p.source p.index 1 ∷ first ∷ more)
      (AllFit original added)
      (λ met. let on = goes_on_true p first met in let size = ap (size_of original added) on.0 in ((omega arith, omega (arith, on.1, size, h.0.1)), h.1))
      (λ _. ((omega arith, omega (arith, l)), h))

  -- the pieces of places in their sources lie in them
  pub fit_pieces : (ps : List Place) → All Kept ps → AllFit original added (pieces_of ps)
  fit_pieces [] h = tt
  fit_pieces (p ∷ ps) h = fits_before p (pieces_of ps) h.0 (fit_pieces ps h.1)

  kept_stretch : (source : Source) (start n : ℕ) → start + n ≤ size_of original added source → All Kept (stretch source start n)
  kept_stretch source start zero l = tt
  kept_stretch source start (suc n) l = (omega (arith, l), kept_stretch source (suc start) n (omega (arith, l)))

  -- and so do the places of items
  pub kept_spread : {T : Type 0} (is : List (Item Place T)) → Inside original added is → All Kept (spread is)
  kept_spread [] h = tt
  kept_spread (i ∷ more) h =
      All-append Kept (stretch i.piece.source i.piece.index i.length) (spread more) (kept_stretch i.piece.source i.piece.index i.length h.0) (kept_spread more h.1)
