-- What the two parts of a cut tree stand for. Assumes nothing.
use Rattle.std.proofs.Common.{◌≡◌, ℕ, ◌+◌, ◌≤◌, Bool, List, [], ◌∷◌, ◌++◌, take, drop, sym, ap, ◌∙◌, subst, append_assoc, append-nil, arith, take_at, drop_at}
use Rattle.ledger.specs.Places.{stretch}
use Rattle.ledger.specs.declared.words.Place.{Place}
use Rattle.nodes.specs.declared.types.Item.{Item}
use Rattle.nodes.specs.declared.types.Tree.{Tree}
use Rattle.nodes.specs.Trees.{items, long, Balanced, Weighed}
use Rattle.pieces.specs.Faithful.{AllCarry}
use Rattle.pieces.specs.Halves.{Halves}
use Rattle.pieces.specs.Spread.{places, spread, Apart, Inside, size_of, Lying}
use Rattle.pieces.proofs.Spreads.{stretch_append, spread_append, places_length, apart_front, apart_back, apart_last, apart_first, inside_append, inside_front, inside_back, carry_append, carry_front, carry_back}

module _ {T : Type 0} where
  -- where the places of a tree and some more are all places of another, the tree has those before its end
  pub taken : (front tree : Tree Place T) (back : List Place) (offset : ℕ) → Weighed front → long front ≡ offset → places front ++ back ≡ places tree → places front ≡ take offset (places tree)
  taken front tree back offset w e all =
      sym (take_at (places front) back offset (places_length front w ∙ e)) ∙ ap (take offset) all

  -- and the others are those behind it
  pub dropped : (front tree : Tree Place T) (back : List Place) (offset : ℕ) → Weighed front → long front ≡ offset → places front ++ back ≡ places tree → back ≡ drop offset (places tree)
  dropped front tree back offset w e all =
      sym (drop_at (places front) back offset (places_length front w ∙ e)) ∙ ap (drop offset) all

  -- the tree of the pieces before one, and that of the others
  pub whole_parts : (left back tree : Tree Place T) (rest : List (Item Place T)) → items left ++ rest ≡ items tree → items back ≡ rest → places left ++ places back ≡ places tree
  whole_parts left back tree rest all is =
      ap (λ l. places left ++ spread l) is ∙ sym (spread_append (items left) rest) ∙ ap spread all

  -- where the pieces of a tree are the first ones of a standing tree, or the last ones, it stands too
  pub standing_front : {original added : ℕ} (left tree : Tree Place T) (rest : List (Item Place T)) → Lying original added tree → items left ++ rest ≡ items tree → Lying original added left
  standing_front {original} {added} left tree rest s all = record {
    apart = apart_front (items left) rest (subst Apart (sym all) s.apart);
    inside = inside_front original added (items left) rest (subst (Inside original added) (sym all) s.inside);
  }

  pub standing_back : {original added : ℕ} (back tree : Tree Place T) (front rest : List (Item Place T)) → Lying original added tree → front ++ rest ≡ items tree → items back ≡ rest → Lying original added back
  standing_back {original} {added} back tree front rest s all is = record {
    apart = subst Apart (sym is) (apart_back front rest (subst Apart (sym all) s.apart));
    inside = subst (Inside original added) (sym is) (inside_back original added front rest (subst (Inside original added) (sym all) s.inside));
  }

  -- the piece at the cut lies in its source
  pub inside_at : {original added : ℕ} (tree : Tree Place T) (front back : List (Item Place T)) (i : Item Place T) → Lying original added tree → front ++ i ∷ back ≡ items tree → i.piece.index + i.length ≤ size_of original added i.piece.source
  inside_at {original} {added} tree front back i s all =
      (inside_back original added front (i ∷ back) (subst (Inside original added) (sym all) s.inside)).0

module _ {E T : Type 0} (breaks : E → Bool) (neutral : T) (value : E → T) (joined : T → T → T) (original added : List E) where
  -- the halves of a piece spell the piece
  pub halves_whole : (left : List (Item Place T)) (i : Item Place T) (inner : ℕ) (right front back : List (Item Place T)) → Halves breaks neutral value joined original added left i inner right front back → spread front ++ spread back ≡ spread (left ++ i ∷ right)
  halves_whole left i inner right front back h =
      let source = i.piece.source in
      let start = i.piece.index in
      let one = stretch source start inner in
      let two = stretch source (start + inner) h.second.length in
      let fore : spread front ≡ spread left ++ one =
      ap spread h.front_is ∙ spread_append left (h.first ∷ []) ∙ ap (λ l. spread left ++ l) (append-nil (stretch h.first.piece.source h.first.piece.index h.first.length) ∙ (λ k. stretch (h.first_piece k).source (h.first_piece k).index (h.first_length k))) in
      let hind : spread back ≡ two ++ spread right =
      ap spread h.back_is ∙ (λ k. stretch (h.second_source k) (h.second_index k) h.second.length ++ spread right) in
      let own : one ++ two ≡ stretch source start i.length =
      sym (stretch_append source start inner h.second.length) ∙ ap (stretch source start) h.whole_length in
      (λ k. fore k ++ hind k) ∙ append_assoc (spread left) one (two ++ spread right) ∙ ap (λ l. spread left ++ l) (sym (append_assoc one two (spread right)) ∙ ap (λ l. l ++ spread right) own) ∙ sym (spread_append left (i ∷ right))

  -- longest pieces stay so
  pub halves_apart : (left : List (Item Place T)) (i : Item Place T) (inner : ℕ) (right front back : List (Item Place T)) → Halves breaks neutral value joined original added left i inner right front back → Apart (left ++ i ∷ right) → Apart front × Apart back
  halves_apart left i inner right front back h a =
      let ends : h.second.piece.index + h.second.length ≡ i.piece.index + i.length = omega (arith, h.second_index, h.whole_length) in (
        subst Apart (sym h.front_is) (apart_last left right i h.first h.first_piece a),
        subst Apart (sym h.back_is) (apart_first right i h.second h.second_source ends (apart_back left (i ∷ right) a)),
      )

  -- and in their sources
  pub halves_inside : (o n : ℕ) (left : List (Item Place T)) (i : Item Place T) (inner : ℕ) (right front back : List (Item Place T)) → Halves breaks neutral value joined original added left i inner right front back → Inside o n (left ++ i ∷ right) → Inside o n front × Inside o n back
  halves_inside o n left i inner right front back h a =
      let at = inside_back o n left (i ∷ right) a in
      let one : h.first.piece.index + h.first.length ≤ size_of o n h.first.piece.source =
      subst (λ (p : Place). p.index + h.first.length ≤ size_of o n p.source) (sym h.first_piece) (omega (arith, at.0, h.first_length, h.whole_length)) in
      let two : h.second.piece.index + h.second.length ≤ size_of o n h.second.piece.source =
      subst (λ s. h.second.piece.index + h.second.length ≤ size_of o n s) (sym h.second_source) (omega (arith, at.0, h.second_index, h.whole_length)) in (
        subst (Inside o n) (sym h.front_is) (inside_append o n left (h.first ∷ []) (inside_front o n left (i ∷ right) a) (one, tt)),
        subst (Inside o n) (sym h.back_is) (two, at.1),
      )

  -- and carry what their elements have
  pub halves_carry : (left : List (Item Place T)) (i : Item Place T) (inner : ℕ) (right front back : List (Item Place T)) → Halves breaks neutral value joined original added left i inner right front back → AllCarry breaks neutral value joined original added (left ++ i ∷ right) → AllCarry breaks neutral value joined original added front × AllCarry breaks neutral value joined original added back
  halves_carry left i inner right front back h a =
      let carry = AllCarry breaks neutral value joined original added in (
        subst carry (sym h.front_is) (carry_append breaks neutral value joined original added left (h.first ∷ []) (carry_front breaks neutral value joined original added left (i ∷ right) a) (h.first_carries, tt)),
        subst carry (sym h.back_is) (h.second_carries, (carry_back breaks neutral value joined original added left (i ∷ right) a).1),
      )
