-- Lists around their places and parts, and read backwards. Assumes nothing.
use Rattle.std.proofs.Common.{◌≡◌, ℕ, ◌+◌, ◌<◌, List, [], ◌∷◌, ◌++◌, reverse, length, get_or, take, drop, set, sym, ap, ◌∙◌, append_assoc, add-one, arith, length-drop, take-append-drop, length-take, take_at, drop_at}
use Rattle.std.proofs.lemmas.List.{drop_more, length-reverse, reverse-append, set_split}

module _ {X : Type 0} where
  -- a list around one of its places, as it is and with another item there
  pub around : (xs : List X) (i : ℕ) (d : X) → i < length xs → xs ≡ take i xs ++ get_or xs i d ∷ drop (i + 1) xs
  around xs i d within = sym (take-append-drop i xs) ∙ ap (λ l. take i xs ++ l) (drop_more xs i d within)

  pub around_set : (xs : List X) (i : ℕ) (x : X) → i < length xs → set xs i x ≡ take i xs ++ x ∷ drop (i + 1) xs
  around_set xs i x within = rw add-one (set_split xs i x within)

  -- three parts, read backwards
  reverse_parts : (front part back : List X)
      → reverse (front ++ (part ++ back)) ≡ reverse back ++ (reverse part ++ reverse front)
  reverse_parts front part back =
      reverse-append front (part ++ back) ∙ ap (λ l. l ++ reverse front) (reverse-append part back)
      ∙ append_assoc (reverse back) (reverse part) (reverse front)

  pub reverse_around : (front : List X) (x : X) (back : List X) → reverse (front ++ x ∷ back) ≡ reverse back ++ x ∷ reverse front
  reverse_around front x back = reverse_parts front (x ∷ []) back

  -- a part of a list, in the list read backwards, where so many items stand behind it
  pub part_reverse : (xs : List X) (first count behind : ℕ) → first + count + behind ≡ length xs
      → reverse (take count (drop first xs)) ≡ take count (drop behind (reverse xs))
  part_reverse xs first count behind long =
      let rest = drop first xs in
      let part = reverse (take count rest) in
      let back = reverse (drop count rest) in
      let others = part ++ reverse (take first xs) in
      let whole = ap (λ l. take first xs ++ l) (take-append-drop count rest) ∙ take-append-drop first xs in
      let backwards = ap reverse (sym whole) ∙ reverse_parts (take first xs) (take count rest) (drop count rest) in
      let long_part : length part ≡ count = simp (length-reverse, length-take, length-drop) (omega (arith, long)) in
      let long_back : length back ≡ behind = simp (length-reverse, length-drop) (omega (arith, long)) in
      sym (ap (λ l. take count (drop behind l)) backwards ∙ ap (take count) (drop_at back others behind long_back)
      ∙ take_at part (reverse (take first xs)) count long_part)
