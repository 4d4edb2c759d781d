-- The first line of some bytes. Assumes nothing.
use Rattle.std.proofs.Common.{◌≡◌, ℕ, suc, ◌+◌, ◌<◌, ◌≤◌, min, not, true, false, cond, eqb, List, [], ◌∷◌, ◌++◌, length, take, drop, Some, None, Option, MatchOption, sym, refl, ap, ◌∙◌, arith, length-drop, take-append-drop}
use Rattle.std.specs.List.{position, position_or_len}
use Rattle.element.specs.Lines.{onto}
use Rattle.script.specs.Paper.{byte_lines, line_size, Splits}

-- the first line is no longer than the bytes
pub size_within : (bs : List ℕ) → line_size bs ≤ length bs
size_within [] = omega arith
size_within (b ∷ bs) =
    let more = size_within bs in
    elim (eqb b 10) as (λ t. cond t 1 (suc (line_size bs)) ≤ suc (length bs)) [ true ↦ omega arith | false ↦ omega arith ]

-- of some bytes it is not empty
pub size_some : (bs : List ℕ) → 0 < length bs → 0 < line_size bs
size_some [] h = h
size_some (b ∷ bs) h = elim (eqb b 10) as (λ t. 0 < cond t 1 (suc (line_size bs))) [ true ↦ omega arith | false ↦ omega arith ]

-- the first line stands before the other lines
pub lines_first : (bs : List ℕ) → 0 < length bs → byte_lines bs ≡ take (line_size bs) bs ∷ byte_lines (drop (line_size bs) bs)
lines_first [] h = absurd (omega arith)
lines_first (b ∷ []) h =
    elim (eqb b 10) as (λ t. cond t ((b ∷ []) ∷ []) ((b ∷ []) ∷ []) ≡ take (cond t 1 1) (b ∷ []) ∷ byte_lines (drop (cond t 1 1) (b ∷ []))) [ true ↦ refl | false ↦ refl ]
lines_first (b ∷ x ∷ xs) h =
    let bs : List ℕ = x ∷ xs in
    let n : ℕ = line_size bs in
    let more : byte_lines bs ≡ take n bs ∷ byte_lines (drop n bs) = lines_first (x ∷ xs) (omega arith) in
    elim (eqb b 10) as (λ t. cond t ((b ∷ []) ∷ byte_lines bs) (onto b (byte_lines bs)) ≡ take (cond t 1 (suc n)) (b ∷ bs) ∷ byte_lines (drop (cond t 1 (suc n)) (b ∷ bs)))
    [ true ↦ refl | false ↦ ap (onto b) more ]

-- what `split_line` answers
pub splits : (bs first after : List ℕ) → first ≡ take (line_size bs) bs → after ≡ drop (line_size bs) bs → Splits bs first after
splits bs first after p q =
    record {
      whole = (λ i. p i ++ q i) ∙ take-append-drop (line_size bs) bs;
      lines = λ some. lines_first bs some ∙ sym (λ i. p i ∷ byte_lines (q i));
      shorter = λ some. omega (arith, size_some bs some, ap length q, length-drop (line_size bs) bs, size_within bs);
    }

-- it ends behind its break, or with the bytes
pub size_by_place : (bs : List ℕ) → line_size bs ≡ min (position_or_len (λ b. eqb b 10) bs + 1) (length bs)
size_by_place [] = omega arith
size_by_place (b ∷ bs) =
    let more = size_by_place bs in
    elim (eqb b 10) as (λ t. cond t 1 (suc (line_size bs)) ≡ min (cond (not t) (1 + position_or_len (λ b. eqb b 10) bs) 0 + 1) (suc (length bs)))
    [ true ↦ omega arith | false ↦ omega arith ]

-- the same by the place of the first break
pub size_from_place : (bs : List ℕ) (place : Option ℕ) (size : ℕ) → place ≡ position (λ b. eqb b 10) bs
    → MatchOption place (size ≡ length bs) (λ at. size ≡ at + 1) → size ≡ line_size bs
size_from_place bs None size e h = let more = size_by_place bs in grind arith
size_from_place bs (Some at) size e h = let more = size_by_place bs in grind arith
