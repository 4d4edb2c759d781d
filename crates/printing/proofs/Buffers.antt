-- Writes into a buffer: one after the other, and the last byte before the others. Assumes nothing.
use Rattle.std.proofs.Common.{◌≡◌, ℕ, ◌+◌, ◌<◌, ◌≤◌, List, [], ◌∷◌, ◌++◌, length, set, Some, None, Option, sym, refl, ap, ◌∙◌, append_assoc, add_assoc, arith}
use lib.Seq.{paste}
use Rattle.std.proofs.lemmas.List.Edits.{paste_all, paste-paste, length-paste}
use Rattle.std.proofs.lemmas.List.{length-append, length_push, take-set-le, drop-set}
use Rattle.printing.specs.Output.{Put, written}

-- std's word for the same
pasted : (b : List ℕ) (at : ℕ) (xs : List ℕ) → written b at xs ≡ paste b at xs (length xs)
pasted b at xs = sym (paste_all b at xs (length xs) refl)

length_written : (b : List ℕ) (at : ℕ) (xs : List ℕ) → at + length xs ≤ length b → length (written b at xs) ≡ length b
length_written b at xs fit = ap length (pasted b at xs) ∙ length-paste b at xs (length xs) fit (omega arith)

written_twice : (b : List ℕ) (at : ℕ) (xs ys : List ℕ) → at + length xs ≤ length b
    → written (written b at xs) (at + length xs) ys ≡ written b at (xs ++ ys)
written_twice b at xs ys fit =
    pasted (written b at xs) (at + length xs) ys
    ∙ (ap (λ l. paste l (at + length xs) ys (length ys)) (pasted b at xs)
    ∙ (paste-paste b at xs ys (length xs) (length ys) refl refl (omega arith)
    ∙ (ap (λ n. paste b at (xs ++ ys) n) (sym (length-append xs ys))
    ∙ sym (pasted b at (xs ++ ys)))))

-- two writes, one after the other, are one of the bytes appended
pub join : (a b c : List ℕ) (at mid end : ℕ) (xs ys : List ℕ)
    → Put a b at xs (Some mid) → Put b c mid ys (Some end) → Put a c at (xs ++ ys) (Some end)
join a b c at mid end xs ys p q =
    let long = ap length p.2 ∙ length_written a at xs p.0 in
    let both = length-append xs ys in
    let first = ap (λ l. written l mid ys) p.2 in
    let second = ap (λ m. written (written a at xs) m ys) p.1 in
    (omega arith, omega arith, q.2 ∙ (first ∙ (second ∙ written_twice a at xs ys p.0)))

-- the same with any answer of the second, where both fit
pub join_last : (a b c : List ℕ) (at mid : ℕ) (r : Option ℕ) (xs ys : List ℕ) → at + (length xs + length ys) ≤ length a
    → Put a b at xs (Some mid) → Put b c mid ys r → Put a c at (xs ++ ys) r
join_last a b c at mid None xs ys fit p q = let long = ap length p.2 ∙ length_written a at xs p.0 in absurd (omega arith)
join_last a b c at mid (Some end) xs ys fit p q = join a b c at mid end xs ys p q

-- the last byte of a text may be written first, and the others after it
pub last_first : (b : List ℕ) (at : ℕ) (xs : List ℕ) (y : ℕ) → at + length xs < length b
    → written (set b (at + length xs) y) at xs ≡ written b at (xs ++ (y ∷ []))
last_first b at xs y fit =
    let below : at ≤ at + length xs = omega arith in
    rw (take-set-le, drop-set) (simp (append_assoc, length_push, add_assoc))
