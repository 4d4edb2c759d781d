-- Numbers of pieces where lists of places meet. Assumes nothing.
use Rattle.std.proofs.Common.{◌≡◌, ℕ, zero, suc, ◌+◌, ◌-◌, ◌<◌, ◌≤◌, Bool, true, false, cond, ◌&&◌, eqb, List, [], ◌∷◌, ◌++◌, length, take, drop, sym, refl, ap, ◌∙◌, arith}
use lib.Seq.{drop-nil}
use mir.Val.{bool_byte}
use Rattle.std.specs.Bool.{if◌then◌else◌}
use Rattle.std.proofs.lemmas.Bool.{cond_both}
use Rattle.ledger.specs.Places.{before_pieces, piece, pieces_of, same_source}
use Rattle.ledger.specs.declared.words.Piece.{Piece}
use Rattle.ledger.specs.declared.words.Place.{Place}
use Rattle.reading.specs.Joints.{goes_on, joint}

-- what a truth value is as a number
pub as_number : (b : Bool) → bool_byte b ≡ (if b then 1 else 0)
as_number true = refl
as_number false = refl

-- the first of some pieces begins at a place
pub record Begins (p : Place) (pieces : List Piece) : Type 0 where
  pub run : ℕ
  pub more : List Piece
  pub is : pieces ≡ piece p.source p.index run ∷ more

pub begins : (p : Place) (pieces : List Piece) → Begins p (before_pieces p pieces)
begins p [] = record { run = 1; more = []; is = refl }
begins p (first ∷ more) =
    cond_both (same_source p.source first.source && eqb (suc p.index) first.start)
    (piece p.source p.index (suc first.length) ∷ more)
    (piece p.source p.index 1 ∷ first ∷ more)
    (Begins p)
    (λ _. record { run = suc first.length; more = more; is = refl })
    (λ _. record { run = 1; more = first ∷ more; is = refl })

grown : (b : Bool) (x y z : Piece) (more : List Piece) → length (cond b (x ∷ more) (y ∷ z ∷ more)) + cond b 1 0 ≡ 2 + length more
grown true x y z more = omega arith
grown false x y z more = omega arith

-- a place before others is a piece more, unless it goes on to their first
count_before : (p q : Place) (pieces : List Piece) → length (before_pieces p (before_pieces q pieces)) + cond (goes_on p q) 1 0 ≡ 1 + length (before_pieces q pieces)
count_before p q pieces =
    let b = begins q pieces in
    let first : Piece = piece q.source q.index b.run in
    let at : length (before_pieces p (before_pieces q pieces)) ≡ length (before_pieces p (first ∷ b.more)) = ap (λ l. length (before_pieces p l)) b.is in
    let one : length (before_pieces p (first ∷ b.more)) + cond (goes_on p q) 1 0 ≡ 2 + length b.more = grown (goes_on p q) (piece p.source p.index (suc b.run)) (piece p.source p.index 1) first b.more in
    let all : length (before_pieces q pieces) ≡ 1 + length b.more = ap length b.is ∙ omega arith in
    omega (arith, at, one, all)

-- the pieces of two lists, one after the other: one fewer than those of both where they go on
pub count_joint : (xs ys : List Place) → length (pieces_of (xs ++ ys)) + joint xs ys ≡ length (pieces_of xs) + length (pieces_of ys)
count_joint [] ys = omega arith
count_joint (x ∷ []) [] = omega arith
count_joint (x ∷ []) (y ∷ ys) = let h = count_before x y (pieces_of ys) in omega (arith, h)
count_joint (x ∷ next ∷ xs) ys =
    let both = count_before x next (pieces_of (xs ++ ys)) in
    let front = count_before x next (pieces_of xs) in
    let rest = count_joint (next ∷ xs) ys in
    omega (arith, both, front, rest)

cond_one : (b : Bool) → cond b 1 0 ≤ 1
cond_one true = omega arith
cond_one false = omega arith

pub joint_one : (xs ys : List Place) → joint xs ys ≤ 1
joint_one [] ys = omega arith
joint_one (x ∷ []) [] = omega arith
joint_one (x ∷ []) (y ∷ ys) = cond_one (goes_on x y)
joint_one (x ∷ next ∷ xs) ys = joint_one (next ∷ xs) ys

-- cutting a list gives a piece more at most
pub count_cut : (xs ys : List Place) → length (pieces_of xs) + length (pieces_of ys) ≤ length (pieces_of (xs ++ ys)) + 1
count_cut xs ys = let h = count_joint xs ys in let one = joint_one xs ys in omega (arith, h, one)

-- no places go on from none
pub joint_few : (xs ys : List Place) → joint xs ys ≤ length (pieces_of xs)
joint_few [] ys = omega arith
joint_few (x ∷ xs) ys =
    let some : length (pieces_of (x ∷ xs)) ≡ 1 + length (begins x (pieces_of xs)).more = ap length (begins x (pieces_of xs)).is ∙ omega arith in
    let one = joint_one (x ∷ xs) ys in
    omega (arith, some, one)

-- nothing is gone on to where nothing stands
pub joint_none : (xs : List Place) → joint xs [] ≡ 0
joint_none [] = refl
joint_none (x ∷ []) = refl
joint_none (x ∷ next ∷ xs) = joint_none (next ∷ xs)

-- only the last place before and the first behind count
pub joint_last : (xs : List Place) (x : Place) (ys : List Place) → joint (xs ++ x ∷ []) ys ≡ joint (x ∷ []) ys
joint_last [] x ys = refl
joint_last (y ∷ []) x ys = refl
joint_last (y ∷ next ∷ xs) x ys = joint_last (next ∷ xs) x ys

-- the places but the last of some change nothing
pub joint_end : (xs ys : List Place) (n : ℕ) → length xs ≡ n → joint (drop (n - 1) xs) ys ≡ joint xs ys
joint_end [] ys n e = ap (λ l. joint l ys) (drop-nil (n - 1))
joint_end (x ∷ []) ys n e = let none : n - 1 ≡ 0 = omega (arith, e) in ap (λ k. joint (drop k (x ∷ [])) ys) none
joint_end (x ∷ next ∷ xs) ys n e =
    let more : n - 1 ≡ suc (n - 1 - 1) = omega (arith, e) in
    ap (λ k. joint (drop k (x ∷ next ∷ xs)) ys) more ∙ joint_end (next ∷ xs) ys (n - 1) (omega (arith, e))

pub joint_first : (xs : List Place) (y : Place) (ys : List Place) → joint xs (y ∷ ys) ≡ joint xs (y ∷ [])
joint_first [] y ys = refl
joint_first (x ∷ []) y ys = refl
joint_first (x ∷ next ∷ xs) y ys = joint_first (next ∷ xs) y ys

pub joint_take : (xs ys : List Place) (n : ℕ) → 0 < n → joint xs (take n ys) ≡ joint xs ys
joint_take xs ys zero l = absurd (omega arith)
joint_take xs [] (suc n) l = refl
joint_take xs (y ∷ ys) (suc n) l = joint_first xs y (take n ys) ∙ sym (joint_first xs y ys)

pub joint_ends : (xs ys : List Place) (n : ℕ) → length xs ≡ n → joint (drop (n - 1) xs) (take 1 ys) ≡ joint xs ys
joint_ends xs ys n e = joint_end xs (take 1 ys) n e ∙ joint_take xs ys 1 (omega arith)

-- no more pieces than places
pub pieces_few : (xs : List Place) → length (pieces_of xs) ≤ length xs
pieces_few [] = omega arith
pieces_few (x ∷ []) = omega arith
pieces_few (x ∷ next ∷ xs) =
    let h = count_before x next (pieces_of xs) in
    let rest = pieces_few (next ∷ xs) in
    omega (arith, h, rest)
