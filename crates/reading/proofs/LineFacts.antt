-- Lines by the breaks of a list: where they begin, how long they are, how many there are. Assumes nothing.
use Rattle.std.proofs.Common.{◌≡◌, ℕ, zero, suc, ◌+◌, ◌-◌, ◌<◌, ◌≤◌, Bool, true, false, cond, List, [], ◌∷◌, ◌++◌, length, get_or, take, drop, Some, None, Option, sym, refl, ap, ◌∙◌, arith, length-append, take-append-drop, take-suc}
use lib.Seq.{take-nil}
use Rattle.std.proofs.lemmas.List.{append_assoc, drop_all}
use Rattle.std.specs.List.{enumerate_from, filter, flat_map, slice_get}
use Rattle.std.specs.Option.{MatchOption}
use Rattle.element.specs.Lines.{onto, lines}
use Rattle.pieces.specs.Faithful.{count_breaks}
use Rattle.pieces.proofs.Breaks.{count_append, count_first}
use Rattle.reading.specs.LineParts.{behind}

-- the elements of some lines together
abbrev pub elements_of : {E : Type 0} → List (List E) → List E
elements_of = flat_map (λ one. one)

-- one element more at the front of the first line is one element more in the first lines together
onto_front : {E : Type 0} (e : E) (k : ℕ) (ls : List (List E)) → length (elements_of (take (suc k) (onto e ls))) ≡ suc (length (elements_of (take (suc k) ls)))
onto_front e k [] = ap (λ ls. suc (length (elements_of ls))) (take-nil k)
onto_front e k (l ∷ ls) = refl

-- one line more
pub one_line_more : {E : Type 0} (k : ℕ) (ls : List (List E)) → length (elements_of (take (suc k) ls)) ≡ length (elements_of (take k ls)) + length (get_or ls k [])
one_line_more zero [] = omega arith
one_line_more (suc k) [] = omega arith
one_line_more zero (l ∷ ls) = let n = length-append l [] in omega (arith, n)
one_line_more (suc k) (l ∷ ls) =
    let h = one_line_more k ls in
    let m = length-append l (elements_of (take (suc k) ls)) in
    let n = length-append l (elements_of (take k ls)) in
    omega (arith, h, m, n)

onto_length : {E : Type 0} (e : E) (ls : List (List E)) (n : ℕ) → length ls ≡ n + 1 → length (onto e ls) ≡ n + 1
onto_length e [] n h = omega (arith, h)
onto_length e (l ∷ ls) n h = h

module _ {E : Type 0} (breaks : E → Bool) where
  lines_step : (b : Bool) (k : ℕ) (e : E) (es : List E) → length (elements_of (take k (lines breaks es))) ≡ behind breaks k es → length (elements_of (take (suc k) (lines breaks es))) ≡ behind breaks (suc k) es → length (elements_of (take (suc k) (cond b ((e ∷ []) ∷ lines breaks es) (onto e (lines breaks es))))) ≡ suc (cond b (behind breaks k es) (behind breaks (suc k) es))
  lines_step true k e es here more = ap suc here
  lines_step false k e es here more = onto_front e k (lines breaks es) ∙ ap suc more

  -- a line begins behind the break that ends the line before it
  pub lines_behind : (k : ℕ) (xs : List E) → length (elements_of (take k (lines breaks xs))) ≡ behind breaks k xs
  lines_behind zero xs = refl
  lines_behind (suc k) [] = refl
  lines_behind (suc k) (e ∷ es) = lines_step (breaks e) k e es (lines_behind k es) (lines_behind (suc k) es)

  -- and goes on up to the next break, or to the end
  pub line_long : (k : ℕ) (xs : List E) → length (get_or (lines breaks xs) k []) ≡ behind breaks (suc k) xs - behind breaks k xs
  line_long k xs =
      let here = lines_behind k xs in
      let next = lines_behind (suc k) xs in
      let more = one_line_more k (lines breaks xs) in
      omega (arith, here, next, more)

  count_step : (b : Bool) (e : E) (ls : List (List E)) (n : ℕ) → length ls ≡ n + 1 → length (cond b ((e ∷ []) ∷ ls) (onto e ls)) ≡ cond b 1 0 + n + 1
  count_step true e ls n h = omega (arith, h)
  count_step false e ls n h = let o = onto_length e ls n h in omega (arith, o)

  first_line : (b : Bool) (e : E) → length (cond b ((e ∷ []) ∷ []) ((e ∷ []) ∷ [])) ≡ 1
  first_line true e = refl
  first_line false e = refl

  -- up to an element there is a line for each break before it, and its own
  pub lines_count : (xs : List E) (e : E) → length (lines breaks (xs ++ e ∷ [])) ≡ count_breaks breaks xs + 1
  lines_count [] e = let h = first_line (breaks e) e in omega (arith, h)
  lines_count (x ∷ xs) e =
      let step = count_step (breaks x) x (lines breaks (xs ++ e ∷ [])) (count_breaks breaks xs) (lines_count xs e) in
      omega (arith, step, count_first breaks x xs)

  -- the lines up to an element of a second part
  pub lines_upto : (xs ys : List E) (n : ℕ) → n < length ys → length (lines breaks (xs ++ take (suc n) ys)) ≡ count_breaks breaks xs + count_breaks breaks (take n ys) + 1
  lines_upto xs [] n h = omega (arith, h)
  lines_upto xs (y ∷ ys) n h =
      let e = get_or (y ∷ ys) n y in
      let front = take n (y ∷ ys) in
      let whole : xs ++ take (suc n) (y ∷ ys) ≡ (xs ++ front) ++ e ∷ [] = ap (λ zs. xs ++ zs) (take-suc (y ∷ ys) n y h) ∙ sym (append_assoc xs front (e ∷ [])) in
      let l = ap (λ zs. length (lines breaks zs)) whole in
      let m = lines_count (xs ++ front) e in
      let c = count_append breaks xs front in
      omega (arith, l, m, c)

  -- the number of lines by the last element
  pub lines_all : (xs : List E) (o : ℕ) (e : E) → length xs ≡ o + 1 → drop o xs ≡ e ∷ drop (o + 1) xs → length (lines breaks xs) + cond (breaks e) 1 0 ≡ count_breaks breaks xs + 1
  lines_all xs o e long last =
      let front = take o xs in
      let none = drop_all (o + 1) xs (omega (arith, long)) in
      let whole : xs ≡ front ++ e ∷ [] = sym (take-append-drop o xs) ∙ ap (λ ys. front ++ ys) (last ∙ ap (λ ys. e ∷ ys) none) in
      let l = ap (λ ys. length (lines breaks ys)) whole in
      let n = lines_count front e in
      let c = ap (count_breaks breaks) whole in
      let s = count_append breaks front (e ∷ []) in
      omega (arith, l, n, c, s)

  past_step : (b : Bool) (m k n l here more : ℕ) → suc m ≡ cond b 1 0 + n + suc k → (m ≡ n + suc k → here ≡ l) → (suc m ≡ n + suc k → more ≡ l) → suc (cond b here more) ≡ suc l
  past_step true m k n l here more e h g = ap suc (h (omega (arith, e)))
  past_step false m k n l here more e h g = ap suc (g (omega (arith, e)))

  -- a break behind all those of a first part
  pub behind_past : (xs ys : List E) (n k : ℕ) → n ≡ count_breaks breaks xs + suc k → behind breaks n (xs ++ ys) ≡ length xs + behind breaks (suc k) ys
  behind_past [] ys n k e =
      let p : n ≡ suc k = omega (arith, e) in
      let q = ap (λ m. behind breaks m ys) p in
      omega (arith, q)
  behind_past (x ∷ xs) ys zero k e = omega (arith, e)
  behind_past (x ∷ xs) ys (suc m) k e =
      let h = past_step (breaks x) m k (count_breaks breaks xs) (length xs + behind breaks (suc k) ys) (behind breaks m (xs ++ ys)) (behind breaks (suc m) (xs ++ ys)) (omega (arith, e, count_first breaks x xs)) (behind_past xs ys m k) (behind_past xs ys (suc m) k) in
      omega (arith, h)

  within_step : (b : Bool) (m n here more here' more' : ℕ) → suc m ≤ cond b 1 0 + n → (m ≤ n → here ≡ here') → (suc m ≤ n → more ≡ more') → suc (cond b here more) ≡ suc (cond b here' more')
  within_step true m n here more here' more' e h g = ap suc (h (omega (arith, e)))
  within_step false m n here more here' more' e h g = ap suc (g (omega (arith, e)))

  -- a break of the first part
  pub behind_within : (xs ys : List E) (n : ℕ) → n ≤ count_breaks breaks xs → behind breaks n (xs ++ ys) ≡ behind breaks n xs
  behind_within [] ys zero e = refl
  behind_within [] ys (suc m) e = omega (arith, e)
  behind_within (x ∷ xs) ys zero e = refl
  behind_within (x ∷ xs) ys (suc m) e =
      within_step (breaks x) m (count_breaks breaks xs) (behind breaks m (xs ++ ys)) (behind breaks (suc m) (xs ++ ys)) (behind breaks m xs) (behind breaks (suc m) xs) (omega (arith, e, count_first breaks x xs)) (behind_within xs ys m) (behind_within xs ys (suc m))

  all_step : (b : Bool) (m n l here more : ℕ) → cond b 1 0 + n < suc m → (n < m → here ≡ l) → (n < suc m → more ≡ l) → suc (cond b here more) ≡ suc l
  all_step true m n l here more e h g = ap suc (h (omega (arith, e)))
  all_step false m n l here more e h g = ap suc (g (omega (arith, e)))

  -- where there are fewer breaks, all elements
  pub behind_all : (xs : List E) (n : ℕ) → count_breaks breaks xs < n → behind breaks n xs ≡ length xs
  behind_all [] zero e = refl
  behind_all [] (suc m) e = refl
  behind_all (x ∷ xs) zero e = omega (arith, e)
  behind_all (x ∷ xs) (suc m) e =
      all_step (breaks x) m (count_breaks breaks xs) (length xs) (behind breaks m xs) (behind breaks (suc m) xs) (omega (arith, e, count_first breaks x xs)) (behind_all xs m) (behind_all xs (suc m))

  few_step : (b : Bool) (here more l : ℕ) → here ≤ l → more ≤ l → suc (cond b here more) ≤ suc l
  few_step true here more l h g = omega (arith, h)
  few_step false here more l h g = omega (arith, g)

  -- no more elements than there are
  pub behind_few : (n : ℕ) (xs : List E) → behind breaks n xs ≤ length xs
  behind_few zero xs = omega arith
  behind_few (suc k) [] = omega arith
  behind_few (suc k) (x ∷ xs) =
      few_step (breaks x) (behind breaks k xs) (behind breaks (suc k) xs) (length xs) (behind_few k xs) (behind_few (suc k) xs)

  -- among numbered elements, the one of a number is the break of that number, counted from 0
  abbrev NumberedAs : List (ℕ × E) → ℕ → ℕ → List E → Type 0
  NumberedAs ps k n xs =
      MatchOption (slice_get ps n) (behind breaks (suc n) xs ≡ length xs) (λ p. p.0 + 1 ≡ k + behind breaks (suc n) xs)

  further : (o : Option (ℕ × E)) (k v l : ℕ) → MatchOption o (v ≡ l) (λ p. p.0 + 1 ≡ k + 1 + v) → MatchOption o (suc v ≡ suc l) (λ p. p.0 + 1 ≡ k + suc v)
  further None k v l h = ap suc h
  further (Some p) k v l h = omega (arith, h)

  nth_step : (b : Bool) (x : E) (xs : List E) (ps : List (ℕ × E)) (k n : ℕ) → ((m : ℕ) → NumberedAs ps (k + 1) m xs) → MatchOption (slice_get (cond b ((k, x) ∷ ps) ps) n) (suc (cond b (behind breaks n xs) (behind breaks (suc n) xs)) ≡ suc (length xs)) (λ p. p.0 + 1 ≡ k + suc (cond b (behind breaks n xs) (behind breaks (suc n) xs)))
  nth_step true x xs ps k zero h = omega arith
  nth_step true x xs ps k (suc m) h = further (slice_get ps m) k (behind breaks (suc m) xs) (length xs) (h m)
  nth_step false x xs ps k n h = further (slice_get ps n) k (behind breaks (suc n) xs) (length xs) (h n)

  pub nth_break : (k n : ℕ) (xs : List E) → NumberedAs (filter (λ p. breaks p.1) (enumerate_from k xs)) k n xs
  nth_break k n [] = refl
  nth_break k n (x ∷ xs) =
      nth_step (breaks x) x xs (filter (λ p. breaks p.1) (enumerate_from (k + 1) xs)) k n (λ m. nth_break (k + 1) m xs)
