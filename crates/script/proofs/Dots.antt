-- The first dot line of some bytes. Assumes nothing.
use Rattle.std.proofs.Common.{◌≡◌, ℕ, suc, ◌+◌, ◌-◌, ◌<◌, ◌≤◌, true, false, cond, eqb, List, [], ◌∷◌, ◌++◌, length, take, drop, Some, None, Option, sym, refl, ap, ◌∙◌, subst, ⊎_elim, append_assoc, append-nil, arith, length-append, length-drop, take-append-drop}
use Rattle.std.proofs.lemmas.List.{take_at}
use Rattle.std.proofs.lemmas.Bool.{cases_Bool, cond-true, cond-false, and_parts, eqb-true, both_ways}
use Rattle.std.specs.Option.{option_map}
use Rattle.std.specs.List.{AllByRecursion}
use Rattle.element.specs.Lines.{onto}
use Rattle.script.specs.Paper.{byte_lines, rejoin, line_size, Splits, dot_line, is_dot, cut_lines, split_at_dot, Plain, FirstDot, NoDot}
use Rattle.script.proofs.FirstLine.{lines_first}

abbrev Parts : Type 0
Parts = List ℕ × List ℕ

abbrev Cut : Type 0
Cut = List (List ℕ) × List (List ℕ)

-- one line more before a cut
abbrev under : List ℕ → Cut → Cut
under line cut = (line ∷ cut.0, cut.1)

-- the bytes of a cut
abbrev bytes_of : Cut → Parts
bytes_of cut = (rejoin cut.0, rejoin cut.1)

-- more bytes before the first part
abbrev put_first : List ℕ → Option Parts → Option Parts
put_first front o = option_map (λ p. (front ++ p.0, p.1)) o

put_none : (o : Option Parts) → o ≡ put_first [] o
put_none None = refl
put_none (Some p) = refl

put_twice : (a b : List ℕ) (o : Option Parts) → put_first a (put_first b o) ≡ put_first (a ++ b) o
put_twice a b None = refl
put_twice a b (Some p) = ap (λ l. Some (l, p.1)) (sym (append_assoc a b p.0))

put_under : (line : List ℕ) (o : Option Cut) → option_map bytes_of (option_map (under line) o) ≡ put_first line (option_map bytes_of o)
put_under line None = refl
put_under line (Some cut) = refl

rejoin_onto : (b : ℕ) (ls : List (List ℕ)) → rejoin (onto b ls) ≡ b ∷ rejoin ls
rejoin_onto b [] = refl
rejoin_onto b (l ∷ ls) = refl

-- the lines of some bytes, joined again, are the bytes
pub rejoin_lines : (bs : List ℕ) → rejoin (byte_lines bs) ≡ bs
rejoin_lines [] = refl
rejoin_lines (b ∷ bs) =
    let more = rejoin_lines bs in
    elim (eqb b 10) as (λ t. rejoin (cond t ((b ∷ []) ∷ byte_lines bs) (onto b (byte_lines bs))) ≡ b ∷ bs)
    [ true ↦ ap (λ l. b ∷ l) more | false ↦ rejoin_onto b (byte_lines bs) ∙ ap (λ l. b ∷ l) more ]

pub is_dot_true : (l : List ℕ) → is_dot l ≡ true → l ≡ dot_line
is_dot_true [] e = cc
is_dot_true (a ∷ []) e = cc
is_dot_true (a ∷ b ∷ []) e =
    let p = and_parts (eqb a 46) (eqb b 10) e in
    λ i. eqb-true a 46 p.0 i ∷ eqb-true b 10 p.1 i ∷ []
is_dot_true (a ∷ b ∷ c ∷ l) e = cc

pub is_dot_false : (l : List ℕ) → is_dot l ≡ false → l ≡ dot_line → ⊥
is_dot_false l e is = both_ways (is_dot l) e (ap is_dot is)

-- The search for the dot line has come to `rest`: what it answers there, with `front` before it, it answers of the bytes.
pub record Reached (bytes rest : List ℕ) : Type 0 where
  pub front : List ℕ
  pub joins : front ++ rest ≡ bytes
  pub same : split_at_dot bytes ≡ put_first front (split_at_dot rest)

pub start : (bytes : List ℕ) → Reached bytes bytes
start bytes = record { front = []; joins = refl; same = put_none (split_at_dot bytes) }

-- the first line is no dot line
pub go_on : (bytes rest line after : List ℕ) → 0 < length rest → Splits rest line after → is_dot line ≡ false → Reached bytes rest → Reached bytes after
go_on bytes rest line after some split other h =
    let one : split_at_dot rest ≡ put_first line (split_at_dot after) =
    ap (λ ls. option_map bytes_of (cut_lines ls)) (split.lines some)
    ∙ ap (option_map bytes_of) (cond-false (is_dot line) (Some ([], byte_lines after)) (option_map (under line) (cut_lines (byte_lines after))) other)
    ∙ put_under line (cut_lines (byte_lines after))
    in
    record {
      front = h.front ++ line;
      joins = append_assoc h.front line after ∙ ap (λ l. h.front ++ l) split.whole ∙ h.joins;
      same = h.same ∙ ap (put_first h.front) one ∙ put_twice h.front line (split_at_dot after);
    }

-- the first line is the dot line
pub found : (bytes rest line after : List ℕ) → 0 < length rest → Splits rest line after → is_dot line ≡ true → Reached bytes rest → split_at_dot bytes ≡ Some (take (length bytes - length rest) bytes, after)
found bytes rest line after some split is h =
    let one : split_at_dot rest ≡ Some ([], rejoin (byte_lines after)) =
    ap (λ ls. option_map bytes_of (cut_lines ls)) (split.lines some)
    ∙ ap (option_map bytes_of) (cond-true (is_dot line) (Some ([], byte_lines after)) (option_map (under line) (cut_lines (byte_lines after))) is)
    in
    let sizes : length h.front + length rest ≡ length bytes = sym (length-append h.front rest) ∙ ap length h.joins in
    let long : length h.front ≡ length bytes - length rest = omega arith in
    let before : h.front ++ [] ≡ take (length bytes - length rest) bytes =
    append-nil h.front ∙ sym (take_at h.front rest (length bytes - length rest) long) ∙ ap (take (length bytes - length rest)) h.joins
    in
    h.same ∙ ap (put_first h.front) one ∙ (λ i. Some (before i, rejoin_lines after i))

-- no line is left
pub none_left : (bytes rest : List ℕ) → length rest ≡ 0 → Reached bytes rest → split_at_dot bytes ≡ None
none_left bytes [] e h = h.same
none_left bytes (b ∷ rest) e h = absurd (omega arith)

-- A line with its break: whatever follows it begins another line.
record Ended (line : List ℕ) : Type 0 where
  text : List ℕ
  ends : line ≡ text ++ 10 ∷ []
  alone : (bs : List ℕ) → byte_lines (line ++ bs) ≡ line ∷ byte_lines bs

ended_stop : (b : ℕ) → eqb b 10 ≡ true → Ended (b ∷ [])
ended_stop b e =
    record {
      text = [];
      ends = ap (λ x. x ∷ []) (eqb-true b 10 e);
      alone = λ bs. cond-true (eqb b 10) ((b ∷ []) ∷ byte_lines bs) (onto b (byte_lines bs)) e;
    }

ended_more : (b : ℕ) (line : List ℕ) → eqb b 10 ≡ false → Ended line → Ended (b ∷ line)
ended_more b line e h =
    record {
      text = b ∷ h.text;
      ends = ap (λ l. b ∷ l) h.ends;
      alone = λ bs. cond-false (eqb b 10) ((b ∷ []) ∷ byte_lines (line ++ bs)) (onto b (byte_lines (line ++ bs))) e ∙ ap (onto b) (h.alone bs);
    }

-- a first line that something follows has its break
ended : (bs : List ℕ) → line_size bs < length bs → Ended (take (line_size bs) bs)
ended [] h = absurd (omega arith)
ended (b ∷ bs) h =
    let more = ended bs in
    ⊎_elim
    (λ e. subst (λ n. Ended (take n (b ∷ bs))) (sym (cond-true (eqb b 10) 1 (suc (line_size bs)) e)) (ended_stop b e))
    (λ e.
    let long = cond-false (eqb b 10) 1 (suc (line_size bs)) e in
    let short : line_size bs < length bs = omega arith in
    subst (λ n. Ended (take n (b ∷ bs))) (sym long) (ended_more b (take (line_size bs) bs) e (more short)))
    (cases_Bool (eqb b 10))

-- what a mapped option was made from
from_some : {X Y : Type 0} (f : X → Y) (o : Option X) (y : Y) → option_map f o ≡ Some y → (x : X) × (o ≡ Some x) × (f x ≡ y)
from_some f None y e = cc
from_some f (Some x) y e = (x, refl, cc)

from_none : {X Y : Type 0} (f : X → Y) (o : Option X) → option_map f o ≡ None → o ≡ None
from_none f None e = refl
from_none f (Some x) e = cc

-- the law at the dot line itself
law_here : (bs line : List ℕ) (ls : List (List ℕ)) (n : ℕ) → take n bs ≡ line → byte_lines (drop n bs) ≡ ls → is_dot line ≡ true → FirstDot bs [] (rejoin ls)
law_here bs line ls n first others is =
    record {
      parts = sym (take-append-drop n bs) ∙ (λ i. (first ∙ is_dot_true line is) i ++ (sym (rejoin_lines (drop n bs)) ∙ ap rejoin others) i);
      plain = tt;
    }

-- the law at a line before the dot line, by the law for what follows that line
law_before : (bs line : List ℕ) (cut : Cut) → take (line_size bs) bs ≡ line → is_dot line ≡ false → FirstDot (drop (line_size bs) bs) (rejoin cut.0) (rejoin cut.1) → FirstDot bs (rejoin (line ∷ cut.0)) (rejoin cut.1)
law_before bs line cut first other h =
    let n : ℕ = line_size bs in
    let tail : List ℕ = dot_line ++ rejoin cut.1 in
    let some : length (drop n bs) ≡ length (rejoin cut.0) + length tail = ap length h.parts ∙ length-append (rejoin cut.0) tail in
    let two : 2 ≤ length tail = omega arith in
    let inside : n < length bs = omega (arith, length-drop n bs) in
    let whole : Ended line = subst Ended first (ended bs inside) in
    record {
      parts = sym (take-append-drop n bs) ∙ (λ i. first i ++ h.parts i) ∙ sym (append_assoc line (rejoin cut.0) tail);
      plain = subst (AllByRecursion Plain) (sym (whole.alone (rejoin cut.0))) (record { text = whole.text; ends = whole.ends; other = is_dot_false line other }, h.plain);
    }

law : (ls : List (List ℕ)) (bs : List ℕ) (cut : Cut) → byte_lines bs ≡ ls → cut_lines ls ≡ Some cut → FirstDot bs (rejoin cut.0) (rejoin cut.1)
law [] bs cut e h = cc
law (l ∷ ls) [] cut e h = cc
law (l ∷ ls) (b ∷ bs) cut e h =
    let all : List ℕ = b ∷ bs in
    let n : ℕ = line_size all in
    let both : take n all ∷ byte_lines (drop n all) ≡ l ∷ ls = sym (lines_first all (omega arith)) ∙ e in
    let first : take n all ≡ l = cc in
    let others : byte_lines (drop n all) ≡ ls = cc in
    let more = law ls (drop n all) in
    ⊎_elim
    (λ is.
    let same : Some ([], ls) ≡ Some cut = sym (cond-true (is_dot l) (Some ([], ls)) (option_map (under l) (cut_lines ls)) is) ∙ h in
    let cuts : ([], ls) ≡ cut = cc in
    subst (λ (c : Cut). FirstDot all (rejoin c.0) (rejoin c.1)) cuts (law_here all l ls n first others is))
    (λ other.
    let same : option_map (under l) (cut_lines ls) ≡ Some cut = sym (cond-false (is_dot l) (Some ([], ls)) (option_map (under l) (cut_lines ls)) other) ∙ h in
    let was = from_some (under l) (cut_lines ls) cut same in
    subst (λ (c : Cut). FirstDot all (rejoin c.0) (rejoin c.1)) was.2 (law_before all l was.0 first other (more was.0 others was.1)))
    (cases_Bool (is_dot l))

-- where the split answers two parts, a dot line stands between them, and it is the first
pub first_dot : (bytes before after : List ℕ) → split_at_dot bytes ≡ Some (before, after) → FirstDot bytes before after
first_dot bytes before after e =
    let was = from_some bytes_of (cut_lines (byte_lines bytes)) (before, after) e in
    subst (λ (p : Parts). FirstDot bytes p.0 p.1) was.2 (law (byte_lines bytes) bytes was.0 refl was.1)

other_lines : (ls : List (List ℕ)) → cut_lines ls ≡ None → AllByRecursion (λ line. line ≡ dot_line → ⊥) ls
other_lines [] e = tt
other_lines (l ∷ ls) e =
    let more = other_lines ls in
    ⊎_elim
    (λ is.
    let same : Some ([], ls) ≡ None = sym (cond-true (is_dot l) (Some ([], ls)) (option_map (under l) (cut_lines ls)) is) ∙ e in
    cc)
    (λ other.
    let same : option_map (under l) (cut_lines ls) ≡ None = sym (cond-false (is_dot l) (Some ([], ls)) (option_map (under l) (cut_lines ls)) other) ∙ e in
    (is_dot_false l other, more (from_none (under l) (cut_lines ls) same)))
    (cases_Bool (is_dot l))

-- where the split answers none, no line is a dot line
pub no_dot : (bytes : List ℕ) → split_at_dot bytes ≡ None → NoDot bytes
no_dot bytes e = other_lines (byte_lines bytes) (from_none bytes_of (cut_lines (byte_lines bytes)) e)
