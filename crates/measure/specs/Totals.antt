-- What a measure is, and the total of a list of elements. Assumes nothing.
use Rattle.std.specs.Prelude.{◌≡◌, List, [], ◌∷◌}

-- the laws of a measure: its join is associative, and its empty value is neutral on both sides
pub record Monoid {T : Type 0} (empty : T) (join : T → T → T) : Type 0 where
  pub associative : (x y z : T) → join (join x y) z ≡ join x (join y z)
  pub neutral_left : (x : T) → join empty x ≡ x
  pub neutral_right : (x : T) → join x empty ≡ x

-- the total: the values of the elements, joined from the first element to the last
abbrev pub total : {E T : Type 0} → T → (E → T) → (T → T → T) → List E → T
total empty value join [] = empty
total empty value join (e ∷ es) = join (value e) (total empty value join es)
