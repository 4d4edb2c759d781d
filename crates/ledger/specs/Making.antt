-- The check before a making, and what a making begins with. Assumes nothing.
use Rattle.std.specs.Prelude.{ℕ, ◌+◌, Bool, cond, not, ◌&&◌, ◌||◌, List, [], ◌∷◌, length, is_some, Option, nat_le, nat_lt}
use Rattle.ledger.specs.Calls.{first_held}
use Rattle.ledger.specs.Ledgers.{Ledger, begin}
use Rattle.ledger.specs.declared.denial.Denial.{Denial}
use Rattle.ledger.specs.declared.denial.Denial.TheVariants.{CapacityOutOfRange, TooFewRecords, OriginalTooLong}
use Rattle.ledger.specs.declared.words.Capacities.{Capacities}

abbrev pub capacities_of : ℕ → ℕ → ℕ → ℕ → ℕ → Capacities
capacities_of added pieces versions steps runs = record { added = added; pieces = pieces; versions = versions; steps = steps; runs = runs }

-- the memory that is lent: added elements, tree places, version records, step records, run cells
pub record Room : Type 0 where
  pub added : ℕ
  pub places : ℕ
  pub versions : ℕ
  pub steps : ℕ
  pub runs : ℕ

abbrev pub between : ℕ → ℕ → ℕ → Bool
between low high n = nat_le low n && nat_le n high

abbrev pub in_range : Capacities → Bool
in_range c =
    between 0 8388608 c.added && (between 1 65536 c.pieces && (between 1 65536 c.versions && (between 0 262144 c.steps && between 0 262144 c.runs)))

-- each version, step, kept run and added element needs a record, and the tree eight places more than pieces
abbrev pub too_small : Room → Capacities → Bool
too_small room c =
    nat_lt room.added c.added || (nat_lt room.places (c.pieces + 8) || (nat_lt room.versions c.versions || (nat_lt room.steps c.steps || nat_lt room.runs c.runs)))

-- what denies a making over an original of n elements
abbrev pub making_tests : ℕ → Capacities → Room → List (Bool × Denial)
making_tests n c room = (not (in_range c), CapacityOutOfRange) ∷ (too_small room c, TooFewRecords) ∷ (nat_lt 8388608 n, OriginalTooLong) ∷ []

abbrev pub check : ℕ → Capacities → Room → Option Denial
check n c room = first_held (making_tests n c room)

-- a making on what the check denies has an empty original and all capacities 0
abbrev pub make : {E : Type 0} → List E → Capacities → Room → Ledger E
make original c room = cond (is_some (check (length original) c room)) (begin [] (capacities_of 0 0 0 0 0)) (begin original c)
