-- What stands of a text with its marks, and goes on when a step is made. Assumes nothing.
use Rattle.std.proofs.Common.{◌≡◌, ℕ, ◌+◌, ◌^◌, ◌<◌, ◌≤◌, List, length, Option, sym, subst, arith}
use Rattle.element.specs.declared.Element.{Ghosts as Elements}
use Rattle.measure.specs.declared.Measure.{Ghosts as Measures}
use Rattle.measure.specs.declared.Total.{Ghosts as Totals}
use Rattle.ledger.specs.Legal.{Fit}
use Rattle.ledger.specs.Steps.{Content, apply}
use Rattle.ledger.specs.declared.words.Mark.{Mark}
use Rattle.ledger.specs.declared.words.Place.{Place}
use Rattle.ledger.specs.declared.words.Step.{Step}
use Rattle.marks.proofs.Kept.{within_shiftable}
use Rattle.marks.proofs.Replayed.{apply_inside}
use Rattle.marks.specs.Bounds.{AllShiftable, Inside}
use Rattle.marks.specs.Tables.{marks_of}
use Rattle.reading.proofs.Changes.{long_places}
use Rattle.text.specs.declared.Text.{Text}
use Rattle.text.specs.Texts.{text_places}
use Rattle.content.specs.declared.Sheet.{Sheet}
use Rattle.content.specs.Sheets.{content_of}

-- two contents with the same places and the same marks are the same
pub same_content : (ps : List Place) (ms : List (Option Mark)) (c : Content) → ps ≡ c.places → ms ≡ c.marks → record { places = ps; marks = ms } ≡ c
same_content ps ms c p q = λ i. record { places = p i; marks = q i }

-- marks lie in a text that has the places and the marks of one in which they do
pub carried_inside : (ps : List Place) (ms : List (Option Mark)) (c : Content) → ps ≡ c.places → ms ≡ c.marks → Inside c → Inside (record { places = ps; marks = ms })
carried_inside ps ms c p q h = subst Inside (sym (same_content ps ms c p q)) h

module _ {E T : Type 0} {e : Elements E} {m : Measures T E} {total : Totals T} where
  -- a text is not too long
  pub text_short : (t : Text E T e m total) → length (text_places t) ≤ 2 ^ 24
  text_short t = omega (arith, long_places t.tree.tree t.tree.weighed, t.short)

  module _ (s : Sheet E T e m total) where
    -- the marks lie in the text
    pub marks_inside : Inside (content_of s)
    marks_inside = s.inside

    -- an insert that does not make the text too long can move them
    pub all_shiftable : (n : ℕ) → length (text_places s.text) + n ≤ 2 ^ 24 → AllShiftable n (marks_of s.marks)
    all_shiftable n fits = within_shiftable (length (text_places s.text)) n (marks_of s.marks) (omega (arith, fits)) marks_inside

    -- the end of a part of the text is a number that a place holds
    pub part_fits : (x n : ℕ) → x + n ≤ length (text_places s.text) → x + n < 2 ^ 64
    part_fits x n within = omega (arith, within, text_short s.text)

    -- the marks lie in what a step makes, where it fits
    pub stay_inside : (step : Step) (ps : List Place) (ms : List (Option Mark)) → Fit step (content_of s) → ps ≡ (apply step (content_of s)).places → ms ≡ (apply step (content_of s)).marks → Inside (record { places = ps; marks = ms })
    stay_inside step ps ms fit p q = carried_inside ps ms (apply step (content_of s)) p q (apply_inside step (content_of s) fit marks_inside)
