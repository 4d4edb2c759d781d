use Rattle.std.proofs.Common.{◌≤◌, length, replicate, None, refl}
use Rattle.marks.proofs.Kept.{each_none}
use Rattle.marks.specs.Tables.{marks_of}
use Rattle.text.specs.Texts.{text_places}
use Rattle.content.proofs.Staying.{carried_inside}
use Rattle.content.proofs.Sheet.begin.Goals as goal

pub invariant_of-result : goal.invariant_of-result
invariant_of-result g c =
    let ps = text_places c.args.text in
    record { inside = carried_inside ps (marks_of c.none.result) (record { places = ps; marks = replicate 26 None }) refl c.none.ensures (each_none (λ m. m.offset.0 ≤ length ps) 26) }
