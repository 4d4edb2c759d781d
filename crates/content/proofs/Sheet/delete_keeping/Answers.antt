use Rattle.ledger.specs.declared.words.Step.TheVariants.{Delete}
use Rattle.marks.specs.Tables.{marks_of}
use Rattle.text.specs.Texts.{text_places}
use Rattle.content.proofs.Staying.{part_fits, stay_inside}
use Rattle.content.proofs.Sheet.delete_keeping.Goals as goal

pub pull-requires : goal.pull-requires
pull-requires g c = part_fits c.args.self.now c.args.offset c.args.count c.requires.doable.fit.1

pub invariant_of-self : goal.invariant_of-self
invariant_of-self g c =
    record { inside = stay_inside c.args.self.now (Delete c.args.offset c.args.count) (text_places c.remove_kept.new.self) (marks_of c.pull.new.self) c.requires.doable.fit c.remove_kept.ensures.places c.pull.ensures }
