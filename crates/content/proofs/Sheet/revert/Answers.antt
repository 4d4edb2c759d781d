use Rattle.text.specs.Texts.{text_places}
use Rattle.content.proofs.Reverts.{content_again, few_again, inside_again, restorable}
use Rattle.content.proofs.Sheet.revert.Goals as goal

pub restore-requires : goal.restore-requires
restore-requires g c =
    let s = c.args.self.now in
    record {
      restorable = restorable s c.args.marks c.args.step c.args.runs.now c.requires.undoable;
      few = few_again s c.args.marks c.args.step c.args.runs.now c.requires.undoable;
    }

pub invariant_of-self : goal.invariant_of-self
invariant_of-self g c =
    record { inside = inside_again c.args.self.now c.args.marks c.args.step c.args.runs.now (text_places c.restore.new.text) c.restore.ensures.places c.requires.undoable }

pub returns : goal.returns
returns g c =
    let e = c.restore.ensures in
    record {
      content = λ before made. content_again c.args.self.now c.args.marks c.args.step c.args.runs.now (text_places c.restore.new.text) before e.places made;
      kept = e.kept;
    }
