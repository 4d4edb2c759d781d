use Rattle.std.proofs.Common.{refl, subst}
use Rattle.ledger.specs.declared.words.Step.TheVariants.{Insert, Delete, SetMark, DropMark}
use Rattle.marks.specs.Tables.{marks_of}
use Rattle.text.specs.Texts.{text_places}
use Rattle.content.proofs.Staying.{all_shiftable, part_fits, stay_inside}
use Rattle.content.specs.Sheets.{Doable}
use Rattle.content.proofs.Sheet.apply.Goals as goal

pub shift-requires : goal.shift-requires
shift-requires g c =
    let s = c.args.self.now in
    let i = c.in-Insert in
    let h : Doable (Insert i.offset i.length i.start) s = subst (λ step. Doable step s) i.is c.requires.doable in
    all_shiftable s i.length h.sourced.1

pub invariant_of-self : goal.invariant_of-self
invariant_of-self g c =
    let s = c.args.self.now in
    let i = c.in-Insert in
    let h : Doable (Insert i.offset i.length i.start) s = subst (λ step. Doable step s) i.is c.requires.doable in
    record { inside = stay_inside s (Insert i.offset i.length i.start) (text_places c.insert.new.self) (marks_of c.shift.new.self) h.fit c.insert.ensures.places c.shift.ensures }

pub pull-requires : goal.pull-requires
pull-requires g c =
    let s = c.args.self.now in
    let i = c.in-Delete in
    let h : Doable (Delete i.offset i.length) s = subst (λ step. Doable step s) i.is c.requires.doable in
    part_fits s i.offset i.length h.fit.1

pub invariant_of-self-in-Delete : goal.invariant_of-self-in-Delete
invariant_of-self-in-Delete g c =
    let s = c.args.self.now in
    let i = c.in-Delete in
    let h : Doable (Delete i.offset i.length) s = subst (λ step. Doable step s) i.is c.requires.doable in
    record { inside = stay_inside s (Delete i.offset i.length) (text_places c.remove.new.self) (marks_of c.pull.new.self) h.fit c.remove.ensures.places c.pull.ensures }

pub invariant_of-self-in-SetMark : goal.invariant_of-self-in-SetMark
invariant_of-self-in-SetMark g c =
    let s = c.args.self.now in
    let i = c.in-SetMark in
    let h : Doable (SetMark i.name i.mark) s = subst (λ step. Doable step s) i.is c.requires.doable in
    record { inside = stay_inside s (SetMark i.name i.mark) (text_places s.text) (marks_of c.put.new.self) h.fit refl c.put.ensures }

pub invariant_of-self-in-DropMark : goal.invariant_of-self-in-DropMark
invariant_of-self-in-DropMark g c =
    let s = c.args.self.now in
    let i = c.in-DropMark in
    let h : Doable (DropMark i.name) s = subst (λ step. Doable step s) i.is c.requires.doable in
    record { inside = stay_inside s (DropMark i.name) (text_places s.text) (marks_of c.put-in-DropMark.new.self) h.fit refl c.put-in-DropMark.ensures }
