use Rattle.std.proofs.Common.{length, vec_items, refl, ap, ◌∙◌, arith, length-append}
use Rattle.text.proofs.Sourced.{faithful_more, same_written, standing_more}
use Rattle.text.proofs.Text.append.Goals as goal

pub invariant_of-self : goal.invariant_of-self
invariant_of-self g c =
    let self = c.args.self.now in
    let original = self.original.now in
    let before = vec_items self.added in
    let after = vec_items c.push_all.new.items in
    let new = c.args.new.now in
    let longer = ap length c.push_all.ensures.items ∙ length-append before new in
    let stands = standing_more (length self.original.now) (length before) (length after) (omega (arith, longer)) self.tree.tree self.standing in
    let carries = faithful_more original before after new c.push_all.ensures.items g.E.Element.breaks g.T.Total.neutral g.T.Measure.value g.T.Total.joined self.tree.tree self.standing self.measured in
    record { standing = stands; measured = carries; short = self.short; few = self.few; ample = self.ample; room = self.room }

pub returns : goal.returns
returns g c =
    let self = c.args.self.now in
    let original = self.original.now in
    let before = vec_items self.added in
    let after = vec_items c.push_all.new.items in
    let new = c.args.new.now in
    let stands = self.standing in
    record {
      added = c.push_all.ensures.items;
      same = record { original = refl; tree = refl; stock = refl; limit = refl; capacity = c.push_all.ensures.capacity };
      written = same_written original before after new c.push_all.ensures.items self.tree.tree stands;
    }
