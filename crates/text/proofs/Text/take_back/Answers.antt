use Rattle.std.proofs.Common.{◌≡◌, ◌-◌, take, drop, vec_items, vec_len, sym, refl, ap, ◌∙◌}
use Rattle.text.proofs.Sourced.{cut_back, faithful_less, same_written, standing_cut}
use Rattle.text.proofs.Text.take_back.Goals as goal

pub invariant_of-self : goal.invariant_of-self
invariant_of-self g c =
    let self = c.args.self.now in
    let before = vec_items self.added in
    let after = vec_items c.truncate.new.self in
    let count = vec_len self.added - c.args.count in
    let left : after ≡ take count before = c.truncate.ensures.items ∙ ap (λ n. take (n - c.args.count) before) c.len.ensures in
    let stands = standing_cut self.original.now before after count self.tree.tree left c.requires.unused self.tree.weighed self.standing in
    let longer = cut_back before after count left in
    let carries = faithful_less self.original.now after before (drop count before) longer g.E.Element.breaks g.T.Total.neutral g.T.Measure.value g.T.Total.joined self.tree.tree stands self.measured in
    record { standing = stands; measured = carries; short = self.short; few = self.few; ample = self.ample; room = self.room }

pub returns : goal.returns
returns g c =
    let self = c.args.self.now in
    let original = self.original.now in
    let before = vec_items self.added in
    let after = vec_items c.truncate.new.self in
    let count = vec_len self.added - c.args.count in
    let left : after ≡ take count before = c.truncate.ensures.items ∙ ap (λ n. take (n - c.args.count) before) c.len.ensures in
    let longer = cut_back before after count left in
    let stands = standing_cut original before after count self.tree.tree left c.requires.unused self.tree.weighed self.standing in
    record {
      added = left;
      same = record { original = refl; tree = refl; stock = refl; limit = refl; capacity = c.truncate.ensures.capacity };
      written = sym (same_written original after before (drop count before) longer self.tree.tree stands);
    }
