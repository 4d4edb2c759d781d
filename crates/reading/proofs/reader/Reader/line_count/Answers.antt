use Rattle.std.proofs.Common.{ℕ, ◌-◌, cond, ap, arith}
use Rattle.nodes.proofs.Bounds.{within}
use Rattle.reading.proofs.LineReads.{tree_lines}
use Rattle.reading.proofs.reader.Reader.line_count.Goals as goal

pub overflow_add-result : goal.overflow_add-result
overflow_add-result g c =
    let few = within c.args.self.now.tree.now c.args.self.now.weighed in
    omega (arith, c.sums-all.ensures.breaks, few.0, c.requires.fits)

pub returns-then-is_break : goal.returns-then-is_break
returns-then-is_break g c faithful =
    let all = c.sums-all.ensures in
    let lines = tree_lines g.E.Element.breaks g.T.Total.neutral g.T.Measure.value g.T.Total.joined c.args.self.now.sources.original.now c.args.self.now.sources.added.now c.args.self.now.tree.now c.args.self.now.weighed c.args.self.now.inside faithful (c.sums-all.result.length - 1) c.element_at.result (omega (arith, all.length, c.if-all-eq0.false)) c.element_at.ensures in
    omega (arith, lines, ap {B = ℕ} (λ b. cond b 1 0) c.if-is_break.ensures, all.breaks)

pub returns-else-is_break : goal.returns-else-is_break
returns-else-is_break g c faithful =
    let all = c.sums-all.ensures in
    let lines = tree_lines g.E.Element.breaks g.T.Total.neutral g.T.Measure.value g.T.Total.joined c.args.self.now.sources.original.now c.args.self.now.sources.added.now c.args.self.now.tree.now c.args.self.now.weighed c.args.self.now.inside faithful (c.sums-all.result.length - 1) c.element_at.result (omega (arith, all.length, c.if-all-eq0.false)) c.element_at.ensures in
    omega (arith, lines, ap {B = ℕ} (λ b. cond b 1 0) c.if-is_break.ensures, all.breaks)
