use Rattle.std.proofs.Common.{◌-◌, min, sym, refl, ap, ◌∙◌, arith}
use Rattle.measure.specs.Totals.{total}
use Rattle.pieces.specs.Faithful.{elements, source_part}
use Rattle.reading.specs.LineParts.{part}
use Rattle.reading.proofs.PartTotals.{part_all, elements_long, opens, whole_total, faithful_left, faithful_item, faithful_right, joined_total}
use Rattle.reading.proofs.reader.Reader.+part_total.Goals as goal

pub returns-then-upto-node : goal.returns-then-upto-node
returns-then-upto-node g t c faithful =
    let original = c.args.self.now.sources.original.now in
    let added = c.args.self.now.sources.added.now in
    let tree = c.args.self.now.tree.now in
    let o = opens c.in-Place.is c.deref-node.ensures c.args.self.now.weighed c.args.self.now.inside in
    let long = elements_long original added tree c.args.self.now.weighed c.args.self.now.inside in
    let all = part_all c.args.from c.args.upto (elements original added tree) c.if-from-eq0.true (omega (arith, long, o.length_is, c.if-upto-node.true)) in
    sym (o.total_is g.T.Total.neutral)
    ∙ whole_total g.E.Element.breaks g.T.Total.neutral g.T.Measure.value g.T.Total.joined g.met.T.Total.monoid original added tree faithful
    ∙ ap (total g.T.Total.neutral g.T.Measure.value g.T.Total.joined) (sym all)

pub invariant_of-left_side : goal.invariant_of-left_side
invariant_of-left_side g t c =
    let r = c.args.self.now in
    let o = opens c.in-Place.is c.deref-node.ensures r.weighed r.inside in
    record { weighed = o.left_weighed; inside = o.left_inside; fits = omega (arith, o.long_are, r.fits) }

pub item_total-inner-requires-clause-inside : goal.item_total-inner-requires-clause-inside
item_total-inner-requires-clause-inside g t c =
    (opens c.in-Place.is c.deref-node.ensures c.args.self.now.weighed c.args.self.now.inside).item_inside

pub invariant_of-right_side : goal.invariant_of-right_side
invariant_of-right_side g t c =
    let r = c.args.self.now in
    let o = opens c.in-Place.is c.deref-node.ensures r.weighed r.inside in
    record { weighed = o.right_weighed; inside = o.right_inside; fits = omega (arith, o.long_are, r.fits) }

pub returns-else-from-eq0 : goal.returns-else-from-eq0
returns-else-from-eq0 g t c faithful =
    let b = g.E.Element.breaks in
    let n = g.T.Total.neutral in
    let v = g.T.Measure.value in
    let j = g.T.Total.joined in
    let laws = g.met.T.Total.monoid in
    let original = c.args.self.now.sources.original.now in
    let added = c.args.self.now.sources.added.now in
    let node = c.deref-node.result.now in
    let count = node.item.length in
    let o = opens c.in-Place.is c.deref-node.ensures c.args.self.now.weighed c.args.self.now.inside in
    let begin = c.saturating_sub-begin.ensures in
    let end = c.saturating_sub-end.ensures in
    let from_Inner = c.min-in-Place-2.ensures ∙ ap (λ k. min k count) begin in
    let upto_inner = c.min-in-Place-3.ensures ∙ ap (λ k. min k count) end in
    let from_back = c.saturating_sub-begin_behind.ensures ∙ ap (λ k. k - count) begin in
    let upto_back = c.saturating_sub-end_behind.ensures ∙ ap (λ k. k - count) end in
    let front = c.part_total-front.ensures (faithful_left b n v j laws original added o faithful) ∙ (λ i. total n v j (part (c.min.ensures i) (c.min-in-Place.ensures i) (elements original added node.left))) in
    let inner = c.item_total-inner.ensures (faithful_item b n v j laws original added o faithful) ∙ (λ i. total n v j (part (from_Inner i) (upto_inner i) (source_part original added node.item.piece count))) in
    let back = c.part_total-back.ensures (faithful_right b n v j laws original added o faithful) ∙ (λ i. total n v j (part (from_back i) (upto_back i) (elements original added node.right))) in
    c.join-in-Place.ensures
    ∙ (λ i. j ((c.join.ensures ∙ (λ k. j (front k) (inner k))) i) (back i))
    ∙ joined_total b n v j laws original added c.args.from c.args.upto c.sums-left.result.length count o c.sums-left.ensures.length refl
