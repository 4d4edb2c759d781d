use Rattle.std.proofs.Common.{subst, refl}
use Rattle.seeking.specs.Seeks.{Stands}
use Rattle.seeking.proofs.Standing.{stands_left, stands_here, stands_right}
use Rattle.seeking.proofs.seek.+seek.Goals as goal

pub returns-then-sought-passed-clause-stands : goal.returns-then-sought-passed-clause-stands
returns-then-sought-passed-clause-stands g t c =
    let n = g.T.Total.neutral in
    let j = g.T.Total.joined in
    stands_left n j g.met.T.Total.monoid c.in-Place.is (subst (λ node. Stands n j node.left c.seek.result) c.deref-then-sought-passed.ensures c.seek.ensures.stands)

pub returns-then-sought-passed-2-clause-stands : goal.returns-then-sought-passed-2-clause-stands
returns-then-sought-passed-2-clause-stands g t c =
    let before = c.sums-before.ensures in
    let same = c.deref.ensures in
    stands_here g.T.Total.neutral g.T.Total.joined g.met.T.Total.monoid c.in-Place.is c.requires.weighed (cc c.deref-then-sought-passed-2.ensures) (cc (before.length, same)) (cc (before.breaks, same)) (cc (before.pieces, same)) (cc (before.total, same))

pub returns-else-sought-passed-2-clause-stands : goal.returns-else-sought-passed-2-clause-stands
returns-else-sought-passed-2-clause-stands g t c =
    let n = g.T.Total.neutral in
    let j = g.T.Total.joined in
    let before = c.sums-before.ensures in
    let all = c.join.ensures in
    let same = c.deref.ensures in
    let item = c.deref-else-sought-passed-2-2.ensures in
    stands_right n j g.met.T.Total.monoid c.in-Place.is c.requires.weighed (subst (λ node. Stands n j node.right c.seek-found.result) c.deref-else-sought-passed-2.ensures c.seek-found.ensures.stands) refl (cc (all.length, before.length, same, item)) (cc (all.breaks, before.breaks, same, item)) (cc (all.pieces, before.pieces, same)) (cc (all.total, before.total, same, item))
