use Rattle.std.proofs.Common.{◌++◌, vec_items, sym, refl, ap, ◌∙◌, append-nil, arith, take_all}
use Rattle.text.proofs.Sourced.{pushed}
use Rattle.text.proofs.sources.push_all.Goals as goal

pub loop-element-init : goal.loop-element-init
loop-element-init g c = (sym (append-nil (vec_items c.args.items.now)), omega arith, refl)

pub push_reserved-requires : goal.push_reserved-requires
push_reserved-requires g c =
    omega (arith, c.requires.room, c.loop-element.invariant.1, c.loop-element.invariant.2, c.loop-element-test.true)

pub loop-element-preserved : goal.loop-element-preserved
loop-element-preserved g c =
    let inv = c.loop-element.invariant in
    let s = c.push_reserved.ensures in (
      pushed (vec_items c.args.items.now) c.args.new.now (vec_items c.loop-element.items) (vec_items c.push_reserved.new.self) c.loop-element.element-index c.element-item.result c.loop-element-test.true c.element-item.is inv.0 s.items,
      omega (arith, s.len, inv.1),
      s.capacity ∙ inv.2,
    )

pub returns : goal.returns
returns g c =
    let inv = c.loop-element.invariant in
    record {
      items = inv.0 ∙ ap (λ l. vec_items c.args.items.now ++ l) (take_all c.loop-element.element-index c.args.new.now c.loop-element-test.false);
      capacity = inv.2;
    }
