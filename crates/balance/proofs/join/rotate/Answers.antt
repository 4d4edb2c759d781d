use Rattle.std.proofs.Common.{◌≡◌, arith}
use Rattle.nodes.specs.Trees.{items, blacks}
use Rattle.balance.proofs.Opening.{grouped, opened, taller}
use Rattle.balance.proofs.join.rotate.Goals as goal

pub returns-in-Place : goal.returns-in-Place
returns-in-Place g c =
    let o = opened c.args.side c.in-Place.is c.unlink_on-top.ensures.item c.unlink_on-top.ensures.inner c.unlink_on-top.ensures.outer in
    let whole = o.items_are in
    let regrouped = grouped c.args.side (items c.args.inner) (items c.unlink_on-top.result.1) (items c.unlink_on-top.result.2) c.args.place.value.item c.unlink_on-top.result.0.value.item in
    let length_is = o.length_is c.requires.linkable.outer_weighed in
    let reds = o.reds c.requires.outer_leans c.requires.reds in
    let level : blacks c.args.inner ≡ blacks c.unlink_on-top.result.1 = omega (arith, c.requires.level, reds.tall) in
    let tall = taller c.unlink_on-top.result.2 c.blacken.result c.blacken.ensures.blacks reds.outer_red in
    let below = c.link_on-below.ensures.blacks level in
    let legal = c.link_on-below.ensures.legal level tt tt c.requires.inner_legal reds.inner_legal in
    let even : blacks c.link_on-below.result ≡ blacks c.blacken.result = omega (arith, tall, below, level, reds.level) in
    record {
      items = cc;
      long = omega (arith, c.link_on-in-Place.ensures.long, c.link_on-below.ensures.long, c.blacken.ensures.long);
      weighed = c.link_on-in-Place.ensures.weighed;
      summed = λ l r. let sides = o.summed g.T.Total.neutral g.T.Total.joined r in c.link_on-in-Place.ensures.summed (c.link_on-below.ensures.summed l sides.0) (c.blacken.ensures.summed sides.1);
      blacks = omega (arith, c.link_on-in-Place.ensures.blacks even, below);
      legal = c.link_on-in-Place.ensures.legal even c.link_on-below.ensures.colour c.blacken.ensures.colour legal (c.blacken.ensures.legal reds.outer_legal);
    }
