use Rattle.std.proofs.Common.{arith, rules}
use Rattle.nodes.specs.Trees.{items}
use Rattle.balance.proofs.Opening.{grouped, leaning, opened}
use Rattle.balance.proofs.join.+join_on.Goals as goal

pub returns-else-tall-low : goal.returns-else-tall-low
returns-else-tall-low g t c =
    let o = opened c.args.side c.in-Place.is c.unlink_on-top.ensures.item c.unlink_on-top.ensures.inner c.unlink_on-top.ensures.outer in
    let whole = o.items_are in
    let regrouped = grouped c.args.side (items c.unlink_on-top.result.1) (items c.unlink_on-top.result.2) (items c.args.outer) c.unlink_on-top.result.0.value.item c.args.place.value.item in
    let length_is = o.length_is c.requires.linkable.inner_weighed in
    let blacks_are = o.blacks_are c.requires.inner_legal in
    let legal = o.legal c.requires.inner_legal in
    record {
      items = cc;
      long = omega (arith, c.balance.ensures.long, c.join_on-grown.ensures.long);
      weighed = c.balance.ensures.weighed;
      summed = λ l r. let sides = o.summed g.T.Total.neutral g.T.Total.joined l in c.balance.ensures.summed sides.0 (c.join_on-grown.ensures.summed sides.1 r);
      blacks = search rules;
      leans = leaning c.args.side c.balance.result c.balance.ensures.legal;
      legal = λ _. c.balance.ensures.legal;
    }

pub link_on-requires-in-Red : goal.link_on-requires-in-Red
link_on-requires-in-Red g t c =
    let o = opened c.args.side c.in-Place.is c.unlink_on-top-in-Red.ensures.item c.unlink_on-top-in-Red.ensures.inner c.unlink_on-top-in-Red.ensures.outer in
    let weighed = o.weighed c.requires.linkable.inner_weighed in
    let length_is = o.length_is c.requires.linkable.inner_weighed in
    record {
      linkable = record {
        bare = c.unlink_on-top-in-Red.ensures.bare;
        fair = weighed.0;
        inner_weighed = weighed.1;
        outer_weighed = c.join_on-grown-in-Red.ensures.weighed;
        fits = omega (arith, c.join_on-grown-in-Red.ensures.long);
      };
    }

pub returns-in-Red : goal.returns-in-Red
returns-in-Red g t c =
    let o = opened c.args.side c.in-Place.is c.unlink_on-top-in-Red.ensures.item c.unlink_on-top-in-Red.ensures.inner c.unlink_on-top-in-Red.ensures.outer in
    let whole = o.items_are in
    let regrouped = grouped c.args.side (items c.unlink_on-top-in-Red.result.1) (items c.unlink_on-top-in-Red.result.2) (items c.args.outer) c.unlink_on-top-in-Red.result.0.value.item c.args.place.value.item in
    let length_is = o.length_is c.requires.linkable.inner_weighed in
    let blacks_are = o.blacks_are c.requires.inner_legal in
    let legal = o.legal c.requires.inner_legal in
    record {
      items = cc;
      long = omega (arith, c.link_on-in-Red.ensures.long, c.join_on-grown-in-Red.ensures.long);
      weighed = c.link_on-in-Red.ensures.weighed;
      summed = λ l r. let sides = o.summed g.T.Total.neutral g.T.Total.joined l in c.link_on-in-Red.ensures.summed sides.0 (c.join_on-grown-in-Red.ensures.summed sides.1 r);
      blacks = search rules;
      leans = search rules;
      legal = search rules;
    }
