use Rattle.std.proofs.Common.{sym, ◌∙◌, subst, arith}
use Rattle.ledger.specs.Answers.{Shallow}
use Rattle.text.proofs.Standings.{items_placed, long_fits, pieces_placed}
use Rattle.text.proofs.Text.depth.Goals as goal

pub depth-requires : goal.depth-requires
depth-requires g c =
    let t = c.args.self.now in
    record {
      weighed = t.tree.weighed;
      fits = omega (arith, long_fits t);
    }

pub returns : goal.returns
returns g c =
    let t = c.args.self.now in
    subst (λ n. Shallow n c.depth.result) (sym (items_placed t) ∙ pieces_placed t) (c.depth.ensures.bound t.tree.balanced)
