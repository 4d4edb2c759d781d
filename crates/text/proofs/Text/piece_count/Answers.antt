use Rattle.std.proofs.Common.{◌∙◌, arith}
use Rattle.text.proofs.Standings.{items_placed, pieces_placed}
use Rattle.text.proofs.Text.piece_count.Goals as goal

pub returns : goal.returns
returns g c =
    let t = c.args.self.now in
    let all = c.sums.ensures.pieces in
    record {
      count = all ∙ pieces_placed t;
      few = omega (arith, all, items_placed t, t.few);
    }
