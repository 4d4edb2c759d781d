use Rattle.std.proofs.Common.{◌+◌, ◌-◌, arith}
use Rattle.ledger.specs.Places.{place}
use Rattle.pieces.specs.Spread.{places}
use Rattle.reading.proofs.Changes.{last_place}
use Rattle.reading.proofs.reader.Counter.last_before.Goals as goal

pub returns : goal.returns
returns g c =
    let spot = c.spot_at.result in
    last_place (places c.args.self.now.tree.now) (c.args.offset - 1) c.args.offset (place spot.first.source (spot.first.index + spot.skip)) c.spot_at.ensures (omega (arith, c.if-offset-eq0.false))
