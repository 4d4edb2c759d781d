use Rattle.reading.proofs.Places.{place_found}
use Rattle.reading.proofs.reader.Counter.spot_at.Goals as goal

pub returns : goal.returns
returns g c = let f = c.find-found.ensures in place_found f.stands f.offset f.inner
