use Rattle.std.proofs.Common.{sym}
use Rattle.text.proofs.Standings.{places_long}
use Rattle.text.proofs.Text.counter.Goals as goal

pub returns-clause-long : goal.returns-clause-long
returns-clause-long g c = sym (places_long c.args.self.now)
