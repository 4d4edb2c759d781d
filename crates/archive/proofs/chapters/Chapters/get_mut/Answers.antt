use Rattle.std.proofs.Common.{refl, arith}
use Rattle.std.proofs.lemmas.Grind.{common_steps}
use Rattle.archive.proofs.Lent.{with_later}
use Rattle.archive.proofs.chapters.Chapters.get_mut.Goals as goal

pub returns-else-version-eq0 : goal.returns-else-version-eq0
returns-else-version-eq0 c = (
  (refl, λ d. with_later c.args.self.now c.args.version d c.if-version-eq0.false),
  record { writes_back = tt; value = grind (arith, common_steps) },
)
