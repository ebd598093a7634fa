use Rattle.std.proofs.Common.{refl, arith}
use Rattle.layout.specs.Made.{IsMade}
use Rattle.store.proofs.made.environment.Goals as goal

pub returns-then-a-from : goal.returns-then-a-from
unfolding IsMade
returns-then-a-from c = (refl, omega (arith, c.made_of.ensures))

pub returns-else-a-from : goal.returns-else-a-from
unfolding IsMade
returns-else-a-from c = λ made. omega (arith, c.made_of.ensures)
