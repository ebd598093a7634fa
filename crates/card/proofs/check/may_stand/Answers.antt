-- `card::check::may_stand` meets its contract. Assumes nothing.
use Rattle.std.proofs.Common.{arith}
use Rattle.std.proofs.lemmas.Grind.{common_steps}
use Rattle.std.proofs.lemmas.Bool.Decides.{nat_tests}
use Rattle.card.proofs.check.may_stand.Goals as goal

pub returns-in-Top : goal.returns-in-Top
returns-in-Top c = rw c.in-Top.is (grind (arith, nat_tests, common_steps))
