-- `why::asked::asked` meets its contract. Assumes nothing.
use Rattle.std.proofs.Common.{◌≡◌, refl, arith}
use Rattle.std.proofs.lemmas.Grind.{common_steps}
use Rattle.why.specs.Asking.{bad, stopped}
use Rattle.why.proofs.asked.asked.Goals as goal

pub last_asks-requires : goal.last_asks-requires
last_asks-requires c = c.in_ok-check.ensures.good refl

pub returns-in_err-check : goal.returns-in_err-check
returns-in_err-check c =
    let e : c.from_residual.result ≡ bad c.in_err-check.field-0.0.0 = grind (arith, common_steps) in
    rw e (stopped _ (c.in_err-check.ensures.bad refl))
