-- `text::line::read_bound` meets its contract. Assumes nothing.
use Rattle.std.proofs.Common.{refl, arith}
use Rattle.text.specs.Finds.{got}
use Rattle.text.proofs.Operands.{kept}
use Rattle.text.proofs.Pairs.{uncut, first_none, second_none, both}
use Rattle.text.proofs.line.read_bound.Goals as goal

pub returns-in_err-i : goal.returns-in_err-i
returns-in_err-i c = rw c.from_residual.ensures (uncut c.in_err-i.ensures (omega arith))

pub returns-in_err-x : goal.returns-in_err-x
returns-in_err-x c = rw c.from_residual-in_err-x.ensures (first_none c.in_ok-i.ensures.1 c.in_err-x.ensures refl)

pub returns-in_err-v : goal.returns-in_err-v
returns-in_err-v c = rw c.from_residual-in_err-v.ensures (second_none c.in_ok-i.ensures.1 c.in_ok-x.ensures c.in_err-v.ensures refl)

pub returns : goal.returns
returns c = rw (kept c.in_ok-v.v (got c.in_ok-v.ensures refl).range) (both c.in_ok-i.ensures.1 c.in_ok-x.ensures c.in_ok-v.ensures c.in_ok-i.ensures.0 refl refl)
