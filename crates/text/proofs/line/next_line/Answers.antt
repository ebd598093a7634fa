-- `text::line::next_line` meets its contract. Assumes nothing.
use Rattle.std.proofs.Common.{refl, arith}
use Rattle.text.proofs.Leading.{no_end, bad_line_lem, good_line}
use Rattle.text.proofs.line.next_line.Goals as goal

pub returns-in_err-i : goal.returns-in_err-i
returns-in_err-i c = rw c.from_residual.ensures (no_end c.in_err-i.ensures (omega arith))

pub returns-in_err-line : goal.returns-in_err-line
returns-in_err-line c = rw c.from_residual-in_err-line.ensures (bad_line_lem c.in_ok-i.ensures.1 c.in_err-line.ensures refl)

pub returns : goal.returns
returns c = good_line c.in_ok-i.ensures.1 c.in_ok-line.ensures c.in_ok-i.ensures.0 refl
