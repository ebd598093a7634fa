-- `print::writing::put_digits` meets its contract. The loop's invariant: the digits of the rest, still to be written, and what is written behind them make the whole. Assumes nothing.
use mathlib.Core.Path.{◌≡◌}
use Prim.Native.Nat.{◌≤◌}
use lib.ListN.{length}
use Rattle.text.specs.Decimal.{decimal}
use Rattle.print.proofs.Buffer.{finished}
use Rattle.print.proofs.writing.put_digits.Given as goal

abbrev pub invariant-loop-rest : goal.invariant-loop-rest
invariant-loop-rest l = (l.p ≡ length (decimal l.rest)) × (l.p ≤ length l.out) × (finished l.out (decimal l.rest) ≡ decimal l.n)

abbrev pub decreases-loop-rest : goal.decreases-loop-rest
decreases-loop-rest l = l.rest
