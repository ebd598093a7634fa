-- `print::writing::count_places` meets its contract. The loop's invariant: what is counted and what is left make the places of n. Assumes nothing.
use mathlib.Core.Path.{◌≡◌}
use Prim.Native.Nat.{◌+◌, ◌≤◌}
use lib.ListN.{length}
use Rattle.text.specs.Decimal.{decimal}
use Rattle.print.proofs.writing.count_places.Given as goal

abbrev pub invariant-loop-left : goal.invariant-loop-left
invariant-loop-left l = (l.k + length (decimal l.left) ≡ length (decimal l.n)) × (length (decimal l.n) ≤ 10)

abbrev pub decreases-loop-left : goal.decreases-loop-left
decreases-loop-left l = l.left
