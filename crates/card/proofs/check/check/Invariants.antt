-- `card::check::check` meets its contract. The loop's invariant: the verdict on the rest is the verdict on the whole. Assumes nothing.
use Prim.Native.Nat.{◌-◌, ◌≤◌}
use lib.ListN.{length, drop}
use Rattle.std.specs.Prelude.{Result}
use Rattle.card.specs.declared.check.BadLine.{BadLine}
use Rattle.card.specs.Judging.{Judged, Follow}
use Rattle.card.proofs.check.check.Given as goal

abbrev pub invariant-loop-at : goal.invariant-loop-at
invariant-loop-at l = (l.at ≤ length l.card) × (l.lines ≤ l.at) × ((r : Result (Unit {0}) BadLine) → Judged (Follow l.lines l.ops) (drop l.at l.card) l.lines r → Judged (Follow 0 3) l.card 0 r)

abbrev pub decreases-loop-at : goal.decreases-loop-at
decreases-loop-at l = length l.card - l.at
