-- `why::asked::last_asks` meets its contract. The loop's invariant: some lines were read, and the last of them asks this. Assumes nothing.
use Prim.Native.Nat.{◌-◌}
use lib.ListN.{length}
use Rattle.card.specs.Cards.{Passes}
use Rattle.why.proofs.Asking.{Reading}
use Rattle.why.proofs.asked.last_asks.Given as goal

abbrev pub invariant-loop-at : goal.invariant-loop-at
invariant-loop-at l = (g : Passes l.card) × Reading l.card g l.at l.lines l.last

abbrev pub decreases-loop-at : goal.decreases-loop-at
decreases-loop-at l = length l.card - l.at
