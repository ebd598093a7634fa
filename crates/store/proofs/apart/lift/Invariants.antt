-- The loop's invariant: the climb has come to an environment that is still d deep or deeper, and so much nearer to all that are no
-- deeper. The measure is its depth.
use Prim.Native.Nat.{◌≤◌}
use Rattle.layout.specs.Lifts.{depth_at, Lifted}
use Rattle.store.proofs.apart.lift.Given as goal

abbrev pub invariant-loop-at : goal.invariant-loop-at
invariant-loop-at l = Lifted l.s l.a (depth_at l.s l.at) l.at × (l.d ≤ depth_at l.s l.at)

abbrev pub decreases-loop-at : goal.decreases-loop-at
decreases-loop-at l = depth_at l.s l.at
