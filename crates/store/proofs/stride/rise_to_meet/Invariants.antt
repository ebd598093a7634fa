-- The loop's invariant: the way to the target is the way to where the climb has come, then what it passed. The measure is the
-- distance that remains.
use Rattle.layout.specs.Routes.{moves_to}
use Rattle.layout.specs.Legs.{Above}
use Rattle.store.proofs.stride.rise_to_meet.Given as goal

abbrev pub invariant-loop-wind : goal.invariant-loop-wind
invariant-loop-wind l = Above l.s l.a l.at l.wind

abbrev pub decreases-loop-wind : goal.decreases-loop-wind
decreases-loop-wind l = moves_to l.s l.at
