-- `rise_out` meets its contract. The loop's invariant: what lies behind the climb and what remains are together what the
-- target has. The measure is the distance that remains.
use Rattle.layout.specs.Routes.{moves_to, Climbing}
use Rattle.store.proofs.trace.rise_out.Given as goal

abbrev pub invariant-loop-moves : goal.invariant-loop-moves
invariant-loop-moves l = Climbing l.s l.a l.at l.moves l.events

abbrev pub decreases-loop-moves : goal.decreases-loop-moves
decreases-loop-moves l = moves_to l.s l.at
