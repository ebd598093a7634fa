-- The loop's invariant: the two climbs are equally deep, and what was passed and what is left are together the distance of a and b.
-- The measure is what is left.
use Rattle.layout.specs.Routes.{moves_from}
use Rattle.layout.proofs.FarLaws.{Nearing}
use Rattle.store.proofs.apart.passed.Given as goal

abbrev pub invariant-loop-at : goal.invariant-loop-at
invariant-loop-at l = Nearing l.s l.a l.b l.at l.to l.n

abbrev pub decreases-loop-at : goal.decreases-loop-at
decreases-loop-at l = moves_from l.s l.at l.to
