-- The measure is the distance that remains: a call for the parent is nearer by one, and so is a call after one leave.
use Rattle.layout.specs.Routes.{moves_to}
use Rattle.store.proofs.moves.+walk.Given as goal

abbrev pub decreases-walk : goal.decreases-walk
decreases-walk l = moves_to l.s.now l.a
