-- The walk to the target, and both numbers of the header are none again.
use Rattle.layout.proofs.LegLaws.{moved_over}
use Rattle.store.proofs.stride.arrive.Goals as goal

pub returns-clause-moved : goal.returns-clause-moved
returns-clause-moved c = rw c.end.ensures (moved_over _ _ _ c.go-step.ensures.moved)
