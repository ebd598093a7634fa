-- `survey` meets its contract: the two climbs together have the switch's moves and events.
use native.Mathlib.Omega.{arith}
use Rattle.layout.proofs.RouteLaws.{meeting_on_way, few_moves, few_events}
use Rattle.store.proofs.trace.survey.Goals as goal

pub rise_to-back-requires : goal.rise_to-back-requires
rise_to-back-requires c = let (ok, made) = c.requires in (ok, rw c.rise_out-out.ensures.1 (meeting_on_way _ ok _ made))

pub overflow_add-result : goal.overflow_add-result
overflow_add-result c =
    omega (arith, c.rise_out-out.ensures.0.moved, few_moves _ c.requires.0 c.args.a)

pub overflow_add-result-2 : goal.overflow_add-result-2
overflow_add-result-2 c =
    omega (arith, c.rise_out-out.ensures.0.told, few_events _ c.requires.0 c.args.a)
