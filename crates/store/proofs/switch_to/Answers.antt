-- `switch_to` keeps what goto and back share: the survey counts what tell writes and what the walk moves. Assumes nothing.
use native.Mathlib.Omega.{arith}
use Rattle.layout.proofs.RouteLaws.{few_moves, few_events}
use Rattle.promises.specs.Promises.{room_for}
use Rattle.store.proofs.Keeps.{handed_on, switch_no_room, switch_done}
use Rattle.store.proofs.switch_to.Goals as goal

pub returns-in_err-room : goal.returns-in_err-room
returns-in_err-room c =
    let (e, applies) = c.in_err-room.ensures in
    rw (handed_on c.from_residual.result c.from_residual.ensures e) (switch_no_room _ _ _ (rw c.survey-way.ensures.1.1 at applies))

pub tell-requires-clause-events_in_bounds : goal.tell-requires-clause-events_in_bounds
unfolding room_for
tell-requires-clause-events_in_bounds c = omega (arith, c.in_ok-room.ensures)

pub shape_of-s : goal.shape_of-s
shape_of-s c = c.walk.ensures.kept.size.long

pub shape_of-t : goal.shape_of-t
shape_of-t c = c.tell.auto.t

pub returns : goal.returns
returns c =
    let (ok, (out, made)) = c.requires in
    let way = c.survey-way.ensures in
    rw (way.1.0, way.1.1, c.tell.ensures) (switch_done _ _ _ ok out made (rw way.1.1 at c.in_ok-room.ensures) c.walk.ensures)

pub overflow_cast-result : goal.overflow_cast-result
overflow_cast-result c =
    record { fits = omega (arith, c.survey-way.ensures.1.0, few_moves _ c.requires.0.whole c.args.a) }

pub overflow_cast-result-2 : goal.overflow_cast-result-2
overflow_cast-result-2 c =
    record { fits = omega (arith, c.survey-way.ensures.1.1, few_events _ c.requires.0.whole c.args.a) }
