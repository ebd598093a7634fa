-- The room is the trace's length over an event's. Assumes nothing.
use mathlib.Core.Path.{refl}
use Rattle.promises.specs.Promises.{room_for}
use Rattle.store.proofs.needs.room.Goals as goal

pub returns-then-t-events : goal.returns-then-t-events
unfolding room_for
returns-then-t-events c = (refl, c.if-t-events.true)

pub returns : goal.returns
unfolding room_for
returns c = c.if-t-events.false
