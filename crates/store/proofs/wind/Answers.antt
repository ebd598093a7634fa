-- `wind` keeps its promise: refused row by row, else the bytes are those of a new wind and its event. Assumes nothing.
use native.Mathlib.Omega.{arith}
use Rattle.promises.specs.Promises.{room_for}
use Rattle.store.proofs.Keeps.{handed_on, wind_damaged, wind_walking, wind_full, wind_no_room, wind_done}
use Rattle.store.proofs.wind.Goals as goal

pub returns-in_err-sound : goal.returns-in_err-sound
returns-in_err-sound c = let (e, applies) = c.in_err-sound.ensures in rw (handed_on c.from_residual.result c.from_residual.ensures e) (wind_damaged _ _ _ _ applies)

pub returns-in_err-rest : goal.returns-in_err-rest
returns-in_err-rest c = let (e, applies) = c.in_err-rest.ensures in rw (handed_on c.from_residual-in_err-rest.result c.from_residual-in_err-rest.ensures e) (wind_walking _ _ _ _ c.in_ok-sound.ensures applies)

pub returns-in_err-space : goal.returns-in_err-space
returns-in_err-space c = let (e, applies) = c.in_err-space.ensures in rw (handed_on c.from_residual-in_err-space.result c.from_residual-in_err-space.ensures e) (wind_full _ _ _ _ c.in_ok-sound.ensures c.in_ok-rest.ensures applies)

pub returns-in_err-room : goal.returns-in_err-room
returns-in_err-room c = let (e, applies) = c.in_err-room.ensures in rw (handed_on c.from_residual-in_err-room.result c.from_residual-in_err-room.ensures e) (wind_no_room _ _ _ _ c.in_ok-sound.ensures c.in_ok-rest.ensures c.in_ok-space.ensures applies)

pub wind_at-requires-clause-event_size_in_bounds : goal.wind_at-requires-clause-event_size_in_bounds
unfolding room_for
wind_at-requires-clause-event_size_in_bounds c = omega (arith, c.in_ok-room.ensures)

pub returns : goal.returns
returns c =
    let e = c.wind_at.ensures in
    rw (e.value, e.s_after.0, e.s_after.1) (wind_done _ _ _ _ c.in_ok-sound.ensures c.in_ok-rest.ensures c.in_ok-space.ensures c.in_ok-room.ensures)
