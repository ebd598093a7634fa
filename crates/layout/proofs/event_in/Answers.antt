-- The event's fields are the bytes that its definition names. Assumes nothing.
use Rattle.std.proofs.Common.{◌≡◌, arith, nat_eq, slice_index_or}
use Rattle.layout.specs.Events.{event_in}
use Rattle.layout.specs.Bytes.{u16}
use Rattle.layout.proofs.event_in.Goals as goal

pub returns : goal.returns
unfolding event_in u16
returns c =
    let thunk : c.from_le_bytes.result ≡ u16 c.args.p 1 = omega (arith, c.from_le_bytes.ensures) in
    let place : c.from_le_bytes-2.result ≡ u16 c.args.p 3 = omega (arith, c.from_le_bytes-2.ensures) in
    λ i. record { entering = nat_eq (slice_index_or c.args.p 0 0) 1; thunk = thunk i; place = place i }
