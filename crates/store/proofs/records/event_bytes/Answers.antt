use Rattle.std.proofs.Common.{◌≡◌, ◌<◌, Bool, true, false, refl, arith}
use Rattle.std.specs.Int.{from_bool}
use Rattle.layout.specs.Events.{bit, event_d}
use Rattle.layout.proofs.Bytes.{high_byte}
use Rattle.store.proofs.records.event_bytes.Goals as goal

bit_is : (b : Bool) → from_bool b ≡ bit b
bit_is true = refl
bit_is false = refl

pub returns : goal.returns
unfolding event_d
returns c =
    let e = c.args.e in
    let fits = c.well_formed in
    let t : e.thunk < 65536 = omega arith in
    let p : e.place < 65536 = omega arith in
    rw (c.from.ensures, bit_is e.entering, c.to_le_bytes.ensures, c.to_le_bytes-2.ensures, high_byte e.thunk t, high_byte e.place p)
