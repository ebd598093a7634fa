-- The high byte of a number below 2^16 is its quotient by 256.
use Rattle.std.proofs.Common.{◌≡◌, ap, arith, ◌+◌, ◌/◌, ◌%◌, slice_set}
use Rattle.layout.specs.Bytes.{put16}
use Rattle.store.proofs.number.put16_at.Goals as goal

pub returns : goal.returns
unfolding put16
returns c =
    let args = c.args in
    let high : args.v / 256 % 256 ≡ args.v / 256 = omega (arith, c.ranges.v.fits) in
    rw c.to_le_bytes.ensures (ap (slice_set (slice_set args.p.now args.o (args.v % 256)) (args.o + 1)) high)
