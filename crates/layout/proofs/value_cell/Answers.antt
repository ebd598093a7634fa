-- The four bytes are those of the value's bits, the low byte first. Assumes nothing.
use Rattle.std.proofs.lemmas.Int.{to_z-of_z}
use Rattle.std.specs.Int.{w32}
use Rattle.layout.specs.Records.{value_c}
use Rattle.layout.proofs.value_cell.Goals as goal

-- The cell of a value is 1 and then the four bytes of its bits.
-- The bytes that to_le_bytes gives are those of the bits that v has as a 32-bit number.
-- Such a number is v itself, since it fits.
pub returns : goal.returns
unfolding value_c
returns c = rw (c.to_le_bytes.ensures, to_z-of_z w32 c.args.v c.ranges.v)
