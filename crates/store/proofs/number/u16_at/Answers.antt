use Rattle.std.proofs.Common.{arith}
use Rattle.layout.specs.Bytes.{u16}
use Rattle.store.proofs.number.u16_at.Goals as goal

pub returns : goal.returns
unfolding u16
returns c = omega (arith, c.from_le_bytes.ensures)
