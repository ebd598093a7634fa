-- The chunk with the number x behind the header is the cell's record.
use Rattle.std.proofs.Common.{[], arith}
use Rattle.layout.proofs.Bytes.{seen_chunk}
use Rattle.layout.specs.Limits.{header, cell_size}
use Rattle.layout.specs.Records.{cell_of}
use Rattle.store.proofs.records.cell.Goals as goal

pub returns : goal.returns
unfolding cell_of
returns c = rw (c.as_chunks.ensures.front, c.from.ensures) (seen_chunk c.args.s.now header cell_size _ c.args.x [] (omega arith))
