-- The header's part is lent on, and the number written in it.
use Rattle.layout.specs.Bytes.{splice, part}
use Rattle.layout.specs.Records.{with_head, head_of}
use Rattle.store.proofs.records.set_head.Goals as goal

pub returns : goal.returns
unfolding with_head head_of splice part
returns c = rw c.put16_at.ensures
