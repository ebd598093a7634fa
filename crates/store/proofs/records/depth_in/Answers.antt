use Rattle.layout.specs.Records.{depth_n}
use Rattle.store.proofs.records.depth_in.Goals as goal

pub returns : goal.returns
unfolding depth_n
returns c = c.u16_at.ensures
