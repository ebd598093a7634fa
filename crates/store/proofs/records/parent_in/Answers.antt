use Rattle.layout.specs.Records.{parent_n}
use Rattle.store.proofs.records.parent_in.Goals as goal

pub returns : goal.returns
unfolding parent_n
returns c = c.u16_at.ensures
