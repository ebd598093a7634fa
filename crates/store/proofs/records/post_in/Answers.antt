use Rattle.layout.specs.Records.{post_n}
use Rattle.store.proofs.records.post_in.Goals as goal

pub returns : goal.returns
unfolding post_n
returns c = c.u16_at.ensures
