use Rattle.layout.specs.Records.{var_n}
use Rattle.store.proofs.records.var_in.Goals as goal

pub returns : goal.returns
unfolding var_n
returns c = c.u16_at.ensures
