use Rattle.std.proofs.Common.{refl}
use Rattle.layout.specs.Records.{stored_n}
use Rattle.store.proofs.records.stored_of.Goals as goal

pub returns : goal.returns
unfolding stored_n
returns c = refl
