use Rattle.std.proofs.Common.{refl}
use Rattle.layout.specs.Records.{kind_n}
use Rattle.store.proofs.records.kind_in.Goals as goal

pub returns : goal.returns
unfolding kind_n
returns c = refl
