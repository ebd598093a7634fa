use Rattle.std.proofs.Common.{refl}
use Rattle.layout.specs.Records.{bare_c}
use Rattle.store.proofs.records.bare_of.Goals as goal

pub returns : goal.returns
unfolding bare_c
returns c = refl
