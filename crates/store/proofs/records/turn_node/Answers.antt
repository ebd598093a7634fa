use Rattle.std.proofs.Common.{refl}
use Rattle.layout.specs.Records.{turn_n}
use Rattle.store.proofs.records.turn_node.Goals as goal

pub returns : goal.returns
unfolding turn_n
returns c = refl
