use Rattle.std.proofs.Common.{refl}
use Rattle.layout.specs.Records.{stored_n, swap_n}
use Rattle.store.proofs.records.swap_node.Goals as goal

pub returns : goal.returns
unfolding stored_n swap_n
returns c = (refl, refl)
