-- `card::tops::bare` meets its contract. Assumes nothing.
use Rattle.std.proofs.Common.{arith}
use Rattle.std.proofs.lemmas.Grind.{common_steps}
use Rattle.card.specs.Tops.{cell_b}
use Rattle.card.proofs.tops.bare.Goals as goal

pub returns : goal.returns
unfolding cell_b
returns c = grind (arith, common_steps)
