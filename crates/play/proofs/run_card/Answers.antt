-- `play::run_card` meets its contract. Assumes nothing.
use native.Mathlib.Omega.{arith}
use Rattle.play.proofs.Beginning.{heads_begun}
use Rattle.play.proofs.run_card.Goals as goal

pub run_in-requires : goal.run_in-requires
run_in-requires g c = heads_begun c.requires _ c.in-Some.ensures _ _ _ (omega arith) (omega arith) (omega arith)
