-- `play::play` meets its contract. Assumes nothing.
use Rattle.play.proofs.Stepping.{left_all}
use Rattle.play.proofs.play.Goals as goal

pub returns : goal.returns
returns g c = left_all _ _ c.play_in.result c.play_in.ensures
