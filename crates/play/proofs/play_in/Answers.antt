-- `play::play_in` meets its contract. Assumes nothing.
use Rattle.play.proofs.play_in.Goals as goal

pub returns-in-Err : goal.returns-in-Err
returns-in-Err g c = c.refuse.ensures _
