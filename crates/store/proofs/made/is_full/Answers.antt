use Rattle.layout.specs.Made.{IsFull}
use Rattle.layout.proofs.CheckLaws.{says_eq}
use Rattle.store.proofs.made.is_full.Goals as goal

pub returns : goal.returns
unfolding IsFull
returns c = rw (← c.made_of.ensures, ← c.room_of.ensures) (says_eq c.made_of.result c.room_of.result)
