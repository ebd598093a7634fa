use Rattle.layout.specs.Made.{next_of}
use Rattle.store.proofs.made.next_of.Goals as goal

pub returns : goal.returns
unfolding next_of
returns c = c.made_of.ensures
