use Rattle.layout.specs.Made.{IsMade}
use Rattle.layout.proofs.CheckLaws.{says_lt}
use Rattle.store.proofs.made.is_made.Goals as goal

pub returns : goal.returns
unfolding IsMade
returns c = rw (← c.made_of.ensures) (says_lt c.args.a c.made_of.result)
