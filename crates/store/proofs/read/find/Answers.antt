-- What is found is the decider and its own value as peek reads it, which is the deep rule's value.
use Rattle.layout.proofs.Reading.{found_at}
use Rattle.store.proofs.read.find.Goals as goal

pub returns : goal.returns
returns c =
    let (by, made) = c.decider_of-by.ensures in
    let own = c.cell_by-cell.ensures in
    found_at _ c.requires.0 by made own.0 own.1
