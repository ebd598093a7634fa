-- `print::writing::Pen::decider` meets its contract. Assumes nothing.
use Rattle.print.specs.Writing.{adds_then}
use borrow.Author.Rules.{rules}
use Rattle.print.proofs.writing.Pen.decider.Goals as goal

pub returns-in-Some-Value-clause-adds : goal.returns-in-Some-Value-clause-adds
returns-in-Some-Value-clause-adds c = let end = adds_then c.field.ensures.adds c.text.ensures in search rules
