-- `print::writing::Pen::field` meets its contract. Assumes nothing.
use Rattle.print.specs.Writing.{adds_then}
use Rattle.print.proofs.writing.Pen.field.Goals as goal

pub returns-clause-adds : goal.returns-clause-adds
returns-clause-adds c = adds_then c.text.ensures c.natural.ensures.adds
