-- `print::put_bad` meets its contract. Assumes nothing.
use Rattle.text.specs.Decimal.{tens, decimal}
use Rattle.print.specs.Printed.{bad_line}
use Rattle.print.specs.Writing.{adds_then}
use borrow.Author.Rules.{rules}
use Rattle.print.proofs.put_bad.Goals as goal

pub returns-clause-wrote : goal.returns-clause-wrote
unfolding bad_line decimal tens
returns-clause-wrote c = let line = adds_then c.field.ensures.adds c.text.ensures in search rules
