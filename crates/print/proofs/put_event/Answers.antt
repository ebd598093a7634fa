-- `print::put_event` meets its contract. Assumes nothing.
use Rattle.print.specs.Printed.{event_line}
use Rattle.print.specs.Writing.{adds_then}
use borrow.Author.Rules.{rules}
use Rattle.print.proofs.put_event.Goals as goal

pub returns-clause-wrote : goal.returns-clause-wrote
unfolding event_line
returns-clause-wrote c = let line = adds_then (adds_then c.field.ensures.adds c.field-2.ensures.adds) c.text.ensures in search rules
