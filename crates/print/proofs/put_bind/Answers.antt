-- `print::put_bind` meets its contract. Assumes nothing.
use Rattle.print.specs.Explaining.{bind_line}
use Rattle.print.specs.Writing.{adds_then}
use borrow.Author.Rules.{rules}
use Rattle.print.proofs.put_bind.Goals as goal

pub returns-clause-wrote : goal.returns-clause-wrote
unfolding bind_line
returns-clause-wrote c = let line = adds_then (adds_then (adds_then (adds_then c.field.ensures.adds c.field-2.ensures.adds) c.text.ensures) c.answer.ensures.adds) c.text-2.ensures in search rules
