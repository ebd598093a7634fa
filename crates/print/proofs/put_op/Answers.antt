-- `print::put_op` meets its contract. Assumes nothing.
use Rattle.print.specs.Printed.{op_line}
use Rattle.print.specs.Writing.{adds_then}
use borrow.Author.Rules.{rules}
use Rattle.print.proofs.put_op.Goals as goal

pub returns-clause-wrote : goal.returns-clause-wrote
unfolding op_line
returns-clause-wrote c =
    let numbered = adds_then c.field.ensures.adds c.field-2.ensures.adds in
    let answered = adds_then (adds_then numbered c.text.ensures) c.answer.ensures.adds in
    let counted = adds_then (adds_then answered c.field-3.ensures.adds) c.field-4.ensures.adds in
    let line = adds_then counted c.decider.ensures.adds in
    search rules
