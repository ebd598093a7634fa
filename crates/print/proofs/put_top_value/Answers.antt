-- `print::put_top_value` meets its contract. Assumes nothing.
use Rattle.print.specs.Explaining.{top_value_line}
use Rattle.print.specs.Writing.{adds_then}
use borrow.Author.Rules.{rules}
use Rattle.print.proofs.put_top_value.Goals as goal

pub returns-clause-wrote : goal.returns-clause-wrote
unfolding top_value_line
returns-clause-wrote c = let line = adds_then (adds_then c.text.ensures c.answer.ensures.adds) c.text-2.ensures in search rules
