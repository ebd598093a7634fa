-- `print::put_wind` meets its contract. Assumes nothing.
use Rattle.print.specs.Explaining.{wind_line}
use Rattle.print.specs.Writing.{adds_then}
use borrow.Author.Rules.{rules}
use Rattle.print.proofs.put_wind.Goals as goal

pub returns-clause-wrote : goal.returns-clause-wrote
unfolding wind_line
returns-clause-wrote c = let line = adds_then (adds_then (adds_then c.field.ensures.adds c.field-2.ensures.adds) c.field-3.ensures.adds) c.text.ensures in search rules
