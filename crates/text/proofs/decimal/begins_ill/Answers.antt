-- `text::decimal::begins_ill` meets its contract. Assumes nothing.
use Rattle.std.proofs.Common.{rules}
use Rattle.text.proofs.Reading.{begins_empty, begins_alone, begins_zero, begins_other}
use Rattle.text.proofs.decimal.begins_ill.Goals as goal

pub returns-in-empty : goal.returns-in-empty
returns-in-empty c = search (rules, begins_empty)

pub returns-in_default : goal.returns-in_default
returns-in_default c = search (rules, begins_alone)

pub returns-in-empty-2 : goal.returns-in-empty-2
returns-in-empty-2 c = search (rules, begins_zero)

pub returns-in_default-2 : goal.returns-in_default-2
returns-in_default-2 c = search (rules, begins_other)
