-- `print::writing::count_places` meets its contract. The loop's invariant: what is counted and what is left make the places of n. Assumes nothing.
use borrow.Author.Rules.{rules}
use native.Mathlib.Omega.{arith}
use Rattle.print.proofs.Digits.{one_place, more_places, few_places}
use Rattle.print.proofs.writing.count_places.Goals as goal

pub loop-left-init : goal.loop-left-init
loop-left-init c = (search rules, few_places 9 _ (search rules))

pub returns-then-left-eq0 : goal.returns-then-left-eq0
returns-then-left-eq0 c = omega (arith, one_place c.loop-left.left (search rules))

pub loop-left-preserved : goal.loop-left-preserved
loop-left-preserved c = omega (arith, more_places c.loop-left.left (search rules))
