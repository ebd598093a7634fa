-- What is written and what is still to be written make the whole.
use Rattle.std.proofs.Common.{length}
use Rattle.rules.specs.Tree.{path}
use Rattle.layout.specs.View.{view}
use Rattle.why.proofs.Chain.{Shadowing}
use Rattle.why.proofs.explain.Lines.put_behind.Given as goal

abbrev pub invariant-loop-n : goal.invariant-loop-n
invariant-loop-n l = Shadowing l.s l.x l.from l.initial.self l.self l.n

abbrev pub decreases-loop-n : goal.decreases-loop-n
decreases-loop-n l = length (path (view l.s).tree l.n)
