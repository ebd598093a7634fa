-- `why::explain::Lines::put_behind` meets its contract. Assumes nothing.
use Rattle.std.proofs.Common.{arith}
use Rattle.why.proofs.Telling.{told_ok}
use Rattle.why.proofs.Chain.{shadowing_ends, shadowing_goes, put_told_behind, parent_told, less_told}
use Rattle.why.proofs.explain.Lines.put_behind.Goals as goal

pub unwrap-env-requires : goal.unwrap-env-requires
unwrap-env-requires c = told_ok c.requires.0 c.loop-n.invariant.made c.tell.result c.tell.ensures

pub loop-n-smaller : goal.loop-n-smaller
loop-n-smaller c =
    let told = rw c.unwrap-env.ensures at c.tell.ensures in
    less_told c.requires.0 c.loop-n.invariant.made c.unwrap-env.result told c.parent_of-n.ensures (omega (arith, c.loop-n-test.true))

pub loop-n-preserved : goal.loop-n-preserved
loop-n-preserved c =
    let sound = c.requires.0 in
    let was = c.loop-n.invariant in
    let env = c.unwrap-env.result in
    let told = rw c.unwrap-env.ensures at c.tell.ensures in
    let put = c.put_if_shadowed.ensures in
    shadowing_goes sound was (omega (arith, c.loop-n-test.true)) (put_told_behind sound was.made env told put.wrote) put.upper_bound _
    (parent_told sound was.made env told c.parent_of-n.ensures)

pub returns-clause-wrote : goal.returns-clause-wrote
returns-clause-wrote c = shadowing_ends c.requires.0 c.loop-n.invariant (omega (arith, c.loop-n-test.false))
