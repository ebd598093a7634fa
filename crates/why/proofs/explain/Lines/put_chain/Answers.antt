-- `why::explain::Lines::put_chain` meets its contract. Assumes nothing.
use Rattle.std.proofs.Common.{sym, ◌∙◌, arith}
use Rattle.why.proofs.Telling.{told_ok}
use Rattle.why.proofs.Chain.{chain_top, chain_stops, chain_goes, put_told, stops_told, parent_told, less_told}
use Rattle.why.proofs.explain.Lines.put_chain.Goals as goal
use Rattle.why.proofs.explain.Lines.put_chain.Goals.{then-n-eq0-via-then-n-eq0, then-n-eq0-via-else-n-eq0+then-stops_at}

pub unwrap-env-requires : goal.unwrap-env-requires
unwrap-env-requires c = told_ok c.requires.0 c.loop-n.invariant.made c.tell.result c.tell.ensures

pub returns-then-n-eq0 : goal.returns-then-n-eq0
returns-then-n-eq0 c =
    let sound = c.requires.0 in
    let was = c.loop-n.invariant in
    let env = c.unwrap-env.result in
    let told = rw c.unwrap-env.ensures at c.tell.ensures in
    let put = put_told sound was.made env told c.put_env.ensures.wrote in
    let up = parent_told sound was.made env told c.parent_of-next.ensures in
    elim c.then-n-eq0.branch [
      | then-n-eq0-via-then-n-eq0 w ↦ chain_top sound was put c.put_env.ensures.upper_bound w.if-n-eq0.true _ up
      | then-n-eq0-via-else-n-eq0+then-stops_at w ↦ chain_stops sound was put c.put_env.ensures.upper_bound (omega (arith, w.if-n-eq0.false))
          (sym (stops_told sound was.made env told c.args.x w.stops_at.ensures) ∙ w.if-stops_at.true) _ up
    ]

pub loop-n-smaller : goal.loop-n-smaller
loop-n-smaller c =
    let told = rw c.unwrap-env.ensures at c.tell.ensures in
    less_told c.requires.0 c.loop-n.invariant.made c.unwrap-env.result told c.parent_of-next.ensures (omega (arith, c.if-n-eq0.false))

pub loop-n-preserved : goal.loop-n-preserved
loop-n-preserved c =
    let sound = c.requires.0 in
    let was = c.loop-n.invariant in
    let env = c.unwrap-env.result in
    let told = rw c.unwrap-env.ensures at c.tell.ensures in
    chain_goes sound was (put_told sound was.made env told c.put_env.ensures.wrote) c.put_env.ensures.upper_bound (omega (arith, c.if-n-eq0.false))
    (sym (stops_told sound was.made env told c.args.x c.stops_at.ensures) ∙ c.if-stops_at.false) _ (parent_told sound was.made env told c.parent_of-next.ensures)
