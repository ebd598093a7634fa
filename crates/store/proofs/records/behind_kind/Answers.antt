-- The part from the second byte on.
use Rattle.std.proofs.Common.{drop, length-drop, arith}
use Rattle.std.proofs.Math.Seq.{take_all}
use Rattle.store.proofs.records.behind_kind.Goals as goal

pub returns : goal.returns
returns c =
    let p = c.args.p.now in
    take_all 13 (drop 1 p) (simp length-drop (omega (arith, c.told-p)))
