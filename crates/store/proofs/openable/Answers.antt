-- `openable` answers both ways: each test that fails refutes its clause; where none fails, all of them hold. Assumes nothing.
use Prim.Native.Nat.{ℕ, ◌<◌}
use native.Mathlib.Omega.{arith}
use borrow.Author.Tests.{ltb-false}
use Rattle.layout.specs.Records.{ProperCell, top_c}
use Rattle.layout.proofs.CheckLaws.{says_map}
use Rattle.promises.specs.Promises.{Openable}
use Rattle.store.proofs.openable.Goals as goal

pub tops_ok-requires : goal.tops_ok-requires
tops_ok-requires c = (omega (arith, ltb-false), omega arith)

pub returns : goal.returns
returns c =
    let v = c.args.v in
    let tops = c.args.tops.now in
    let all : ((x : ℕ) → x < v → ProperCell (top_c tops x)) → Openable v c.args.n tops c.args.s.now = λ h. record {
      fits = record {
        vars_low = omega arith;
        vars_high = omega (arith, ltb-false);
        room_low = omega arith;
        room_high = omega (arith, ltb-false);
        tops_long = omega arith;
      };
      proper = h;
      long = omega arith;
    } in
    let only : Openable v c.args.n tops c.args.s.now → (x : ℕ) → x < v → ProperCell (top_c tops x) = λ o. o.proper in
    says_map c.tops_ok.result all only c.tops_ok.ensures
