-- What is handed on behind the card's own output is the rest of the whole. Assumes nothing.
use mathlib.Core.Path.{◌≡◌, sym, subst}
use mathlib.Core.List.{List, ◌++◌}
use Prim.Native.Nat.{ℕ, ◌+◌, ◌≤◌, ◌<◌}
use native.Mathlib.Omega.{arith}
use lib.ListN.{length, take}
use Rattle.std.specs.Prelude.{Result, Ok}
use Rattle.play.specs.Steps.{AllLeft}
use Rattle.play.proofs.Texts.{line_long, front}
use Rattle.why.specs.Asking.{peek, Asks}
use Rattle.why.specs.Explained.{Explains}
use Rattle.why.specs.Saying.{Says, reasons, Ends}

pub answer_ends : {E : Type 0} (card s : List ℕ) (r : Result ℕ E) (m a x : ℕ) {out out' : List ℕ} {k : ℕ} → Asks card (peek a x) → r ≡ Ok m → AllLeft card s r
    → Explains s a x out out' k → k ≤ 196704 → Ends card m (take k out') × (m + length (take k out') < 18446744073709551616)
answer_ends {E} card s r m a x {out} {out'} {k} asks e all f h = go (subst (AllLeft card s) e all)
  where
    go : AllLeft {E = E} card s (Ok m) → Ends card m (take k out') × (m + length (take k out') < 18446744073709551616)
    go (text, leaves, count, few) = (
      record {
        before = text;
        place = sym count;
        says = subst (λ (t : List ℕ). Says card (text ++ t)) (sym (front f.wrote)) (reasons a x f.answer asks leaves f.peeked);
      },
      omega (arith, few, h, line_long f.wrote),
    )
