-- Every top cell is asked by its number.
use Rattle.std.proofs.Common.{ℕ, arith, rules}
use Rattle.std.proofs.lemmas.Iterator.{cases_from_all, YieldsList-from_range}
use Rattle.layout.specs.Records.{ProperCell, top_c}
use Rattle.store.proofs.Ranges.{says_all}
use Rattle.store.proofs.check.tops_ok.Goals as goal

pub returns : goal.returns
returns c =
    let v = c.args.v in
    let P : ℕ → Type 0 = λ x. ProperCell (top_c c.args.tops.now x) in
    says_all P v c.all.result (cases_from_all _ _ _ P (λ x. P x → ⊥) c.all.ensures.ran (YieldsList-from_range 0 v v (cc) (omega arith)) (λ x q k. search rules) (λ x q k. search rules))
