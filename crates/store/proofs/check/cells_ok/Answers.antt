-- Every cell is asked by its number.
use Rattle.std.proofs.Common.{ℕ, ◌<◌, arith, rules}
use Rattle.std.proofs.lemmas.Iterator.{cases_from_all, YieldsList-from_range}
use Rattle.layout.specs.Records.{vars, ProperCell, bare_c, cell_of}
use Rattle.layout.specs.Fields.{fields_of}
use Rattle.layout.specs.Sound.{Says}
use Rattle.layout.proofs.Laws.{cell_in}
use Rattle.layout.proofs.CheckLaws.{says_map}
use Rattle.store.proofs.Ranges.{says_all}
use Rattle.store.proofs.check.cells_ok.Goals as goal

pub returns : goal.returns
unfolding fields_of
returns c =
    let s = c.args.s.now in
    let v = c.vars_of.result in
    let P : ℕ → Type 0 = λ x. ProperCell (bare_c (cell_of s x)) in
    let told : Says c.all.result ((x : ℕ) → x < v → P x) = says_all P v c.all.result (cases_from_all _ _ _ P (λ x. P x → ⊥) c.all.ensures.ran (YieldsList-from_range 0 v v (cc) (omega arith)) (λ x q k. search rules) (λ x q k. search rules)) in
    says_map c.all.result (λ all x l. rw (cell_in s x (omega arith)) (all x (omega arith))) (λ all x l. let known : x < vars s = omega arith in rw (cell_in s x known) at (all x known)) told
