-- `report::over_card` meets its contract. Assumes nothing.
use Rattle.std.proofs.Common.{rules, ◌≡◌, ℕ, Result, Ok, Err}
use Rattle.std.specs.Prelude.{MatchResult, IsErrAnd}
use Rattle.std.specs.declared.io.Error.{Error}
use Rattle.report.specs.declared.Failure.{Failure}
use Rattle.report.specs.declared.Failure.TheVariants.{Write}
use Rattle.report.proofs.over_card.Goals as goal

-- what the work answered, from what is answered of it
answered : {n : ℕ} (r : Result ℕ Error) {q : Result ℕ Failure} → MatchResult r (λ x. q ≡ Ok x) (λ e. IsErrAnd q (λ d. d ≡ Write e)) → q ≡ Ok n → r ≡ Ok n
answered (Ok x) h e = cc
answered (Err x) {q = Ok y} h e = absurd h
answered (Err x) {q = Err y} h e = absurd cc

failed : {e : Error} (r : Result ℕ Error) {q : Result ℕ Failure} → MatchResult r (λ x. q ≡ Ok x) (λ e. IsErrAnd q (λ d. d ≡ Write e)) → q ≡ Err (Write e) → r ≡ Err e
failed (Ok x) h e = absurd cc
failed (Err x) {q = Ok y} h e = absurd h
failed (Err x) {q = Err y} h e = cc

pub returns-clause-done : goal.returns-clause-done
returns-clause-done g c = λ n e. (_, _, _, rw (answered c.work.result c.map_err-2.ensures.cases e) at c.work.ensures, search rules)

pub returns-clause-lost : goal.returns-clause-lost
returns-clause-lost g c = λ e h. (_, _, _, rw (failed c.work.result c.map_err-2.ensures.cases h) at c.work.ensures, search rules)
