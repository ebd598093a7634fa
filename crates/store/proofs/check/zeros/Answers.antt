-- The largest byte is 0 exactly where all of them are.
use Rattle.std.proofs.Common.{◌≡◌, sym, ◌∙◌, max, eqb, fold, rules}
use Rattle.layout.proofs.CheckLaws.{says_map, says_eq, zeros_largest}
use Rattle.store.proofs.check.zeros.Goals as goal

pub returns : goal.returns
returns c =
    let is : c.fold-largest.result ≡ fold max 0 c.args.p.now = search rules in
    let (to, from) = zeros_largest c.args.p.now in
    says_map (eqb c.fold-largest.result 0) (λ e. to (sym is ∙ e)) (λ z. is ∙ from z) (says_eq c.fold-largest.result 0)
