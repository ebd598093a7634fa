-- The kind is 1 and the other bytes are zero just where the node is the top's.
use Rattle.std.proofs.Common.{◌≡◌, sym, subst, ◌∙◌, List, ℕ, length, replicate, arith, eqb}
use Rattle.layout.specs.Limits.{node_size}
use Rattle.layout.specs.Sound.{Says}
use Rattle.layout.proofs.RecordLaws.{top_bytes, bytes_top}
use Rattle.layout.proofs.CheckLaws.{says_map, says_eq}
use Rattle.store.proofs.check.top_ok.Goals as goal

pub returns-then-kind_in-eq1 : goal.returns-then-kind_in-eq1
returns-then-kind_in-eq1 c =
    let p = c.args.p.now in
    let r = c.zeros.result in
    let long : length p ≡ node_size = omega arith in
    let rest = subst (λ (q : List ℕ). Says r (q ≡ replicate (length q) 0)) c.behind_kind.ensures c.zeros.ensures in
    says_map r (top_bytes p long (sym c.kind_in.ensures ∙ c.if-kind_in-eq1.true)) (λ e. (bytes_top p e).1) rest

pub returns-else-kind_in-eq1 : goal.returns-else-kind_in-eq1
returns-else-kind_in-eq1 c =
    says_map (eqb c.kind_in.result 1) (λ e. absurd (c.if-kind_in-eq1.false e)) (λ e. c.kind_in.ensures ∙ (bytes_top _ e).0) (says_eq c.kind_in.result 1)
