-- Of every node passed it is known that it is as it should be, and how many of them are in; the first that is not refutes the clause.
use Rattle.store.proofs.check.nodes_ok.Goals.{then-not-node_ok-via-then-not-node_ok, then-not-node_ok-via-else-not-node_ok+then-not-rises}
use Rattle.std.proofs.Common.{◌≡◌, sym, ap, ◌∙◌, arith, ℕ, ◌+◌, ◌≤◌, Bool, true, false}
use mir.Val.{bool_byte}
use Rattle.layout.specs.Sound.{Says, NodeOk, depth_above}
use Rattle.layout.specs.Records.{vars, made, kind_n}
use Rattle.layout.specs.Kinds.{is_in}
use Rattle.layout.specs.Fields.{fields_of, nodes}
use Rattle.layout.proofs.Laws.{node_in}
use Rattle.layout.proofs.CheckLaws.{says_yes, says_no, below_more, counted_in, counted_out}
use Rattle.layout.specs.Checks.{mode_f, Counted}
use Rattle.store.proofs.check.nodes_ok.Invariants.{Fine, Passed}
use Rattle.store.proofs.check.nodes_ok.Goals as goal

-- one node more, counted where it is in
one_more : (b : ℕ → Bool) (n k w : ℕ) (t : Bool) → Counted b n k → b n ≡ t → w ≡ bool_byte t → Counted b (n + 1) (k + w)
one_more b n k w true c e q = rw q (counted_in b n k c e)
one_more b n k w false c e q = let same : k + w ≡ k = omega (arith, q) in rw same (counted_out b n k c e)

pub returns-then-not-node_ok : goal.returns-then-not-node_ok
unfolding fields_of
returns-then-not-node_ok c =
    let s = c.args.s.now in
    let n = c.loop-n.n in
    let tested : Says c.node_ok.result (NodeOk (vars s) n (depth_above (fields_of s) n) (nodes s n)) = rw c.vars_of-v.ensures at c.node_ok.ensures in
    λ ok. elim c.then-not-node_ok.branch [
      | then-not-node_ok-via-then-not-node_ok w ↦ says_no c.node_ok.result w.if-not-node_ok.true tested (ok.0 n (omega arith) (omega arith))
      | then-not-node_ok-via-else-not-node_ok+then-not-rises w ↦ w.if-not-rises.ensures (ok.1 n (omega arith) (omega arith))
    ]

pub loop-n-preserved : goal.loop-n-preserved
unfolding fields_of
loop-n-preserved c =
    let s = c.args.s.now in
    let n = c.loop-n.n in
    let (passed, counted) = c.loop-n.invariant in
    let tested : Says c.node_ok.result (NodeOk (vars s) n (depth_above (fields_of s) n) (nodes s n)) = rw c.vars_of-v.ensures at c.node_ok.ensures in
    let mode : is_in (kind_n (nodes s n)) ≡ c.is_in.result = sym (c.is_in.ensures ∙ ap is_in (c.kind_of.ensures ∙ ap kind_n (sym (node_in s n (omega arith))))) in
    let one : Fine s n = (says_yes c.node_ok.result c.if-not-node_ok.false tested, says_yes c.rises.result c.if-not-rises.false c.rises.ensures) in
    let more : Passed s (n + 1) = λ k l h. below_more (λ (j : ℕ). 1 ≤ j → Fine s j) n (λ j i o. passed j o i) (λ _. one) k h l in
    (more, one_more (mode_f (fields_of s)) n c.loop-n.ins c.from-ins.result c.is_in.result counted mode c.from-ins.ensures)

pub returns : goal.returns
unfolding fields_of
returns c =
    let s = c.args.s.now in
    let (passed, counted) = c.loop-n.invariant in
    let end : c.loop-n.n ≡ made s = omega arith in
    ((λ k l h. (passed k l (omega arith)).0, λ k l h. (passed k l (omega arith)).1), rw end at counted)
