-- The parent first, then the depth, then by the kind: a binding, a wind, or no node.
use Rattle.store.proofs.check.node_ok.Goals.{then-n-up-via-then-n-up, then-n-up-via-else-n-up+then-from}
use Rattle.std.proofs.Common.{◌≡◌, sym, ap, subst, ◌∙◌, arith, ℕ, List, Bool, true, false, inl, inr, ◌<◌, suc}
use Rattle.layout.specs.Records.{room, ProperCell, blank_cell, node_of, kind_n, parent_n, var_n, post_n, stored_n, depth_n}
use Rattle.layout.specs.Kinds.{IsBinding, IsWind}
use Rattle.layout.proofs.NodeKinds.{not_both, node_low, node_high}
use Rattle.layout.specs.Fields.{fields_of, nodes}
use Rattle.layout.specs.Sound.{Says, NodeOk, depth_above}
use Rattle.layout.proofs.Laws.{node_in}
use Rattle.store.proofs.check.node_ok.Goals as goal

module _ (v n d : ℕ) (p : List ℕ) (up : parent_n p < n) (deep : depth_n p ≡ suc d) where
  binding : (b : Bool) → IsBinding (kind_n p) → Says b ((var_n p < v) × ((post_n p ≡ 0) × ProperCell (stored_n p))) → Says b (NodeOk v n d p)
  binding true is q = record {
    node = inl is;
    parent = up;
    depth = deep;
    var = λ _. q.0;
    zero = λ _. q.1.0;
    stored = λ _. q.1.1;
    still = λ k. absurd (not_both is k);
  }
  binding false is q = λ ok. q (ok.var is, (ok.zero is, ok.stored is))

  wind : (b : Bool) → IsWind (kind_n p) → Says b (stored_n p ≡ blank_cell) → Says b (NodeOk v n d p)
  wind true is q = record {
    node = inr is;
    parent = up;
    depth = deep;
    var = λ k. absurd (not_both k is);
    zero = λ k. absurd (not_both k is);
    stored = λ k. absurd (not_both k is);
    still = λ _. q;
  }
  wind false is q = λ ok. q (ok.still is)

-- the parent's depth, read from its record
over : (s : List ℕ) (n u : ℕ) → u < room s → parent_n (nodes s n) ≡ u → depth_above (fields_of s) n ≡ depth_n (node_of s u)
unfolding fields_of
over s n u l e = ap (λ (m : ℕ). depth_n (nodes s m)) e ∙ ap depth_n (node_in s u l)

pub returns-then-n-up : goal.returns-then-n-up
returns-then-n-up c =
    let s = c.args.s.now in
    let n = c.args.n in
    let read : nodes s n ≡ c.node-p.result.now = node_in s n (omega arith) ∙ sym c.node-p.ensures in
    let up : parent_n (nodes s n) ≡ c.parent_in-up.result = ap parent_n read ∙ sym c.parent_in-up.ensures in
    λ h. elim c.then-n-up.branch [
      | then-n-up-via-then-n-up w ↦ omega (arith, h.parent, up, w.if-n-up.true)
      | then-n-up-via-else-n-up+then-from w ↦
          let above = over s n _ (omega arith) up in
          let depth = ap depth_n read ∙ sym w.depth_in.ensures in
          omega (arith, h.depth, above, depth, w.depth_of.ensures, w.from.ensures, w.from-else-n-up.ensures, w.if-from.true)
    ]

pub returns-in-2-to-3 : goal.returns-in-2-to-3
returns-in-2-to-3 c =
    let s = c.args.s.now in
    let n = c.args.n in
    let read : nodes s n ≡ c.node-p.result.now = node_in s n (omega arith) ∙ sym c.node-p.ensures in
    let up : parent_n (nodes s n) ≡ c.parent_in-up.result = ap parent_n read ∙ sym c.parent_in-up.ensures in
    let above = over s n _ (omega arith) up in
    let depth : depth_n (nodes s n) ≡ c.depth_in.result = ap depth_n read ∙ sym c.depth_in.ensures in
    let kind : c.kind_in.result ≡ kind_n (nodes s n) = c.kind_in.ensures ∙ ap kind_n (sym read) in
    binding c.args.v n _ _ (omega (arith, up)) (omega (arith, above, depth, c.depth_of.ensures)) c.binding_ok.result (omega (arith, kind)) (rw read c.binding_ok.ensures)

pub returns-in-4-to-5 : goal.returns-in-4-to-5
returns-in-4-to-5 c =
    let s = c.args.s.now in
    let n = c.args.n in
    let read : nodes s n ≡ c.node-p.result.now = node_in s n (omega arith) ∙ sym c.node-p.ensures in
    let up : parent_n (nodes s n) ≡ c.parent_in-up.result = ap parent_n read ∙ sym c.parent_in-up.ensures in
    let above = over s n _ (omega arith) up in
    let depth : depth_n (nodes s n) ≡ c.depth_in.result = ap depth_n read ∙ sym c.depth_in.ensures in
    let kind : c.kind_in.result ≡ kind_n (nodes s n) = c.kind_in.ensures ∙ ap kind_n (sym read) in
    let stored = c.stored_of.ensures ∙ ap stored_n (sym read) in
    wind c.args.v n _ _ (omega (arith, up)) (omega (arith, above, depth, c.depth_of.ensures)) c.blank.result (omega (arith, kind)) (subst (λ (d : List ℕ). Says c.blank.result (d ≡ blank_cell)) stored c.blank.ensures)

pub returns-in_default : goal.returns-in_default
returns-in_default c =
    let kind = c.kind_in.ensures ∙ ap kind_n (c.node-p.ensures ∙ sym (node_in c.args.s.now c.args.n (omega arith))) in
    λ ok. omega (arith, kind, node_low _ ok.node, node_high _ ok.node)

pub returns-in_default-2 : goal.returns-in_default-2
returns-in_default-2 c =
    let kind = c.kind_in.ensures ∙ ap kind_n (c.node-p.ensures ∙ sym (node_in c.args.s.now c.args.n (omega arith))) in
    λ ok. omega (arith, kind, node_low _ ok.node, node_high _ ok.node)
