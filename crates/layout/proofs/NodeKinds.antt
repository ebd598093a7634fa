-- What is proved of specs/Kinds.antt, whose head says it in words. Assumes nothing.
use Rattle.std.specs.Prelude.{◌≡◌, refl, not, ℕ, zero, suc, ◌≤◌, ◌<◌}
use Rattle.std.proofs.Common.{inl, inr}
use native.Mathlib.Omega.{arith}
use borrow.Author.Tests.{le-leb, lt-leb}
use Rattle.layout.specs.Kinds.{IsBinding, IsWind, IsNode, by_kind, is_in, is_out, Node, binding_out, binding_in, wind_out, wind_in}

module _ {A : Type 0} (k : ℕ) (b w t o : A) where
  pub kind_binding : IsBinding k → by_kind k b w t o ≡ b
  unfolding by_kind
  kind_binding (l, h) = simp (le-leb _ _ l, le-leb _ _ h)

  pub kind_wind : IsWind k → by_kind k b w t o ≡ w
  unfolding by_kind
  kind_wind (l, h) =
      let l2 : 2 ≤ k = omega arith in
      let h2 : 3 < k = omega arith in
      simp (le-leb _ _ l, le-leb _ _ l2, lt-leb _ _ h2, le-leb _ _ h)

pub kind_node : {A : Type 0} (k : ℕ) (b t o : A) → IsNode k → by_kind k b b t o ≡ b
kind_node k b t o (inl is) = kind_binding k b b t o is
kind_node k b t o (inr is) = kind_wind k b b t o is

-- the kinds of nodes lie between these
pub node_low : (k : ℕ) → IsNode k → 2 ≤ k
node_low k (inl is) = is.0
node_low k (inr is) = omega arith

pub node_high : (k : ℕ) → IsNode k → k ≤ 5
node_high k (inl is) = omega arith
node_high k (inr is) = is.1

-- no kind is both
pub not_both : {k : ℕ} → IsBinding k → IsWind k → ⊥
not_both b w = omega arith

pub node_kind : (k : ℕ) → IsNode k → Node k
node_kind k is = go k (node_low k is) (node_high k is)
  where
    go : (k : ℕ) → 2 ≤ k → k ≤ 5 → Node k
    go zero l h = absurd (omega arith)
    go (suc zero) l h = absurd (omega arith)
    go (suc (suc zero)) l h = binding_out
    go (suc (suc (suc zero))) l h = binding_in
    go (suc (suc (suc (suc zero)))) l h = wind_out
    go (suc (suc (suc (suc (suc zero))))) l h = wind_in
    go (suc (suc (suc (suc (suc (suc k)))))) l h = absurd (omega arith)

-- out, of a binding or a wind, is not in
pub out_not_in : (k : ℕ) → Node k → is_out k ≡ not (is_in k)
unfolding is_out is_in
out_not_in _ binding_out = refl
out_not_in _ binding_in = refl
out_not_in _ wind_out = refl
out_not_in _ wind_in = refl
