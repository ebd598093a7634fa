-- What is proved of specs/Far.antt, whose head says it in words. Assumes nothing.
use Rattle.std.specs.Prelude.{◌≡◌, ◌≢◌, false, ℕ, suc, ◌≤◌, ◌<◌}
use Rattle.std.proofs.Common.{ap, ◌∙◌, le_refl}
use Rattle.std.proofs.Math.Option.{none, some}
use native.Mathlib.Omega.{arith}
use Rattle.rules.proofs.Apart.{apart_cons, apart_skip, apart_self, apart_none, apart_more, apart_fewer, apart_one_fewer}
use Rattle.rules.specs.Tree.{Tree, Proper, Ranked, path}
use Rattle.rules.proofs.Tree.{path_top, path_up, path_once, rank_depth, deeper_off}
use Rattle.rules.specs.Basic.{on}
use Rattle.rules.specs.Far.{far, Chain, here, rise, sink, Between}

-- it leaves no choice
pub between_one : (t : Tree) (a b k n : ℕ) → Between t a b k → Between t a b n → k ≡ n
between_one t a b k n p q = omega (arith, p.shortest n q.reached, q.shortest k p.reached)

module _ (t : Tree) (ok : Proper t) where
  -- a step changes the distance by one at most
  far_step : (a b c : ℕ) → t.up a ≡ some b → (far t a c ≤ suc (far t b c)) × (far t b c ≤ suc (far t a c))
  unfolding far
  far_step a b c e = rw (path_up t ok a b e)
      (omega (arith, apart_more a (path t b) (path t c), apart_fewer a (path t c) (path t b), apart_one_fewer a (path t c) (path t b) (path_once t ok c)))

  -- no chain of steps is shorter
  pub far_least : {a b n : ℕ} → Chain t a b n → far t a b ≤ n
  unfolding far
  far_least (here {a = a}) = rw apart_self (le_refl 0)
  far_least (rise {a = a} {b = b} {c = c} e k) = omega (arith, far_step a b c e, far_least k)
  far_least (sink {a = a} {b = b} {c = c} e k) = omega (arith, far_step b a c e, far_least k)

  -- lifting an environment that is not on the other's path brings the two nearer by one
  pub far_lift : (a b p : ℕ) → t.up a ≡ some p → on a (path t b) ≡ false → far t a b ≡ suc (far t p b)
  unfolding far
  far_lift a b p e h = rw (path_up t ok a p e, apart_cons a (path t p) (path t b) h, apart_skip a (path t b) (path t p) h) (omega arith)

  pub far_sym : (a b : ℕ) → far t a b ≡ far t b a
  unfolding far
  far_sym a b = omega arith

  -- of two that are not equally deep, the deeper one is lifted; of two that are, both
  pub far_deeper : (a b p : ℕ) → t.up a ≡ some p → t.rank b < t.rank a → far t a b ≡ suc (far t p b)
  far_deeper a b p e h = far_lift a b p e (deeper_off t ok a b (omega arith) (λ q. omega (arith, ap t.rank q)))

  pub far_both : (a b p q : ℕ) → t.up a ≡ some p → t.up b ≡ some q → t.rank a ≡ t.rank b → a ≢ b → far t a b ≡ suc (suc (far t p q))
  far_both a b p q e f h d =
      far_lift a b p e (deeper_off t ok a b (omega arith) d)
      ∙ ap suc (far_sym p b ∙ far_deeper b p q f (omega (arith, ok.falls a p e)) ∙ ap suc (far_sym q p))

  -- the distance to the top is the depth
  pub far_top : Ranked t → (a b : ℕ) → t.up b ≡ none → far t a b ≡ t.rank a
  unfolding far
  far_top r a b e = rw (path_top t ok b e, apart_none (path t a)) (omega (arith, rank_depth t ok r a))

  pub far_self : (a : ℕ) → far t a a ≡ 0
  unfolding far
  far_self a = rw apart_self
