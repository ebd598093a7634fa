-- An environment of a sound store is told, and as what it is. Assumes nothing.
use mathlib.Core.Path.{◌≡◌, refl, ap}
use mathlib.Core.Logic.{◌≢◌, inl, inr}
use mathlib.Core.Bool.{cond}
use mathlib.Core.List.{List, [], ◌∷◌}
use Prim.Native.Nat.{ℕ}
use native.Mathlib.Omega.{arith}
use Rattle.std.specs.Prelude.{ℤ, Option, Result, Ok, Err, IsOk}
use Rattle.rules.specs.Tree.{What, blank, top, binding, wind, binds}
use Rattle.rules.specs.Values.{Cell, unbound, value}
use Rattle.rules.proofs.Basic.{eqb_self}
use Rattle.layout.specs.Sound.{Sound}
use Rattle.layout.specs.Made.{IsMade}
use Rattle.promises.specs.declared.Environment.{Environment}
use Rattle.promises.specs.declared.Environment.TheVariants.{Binding}
use Rattle.promises.specs.declared.Refusal.{Refusal}
use Rattle.promises.specs.declared.Refusal.TheVariants.{Setup, Damaged, NoVariable, NoEnvironment, Unbound, Full, TraceRoom, Top, Walking, NotWalking}
use Rattle.promises.specs.declared.Told.{Told}
use Rattle.promises.specs.Answers.{number_of, tell_binding, telling, own_cell, numbers_told}
use Rattle.promises.specs.Tables.{First}
use Rattle.promises.specs.Promises.{damaged_row, environment_row, tells, TellPromise}
use Rattle.print.specs.Explaining.{shadowed_line}
use Rattle.why.specs.Explained.{held}

-- an environment of a sound store is told
module _ {s s' : List ℕ} {a : ℕ} {n : Told} (ok : Sound s) (made : IsMade s a) (t : TellPromise s a s' n) where
  pub told_done : n.code ≡ 0
  told_done = go t.first
    where
      go : First (damaged_row s ∷ environment_row s a ∷ []) n.code → n.code ≡ 0
      go (inl (e, w)) = absurd (w ok)
      go (inr (f, inl (e, w))) = absurd (w made)
      go (inr (f, inr (g, e))) = e

  pub told_is : n ≡ tells s a
  told_is = t.done told_done

-- so the code answers an environment
pub is_told : (r : Result Environment Refusal) → (numbers_told r).code ≡ 0 → (env : Environment) × (r ≡ Ok env)
unfolding numbers_told
is_told (Ok env) e = (env, refl)
is_told (Err r) e = absurd (refused r e)
  where
    refused : (r : Refusal) → number_of r ≢ 0
    refused Setup e = omega (arith, e)
    refused Damaged e = omega (arith, e)
    refused NoVariable e = omega (arith, e)
    refused NoEnvironment e = omega (arith, e)
    refused Unbound e = omega (arith, e)
    refused Full e = omega (arith, e)
    refused TraceRoom e = omega (arith, e)
    refused Top e = omega (arith, e)
    refused Walking e = omega (arith, e)
    refused NotWalking e = omega (arith, e)

pub told_ok : {s s' : List ℕ} {a : ℕ} → Sound s → IsMade s a → (r : Result Environment Refusal) → TellPromise s a s' (numbers_told r) → IsOk r
told_ok ok made r t = rw (is_told r (told_done ok made t)).1 refl

-- ---- a binding that is told, and what it holds
binding_kind : (p x : ℕ) (c : Cell) → ((tell_binding p x c).kind ≡ 2) × ((tell_binding p x c).code ≡ 0)
binding_kind p x unbound = (refl, refl)
binding_kind p x (value v) = (refl, refl)

binding_own : (p q y z : ℕ) (c d : Cell) → tell_binding p y c ≡ tell_binding q z d → (y ≡ z) × (c ≡ d)
binding_own p q y z unbound unbound e = (ap (λ (t : Told). t.first) e, refl)
binding_own p q y z unbound (value v) e = absurd (omega (arith, ap (λ (t : Told). t.state) e))
binding_own p q y z (value v) unbound e = absurd (omega (arith, ap (λ (t : Told). t.state) e))
binding_own p q y z (value v) (value u) e = (ap (λ (t : Told). t.first) e, ap (λ (t : Told). value t.value) e)

own_line : (n x q : ℕ) (c : Cell) (w : What) (p : ℕ) (own : ℕ → Cell) → tell_binding q x c ≡ telling w p own
    → shadowed_line n (held c) ≡ cond (binds w x) (shadowed_line n (held (own x))) []
own_line n x q c blank p own e = absurd (omega (arith, (binding_kind q x c).1, ap (λ (t : Told). t.code) e))
own_line n x q c top p own e = absurd (omega (arith, (binding_kind q x c).0, ap (λ (t : Told). t.kind) e))
own_line n x q c (binding z) p own e =
    let (same, holds) = binding_own q p x z c (own z) e in
    rw (same, eqb_self z) (ap (λ (d : Cell). shadowed_line n (held d)) holds)
own_line n x q c (wind a b) p own e = absurd (omega (arith, (binding_kind q x c).0, ap (λ (t : Told). t.kind) e))

-- the line of a shadowed binding says what it holds
pub shadowed_own : (n x q : ℕ) (v : Option ℤ) (w : What) (p : ℕ) (own : ℕ → Cell) → numbers_told (Ok (Binding x v q)) ≡ telling w p own
    → shadowed_line n (held (own_cell v)) ≡ cond (binds w x) (shadowed_line n (held (own x))) []
unfolding numbers_told
shadowed_own n x q v = own_line n x q (own_cell v)
