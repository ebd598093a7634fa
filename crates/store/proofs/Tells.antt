-- From what `tell` reads to what it promises: a refusal by its row, and what each kind of environment is told as. Assumes nothing.
use Rattle.std.specs.Prelude.{Ok, Err, Some, None, MatchOption}
use Rattle.std.specs.Prelude as prelude
use mathlib.Core.Path.{◌≡◌, refl}
use lib.IntN.{ℤ}
use mathlib.Core.Logic.{◌≢◌, inl, inr}
use Prim.Native.Nat.{ℕ}
use native.Mathlib.Omega.{arith}
use mathlib.Core.List.{List}
use Rattle.rules.specs.Basic.{or_top}
use Rattle.rules.specs.Tree.{What, blank, top, binding, wind}
use Rattle.rules.specs.Values.{Cell, unbound, value}
use Rattle.layout.specs.View.{as_cell, view}
use Rattle.layout.specs.Sound.{Sound}
use Rattle.layout.specs.Made.{IsMade}
use Rattle.layout.proofs.WalkLaws.{made_seen}
use Rattle.layout.specs.Deciders.{FoundAt}
use Rattle.promises.specs.declared.Told.{Told}
use Rattle.promises.specs.declared.Refusal.TheVariants.{Damaged, NoEnvironment}
use Rattle.promises.specs.declared.Environment.TheVariants as environment
use Rattle.promises.specs.Answers.{tell_binding, telling, own_cell, numbers_told}
use Rattle.promises.specs.Promises.{meaning, at, tells, TellPromise}

-- an environment that is not blank is told beside code 0
no_refusal : (w : What) (p : ℕ) (own : ℕ → Cell) → w ≢ blank → (telling w p own).code ≡ 0
no_refusal blank p own h = absurd (h refl)
no_refusal top p own h = refl
no_refusal (wind pre post) p own h = refl
no_refusal (binding x) p own h = go (own x)
  where
    go : (c : Cell) → (tell_binding p x c).code ≡ 0
    go unbound = refl
    go (value v) = refl

-- the value that a cell has, if it has one, is its own
own_is : (c : List ℕ) (v : prelude.Option ℤ) → MatchOption v (as_cell c ≡ unbound) (λ z. as_cell c ≡ value z) → as_cell c ≡ own_cell v
own_is c None h = h
own_is c (Some z) h = h

module _ (s : List ℕ) (a : ℕ) where
  pub tell_damaged : (Sound s → ⊥) → TellPromise s a s (numbers_told (Err Damaged))
  unfolding numbers_told
  tell_damaged bad = record { same = refl; first = inl (refl, bad); refused = λ l. refl; done = λ e. absurd (omega arith) }

  pub tell_unmade : Sound s → (IsMade s a → ⊥) → TellPromise s a s (numbers_told (Err NoEnvironment))
  unfolding numbers_told
  tell_unmade ok h = record { same = refl; first = inr (λ k. k ok, inl (refl, h)); refused = λ l. refl; done = λ e. absurd (omega arith) }

  pub tell_done : Sound s → IsMade s a → {n : Told} → n ≡ tells s a → TellPromise s a s n
  tell_done ok m e =
      let zero : (tells s a).code ≡ 0 = no_refusal _ _ _ (made_seen s ok.whole a m) in
      rw e (record { same = refl; first = inr (λ k. k ok, inr (λ k. k m, zero)); refused = λ l. absurd (omega arith); done = λ e. refl })

  pub tells_binding : {up x by : ℕ} {c : List ℕ} (v : prelude.Option ℤ) → (view s).tree.what a ≡ binding x → or_top ((view s).tree.up a) ≡ up → FoundAt s a x by c
      → MatchOption v (as_cell c ≡ unbound) (λ z. as_cell c ≡ value z) → numbers_told (Ok (environment.Binding x v up)) ≡ tells s a
  unfolding numbers_told at meaning
  tells_binding v is parent found held = rw (is, parent, ← found.value, own_is _ v held)

  pub tells_wind : {up p q : ℕ} → (view s).tree.what a ≡ wind p q → or_top ((view s).tree.up a) ≡ up → numbers_told (Ok (environment.Wind p q up)) ≡ tells s a
  unfolding numbers_told
  tells_wind {up} {p} {q} is parent = rw (is, parent)

  pub tells_top : (view s).tree.what a ≡ top → numbers_told (Ok environment.Top) ≡ tells s a
  unfolding numbers_told
  tells_top is = rw is
