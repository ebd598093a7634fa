-- What a reader answers: the one thing that fits, or that nothing does. Assumes nothing.
use Rattle.std.specs.Prelude.{◌≡◌, refl, ◌↔◌, Bool, true, false, ℕ, Option, None, Some, option_map}
use Rattle.std.proofs.Common.{sym, ap, ◌∙◌, arith}

-- o holds x exactly if x fits, and is empty exactly if nothing fits
pub record Finds {A : Type 0} (P : A → Type 0) (o : Option A) : Type 0 where
  pub found : (x : A) → (o ≡ Some x) ↔ P x
  pub missed : (o ≡ None) ↔ ((x : A) → P x → ⊥)

-- a test says whether a statement holds
pub record Tells (b : Bool) (P : Type 0) : Type 0 where
  pub holds : b ≡ true → P
  pub fails : b ≡ false → P → ⊥

clash : true ≡ false → ⊥
clash e = let z : ◌≡◌ {A = ℕ} 0 1 = cc in omega arith

pub tell : {P : Type 0} → P → Tells true P
tell {P} p = record { holds = λ e. p; fails = λ e. absurd (clash e) }

pub deny : {P : Type 0} → (P → ⊥) → Tells false P
deny {P} n = record { holds = λ e. absurd (clash (sym e)); fails = λ e. n }

module _ {A : Type 0} where
  pub some≢none : {x : A} → Some x ≡ None → ⊥
  some≢none {x} e = let z : ◌≡◌ {A = ℕ} 0 1 = cc in omega arith

  pub some_inj : {x y : A} → Some x ≡ Some y → x ≡ y
  some_inj {x} {y} e = cc

module _ {A : Type 0} {P : A → Type 0} where
  -- x fits, and nothing else does
  pub hit : (x : A) → P x → ((y : A) → P y → x ≡ y) → Finds P (Some x)
  hit x p u =
      record {
        found = λ y. ((λ e. only y (some_inj e)), (λ q. ap Some (u y q)));
        missed = ((λ e. absurd (some≢none e)), (λ n. absurd (n x p)));
      }
    where
      only : (y : A) → x ≡ y → P y
      only y e = rw e at p

  pub miss : ((x : A) → P x → ⊥) → Finds P None
  miss n = record { found = λ x. ((λ e. absurd (some≢none (sym e))), (λ p. absurd (n x p))); missed = ((λ e. n), (λ m. refl)) }

  pub got : {o : Option A} {x : A} → Finds P o → o ≡ Some x → P x
  got {o} {x} f e = (f.found x).0 e

  pub gone : {o : Option A} {x : A} → Finds P o → o ≡ None → P x → ⊥
  gone {o} {x} f e p = f.missed.0 e x p

  pub same : {o : Option A} {x y : A} → Finds P o → o ≡ Some x → P y → x ≡ y
  same {o} {x} {y} f e p = some_inj (sym e ∙ (f.found y).1 p)

  -- two answers that the rule allows coincide
  pub finds_one : (o o' : Option A) → Finds P o → Finds P o' → o ≡ o'
  finds_one None o' f g = sym (g.missed.1 (f.missed.0 refl))
  finds_one (Some x) o' f g = sym ((g.found x).1 ((f.found x).0 refl))

-- the same things fit
pub finds_iff : {A : Type 0} {P Q : A → Type 0} {o : Option A} → ((x : A) → P x → Q x) → ((x : A) → Q x → P x) → Finds P o → Finds Q o
finds_iff {A} {P} {Q} {o} f g h =
    record {
      found = λ x. ((λ e. f x ((h.found x).0 e)), (λ q. (h.found x).1 (g x q)));
      missed = ((λ e x q. h.missed.0 e x (g x q)), (λ n. h.missed.1 (λ x p. n x (f x p))));
    }

-- what is read is made into something else: y fits exactly if it is made of an x that fits
module _ {A B : Type 0} {P : A → Type 0} {Q : B → Type 0} (make : A → B) (there : (x : A) → P x → Q (make x))
    (back : (y : B) → Q y → (x : A) × P x × (make x ≡ y)) {o : Option A} (f : Finds P o) where
  pub carry_some : {x : A} → o ≡ Some x → Finds Q (Some (make x))
  carry_some {x} e = hit (make x) (there x (got f e)) only
    where
      only : (y : B) → Q y → make x ≡ y
      only y q = ap make (same f e (back y q).1) ∙ (back y q).2

  pub carry_none : o ≡ None → Finds Q None
  carry_none e = miss (λ y q. gone f e (back y q).1)

  pub carry : Finds Q (option_map make o)
  carry = go o refl
    where
      go : (p : Option A) → o ≡ p → Finds Q (option_map make p)
      go None e = carry_none e
      go (Some x) e = carry_some e
