-- What is proved of specs/Basic.antt, whose head says it in words. Assumes nothing.
use Rattle.std.specs.Prelude.{◌≡◌, ◌≢◌, ◌⊎◌, Bool, ◌||◌, List, [], ◌∷◌, ◌++◌, ℕ}
use Rattle.std.proofs.Math.Path.{refl, ap, fun_ext}
use Rattle.std.proofs.Common.{sym, ◌∙◌, inl, inr, arith}
use Rattle.std.proofs.Math.Bool.{true, false, cond}
use Rattle.std.proofs.Math.Option.{Option, none, some}
use Rattle.std.proofs.Math.Dec.{eqb}
use borrow.Author.Tests.{eq-eqb, ne_eqb, eqb-true}
use Rattle.rules.specs.Basic.{upd, on}

pub clash : {A : Type 0} {b : Bool} → b ≡ true → b ≡ false → A
clash {A} {b} p q = absurd (let z : ◌≡◌ {A = ℕ} 0 1 = cc in omega arith)

pub some≢none : {A : Type 0} {o : Option ℕ} {p : ℕ} → o ≡ some p → o ≡ none → A
some≢none {A} {o} {p} e f = absurd (let z : ◌≡◌ {A = ℕ} 0 1 = cc in omega arith)

pub eqb_self : (n : ℕ) → eqb n n ≡ true
eqb_self n = eq-eqb n n refl

-- ---- a function changed at one place
module _ {A : Type 0} where
  pub upd_same : (f : ℕ → A) (i : ℕ) (v : A) → upd f i v i ≡ v
  unfolding upd
  upd_same f i v = rw (eqb_self i)

  pub upd_other : (f : ℕ → A) (i j : ℕ) (v : A) → j ≢ i → upd f i v j ≡ f j
  unfolding upd
  upd_other f i j v h = rw (ne_eqb j i h)

  pub upd_upd : (f : ℕ → A) (i : ℕ) (v w : A) → upd (upd f i v) i w ≡ upd f i w
  unfolding upd
  upd_upd f i v w = fun_ext λ j. go j (eqb j i)
    where
      go : (j : ℕ) (b : Bool) → cond b w (cond b v (f j)) ≡ cond b w (f j)
      go j true = refl
      go j false = refl

  pub upd_self : (f : ℕ → A) (i : ℕ) → upd f i (f i) ≡ f
  unfolding upd
  upd_self f i = fun_ext λ j. go j (eqb j i) refl
    where
      go : (j : ℕ) (b : Bool) → eqb j i ≡ b → cond b (f i) (f j) ≡ f j
      go j true e = ap f (sym (eqb-true j i e))
      go j false e = refl

  pub upd_id : (f : ℕ → A) (i : ℕ) (v : A) → f i ≡ v → upd f i v ≡ f
  upd_id f i v e = rw (← e) (upd_self f i)

  pub upd_comm : (f : ℕ → A) (i j : ℕ) (v w : A) → i ≢ j → upd (upd f i v) j w ≡ upd (upd f j w) i v
  unfolding upd
  upd_comm f i j v w h = fun_ext λ k. go k (eqb k i) (eqb k j) refl refl
    where
      go : (k : ℕ) (a b : Bool) → eqb k i ≡ a → eqb k j ≡ b → cond b w (cond a v (f k)) ≡ cond a v (cond b w (f k))
      go k true true p q = absurd (h (sym (eqb-true k i p) ∙ eqb-true k j q))
      go k true false p q = refl
      go k false true p q = refl
      go k false false p q = refl

pub on_head : (n : ℕ) (l : List ℕ) → on n (n ∷ l) ≡ true
on_head n l = rw (eqb_self n)

pub on_tail : (n m : ℕ) (l : List ℕ) → n ≢ m → on n (m ∷ l) ≡ on n l
on_tail n m l h = rw (ne_eqb n m h)

pub on_cases : (n m : ℕ) (l : List ℕ) → on n (m ∷ l) ≡ true → (n ≡ m) ⊎ (on n l ≡ true)
on_cases n m l h = go (eqb n m) refl h
  where
    go : (b : Bool) → eqb n m ≡ b → (b || on n l) ≡ true → (n ≡ m) ⊎ (on n l ≡ true)
    go true e k = inl (eqb-true n m e)
    go false e k = inr k

pub off_head : (n m : ℕ) (l : List ℕ) → on n (m ∷ l) ≡ false → n ≢ m
off_head n m l h e = clash {b = on n (m ∷ l)} (cc (on_head m l)) h

pub off_tail : (n m : ℕ) (l : List ℕ) → on n (m ∷ l) ≡ false → on n l ≡ false
off_tail n m l h = rw (on_tail n m l (off_head n m l h)) at h

pub on_more : (n m : ℕ) (l : List ℕ) → on n l ≡ true → on n (m ∷ l) ≡ true
on_more n m l h = go (eqb n m)
  where
    go : (b : Bool) → (b || on n l) ≡ true
    go true = refl
    go false = h

pub off_middle : (m : ℕ) (pre : List ℕ) (n : ℕ) (post : List ℕ) → on m (pre ++ n ∷ post) ≡ false → n ≢ m
off_middle m [] n post h e = off_head m n post h (sym e)
off_middle m (k ∷ pre) n post h e = off_middle m pre n post (off_tail m k (pre ++ n ∷ post) h) e
