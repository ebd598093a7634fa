-- What is proved of specs/Apart.antt, whose head says it in words. Assumes nothing.
use Rattle.std.specs.Prelude.{◌≡◌, refl, Bool, true, false, not, cond, ◌||◌, ◌&&◌, ℕ, suc, ◌≤◌, eqb, length}
use Rattle.std.proofs.Common.{sym, ap, ◌∙◌, le_refl, arith, eqb-true}
use Rattle.std.proofs.Math.Bool.{and-false, or-false, or_assoc, or_comm}
use mathlib.Core.List.{List, [], ◌∷◌, ◌++◌, reverse, reverse-cons}
use Rattle.rules.specs.Basic.{on, Once}
use Rattle.rules.proofs.Basic.{clash, on_head, on_tail, on_more, off_head, off_tail}
use Rattle.rules.specs.Apart.{apart}

pub on_apart : (n : ℕ) (p q : List ℕ) → on n (apart p q) ≡ (on n p && not (on n q))
on_apart n [] q = refl
on_apart n (m ∷ p) q = go (eqb n m) (on m q) refl refl (on_apart n p q)
  where
    go : (a b : Bool) → eqb n m ≡ a → on m q ≡ b → on n (apart p q) ≡ (on n p && not (on n q))
        → on n (cond b (apart p q) (m ∷ apart p q)) ≡ ((a || on n p) && not (on n q))
    go true true e f ih = ih ∙ rw (eqb-true n m e, f) (and-false (on m p))
    go true false e f ih = rw (e, eqb-true n m e, f)
    go false true e f ih = ih
    go false false e f ih = rw e ih

-- a member that is not on q comes first; q may lose what is not on p
pub apart_cons : (n : ℕ) (p q : List ℕ) → on n q ≡ false → apart (n ∷ p) q ≡ n ∷ apart p q
apart_cons n p q h = rw h

pub apart_skip : (m : ℕ) (p q : List ℕ) → on m p ≡ false → apart p (m ∷ q) ≡ apart p q
apart_skip m [] q h = refl
apart_skip m (n ∷ p) q h =
    rw (on_tail n m q (λ e. off_head m n p h (sym e)), apart_skip m p q (off_tail m n p h))

pub apart_within : (p q : List ℕ) → ((n : ℕ) → on n p ≡ true → on n q ≡ true) → apart p q ≡ []
apart_within [] q h = refl
apart_within (n ∷ p) q h = rw (h n (on_head n p)) (apart_within p q (λ m k. h m (on_more m n p k)))

pub apart_self : (p : List ℕ) → apart p p ≡ []
apart_self p = apart_within p p (λ n h. h)

pub apart_none : (p : List ℕ) → apart p [] ≡ p
apart_none [] = refl
apart_none (n ∷ p) = ap (λ (l : List ℕ). n ∷ l) (apart_none p)

pub off_apart : (n : ℕ) (p q : List ℕ) → on n p ≡ false → on n (apart p q) ≡ false
off_apart n p q h = on_apart n p q ∙ rw h

pub once_apart : (p q : List ℕ) → Once p → Once (apart p q)
once_apart [] q o = tt
once_apart (n ∷ p) q o = go (on n q) (once_apart p q o.1)
  where
    go : (b : Bool) → Once (apart p q) → Once (cond b (apart p q) (n ∷ apart p q))
    go true ih = ih
    go false ih = (off_apart n p q o.0, ih)

-- one more on the second list takes away at most one
pub apart_fewer : (m : ℕ) (p q : List ℕ) → length (apart p (m ∷ q)) ≤ length (apart p q)
apart_fewer m [] q = le_refl _
apart_fewer m (n ∷ p) q = go (eqb n m) (on n q) (apart_fewer m p q)
  where
    go : (a b : Bool) → length (apart p (m ∷ q)) ≤ length (apart p q)
        → length (cond (a || b) (apart p (m ∷ q)) (n ∷ apart p (m ∷ q))) ≤ length (cond b (apart p q) (n ∷ apart p q))
    go true true ih = ih
    go true false ih = omega arith
    go false true ih = ih
    go false false ih = omega arith

pub apart_one_fewer : (m : ℕ) (p q : List ℕ) → Once p → length (apart p q) ≤ suc (length (apart p (m ∷ q)))
apart_one_fewer m [] q o = omega arith
apart_one_fewer m (n ∷ p) q o = go (eqb n m) refl (on n q) (apart_one_fewer m p q o.1)
  where
    go : (a : Bool) → eqb n m ≡ a → (b : Bool) → length (apart p q) ≤ suc (length (apart p (m ∷ q)))
        → length (cond b (apart p q) (n ∷ apart p q)) ≤ suc (length (cond (a || b) (apart p (m ∷ q)) (n ∷ apart p (m ∷ q))))
    go true e true ih = ih
    go true e false ih = omega (arith, ap length (apart_skip m p q (rw (eqb-true n m e) at o.0)))
    go false e true ih = ih
    go false e false ih = omega arith

-- one more on the first list adds at most one
pub apart_more : (n : ℕ) (p q : List ℕ) → (length (apart p q) ≤ length (apart (n ∷ p) q)) × (length (apart (n ∷ p) q) ≤ suc (length (apart p q)))
apart_more n p q = go (on n q)
  where
    go : (b : Bool) → (length (apart p q) ≤ length (cond b (apart p q) (n ∷ apart p q))) × (length (cond b (apart p q) (n ∷ apart p q)) ≤ suc (length (apart p q)))
    go true = omega arith
    go false = omega arith

-- appending and reversing
pub on_append : (n : ℕ) (l r : List ℕ) → on n (l ++ r) ≡ (on n l || on n r)
on_append n [] r = refl
on_append n (m ∷ l) r = ap (λ (b : Bool). eqb n m || b) (on_append n l r) ∙ sym (or_assoc (eqb n m) (on n l) (on n r))

pub on_reverse : (n : ℕ) (l : List ℕ) → on n (reverse l) ≡ on n l
on_reverse n [] = refl
on_reverse n (m ∷ l) =
    ap (on n) (reverse-cons m l) ∙ on_append n (reverse l) (m ∷ []) ∙ rw (on_reverse n l, or-false) (or_comm (on n l) (eqb n m))

pub once_append : (l r : List ℕ) → Once l → Once r → ((n : ℕ) → on n l ≡ true → on n r ≡ false) → Once (l ++ r)
once_append [] r o k h = k
once_append (n ∷ l) r o k h =
    (on_append n l r ∙ rw (o.0, h n (on_head n l)), once_append l r o.1 k (λ m e. h m (on_more m n l e)))

pub once_reverse : (l : List ℕ) → Once l → Once (reverse l)
once_reverse [] o = tt
once_reverse (n ∷ l) o =
    rw reverse-cons (once_append (reverse l) (n ∷ []) (once_reverse l o.1) (refl, tt)
    (λ m e. on_tail m n [] (λ q. clash (rw on_reverse at e) (rw q o.0))))

-- what stands before r, and each node once: just that is not on r
pub apart_before : (pre r : List ℕ) → Once (pre ++ r) → apart (pre ++ r) r ≡ pre
apart_before [] r o = apart_self r
apart_before (n ∷ pre) r o = rw (off n (on n pre) (sym (on_append n pre r) ∙ o.0)) (ap (λ (l : List ℕ). n ∷ l) (apart_before pre r o.1))
  where
    off : (n : ℕ) (b : Bool) → (b || on n r) ≡ false → on n r ≡ false
    off n true h = clash refl h
    off n false h = h
