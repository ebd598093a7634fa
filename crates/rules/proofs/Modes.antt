-- What is proved of specs/Modes.antt, whose head says it in words. Assumes nothing.
use Rattle.std.specs.Prelude.{◌≡◌, refl, ◌≢◌, Bool, true, false, List, [], ◌∷◌, ℕ, zero, suc, ◌+◌, ◌≤◌, ◌<◌, length}
use Rattle.std.proofs.Common.{ap, ◌∙◌, le_refl, arith}
use Rattle.std.proofs.Math.Decide.{ℕ_discrete, dec_lt}
use Rattle.rules.specs.Basic.{on, Once}
use Rattle.rules.proofs.Basic.{clash, on_head, on_tail, on_more}
use Rattle.rules.specs.Modes.{num, count}

num_le : (a b : Bool) → (a ≡ true → b ≡ true) → num a ≤ num b
num_le false b h = omega arith
num_le true b h = rw (h refl) (le_refl 1)

num_true : (a b : Bool) → num b ≤ num a → b ≡ true → a ≡ true
num_true true b h e = refl
num_true false b h e = absurd (omega (arith, ap num e))

module _ (b c : ℕ → Bool) where
  count_mono : (n : ℕ) → ((k : ℕ) → k < n → b k ≡ true → c k ≡ true) → count b n ≤ count c n
  count_mono zero h = le_refl 0
  count_mono (suc n) h = omega (arith, num_le (b n) (c n) (h n (le_refl _)), count_mono n (λ k l. h k (omega arith)))

  -- a part that is as large is the whole
  pub count_exact : (n : ℕ) → ((k : ℕ) → k < n → b k ≡ true → c k ≡ true) → count c n ≤ count b n → (k : ℕ) → k < n → c k ≡ true → b k ≡ true
  count_exact zero h e k l q = absurd (omega arith)
  count_exact (suc n) h e k l q = go (ℕ_discrete k n) (count_exact n (λ j i. h j (omega arith)))
    where
      part : num (b n) ≤ num (c n)
      part = num_le (b n) (c n) (h n (le_refl _))

      rest : count b n ≤ count c n
      rest = count_mono n (λ j i. h j (omega arith))

      go : Dec (k ≡ n) → (count c n ≤ count b n → (j : ℕ) → j < n → c j ≡ true → b j ≡ true) → b k ≡ true
      go (yes z) ih = rw z (num_true (b n) (c n) (omega (arith, rest)) (rw z at q))
      go (no z) ih = ih (omega (arith, part)) k (omega arith) q

count_none : (n : ℕ) → count (λ k. false) n ≡ 0
count_none zero = refl
count_none (suc n) = omega (arith, count_none n)

pub count_le : (b : ℕ → Bool) (n : ℕ) → count b n ≤ n
count_le b zero = le_refl 0
count_le b (suc n) = go (b n) (count_le b n)
  where
    go : (c : Bool) → count b n ≤ n → num c + count b n ≤ suc n
    go true h = omega arith
    go false h = omega arith

-- where just the numbers below k pass, they are k
pub count_below : (b : ℕ → Bool) (k n : ℕ) → k ≤ n → ((j : ℕ) → j < k → b j ≡ true) → ((j : ℕ) → k ≤ j → b j ≡ false) → count b n ≡ k
count_below b k zero h yes_below no_beyond = omega arith
count_below b k (suc n) h yes_below no_beyond = go (b n) refl (λ l. count_below b k n l yes_below no_beyond)
  where
    all : (m : ℕ) → m ≤ k → count b m ≡ m
    all zero l = refl
    all (suc m) l = rw (yes_below m l) (omega (arith, all m (omega arith)))

    go : (c : Bool) → b n ≡ c → (k ≤ n → count b n ≡ k) → num c + count b n ≡ k
    go false e ih = omega (arith, ih (short (dec_lt n k)))
      where
        short : Dec (n < k) → k ≤ n
        short (yes l) = clash (yes_below n l) e
        short (no l) = omega arith
    go true e ih = at_end (dec_lt n k)
      where
        at_end : Dec (n < k) → 1 + count b n ≡ k
        at_end (yes l) = omega (arith, all n (omega arith))
        at_end (no l) = clash e (no_beyond n (omega arith))

-- one more number passes
pub count_add : (b c : ℕ → Bool) (m : ℕ) → b m ≡ false → c m ≡ true → ((k : ℕ) → k ≢ m → c k ≡ b k) → (n : ℕ)
    → (m < n → count c n ≡ suc (count b n)) × (n ≤ m → count c n ≡ count b n)
count_add b c m hb hc same zero = (λ h. absurd (omega arith), λ h. refl)
count_add b c m hb hc same (suc n) = go (ℕ_discrete n m) (count_add b c m hb hc same n)
  where
    go : Dec (n ≡ m) → (m < n → count c n ≡ suc (count b n)) × (n ≤ m → count c n ≡ count b n)
        → (m < suc n → num (c n) + count c n ≡ suc (num (b n) + count b n)) × (suc n ≤ m → num (c n) + count c n ≡ num (b n) + count b n)
    go (yes e) (i, j) =
        let cn : c n ≡ true = rw e hc in
        let bn : b n ≡ false = rw e hb in
        (λ h. omega (arith, j (omega arith), ap num cn, ap num bn), λ h. absurd (omega arith))
    go (no e) (i, j) = (λ h. rw (same n e) (omega (arith, i (omega arith))), λ h. rw (same n e) (omega (arith, j (omega arith))))

pub count_on : (l : List ℕ) (n : ℕ) → Once l → ((k : ℕ) → on k l ≡ true → k < n) → count (λ k. on k l) n ≡ length l
count_on [] n o h = count_none n
count_on (m ∷ l) n o h =
    (count_add (λ k. on k l) (λ k. on k (m ∷ l)) m o.0 (on_head m l) (λ k d. on_tail k m l d) n).0 (h m (on_head m l))
    ∙ ap suc (count_on l n o.1 (λ k q. h k (on_more k m l q)))

-- the check of the modes below n
pub modes_by_count : (mode : ℕ → Bool) (l : List ℕ) (n : ℕ) → Once l → ((k : ℕ) → on k l ≡ true → k < n)
    → ((k : ℕ) → on k l ≡ true → mode k ≡ true) → count mode n ≡ length l → (k : ℕ) → k < n → mode k ≡ on k l
modes_by_count mode l n o h all e k i = go (mode k) (on k l) refl refl
  where
    go : (a b : Bool) → mode k ≡ a → on k l ≡ b → a ≡ b
    go true true p q = refl
    go false false p q = refl
    go false true p q = clash (all k q) p
    go true false p q = clash (count_exact (λ j. on j l) mode n (λ j z. all j) (omega (arith, count_on l n o h)) k i p) q
