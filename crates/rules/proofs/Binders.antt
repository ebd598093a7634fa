-- What is proved of specs/Binders.antt, whose head says it in words. Assumes nothing.
use Rattle.std.specs.Prelude.{◌≡◌, refl, ◌≢◌, Bool, true, false, List, [], ◌∷◌, ℕ, zero, suc, ◌≤◌, ◌<◌}
use Rattle.std.proofs.Common.{sym, ap, ◌∙◌, arith}
use Rattle.std.proofs.Math.Option.{none}
use Rattle.std.proofs.Math.Decide.{ℕ_discrete}
use Rattle.rules.specs.Basic.{upd, on}
use Rattle.rules.proofs.Basic.{upd_same, upd_other, on_head, on_more}
use Rattle.rules.specs.Tree.{What, binds}
use Rattle.rules.specs.Modes.{num, count}
use Rattle.rules.proofs.Modes.{count_add}
use Rattle.rules.specs.Values.{decider, below}

module _ (b : ℕ → Bool) where
  -- none of them passes
  pub count_zero : (n : ℕ) → count b n ≡ 0 → (k : ℕ) → k < n → b k ≡ false
  count_zero zero e k l = absurd (omega arith)
  count_zero (suc n) e k l = go (b n) refl (ℕ_discrete k n) (λ z h. count_zero n z k h)
    where
      go : (c : Bool) → b n ≡ c → Dec (k ≡ n) → (count b n ≡ 0 → k < n → b k ≡ false) → b k ≡ false
      go true q d before = absurd (omega (arith, e, ap num q))
      go false q (yes z) before = rw z q
      go false q (no z) before = before (omega (arith, e)) (omega arith)

  pub none_pass : (n : ℕ) → ((k : ℕ) → k < n → b k ≡ false) → count b n ≡ 0
  none_pass zero h = refl
  none_pass (suc n) h = omega (arith, ap num (h n (omega arith)), none_pass n (λ k l. h k (omega arith)))

  -- past m none does
  pub count_short : (m n : ℕ) → m ≤ n → ((k : ℕ) → m ≤ k → b k ≡ false) → count b n ≡ count b m
  count_short m zero l h = let z : ◌≡◌ {A = ℕ} 0 m = omega arith in ap (count b) z
  count_short m (suc n) l h = go (ℕ_discrete m (suc n)) (λ k. count_short m n k h)
    where
      go : Dec (m ≡ suc n) → (m ≤ n → count b n ≡ count b m) → count b (suc n) ≡ count b m
      go (yes e) before = ap (count b) (sym e)
      go (no d) before = omega (arith, ap num (h n (omega arith)), before (omega arith))

-- ---- a new node m in place of one that binds nothing
module _ (what : ℕ → What) (m : ℕ) (w : What) (x n : ℕ) (fresh : binds (what m) x ≡ false) where
  others : (k : ℕ) → k ≢ m → binds (upd what m w k) x ≡ binds (what k) x
  others k d = ap (λ (v : What). binds v x) (upd_other what m k w d)

  -- binds x: one more
  pub count_bound : m < n → binds w x ≡ true → count (λ k. binds (upd what m w k) x) n ≡ suc (count (λ k. binds (what k) x) n)
  count_bound l is = (count_add (λ k. binds (what k) x) (λ k. binds (upd what m w k) x) m fresh (rw (upd_same what m w) is) others n).0 l

  -- does not: as many
  pub count_kept : binds w x ≡ false → count (λ k. binds (upd what m w k) x) n ≡ count (λ k. binds (what k) x) n
  count_kept is_not = ap (λ (b : ℕ → Bool). count b n) (λ i k. same k i)
    where
      same : (k : ℕ) → binds (upd what m w k) x ≡ binds (what k) x
      same k = go (ℕ_discrete k m)
        where
          go : Dec (k ≡ m) → binds (upd what m w k) x ≡ binds (what k) x
          go (yes e) = rw (e, upd_same what m w) (is_not ∙ sym fresh)
          go (no d) = others k d

-- ---- nobody binds x on a path: no decider, and no binding on the way up
module _ (what : ℕ → What) (x : ℕ) where
  pub no_decider : (l : List ℕ) → ((k : ℕ) → on k l ≡ true → binds (what k) x ≡ false) → decider what x l ≡ none
  no_decider [] h = refl
  no_decider (n ∷ l) h = rw (h n (on_head n l)) (no_decider l (λ k q. h k (on_more k n l q)))

  pub none_below : (l : List ℕ) → ((k : ℕ) → on k l ≡ true → binds (what k) x ≡ false) → below what x none l ≡ none
  none_below [] h = refl
  none_below (n ∷ l) h = rw (none_below l (λ k q. h k (on_more k n l q)), h n (on_head n l)) refl
