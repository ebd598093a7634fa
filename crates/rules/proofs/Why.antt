-- What is proved of specs/Why.antt, whose head says it in words. Assumes nothing.
use Rattle.std.specs.Prelude.{◌≡◌, refl, Bool, true, false, cond, ◌||◌, ◌&&◌, List, [], ◌∷◌, ◌++◌, ℕ, suc, ◌+◌, ◌≤◌, eqb, length}
use Rattle.std.proofs.Common.{ap, ◌∙◌, arith, eqb-true}
use Rattle.std.proofs.Math.Option.{some}
use Rattle.rules.specs.Basic.{on, Once, or_top}
use Rattle.rules.specs.Tree.{What, binds, Tree, Proper, path}
use Rattle.rules.proofs.Tree.{path_once}
use Rattle.rules.specs.Values.{decider}
use Rattle.rules.specs.Calls.{decider_at, decided_by}
use Rattle.rules.specs.Why.{before, first, last, chain_by, behind_by, binds_at, binders, chain, shadowed, shown_at, shadowed_at, Why}

-- a way that never stops is the whole way, with the top behind it
pub chain_whole : (l : List ℕ) → chain_by (λ n. false) l ≡ l ++ (0 ∷ [])
chain_whole [] = refl
chain_whole (n ∷ l) = ap (λ (m : List ℕ). n ∷ m) (chain_whole l)

module _ (what : ℕ → What) (x : ℕ) where
  -- ---- the decider
  -- it is the first binding of x
  pub decider_first : (l : List ℕ) → decider what x l ≡ first (binders what x l)
  decider_first [] = refl
  decider_first (n ∷ l) = go (binds (what n) x) (decider_first l)
    where
      go : (b : Bool) → decider what x l ≡ first (binders what x l) → cond b (some n) (decider what x l) ≡ first (cond b (n ∷ binders what x l) (binders what x l))
      go true ih = refl
      go false ih = ih

  -- .. and the environments shown end with it
  last_more : (n : ℕ) (l : List ℕ) → last (n ∷ chain what x l) ≡ last (chain what x l)
  last_more n [] = refl
  last_more n (m ∷ l) = go (binds (what m) x)
    where
      go : (b : Bool) → last (n ∷ cond b (m ∷ []) (m ∷ chain what x l)) ≡ last (cond b (m ∷ []) (m ∷ chain what x l))
      go true = refl
      go false = refl

  pub chain_ends : (l : List ℕ) → last (chain what x l) ≡ or_top (decider what x l)
  chain_ends [] = refl
  chain_ends (n ∷ l) = go (binds (what n) x) (chain_ends l)
    where
      go : (b : Bool) → last (chain what x l) ≡ or_top (decider what x l) → last (cond b (n ∷ []) (n ∷ chain what x l)) ≡ or_top (cond b (some n) (decider what x l))
      go true ih = refl
      go false ih = last_more n l ∙ ih

  -- the environments shown begin the path, with the top behind it
  pub chain_begins : (l : List ℕ) → (rest : List ℕ) × (chain what x l ++ rest ≡ l ++ (0 ∷ []))
  chain_begins [] = ([], refl)
  chain_begins (n ∷ l) = go (binds (what n) x) (chain_begins l)
    where
      go : (b : Bool) → (rest : List ℕ) × (chain what x l ++ rest ≡ l ++ (0 ∷ [])) → (rest : List ℕ) × (cond b (n ∷ []) (n ∷ chain what x l) ++ rest ≡ n ∷ (l ++ (0 ∷ [])))
      go true ih = (l ++ (0 ∷ []), refl)
      go false ih = (ih.0, ap (λ (m : List ℕ). n ∷ m) ih.1)

  -- ---- decider and shadowed together are the bindings of x, in the order of the path
  pub all_bindings : (l : List ℕ) → before (decider what x l) (shadowed what x l) ≡ binders what x l
  all_bindings [] = refl
  all_bindings (n ∷ l) = go (binds (what n) x) (all_bindings l)
    where
      go : (b : Bool) → before (decider what x l) (shadowed what x l) ≡ binders what x l
          → before (cond b (some n) (decider what x l)) (binders what x (cond b l (behind_by (binds_at what x) l))) ≡ cond b (n ∷ binders what x l) (binders what x l)
      go true ih = refl
      go false ih = ih

  -- in order: the bindings of one way and of the way behind it are those of the two ways
  pub binders_behind : (l m : List ℕ) → binders what x (l ++ m) ≡ binders what x l ++ binders what x m
  binders_behind [] m = refl
  binders_behind (n ∷ l) m = go (binds (what n) x) (binders_behind l m)
    where
      go : (b : Bool) → binders what x (l ++ m) ≡ binders what x l ++ binders what x m → cond b (n ∷ binders what x (l ++ m)) (binders what x (l ++ m)) ≡ cond b (n ∷ binders what x l) (binders what x l) ++ binders what x m
      go true ih = ap (λ (k : List ℕ). n ∷ k) ih
      go false ih = ih

  -- a node is listed exactly if it is on the path and binds x
  pub binders_on : (n : ℕ) (l : List ℕ) → on n (binders what x l) ≡ (on n l && binds (what n) x)
  binders_on n [] = refl
  binders_on n (m ∷ l) = go (binds (what m) x) (eqb n m) refl refl (binders_on n l)
    where
      here : eqb n m ≡ true → (b : Bool) → binds (what m) x ≡ b → binds (what n) x ≡ b
      here q b e = rw (eqb-true n m q) e

      never : (c : Bool) → (c && false) ≡ false
      never true = refl
      never false = refl

      go : (b c : Bool) → binds (what m) x ≡ b → eqb n m ≡ c → on n (binders what x l) ≡ (on n l && binds (what n) x)
          → on n (cond b (m ∷ binders what x l) (binders what x l)) ≡ ((c || on n l) && binds (what n) x)
      go true true e q ih = rw (q, here q true e)
      go true false e q ih = rw q ih
      go false true e q ih = ih ∙ rw (here q false e) (never (on n l))
      go false false e q ih = ih

  -- .. and once
  pub binders_once : (l : List ℕ) → Once l → Once (binders what x l)
  binders_once [] o = tt
  binders_once (n ∷ l) o = go (binds (what n) x) (binders_once l o.1)
    where
      off : on n (binders what x l) ≡ false
      off = binders_on n l ∙ rw o.0

      go : (b : Bool) → Once (binders what x l) → Once (cond b (n ∷ binders what x l) (binders what x l))
      go true ih = (off, ih)
      go false ih = ih

  -- no environment is shown and called shadowed too: together they are no more than the path and the top
  pub few_lines : (l : List ℕ) → length (chain what x l) + length (shadowed what x l) ≤ suc (length l)
  few_lines [] = omega arith
  few_lines (n ∷ l) = go (binds (what n) x) (few_lines l)
    where
      fewer : (l : List ℕ) → length (binders what x l) ≤ length l
      fewer [] = omega arith
      fewer (m ∷ l) = one (binds (what m) x) (fewer l)
        where
          one : (b : Bool) → length (binders what x l) ≤ length l → length (cond b (m ∷ binders what x l) (binders what x l)) ≤ suc (length l)
          one true h = omega arith
          one false h = omega arith

      go : (b : Bool) → length (chain what x l) + length (shadowed what x l) ≤ suc (length l)
          → length (cond b (n ∷ []) (n ∷ chain what x l)) + length (binders what x (cond b l (behind_by (binds_at what x) l))) ≤ suc (suc (length l))
      go true ih = omega (arith, fewer l)
      go false ih = omega arith

pub why : (t : Tree) → Proper t → (a x : ℕ) → Why t a x
unfolding shown_at shadowed_at decider_at decided_by
why t ok a x =
    record {
      decider_shown = chain_ends t.what x (path t a);
      every_binding = all;
      listed = λ n. ap (on n) all ∙ binders_on t.what x n (path t a);
      once = rw all (binders_once t.what x (path t a) (path_once t ok a));
    }
  where
    all : before (decider t.what x (path t a)) (shadowed t.what x (path t a)) ≡ binders t.what x (path t a)
    all = all_bindings t.what x (path t a)
