-- What is proved of specs/Tree.antt, whose head says it in words. Assumes nothing.
use Rattle.std.specs.Prelude.{◌≡◌, refl, ◌≢◌, ◌⊎◌, Bool, true, false, ℕ, zero, suc, ◌+◌, ◌≤◌, ◌<◌, length}
use Rattle.std.proofs.Common.{sym, ◌∙◌, inl, inr, le_refl, arith}
use Rattle.std.proofs.Math.Path.{ap}
use Rattle.std.proofs.Math.Option.{Option, none, some}
use mathlib.Core.List.{List, [], ◌∷◌, ◌++◌}
use Rattle.rules.specs.Basic.{on, Once}
use Rattle.rules.proofs.Basic.{clash, some≢none, on_cases, on_head, on_more, on_tail}
use Rattle.rules.specs.Tree.{Tree, Proper, Ranked, climb, path}

climb_none : (t : Tree) (f a : ℕ) → t.up a ≡ none → climb t f a ≡ []
climb_none t zero a e = refl
climb_none t (suc f) a e = rw (e, climb)

climb_some : (t : Tree) (f a p : ℕ) → t.up a ≡ some p → climb t (suc f) a ≡ a ∷ climb t f p
climb_some t f a p e = rw (e, climb)

module _ (t : Tree) (ok : Proper t) where
  -- what holds at the top (and at blanks) and goes from a parent to its child holds everywhere
  pub downward : (P : ℕ → Type 0) → ((a : ℕ) → t.up a ≡ none → P a) → ((a p : ℕ) → t.up a ≡ some p → P p → P a) → (a : ℕ) → P a
  downward P base step a = go (t.rank a) a (le_refl (t.rank a))
    where
      node : (f a : ℕ) → t.rank a ≤ f → ((p : ℕ) → t.rank p < f → P p) → (o : Option ℕ) → t.up a ≡ o → P a
      node f a h below none e = base a e
      node f a h below (some p) e = step a p e (below p (omega (arith, ok.falls a p e)))

      go : (f a : ℕ) → t.rank a ≤ f → P a
      go zero a h = node 0 a h (λ p k. absurd (omega arith)) (t.up a) refl
      go (suc f) a h = node (suc f) a h (λ p k. go f p (omega arith)) (t.up a) refl

  -- any fuel that reaches the rank gives the same path
  climb_any : (a f g : ℕ) → t.rank a ≤ f → t.rank a ≤ g → climb t f a ≡ climb t g a
  climb_any = downward (λ a. (f g : ℕ) → t.rank a ≤ f → t.rank a ≤ g → climb t f a ≡ climb t g a)
      (λ a e f g hf hg. climb_none t f a e ∙ sym (climb_none t g a e)) up_one
    where
      up_one : (a p : ℕ) → t.up a ≡ some p → ((f g : ℕ) → t.rank p ≤ f → t.rank p ≤ g → climb t f p ≡ climb t g p)
          → (f g : ℕ) → t.rank a ≤ f → t.rank a ≤ g → climb t f a ≡ climb t g a
      up_one a p e ih zero g hf hg = absurd (omega (arith, ok.falls a p e))
      up_one a p e ih (suc f) zero hf hg = absurd (omega (arith, ok.falls a p e))
      up_one a p e ih (suc f) (suc g) hf hg =
          let same : climb t f p ≡ climb t g p = ih f g (omega (arith, ok.falls a p e)) (omega (arith, ok.falls a p e)) in
          cc (climb_some t f a p e, climb_some t g a p e)

  pub path_top : (a : ℕ) → t.up a ≡ none → path t a ≡ []
  unfolding path
  path_top a e = climb_none t (t.rank a) a e

  pub path_up : (a p : ℕ) → t.up a ≡ some p → path t a ≡ a ∷ path t p
  unfolding path
  path_up a p e =
      climb_any a (t.rank a) (suc (t.rank p + t.rank a)) (le_refl _) (omega arith)
      ∙ climb_some t (t.rank p + t.rank a) a p e
      ∙ ap (λ (l : List ℕ). a ∷ l) (climb_any p (t.rank p + t.rank a) (t.rank p) (omega arith) (le_refl _))

  -- the depth is the length of the path
  pub rank_depth : Ranked t → (a : ℕ) → t.rank a ≡ length (path t a)
  rank_depth r = downward (λ a. t.rank a ≡ length (path t a)) (λ a e. r.at_top a e ∙ rw (path_top a e))
      (λ a p e ih. r.below a p e ∙ ap suc ih ∙ rw (path_up a p e))

  -- depths are told by the parents
  pub ranks_once : (t' : Tree) → Ranked t → Ranked t' → ((a : ℕ) → t'.up a ≡ t.up a) → (a : ℕ) → t.rank a ≡ t'.rank a
  ranks_once t' r r' up = downward (λ a. t.rank a ≡ t'.rank a) (λ a e. r.at_top a e ∙ sym (r'.at_top a (up a ∙ e)))
      (λ a p e ih. r.below a p e ∙ ap suc ih ∙ sym (r'.below a p (up a ∙ e)))

  -- a path climbs: every node on it ranks no higher than its start
  pub on_path_rank : (a n : ℕ) → on n (path t a) ≡ true → t.rank n ≤ t.rank a
  on_path_rank = downward (λ a. (n : ℕ) → on n (path t a) ≡ true → t.rank n ≤ t.rank a)
      (λ a e n h. clash h (rw (path_top a e))) up_one
    where
      up_one : (a p : ℕ) → t.up a ≡ some p → ((n : ℕ) → on n (path t p) ≡ true → t.rank n ≤ t.rank p)
          → (n : ℕ) → on n (path t a) ≡ true → t.rank n ≤ t.rank a
      up_one a p e ih n h = go (on_cases n a (path t p) (rw (path_up a p e) at h))
        where
          go : (n ≡ a) ⊎ (on n (path t p) ≡ true) → t.rank n ≤ t.rank a
          go (inl q) = rw q (le_refl _)
          go (inr k) = omega (arith, ih n k, ok.falls a p e)

  -- so a node is on none of the paths above it
  pub off_above : (a p n : ℕ) → t.up a ≡ some p → on n (path t p) ≡ true → n ≢ a
  off_above a p n e h q = omega (arith, ok.falls a p e, on_path_rank p n h, ap t.rank q)

  -- a node at least as deep as another is not on its path
  pub deeper_off : (a b : ℕ) → t.rank b ≤ t.rank a → a ≢ b → on a (path t b) ≡ false
  deeper_off a b h d = up_b (t.up b) refl
    where
      go : (p : ℕ) → t.up b ≡ some p → (c : Bool) → on a (path t p) ≡ c → c ≡ false
      go p e true k = absurd (omega (arith, on_path_rank p a k, ok.falls b p e))
      go p e false k = refl

      up_b : (o : Option ℕ) → t.up b ≡ o → on a (path t b) ≡ false
      up_b none e = rw (path_top b e)
      up_b (some p) e = rw (path_up b p e) (on_tail a b (path t p) d ∙ go p e (on a (path t p)) refl)

  pub off_parent : (a p : ℕ) → t.up a ≡ some p → on a (path t p) ≡ false
  off_parent a p e = go (on a (path t p)) refl
    where
      go : (b : Bool) → on a (path t p) ≡ b → b ≡ false
      go true h = absurd (off_above a p a e h refl)
      go false h = refl

  -- a path has each node once
  pub path_once : (a : ℕ) → Once (path t a)
  path_once = downward (λ a. Once (path t a)) (λ a e. rw (path_top a e) tt)
      (λ a p e ih. rw (path_up a p e) (off_parent a p e, ih))

  -- only nodes with a parent are on a path
  pub on_path_up : (a n : ℕ) → t.up n ≡ none → on n (path t a) ≡ false
  on_path_up a n q = downward (λ a. on n (path t a) ≡ false) (λ a e. rw (path_top a e)) up_one a
    where
      up_one : (a p : ℕ) → t.up a ≡ some p → on n (path t p) ≡ false → on n (path t a) ≡ false
      up_one a p e ih = rw (path_up a p e) (on_tail n a (path t p) (λ h. some≢none e (rw h at q)) ∙ ih)

  -- a path through n is some nodes, then the path of n
  pub path_through : (n a : ℕ) → on n (path t a) ≡ true → (pre : List ℕ) × (path t a ≡ pre ++ path t n)
  path_through n = downward (λ a. on n (path t a) ≡ true → (pre : List ℕ) × (path t a ≡ pre ++ path t n))
      (λ a e h. clash h (rw (path_top a e))) up_one
    where
      up_one : (a p : ℕ) → t.up a ≡ some p → (on n (path t p) ≡ true → (pre : List ℕ) × (path t p ≡ pre ++ path t n))
          → on n (path t a) ≡ true → (pre : List ℕ) × (path t a ≡ pre ++ path t n)
      up_one a p e ih h = go (on_cases n a (path t p) (rw (path_up a p e) at h))
        where
          go : (n ≡ a) ⊎ (on n (path t p) ≡ true) → (pre : List ℕ) × (path t a ≡ pre ++ path t n)
          go (inl q) = ([], rw q)
          go (inr q) = let (pre, r) = ih q in (a ∷ pre, path_up a p e ∙ ap (λ (l : List ℕ). a ∷ l) r)

  -- with a node its parent is on a path, unless that is the top
  pub on_path_above : (a n p q : ℕ) → t.up n ≡ some p → t.up p ≡ some q → on n (path t a) ≡ true → on p (path t a) ≡ true
  on_path_above a n p q e f = downward (λ a. on n (path t a) ≡ true → on p (path t a) ≡ true) (λ a e h. clash h (rw (path_top a e))) up_one a
    where
      up_one : (a b : ℕ) → t.up a ≡ some b → (on n (path t b) ≡ true → on p (path t b) ≡ true) → on n (path t a) ≡ true → on p (path t a) ≡ true
      up_one a b u ih h = rw (path_up a b u) (go (on_cases n a (path t b) (rw (path_up a b u) at h)))
        where
          go : (n ≡ a) ⊎ (on n (path t b) ≡ true) → on p (a ∷ path t b) ≡ true
          go (inr k) = on_more p a (path t b) (ih k)
          go (inl z) =
              let same : some p ≡ some b = sym e ∙ ap t.up z ∙ u in
              let is : p ≡ b = cc in
              on_more p a (path t b) (rw (← is) (rw (path_up p q f) (on_head p (path t q))))

-- two trees that agree on a set of nodes closed under parents have the same paths there
pub path_agree : (t t' : Tree) → Proper t → Proper t' → (Q : ℕ → Type 0)
    → ((a p : ℕ) → Q a → t.up a ≡ some p → Q p) → ((a : ℕ) → Q a → t'.up a ≡ t.up a) → (a : ℕ) → Q a → path t' a ≡ path t a
path_agree t t' ok ok' Q closed agree = downward t ok (λ a. Q a → path t' a ≡ path t a)
    (λ a e q. path_top t' ok' a (agree a q ∙ e) ∙ sym (path_top t ok a e))
    (λ a p e ih q. path_up t' ok' a p (agree a q ∙ e) ∙ ap (λ (l : List ℕ). a ∷ l) (ih (closed a p q e)) ∙ sym (path_up t ok a p e))
