-- Why a variable has its value at an environment (document 02, W7): the nodes of a path that bind it, the environments up to the one
-- that decides, and the bindings behind that one, which it shadows. Shown: the decider is the first binding and stands where the shown
-- environments end; decider and shadowed together are every binding of the variable on the path, each once, in order, and no other.
-- From document 02, W7; TR397, Figure 2 (the deep rule). Assumes nothing.
use Rattle.std.specs.Prelude.{◌≡◌, Bool, cond, ◌&&◌, List, [], ◌∷◌, ℕ}
use Rattle.std.proofs.Math.Option.{Option, none, some}
use Rattle.rules.specs.Basic.{on, Once}
use Rattle.rules.specs.Tree.{What, binds, Tree, path}
use Rattle.rules.specs.Calls.{decider_at, decided_by}

-- a node in front of others, if there is one
abbrev pub before : Option ℕ → List ℕ → List ℕ
before none l = l
before (some n) l = n ∷ l

-- the first of some nodes, if there is one
abbrev pub first : List ℕ → Option ℕ
first [] = none
first (n ∷ l) = some n

-- the last of some environments, the top's number where there is none
abbrev pub last : List ℕ → ℕ
last [] = 0
last (n ∷ []) = n
last (n ∷ m ∷ l) = last (m ∷ l)

-- a way up, cut behind the first node where it stops: the environments before the cut, with the top, number 0, where it never stops;
-- and the nodes behind it
module _ (stop : ℕ → Bool) where
  abbrev pub chain_by : List ℕ → List ℕ
  chain_by [] = 0 ∷ []
  chain_by (n ∷ l) = cond (stop n) (n ∷ []) (n ∷ chain_by l)

  abbrev pub behind_by : List ℕ → List ℕ
  behind_by [] = []
  behind_by (n ∷ l) = cond (stop n) l (behind_by l)

module _ (what : ℕ → What) (x : ℕ) where
  abbrev pub binds_at : ℕ → Bool
  binds_at n = binds (what n) x

  -- the nodes that bind x, in the order of the path
  abbrev pub binders : List ℕ → List ℕ
  binders [] = []
  binders (n ∷ l) = cond (binds (what n) x) (n ∷ binders l) (binders l)

  -- the environments up to the decider, the decider too
  abbrev pub chain : List ℕ → List ℕ
  chain l = chain_by binds_at l

  -- the bindings of x behind the decider
  abbrev pub shadowed : List ℕ → List ℕ
  shadowed l = binders (behind_by binds_at l)

-- ---- for an environment a of a tree: the decider and the bindings behind it, by the deep rule
-- what is shown of x at a: the environments up to the decider, and the shadowed bindings
unfoldable pub shown_at : Tree → ℕ → ℕ → List ℕ
shown_at t a x = chain t.what x (path t a)

unfoldable pub shadowed_at : Tree → ℕ → ℕ → List ℕ
shadowed_at t a x = shadowed t.what x (path t a)

-- document 02's sentences: "the decider shown is the deep rule's"; "every binding of the variable on the path is listed once, in
-- order"; "nothing else is called shadowed"
pub record Why (t : Tree) (a x : ℕ) : Type 0 where
  pub decider_shown : last (shown_at t a x) ≡ decided_by t a x
  pub every_binding : before (decider_at t a x) (shadowed_at t a x) ≡ binders t.what x (path t a)
  pub listed : (n : ℕ) → on n (before (decider_at t a x) (shadowed_at t a x)) ≡ (on n (path t a) && binds (t.what n) x)
  pub once : Once (before (decider_at t a x) (shadowed_at t a x))
