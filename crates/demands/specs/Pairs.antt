-- W4's hypotheses, by computed pairs of runs on a store opened for one variable with the top value 1 and four environments: three
-- pairs that end in different bytes, each with one hypothesis missing, and one that meets them all. Each speaks of every run that
-- the promises allow for these calls. From document 02, W4. Assumes nothing.
use Rattle.std.specs.Prelude.{◌≡◌, ◌≢◌, ℕ, suc, List, [], ◌∷◌, pos}
use Rattle.rules.specs.Act.{bind, goto, begin, Call, make, set, switch, stride}
use Rattle.layout.specs.Records.{focus}
use Rattle.promises.specs.Answers.{Numbers}
use Rattle.promises.specs.Promises.{Opened}
use Rattle.demands.specs.Cases.{one}
use Rattle.demands.specs.Doors.{Step, Run, NoWalk, marks, Extra}

-- what a call of a run found and gave back; the run that makes these calls, each lent no trace
pub record Given : Type 0 where
  pub place : ℕ
  pub traced : List ℕ
  pub numbers : Numbers

abbrev pub making : List Call → (ℕ → Given) → List Step
making [] g = []
making (c ∷ cs) g = record { call = c; place = (g 0).place; lent = []; traced = (g 0).traced; numbers = (g 0).numbers } ∷ making cs (λ i. g (suc i))

-- of any two runs that make these calls on an opened store
abbrev pub Pair : List Call → List Call → ((s s₁ s₂ : List ℕ) (r₁ r₂ : List Step) → Run s r₁ s₁ → Run s r₂ s₂ → Type 0) → Type 0
Pair cs ds P =
    (s₀ s : List ℕ) (n : Numbers) → Opened 1 4 one s₀ s n → (g h : ℕ → Given) (s₁ s₂ : List ℕ) (r₁ : Run s (making cs g) s₁) (r₂ : Run s (making ds h) s₂) → P s s₁ s₂ (making cs g) (making ds h) r₁ r₂

abbrev pub born : Call
born = make (bind 0 (pos 5))

abbrev pub to : ℕ → Call
to a = switch (goto a)

-- set inside and then to the top; to the top and set there; set inside; inside by way of the top, and set there
abbrev pub inside_out : List Call
inside_out = born ∷ set 0 (pos 7) ∷ to 0 ∷ []

abbrev pub outside : List Call
outside = born ∷ to 0 ∷ set 0 (pos 7) ∷ []

abbrev pub inside : List Call
inside = born ∷ set 0 (pos 7) ∷ []

abbrev pub round : List Call
round = born ∷ to 0 ∷ to 1 ∷ set 0 (pos 7) ∷ []

-- a walk to the top is begun, and stays under way
abbrev pub begun : List Call
begun = born ∷ stride (begin 0) ∷ []

pub record Pairs : Type 0 where
  -- the focus at the set differs; both end at the top
  pub set_elsewhere : Pair inside_out outside (λ s s₁ s₂ r₁ r₂ run₁ run₂. (focus s₁ ≡ focus s₂) × (s₁ ≢ s₂))
  -- the same marks; the focus at the end differs
  pub ends_elsewhere : Pair (born ∷ []) (born ∷ to 0 ∷ []) (λ s s₁ s₂ r₁ r₂ run₁ run₂. (marks r₁ ≡ marks r₂) × (s₁ ≢ s₂))
  -- the same marks and the same focus at the end; a walk is under way in one (document 02, W5)
  pub walk_begun : Pair (born ∷ []) begun (λ s s₁ s₂ r₁ r₂ run₁ run₂. (marks r₁ ≡ marks r₂) × (focus s₁ ≡ focus s₂) × (s₁ ≢ s₂))
  -- round by the top and back before the set: all hypotheses are met
  pub met : Pair inside round (λ s s₁ s₂ r₁ r₂ run₁ run₂. NoWalk run₁ × NoWalk run₂ × (marks r₁ ≡ marks r₂) × Extra r₁ r₂ × (focus s₁ ≡ focus s₂))
