-- Document 01's kinds: 0 blank, 1 top, 2 binding out, 3 binding in, 4 wind out, 5 wind in. What is in or out, a binding
-- or a wind is read from the kind here; of the laws, those on what a node binds and tells (Reading, RouteLaws) part the kinds by
-- their ranges too. Assumes nothing.
use Rattle.std.specs.Prelude.{◌⊎◌, Bool, false, cond, ◌||◌, ℕ, ◌+◌, ◌-◌, ◌≤◌, leb, eqb}

-- a between lo and hi
abbrev pub within : ℕ → ℕ → ℕ → Bool
within lo a hi = cond (leb lo a) (leb a hi) false

-- a binding's kind, a wind's, one of the two
abbrev pub IsBinding : ℕ → Type 0
IsBinding k = (2 ≤ k) × (k ≤ 3)

abbrev pub IsWind : ℕ → Type 0
IsWind k = (4 ≤ k) × (k ≤ 5)

abbrev pub IsNode : ℕ → Type 0
IsNode k = IsBinding k ⊎ IsWind k

-- by the kind k: b for a binding, w for a wind, t for the top, o for anything else
unfoldable pub by_kind : {A : Type 0} → ℕ → A → A → A → A → A
by_kind k b w t o = cond (within 2 k 3) b (cond (within 4 k 5) w (cond (eqb k 1) t o))

-- in, of a binding or a wind
unfoldable pub is_in : ℕ → Bool
is_in k = eqb k 3 || eqb k 5

-- out, of a binding or a wind: the top counts as in
unfoldable pub is_out : ℕ → Bool
is_out k = eqb k 2 || eqb k 4

-- the kind once left, and once entered
abbrev pub left_kind : ℕ → ℕ
left_kind k = k - 1

abbrev pub entered_kind : ℕ → ℕ
entered_kind k = k + 1

-- a node's kind is one of four
pub data Node : ℕ → Type 0 where
  binding_out : Node 2
  binding_in : Node 3
  wind_out : Node 4
  wind_in : Node 5
