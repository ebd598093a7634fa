-- What the soundness check finds, one thing after the other: the inner and the blank nodes by their numbers, how many nodes are in, and
-- that where a node is in, what is above it is too. Assumes nothing: these are definitions.
use Rattle.std.specs.Prelude.{◌≡◌, Bool, ℕ, ◌+◌, ◌≤◌, ◌<◌}
use Rattle.std.proofs.Math.Bool.{true, false}
use Rattle.rules.specs.Modes.{num, count}
use Rattle.layout.specs.Records.{kind_n, parent_n, blank_node}
use Rattle.layout.specs.Kinds.{is_in, is_out}
use Rattle.layout.specs.Fields.{Fields, made_f, room_f, vars_f}
use Rattle.layout.specs.Sound.{NodeOk, depth_above}

-- ---- how many are in: of the nodes 1 to n-1, k, counted one by one; the top is left out
pub record Counted (b : ℕ → Bool) (n k : ℕ) : Type 0 where
  pub few : k < n
  pub all : count b n ≡ num (b 0) + k

abbrev pub mode_f : Fields → ℕ → Bool
mode_f f n = is_in (kind_n (f.node n))

-- ---- the modes without a climb: as many nodes are in as the focus is deep, and where a node is in, what is above it is too
-- where the node n is in, its parent is in or the top
abbrev pub Rises : Fields → ℕ → Type 0
Rises f n = mode_f f n ≡ true → is_out (kind_n (f.node (parent_n (f.node n)))) ≡ false

abbrev pub AllRise : Fields → Type 0
AllRise f = (n : ℕ) → 1 ≤ n → n < made_f f → Rises f n

-- ---- the same by numbers: the inner nodes are those from 1 to made, and the blank ones those from made on
abbrev pub InnersOk : Fields → Type 0
InnersOk f = (n : ℕ) → 1 ≤ n → n < made_f f → NodeOk (vars_f f) n (depth_above f n) (f.node n)

abbrev pub BlanksOk : Fields → Type 0
BlanksOk f = (n : ℕ) → made_f f ≤ n → n < room_f f → f.node n ≡ blank_node
