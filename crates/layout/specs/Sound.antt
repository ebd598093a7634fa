-- Document 01's sentence "A store is sound when", clause by clause. Assumes nothing: these are definitions.
use Rattle.std.specs.Prelude.{◌≡◌, Bool, true, false, ◌⊎◌, ℕ, suc, ◌≤◌, ◌<◌, List, length, Option, None, Some}
use Rattle.rules.specs.Basic.{on}
use Rattle.rules.specs.Tree.{path}
use Rattle.rules.specs.Leg.{Walking}
use Rattle.layout.specs.Limits.{max_vars, max_nodes, none_n, size_of}
use Rattle.layout.specs.Records.{vars, room, made, focus, blank_cell, ProperCell, bare_c, kind_n, parent_n, var_n, post_n, stored_n, depth_n, top_node, blank_node}
use Rattle.layout.specs.Kinds.{IsBinding, IsWind, IsNode, is_in}
use Rattle.layout.specs.Fields.{Fields, fields_of, vars_f, room_f, made_f, focus_f, target_f, handed_f}
use Rattle.layout.specs.View.{tree_f, walk_f}

-- the answer of a test: yes with a proof, or no with a refutation
abbrev pub Says : Bool → Type 0 → Type 0
Says true P = P
Says false P = P → ⊥

-- the answer of a test that tells a number beside its yes: one with Q
abbrev pub SaysWith : Option ℕ → Type 0 → (ℕ → Type 0) → Type 0
SaysWith None P Q = P → ⊥
SaysWith (Some k) P Q = P × Q k

-- the node n, where there are v variables and its parent's depth is d: a binding or a wind, a parent below its own number, that
-- depth plus 1 (document 02, W3), for a binding a variable below V, zero in place of the postlude and a proper stored cell, for a
-- wind a zero stored state and value
pub record NodeOk (v n d : ℕ) (p : List ℕ) : Type 0 where
  pub node : IsNode (kind_n p)
  pub parent : parent_n p < n
  pub depth : depth_n p ≡ suc d
  pub var : IsBinding (kind_n p) → var_n p < v
  pub zero : IsBinding (kind_n p) → post_n p ≡ 0
  pub stored : IsBinding (kind_n p) → ProperCell (stored_n p)
  pub still : IsWind (kind_n p) → stored_n p ≡ blank_cell

-- V and N are in range; 1 ≤ made ≤ N; focus < made
pub record HeadOk (v n made focus : ℕ) : Type 0 where
  pub vars_low : 1 ≤ v
  pub vars_high : v ≤ max_vars
  pub room_low : 1 ≤ n
  pub room_high : n ≤ max_nodes
  pub made_low : 1 ≤ made
  pub made_high : made ≤ n
  pub focus_made : focus < made

-- every cell is proper
abbrev pub CellsOk : Fields → Type 0
CellsOk f = (x : ℕ) → x < vars_f f → ProperCell (bare_c (f.cell x))

-- the depth of n's parent
abbrev pub depth_above : Fields → ℕ → ℕ
depth_above f n = depth_n (f.node (parent_n (f.node n)))

-- every node but the top is all zero, or a node as above
abbrev pub NodesOk : Fields → Type 0
NodesOk f = (n : ℕ) → 1 ≤ n → n < room_f f → (f.node n ≡ blank_node) ⊎ NodeOk (vars_f f) n (depth_above f n) (f.node n)

-- the made numbers have no gap: the nodes from made on, and no others, are all zero
abbrev pub NoGap : Fields → Type 0
NoGap f = (n : ℕ) → 1 ≤ n → n < room_f f → (f.node n ≡ blank_node → made_f f ≤ n) × (made_f f ≤ n → f.node n ≡ blank_node)

-- every clause but the one on modes; node 0 has kind 1 and is zero otherwise
pub record Shape (f : Fields) : Type 0 where
  pub head : HeadOk (vars_f f) (room_f f) (made_f f) (focus_f f)
  pub cells : CellsOk f
  pub top : f.node 0 ≡ top_node
  pub nodes : NodesOk f
  pub no_gap : NoGap f

-- the in kinds are exactly the nodes on the path from focus to top, node 0 left out
abbrev pub Ins : Fields → Type 0
Ins f = (n : ℕ) → is_in (kind_n (f.node n)) ≡ on n (path (tree_f f.node) (focus_f f))

pub record SoundF (f : Fields) : Type 0 where
  pub shape : Shape f
  pub ins : Ins f

-- the buffer is long enough, and its header is good
pub record Headed (s : List ℕ) : Type 0 where
  pub long : size_of (vars s) (room s) ≤ length s
  pub head : HeadOk (vars s) (room s) (made s) (focus s)

-- the buffer is long enough, and its fields are sound: every clause but the one on walks
pub record Whole (s : List ℕ) : Type 0 where
  pub long : size_of (vars s) (room s) ≤ length s
  pub fields : SoundF (fields_of s)

-- document 02, W5: a target is made; a wind whose entering was handed over stands there only during a walk, and is the child of the
-- focus on the target's path
pub record WalkOk (f : Fields) : Type 0 where
  pub walking : Walking (tree_f f.node) (focus_f f) (walk_f f)
  pub only : target_f f ≡ none_n → handed_f f ≡ none_n

-- all clauses
pub record Sound (s : List ℕ) : Type 0 where
  pub whole : Whole s
  pub walk : WalkOk (fields_of s)
