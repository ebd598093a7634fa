-- What open is handed: document 01, "open (V, N, top cells, store buffer)". Assumes nothing: these are definitions.
use Rattle.std.specs.Prelude.{◌≡◌, cond, ℕ, ◌*◌, ◌≤◌, List, ltb, length}
use Rattle.rules.specs.Values.{Cell, unbound}
use Rattle.layout.specs.Limits.{max_vars, max_nodes, bare_size}
use Rattle.layout.specs.Records.{top_c}
use Rattle.layout.specs.View.{as_cell}

-- V and N are in range, and there are top cells for V variables
pub record OpenFits (v n : ℕ) (tops : List ℕ) : Type 0 where
  pub vars_low : 1 ≤ v
  pub vars_high : v ≤ max_vars
  pub room_low : 1 ≤ n
  pub room_high : n ≤ max_nodes
  pub tops_long : length tops ≡ bare_size * v

-- the top cells by variable
unfoldable pub top_cells : ℕ → List ℕ → ℕ → Cell
top_cells v tops x = cond (ltb x v) (as_cell (top_c tops x)) unbound
