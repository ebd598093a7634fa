-- What a buffer says, record by record: the header's numbers by their place, the cells by variable, the nodes by number.
-- Past V a cell is all zero, past N a node is, so no byte past the size is spoken of. Assumes nothing: these are definitions.
use Rattle.std.specs.Prelude.{cond, ℕ, ◌≤◌, List, ltb, length, drop, replicate}
use Rattle.layout.specs.Limits.{max_vars, max_nodes, cell_size, size_of}
use Rattle.layout.specs.Records.{head_n, vars, room, cell_of, node_of, blank_node}

pub record Fields : Type 0 where
  pub head : ℕ → ℕ
  pub cell : ℕ → List ℕ
  pub node : ℕ → List ℕ

abbrev pub vars_f : Fields → ℕ
vars_f f = f.head 0

abbrev pub room_f : Fields → ℕ
room_f f = f.head 1

abbrev pub made_f : Fields → ℕ
made_f f = f.head 2

abbrev pub focus_f : Fields → ℕ
focus_f f = f.head 3

abbrev pub target_f : Fields → ℕ
target_f f = f.head 4

abbrev pub handed_f : Fields → ℕ
handed_f f = f.head 5

unfoldable pub cells : List ℕ → ℕ → List ℕ
cells s x = cond (ltb x (vars s)) (cell_of s x) (replicate cell_size 0)

unfoldable pub nodes : List ℕ → ℕ → List ℕ
nodes s n = cond (ltb n (room s)) (node_of s n) blank_node

unfoldable pub fields_of : List ℕ → Fields
fields_of s = record { head = head_n s; cell = cells s; node = nodes s }

-- the numbers are in range from above, and the buffer is long enough
pub record Fit (s : List ℕ) : Type 0 where
  pub v : vars s ≤ max_vars
  pub n : room s ≤ max_nodes
  pub long : size_of (vars s) (room s) ≤ length s

-- the bytes past the size
unfoldable pub past : List ℕ → List ℕ
past s = drop (size_of (vars s) (room s)) s
