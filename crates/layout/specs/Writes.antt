-- What the code below the walk writes, in bytes: one move, a new node, a set, an opened store.
-- Nothing here is a promise: the calls' promises speak of the view. Assumes nothing: these are definitions.
use Rattle.std.specs.Prelude.{ℕ, zero, suc, ◌+◌, ◌-◌, ◌*◌, ◌<◌, List, [], ◌++◌, replicate, ℤ}
use Rattle.layout.specs.Limits.{node_size, none_n}
use Rattle.layout.specs.Records.{head_b, vars, room, made, focus, with_focus, with_made, blank_cell, value_c, cell_of, with_cell, bare_c, put_c, whole_c, top_c, node_of, with_node, kind_n, parent_n, var_n, stored_n, depth_n, turn_n, swap_n, node_b, top_node}
use Rattle.layout.specs.Kinds.{by_kind, left_kind, entered_kind, IsBinding, IsNode}
use Rattle.layout.specs.Fields.{nodes, Fit}

-- the cell of the binding n and its stored cell change places, and n's kind becomes k
unfoldable pub swap_b : List ℕ → ℕ → ℕ → List ℕ
swap_b s n k =
    let x = var_n (node_of s n) in
    let t = with_node s n (swap_n (node_of s n) k (bare_c (cell_of s x))) in
    with_cell t x (put_c (cell_of t x) (stored_n (node_of s n)))

-- by its kind, the node n becomes of kind k
unfoldable pub turn_b : List ℕ → ℕ → ℕ → List ℕ
turn_b s n k = by_kind (kind_n (node_of s n)) (swap_b s n k) (with_node s n (turn_n (node_of s n) k)) s s

unfoldable pub move_b : List ℕ → ℕ → ℕ → ℕ → List ℕ
move_b s n k f = with_focus (turn_b s n k) f

-- the focus is left for its parent; the child n of the focus is entered
abbrev pub leave_b : List ℕ → List ℕ
leave_b s = move_b s (focus s) (left_kind (kind_n (node_of s (focus s)))) (parent_n (node_of s (focus s)))

abbrev pub enter_b : List ℕ → ℕ → List ℕ
enter_b s n = move_b s n (entered_kind (kind_n (node_of s n))) n

-- the node n can be turned: it has its place, and a binding's variable has its cell
pub record Turns (s : List ℕ) (n : ℕ) : Type 0 where
  pub fit : Fit s
  pub below : n < room s
  pub node : IsNode (kind_n (node_of s n))
  pub var : IsBinding (kind_n (node_of s n)) → var_n (node_of s n) < vars s

-- the cell of x takes the value v
unfoldable pub set_b : List ℕ → ℕ → ℤ → List ℕ
set_b s x v = with_cell s x (put_c (cell_of s x) (value_c v))

-- the depth of a child of the focus
unfoldable pub depth_under : List ℕ → ℕ
depth_under s = suc (depth_n (nodes s (focus s)))

-- a new node p, number = made, becomes the focus
unfoldable pub grow_b : List ℕ → List ℕ → List ℕ
grow_b s p = with_focus (with_made (with_node s (made s) p) (made s + 1)) (made s)

-- a binding of x to v: it stores the cell of x, and the cell takes v
unfoldable pub bind_b : List ℕ → ℕ → ℤ → List ℕ
bind_b s x v = set_b (grow_b s (node_b 3 (focus s) x 0 (bare_c (cell_of s x)) (depth_under s))) x v

unfoldable pub wind_b : List ℕ → ℕ → ℕ → List ℕ
wind_b s p q = grow_b s (node_b 5 (focus s) p q blank_cell (depth_under s))

-- ---- open: the header, a new cell for each top cell as it was handed in, the top, blanks
-- the first v cells
abbrev pub cells_b : ℕ → List ℕ → List ℕ
cells_b zero tops = []
cells_b (suc v) tops = cells_b v tops ++ whole_c (top_c tops v)

-- k bytes of nodes: the top, then blanks
unfoldable pub nodes_b : ℕ → List ℕ
nodes_b k = top_node ++ replicate (k - node_size) 0

unfoldable pub open_b : ℕ → ℕ → List ℕ → List ℕ
open_b v n tops = head_b v n 1 0 none_n none_n ++ (cells_b v tops ++ (top_node ++ replicate (node_size * (n - 1)) 0))
