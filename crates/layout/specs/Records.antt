-- Document 01, "The bytes of a store": the header, a cell and a node as parts of the list, the fields read from such a
-- record, and the records with fields changed. The places that a promise rests on are here and in Limits.
-- Assumes nothing: these are definitions.
use Rattle.std.specs.Prelude.{◌≡◌, ◌⊎◌, ℕ, ◌+◌, ◌-◌, ◌*◌, ◌/◌, ◌%◌, List, [], ◌∷◌, get_or, set, replicate, ℤ}
use Rattle.std.specs.Int.{w32}
use Rattle.std.proofs.Common.{of_z}
use Rattle.layout.specs.Limits.{header, cell_size, bare_size, node_size, cell_at, node_at}
use Rattle.layout.specs.Bytes.{part, splice, u16, put16}

-- ---- the header: its numbers in two bytes each, V, N, made, focus, and of a walk its target and the wind whose entering was
-- handed over (document 02, W5)
unfoldable pub head_of : List ℕ → List ℕ
head_of s = part s 0 header

-- the number k, and the header with another in its place
unfoldable pub head_n : List ℕ → ℕ → ℕ
head_n s k = u16 (head_of s) (2 * k)

unfoldable pub with_head : List ℕ → ℕ → ℕ → List ℕ
with_head s k v = splice s 0 header (put16 (head_of s) (2 * k) v)

-- a whole header, and the buffer with it
unfoldable pub head_b : ℕ → ℕ → ℕ → ℕ → ℕ → ℕ → List ℕ
head_b v n m f a c =
    v % 256 ∷ v / 256 ∷ n % 256 ∷ n / 256 ∷ m % 256 ∷ m / 256 ∷ f % 256 ∷ f / 256 ∷
    a % 256 ∷ a / 256 ∷ c % 256 ∷ c / 256 ∷ []

unfoldable pub with_header : List ℕ → List ℕ → List ℕ
with_header s h = splice s 0 header h

abbrev pub vars : List ℕ → ℕ
vars s = head_n s 0

abbrev pub room : List ℕ → ℕ
room s = head_n s 1

abbrev pub made : List ℕ → ℕ
made s = head_n s 2

abbrev pub focus : List ℕ → ℕ
focus s = head_n s 3

abbrev pub target : List ℕ → ℕ
target s = head_n s 4

abbrev pub handed : List ℕ → ℕ
handed s = head_n s 5

abbrev pub with_made : List ℕ → ℕ → List ℕ
with_made s m = with_head s 2 m

abbrev pub with_focus : List ℕ → ℕ → List ℕ
with_focus s f = with_head s 3 f

abbrev pub with_target : List ℕ → ℕ → List ℕ
with_target s a = with_head s 4 a

abbrev pub with_handed : List ℕ → ℕ → List ℕ
with_handed s c = with_head s 5 c

-- ---- a bare cell: its state, then its value in four bytes
abbrev pub blank_cell : List ℕ
blank_cell = 0 ∷ 0 ∷ 0 ∷ 0 ∷ 0 ∷ []

-- 0 unbound and all zero, or 1 and any value
abbrev pub ProperCell : List ℕ → Type 0
ProperCell c = (c ≡ blank_cell) ⊎ (get_or c 0 0 ≡ 1)

-- the value's 32 bits
unfoldable pub bits_c : List ℕ → ℕ
bits_c c = get_or c 1 0 + 256 * get_or c 2 0 + 65536 * get_or c 3 0 + 16777216 * get_or c 4 0

-- the bare cell of the value v
unfoldable pub value_c : ℤ → List ℕ
value_c v = 1 ∷ of_z w32 v % 256 ∷ of_z w32 v / 256 % 256 ∷ of_z w32 v / 65536 % 256 ∷ of_z w32 v / 16777216 % 256 ∷ []

-- in a record, its state at a and its value from b on, and the record with another there
abbrev pub cell_in : List ℕ → ℕ → ℕ → List ℕ
cell_in p a b = get_or p a 0 ∷ get_or p b 0 ∷ get_or p (b + 1) 0 ∷ get_or p (b + 2) 0 ∷ get_or p (b + 3) 0 ∷ []

abbrev pub put_in : List ℕ → ℕ → ℕ → List ℕ → List ℕ
put_in p a b c = set (set (set (set (set p a (get_or c 0 0)) b (get_or c 1 0)) (b + 1) (get_or c 2 0)) (b + 2) (get_or c 3 0)) (b + 3) (get_or c 4 0)

-- ---- a cell of the store
unfoldable pub cell_of : List ℕ → ℕ → List ℕ
cell_of s x = part s (cell_at x) cell_size

unfoldable pub with_cell : List ℕ → ℕ → List ℕ → List ℕ
with_cell s x c = splice s (cell_at x) cell_size c

-- the buffer with the first v cells replaced
unfoldable pub with_cells : List ℕ → ℕ → List ℕ → List ℕ
with_cells s v cs = splice s header (cell_size * v) cs

-- the bare cell in its record, and the record with another
unfoldable pub bare_c : List ℕ → List ℕ
bare_c p = get_or p 0 0 ∷ get_or p 1 0 ∷ get_or p 2 0 ∷ get_or p 3 0 ∷ get_or p 4 0 ∷ []

unfoldable pub put_c : List ℕ → List ℕ → List ℕ
put_c p c = put_in p 0 1 c

-- a whole cell, new, with the bare cell c: today nothing else
unfoldable pub whole_c : List ℕ → List ℕ
whole_c c = get_or c 0 0 ∷ get_or c 1 0 ∷ get_or c 2 0 ∷ get_or c 3 0 ∷ get_or c 4 0 ∷ []

-- the bare cell of x in open's top cells
unfoldable pub top_c : List ℕ → ℕ → List ℕ
top_c tops x = bare_c (part tops (bare_size * x) bare_size)

-- ---- a node of the store
unfoldable pub node_of : List ℕ → ℕ → List ℕ
node_of s n = part s (node_at (vars s) n) node_size

unfoldable pub with_node : List ℕ → ℕ → List ℕ → List ℕ
with_node s n p = splice s (node_at (vars s) n) node_size p

-- the buffer with the first n nodes behind v cells replaced
unfoldable pub with_nodes : List ℕ → ℕ → ℕ → List ℕ → List ℕ
with_nodes s v n ps = splice s (cell_at v) (node_size * n) ps

unfoldable pub kind_n : List ℕ → ℕ
kind_n p = get_or p 0 0

unfoldable pub parent_n : List ℕ → ℕ
parent_n p = u16 p 2

-- the variable or the prelude
unfoldable pub var_n : List ℕ → ℕ
var_n p = u16 p 4

-- zero or the postlude
unfoldable pub post_n : List ℕ → ℕ
post_n p = u16 p 6

-- the stored cell, as a bare cell
unfoldable pub stored_n : List ℕ → List ℕ
stored_n p = get_or p 1 0 ∷ get_or p 8 0 ∷ get_or p 9 0 ∷ get_or p 10 0 ∷ get_or p 11 0 ∷ []

-- the depth: 0 for the top (document 02, W3)
unfoldable pub depth_n : List ℕ → ℕ
depth_n p = u16 p 12

-- a node with another kind, and with another kind and another stored cell
unfoldable pub turn_n : List ℕ → ℕ → List ℕ
turn_n p k = set p 0 k

unfoldable pub swap_n : List ℕ → ℕ → List ℕ → List ℕ
swap_n p k c = put_in (set p 0 k) 1 8 c

-- a whole node: kind, parent, variable or prelude, zero or postlude, stored cell, depth
unfoldable pub node_b : ℕ → ℕ → ℕ → ℕ → List ℕ → ℕ → List ℕ
node_b k up a b c d =
    k ∷ get_or c 0 0 ∷ up % 256 ∷ up / 256 ∷ a % 256 ∷ a / 256 ∷ b % 256 ∷ b / 256 ∷
    get_or c 1 0 ∷ get_or c 2 0 ∷ get_or c 3 0 ∷ get_or c 4 0 ∷ d % 256 ∷ d / 256 ∷ []

-- kind 1 and zero otherwise; all zero
unfoldable pub top_node : List ℕ
top_node = 1 ∷ replicate (node_size - 1) 0

unfoldable pub blank_node : List ℕ
blank_node = replicate node_size 0
