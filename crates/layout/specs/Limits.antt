-- The numbers of document 01, "The bytes of a store" and "Trace": limits and sizes, each written once.
-- The function `limits` of this crate ties the code's constants to them. Assumes nothing: these are definitions.
use Rattle.std.specs.Prelude.{ℕ, ◌+◌, ◌*◌}
use Rattle.layout.specs.declared.Sizes.{Sizes}

abbrev pub limits : Sizes
limits = record { vars = 256; nodes = 2048; header = 12; cell = 5; bare = 5; node = 14; event = 5; none = 65535 }

abbrev pub max_vars : ℕ
max_vars = limits.vars

abbrev pub max_nodes : ℕ
max_nodes = limits.nodes

abbrev pub header : ℕ
header = limits.header

-- a cell as a record of the store, and a bare cell as open takes it and a node stores it
abbrev pub cell_size : ℕ
cell_size = limits.cell

abbrev pub bare_size : ℕ
bare_size = limits.bare

abbrev pub node_size : ℕ
node_size = limits.node

abbrev pub event_size : ℕ
event_size = limits.event

-- stands in the header for no target, and for no wind (document 02, W5)
abbrev pub none_n : ℕ
none_n = limits.none

-- where the cell of x begins, where the node n begins, and where a store of v variables and n environments ends
abbrev pub cell_at : ℕ → ℕ
cell_at x = header + cell_size * x

abbrev pub node_at : ℕ → ℕ → ℕ
node_at v n = header + cell_size * v + node_size * n

abbrev pub size_of : ℕ → ℕ → ℕ
size_of v n = node_at v n
