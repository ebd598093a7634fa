-- Fields read as a store of the rules (document 01, "The bytes of a store"): what each node is, its parent, its mode, the
-- cells and the stored cells. The rank is the depth.
-- Assumes nothing: these are definitions.
use Rattle.std.specs.Prelude.{cond, ℕ, List, eqb, get_or}
use Rattle.std.proofs.Math.Option.{Option, none, some}
use Rattle.std.specs.Prelude as answered
use Rattle.std.specs.Prelude.{None, Some}
use Rattle.std.specs.Int.{w32}
use Rattle.std.proofs.Common.{to_z}
use Rattle.rules.specs.Tree.{What, blank, top, binding, wind, Tree}
use Rattle.rules.specs.Values.{Cell, unbound, value}
use Rattle.rules.specs.Store.{Store}
use Rattle.rules.specs.World.{Walk}
use Rattle.layout.specs.Limits.{none_n}
use Rattle.layout.specs.Records.{bits_c, bare_c, kind_n, parent_n, var_n, post_n, stored_n, depth_n}
use Rattle.layout.specs.Kinds.{by_kind, is_in}
use Rattle.layout.specs.Fields.{Fields, fields_of, focus_f, target_f, handed_f}

-- a bare cell: state 0 is unbound, else the value in two's complement
unfoldable pub as_cell : List ℕ → Cell
as_cell c = cond (eqb (get_or c 0 0) 0) unbound (value (to_z w32 (bits_c c)))

unfoldable pub what_n : List ℕ → What
what_n p = by_kind (kind_n p) (binding (var_n p)) (wind (var_n p) (post_n p)) top blank

unfoldable pub up_n : List ℕ → Option ℕ
up_n p = by_kind (kind_n p) (some (parent_n p)) (some (parent_n p)) none none

unfoldable pub tree_f : (ℕ → List ℕ) → Tree
tree_f node = record { what = λ n. what_n (node n); up = λ n. up_n (node n); rank = λ n. depth_n (node n) }

unfoldable pub view_f : Fields → Store
view_f f = record {
  tree = tree_f f.node;
  focus = focus_f f;
  values = record { cell = λ x. as_cell (bare_c (f.cell x)); stored = λ n. as_cell (stored_n (f.node n)) };
  mode = λ n. is_in (kind_n (f.node n));
}

unfoldable pub view : List ℕ → Store
view s = view_f (fields_of s)

-- the walk under way (document 02, W5): a number in the header, or none
abbrev pub or_none : ℕ → Option ℕ
or_none n = cond (eqb n none_n) none (some n)

-- an answer of the code, as the rules have it
abbrev pub as_option : answered.Option ℕ → Option ℕ
as_option None = none
as_option (Some n) = some n

abbrev pub walk_to : Option ℕ → Option ℕ → Option Walk
walk_to none c = none
walk_to (some a) c = some (record { target = a; handed = c })

unfoldable pub walk_f : Fields → Option Walk
walk_f f = walk_to (or_none (target_f f)) (or_none (handed_f f))

unfoldable pub walk_of : List ℕ → Option Walk
walk_of s = walk_f (fields_of s)
