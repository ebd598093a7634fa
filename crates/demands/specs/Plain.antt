-- A deep store that stores nothing but by bindings is its tree, its focus and its values: two of them that agree in these are
-- one. What a sound store means is so, and `act` keeps it so. From document 01, "Meaning", and soundness ("for a wind a zero
-- stored state and value"). Assumes nothing.
use Rattle.std.specs.Prelude.{◌≡◌, ◌≢◌}
use Prim.Native.Nat.{ℕ}
use Rattle.rules.specs.Tree.{binding}
use Rattle.rules.specs.Values.{unbound}
use Rattle.rules.specs.Store.{Deep}

-- nothing is stored but by bindings
abbrev pub Plain : Deep → Type 0
Plain d = (n : ℕ) → ((x : ℕ) → d.tree.what n ≢ binding x) → d.own.stored n ≡ unbound
