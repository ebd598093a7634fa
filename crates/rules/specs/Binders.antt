-- How many nodes bind a variable (document 02, W8). Where none does, the top value decides it everywhere, and the cell shows it.
-- Assumes nothing.
use Rattle.std.specs.Prelude.{ℕ}
use Rattle.rules.specs.Tree.{Tree, binds}
use Rattle.rules.specs.Modes.{count}

-- of the numbers below n
abbrev pub binders_of : Tree → ℕ → ℕ → ℕ
binders_of t n x = count (λ k. binds (t.what k) x) n
