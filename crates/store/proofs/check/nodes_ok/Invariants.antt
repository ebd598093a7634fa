-- Of every node passed it is known that it is as it should be, and how many of them are in.
use Rattle.std.proofs.Common.{ℕ, ◌<◌, ◌≤◌, List}
use Rattle.layout.specs.Sound.{NodeOk, depth_above}
use Rattle.layout.specs.Records.{vars}
use Rattle.layout.specs.Fields.{fields_of, nodes}
use Rattle.layout.specs.Checks.{mode_f, Counted, Rises}
use Rattle.store.proofs.check.nodes_ok.Given as goal

abbrev pub Fine : List ℕ → ℕ → Type 0
Fine s n = NodeOk (vars s) n (depth_above (fields_of s) n) (nodes s n) × Rises (fields_of s) n

abbrev pub Passed : List ℕ → ℕ → Type 0
Passed s n = (k : ℕ) → 1 ≤ k → k < n → Fine s k

abbrev pub invariant-loop-n : goal.invariant-loop-n
invariant-loop-n l = Passed l.s l.n × Counted (mode_f (fields_of l.s)) l.n l.ins
