-- A promise's table and the rules' table of tests say the same of a sound store, so the number that a promise gives is the
-- one that `act` finds. From document 01, "The numbers a call can give back". Assumes nothing.
use Rattle.std.specs.Prelude.{◌≡◌, ℕ, zero, suc}
use Rattle.std.proofs.Math.Option.{Option, none, some}
use mathlib.Core.List.{List, [], ◌∷◌}
use Rattle.rules.specs.Moves.{Event}
use Rattle.rules.specs.Refusals as refusals
use Rattle.rules.specs.Act.{Call, Size}
use Rattle.layout.specs.Records.{vars, room}
use Rattle.layout.specs.Sound.{Says}
use Rattle.promises.specs.Tables as tables

-- the V and N of a store
unfoldable pub size_at : List ℕ → Size
size_at s = record { vars = vars s; nodes = room s }

-- the events of `act` that a call writes to the trace, and those that it hands over in its answer: a step's (document 02, W5)
abbrev pub traced_by : Call → List Event → List Event
traced_by (Call.ask q) es = es
traced_by (Call.make k) es = es
traced_by (Call.set x v) es = es
traced_by (Call.switch g) es = es
traced_by (Call.stride k) es = []

abbrev pub handed_by : Call → List Event → List Event
handed_by (Call.ask q) es = []
handed_by (Call.make k) es = []
handed_by (Call.set x v) es = []
handed_by (Call.switch g) es = []
handed_by (Call.stride k) es = es

-- ---- a promise's table and a table of tests
pub record RowSays (r : tables.Row) (q : refusals.Row) : Type 0 where
  pub number : r.number ≡ q.number
  pub says : Says q.applies r.when

abbrev pub TableSays : List tables.Row → List refusals.Row → Type 0
TableSays [] [] = Unit {0}
TableSays [] (q ∷ qs) = ⊥
TableSays (r ∷ rs) [] = ⊥
TableSays (r ∷ rs) (q ∷ qs) = RowSays r q × TableSays rs qs

-- the code as the rules' tests give it
abbrev pub refused_as : ℕ → Option ℕ
refused_as zero = none
refused_as (suc k) = some (suc k)
