-- `play::reading::read_tops` meets its contract. The loop's invariant: the first top values are cells, the others ahead. Assumes nothing.
use mathlib.Core.Path.{◌≡◌}
use mathlib.Core.List.{List, ◌++◌, map}
use Prim.Native.Nat.{◌*◌, ◌≤◌}
use lib.ListN.{length}
use Rattle.std.specs.Prelude.{Option, ℤ}
use Rattle.layout.specs.Limits.{bare_size}
use Rattle.text.specs.declared.line.Line.{Line}
use Rattle.text.specs.declared.line.Line.TheVariants.{Top}
use Rattle.play.specs.Steps.{Ahead}
use Rattle.play.proofs.Tops.{Taken}
use Rattle.play.proofs.reading.read_tops.Given as goal

abbrev pub invariant-loop-x : goal.invariant-loop-x
invariant-loop-x l =
    (l.at ≤ length l.card)
    × ((cs : List (Option ℤ)) (ls : List Line) → bare_size * length cs ≡ length l.initial.tops → Ahead l.card l.from (map Top cs ++ ls) → Taken cs ls l.card l.at l.x l.tops)
