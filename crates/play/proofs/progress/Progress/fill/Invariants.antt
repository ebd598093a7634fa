-- The page holds the next lines.
use Rattle.std.proofs.Common.{◌≡◌, length}
use Rattle.play.specs.Steps.{to_go}
use Rattle.play.proofs.Stepping.{Filling}
use Rattle.play.proofs.progress.Progress.fill.Given as goal

abbrev pub invariant-loop-self : goal.invariant-loop-self
invariant-loop-self l =
    Filling l.card l.initial.self l.initial.store l.initial.trace l.self l.store l.trace l.page × (length l.store ≡ length l.initial.store) × (length l.trace ≡ length l.initial.trace)

abbrev pub decreases-loop-self : goal.decreases-loop-self
decreases-loop-self l = to_go l.card l.self
