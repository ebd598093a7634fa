-- What was handed on is what was printed so far.
use Rattle.std.proofs.Common.{◌≡◌, length}
use Rattle.play.specs.Steps.{page_bytes, to_go}
use Rattle.play.proofs.Stepping.{Writing}
use Rattle.play.proofs.write_pages.Given as goal

abbrev pub invariant-loop-page : goal.invariant-loop-page
invariant-loop-page g l =
    Writing l.card l.initial.progress l.progress l.store l.trace l.done × (length l.page ≡ page_bytes) × (length l.store ≡ length l.initial.store) × (length l.trace ≡ length l.initial.trace)

abbrev pub decreases-loop-page : goal.decreases-loop-page
decreases-loop-page g l = to_go l.card l.progress
