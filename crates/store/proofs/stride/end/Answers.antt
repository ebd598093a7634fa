-- Both numbers are written, one after the other.
use mathlib.Core.Path.{ap, ◌∙◌}
use mathlib.Core.List.{List}
use Prim.Native.Nat.{ℕ}
use Rattle.layout.specs.Limits.{none_n}
use Rattle.layout.specs.Records.{with_handed}
use Rattle.store.proofs.stride.end.Goals as goal

pub returns : goal.returns
returns c =
    c.set_handed.ensures ∙ ap (λ (b : List ℕ). with_handed b none_n) c.set_target.ensures
