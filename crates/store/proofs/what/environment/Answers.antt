-- By the kind: a binding, a wind, and whatever else is made is the top.
use native.Mathlib.Omega.{arith}
use Rattle.layout.proofs.NodeKinds.{node_low, node_high}
use Rattle.layout.proofs.Reading.{fit_made, else_top}
use Rattle.store.proofs.Tells.{tells_top}
use Rattle.store.proofs.what.environment.Goals as goal

pub kind_of-requires : goal.kind_of-requires
kind_of-requires c = fit_made _ c.requires.0 _ c.requires.1

pub returns-in_default : goal.returns-in_default
returns-in_default c = tells_top _ _ (else_top _ c.requires.0 _ c.requires.1 (λ is. omega (arith, c.kind_of.ensures, node_low _ is)))

pub returns-in_default-2 : goal.returns-in_default-2
returns-in_default-2 c = tells_top _ _ (else_top _ c.requires.0 _ c.requires.1 (λ is. omega (arith, c.kind_of.ensures, node_high _ is)))
