-- Two stores that agree up to the size. Assumes nothing: this is a definition.
use Rattle.std.proofs.Math.Path.{◌≡◌}
use Rattle.std.specs.Prelude.{ℕ, List, take}
use Rattle.layout.specs.Limits.{size_of}
use Rattle.layout.specs.Records.{vars, room}

-- s and u have the same bytes up to the size that s names
abbrev pub AgreeTo : List ℕ → List ℕ → Type 0
AgreeTo s u = take (size_of (vars s) (room s)) s ≡ take (size_of (vars s) (room s)) u
