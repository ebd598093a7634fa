-- Quoted text as bytes. Assumes nothing.
use Rattle.std.specs.Prelude.{List, ℕ}
use Prim.Native.Char.{code}
use Prim.Native.String.{String, [], ◌∷◌}

-- the codes of a text's characters
abbrev pub bytes : String → List ℕ
bytes [] = List.[]
bytes (c ∷ s) = List.◌∷◌ (code c) (bytes s)
