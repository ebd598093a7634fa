-- The top values of a card as open's top cells (document 01, "The bytes of a store"), five bytes each. Assumes nothing.
use Rattle.std.specs.Prelude.{◌≡◌, refl, List, ℕ, ℤ, length, Option, None, Some}
use Rattle.layout.specs.Limits.{bare_size}
use Rattle.layout.specs.Records.{blank_cell, value_c}
use Rattle.layout.proofs.RecordLaws.{value_length}

-- a top value as a bare cell
unfoldable pub cell_b : Option ℤ → List ℕ
cell_b (Some v) = value_c v
cell_b None = blank_cell

pub cell_long : (c : Option ℤ) → length (cell_b c) ≡ bare_size
unfolding cell_b
cell_long (Some v) = value_length v
cell_long None = refl
