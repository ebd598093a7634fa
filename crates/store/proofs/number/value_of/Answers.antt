-- The four bytes are summed as the definition sums them; the machine keeps the value as bits (`to_z-of_z`).
use Rattle.std.proofs.Common.{ap, ◌∙◌, arith, to_z}
use Rattle.std.proofs.lemmas.Int.{to_z-of_z}
use Rattle.std.specs.Int.{w32}
use Rattle.layout.specs.Records.{bits_c}
use Rattle.store.proofs.number.value_of.Goals as goal

pub returns : goal.returns
unfolding bits_c
returns c =
    to_z-of_z w32 c.from_le_bytes.result (record { sfits = c.from_le_bytes.type_inv })
    ∙ c.from_le_bytes.ensures
    ∙ ap (to_z w32) (omega arith)
