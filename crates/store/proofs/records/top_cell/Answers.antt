-- The chunk with the number x is the bare cell.
use Rattle.std.proofs.Common.{◌≡◌, ◌∙◌, [], refl, arith, ℕ, List, length}
use Rattle.layout.proofs.Bytes.{chunk_at, by_tab, part_length}
use Rattle.layout.specs.Limits.{bare_size}
use Rattle.layout.specs.Records.{bare_c, top_c}
use Rattle.store.proofs.records.top_cell.Goals as goal

whole : (p : List ℕ) → length p ≡ bare_size → p ≡ bare_c p
unfolding bare_c
whole = by_tab bare_size (λ p. p ≡ bare_c p) (λ f. refl)

pub returns : goal.returns
unfolding top_c
returns c =
    rw (c.as_chunks.ensures.front, c.from.ensures)
    (chunk_at bare_size _ c.args.x c.args.tops.now [] (omega arith) ∙ whole _ (part_length _ _ _ c.requires))
