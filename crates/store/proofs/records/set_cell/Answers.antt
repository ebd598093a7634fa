-- What is done to the lent part is done to the cell's record in the store (`lent_at`): a cell is its bare cell and nothing else.
use Rattle.std.proofs.Common.{◌≡◌, sym, ◌∙◌, refl, arith, ℕ, List, length}
use Rattle.layout.proofs.Bytes.{lent_at, by_tab}
use Rattle.layout.specs.Limits.{cell_size}
use Rattle.layout.specs.Records.{with_cell, cell_of, put_c, whole_c}
use Rattle.store.proofs.records.set_cell.Goals as goal

whole : (c p : List ℕ) → length p ≡ cell_size → put_c p c ≡ whole_c c
unfolding put_c whole_c
whole c = by_tab cell_size (λ p. put_c p c ≡ whole_c c) (λ f. refl)

pub returns : goal.returns
unfolding with_cell cell_of
returns c =
    let c' = c.args.c in
    lent_at (λ p. put_c p c') _ _ _ _ _ c.cell_at-a.ensures (c.put_cell.ensures ∙ sym (whole c' _ (omega arith)))
