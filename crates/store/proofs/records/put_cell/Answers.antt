-- A cell is its bare cell and nothing else.
use Rattle.std.proofs.Common.{◌≡◌, refl, ℕ, List}
use Rattle.layout.specs.Limits.{cell_size}
use Rattle.layout.specs.Records.{put_c, whole_c}
use Rattle.layout.proofs.Bytes.{by_tab}
use Rattle.store.proofs.records.put_cell.Goals as goal

pub returns : goal.returns
unfolding put_c whole_c
returns c = by_tab cell_size (λ (p : List ℕ). put_c p c.args.c ≡ whole_c c.args.c) (λ f. refl) c.args.p.now c.requires
