-- `text::keys::find_key` meets its contract. The table is compared by computing. Assumes nothing.
use Rattle.std.proofs.Common.{refl, below_none, below_more}
use Rattle.text.proofs.KeyTable.{entry_at, tells_start, searched, passed, through}
use Rattle.text.proofs.keys.find_key.Goals as goal

pub loop-key-init : goal.loop-key-init
loop-key-init c = (record { same = refl }, below_none _)

pub returns-then-starts_with : goal.returns-then-starts_with
returns-then-starts_with c =
    searched (entry_at c.loop-key.invariant.0 c.loop-key.key-index _ c.loop-key-test.true) ((tells_start _ _ c.starts_with.ensures.value).holds c.if-starts_with.true)

pub loop-key-preserved : goal.loop-key-preserved
loop-key-preserved c = (
  c.loop-key.invariant.0,
  below_more _ _ c.loop-key.invariant.1
      (passed (entry_at c.loop-key.invariant.0 c.loop-key.key-index _ c.loop-key-test.true) ((tells_start _ _ c.starts_with.ensures.value).fails c.if-starts_with.false)),
)

pub returns : goal.returns
returns c = through c.loop-key-test.false c.loop-key.invariant.1
