-- The loop's invariant: the table's entries are as they are to be, and the line starts with no key before the index. Assumes nothing.
use Rattle.std.proofs.Common.{ℕ, ◌<◌}
use Rattle.text.specs.Keys.{text, word_at, Starts}
use Rattle.text.proofs.KeyTable.{Table}
use Rattle.text.proofs.keys.find_key.Given as goal

abbrev pub invariant-loop-key : goal.invariant-loop-key
invariant-loop-key l = Table l.key-items × ((k : ℕ) → k < l.key-index → Starts l.line (text (word_at k)) → ⊥)
