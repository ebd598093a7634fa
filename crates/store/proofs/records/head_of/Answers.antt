-- The number in the two bytes at twice its place.
use borrow.Author.Rules.{rules}
use Rattle.layout.specs.Bytes.{u16, part}
use Rattle.layout.specs.Records.{head_n, head_of}
use Rattle.store.proofs.records.head_of.Goals as goal

pub returns : goal.returns
unfolding head_n u16 head_of part
returns c = search rules
