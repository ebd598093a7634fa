-- `text::line::read_two` meets its contract. Assumes nothing.
use Rattle.std.proofs.Common.{refl, arith}
use Rattle.text.specs.Finds.{got}
use Rattle.text.specs.declared.keys.Word.TheVariants.{Bind, Wind, Set, Peek}
use Rattle.text.proofs.Operands.{said, paired, two_some, two_none, no_pair, kept}
use Rattle.text.proofs.line.read_two.Goals as goal

pub returns-in_err-x : goal.returns-in_err-x
returns-in_err-x c = rw c.from_residual.ensures (no_pair c.args.word c.in_err-x.ensures refl)

pub returns-in-Bind : goal.returns-in-Bind
returns-in-Bind c = rw (c.in-Bind.is, kept c.in_ok-x.v (got c.in_ok-x.ensures refl).second) (said Bind (paired c.in_ok-x.ensures))

pub returns-in-Set : goal.returns-in-Set
returns-in-Set c = rw (c.in-Set.is, kept c.in_ok-x.v (got c.in_ok-x.ensures refl).second) (said Set (paired c.in_ok-x.ensures))

pub returns-in_err-q-in-Wind : goal.returns-in_err-q-in-Wind
returns-in_err-q-in-Wind c =
    rw (c.from_residual-in_err-q-in-Wind.ensures, c.in-Wind.is) (said Wind (two_none c.in_ok-x.ensures refl c.in_err-q-in-Wind.ensures refl))

pub returns-in_ok-q-in-Wind : goal.returns-in_ok-q-in-Wind
returns-in_ok-q-in-Wind c = rw c.in-Wind.is (said Wind (two_some c.in_ok-x.ensures refl c.in_ok-q-in-Wind.ensures refl))

pub overflow_cast-result-in-Wind : goal.overflow_cast-result-in-Wind
overflow_cast-result-in-Wind c = record { fits = omega (arith, (got c.in_ok-q-in-Wind.ensures refl).high) }

pub returns-in_err-y-in-Peek : goal.returns-in_err-y-in-Peek
returns-in_err-y-in-Peek c =
    rw (c.from_residual-in_err-y-in-Peek.ensures, c.in-Peek.is) (said Peek (two_none c.in_ok-x.ensures refl c.in_err-y-in-Peek.ensures refl))

pub returns-in_ok-y-in-Peek : goal.returns-in_ok-y-in-Peek
returns-in_ok-y-in-Peek c = rw c.in-Peek.is (said Peek (two_some c.in_ok-x.ensures refl c.in_ok-y-in-Peek.ensures refl))
