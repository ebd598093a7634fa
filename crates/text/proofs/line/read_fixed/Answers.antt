-- `text::line::read_fixed` meets its contract. Assumes nothing.
use Rattle.std.proofs.Common.{refl, ◌≡◌, arith}
use Rattle.std.proofs.lemmas.Slice.Eq.{text_from_reads}
use Rattle.text.specs.Words.{bytes}
use Rattle.text.specs.declared.keys.Word.TheVariants.{Here, Back}
use Rattle.text.proofs.Operands.{said, fixed}
use Rattle.text.proofs.line.read_fixed.Goals as goal

pub returns-in-Here-now : goal.returns-in-Here-now
returns-in-Here-now c =
    let e : c.args.s.now ≡ bytes "now" = text_from_reads _ (bytes "now") (omega arith) (omega arith, (omega arith, (omega arith, tt))) in
    rw c.in-Here-now.is-0 (said Here (fixed Here (bytes "now") tt (refl, tt) (λ u. refl) e))

pub returns-in-Back-eq49 : goal.returns-in-Back-eq49
returns-in-Back-eq49 c =
    let e : c.args.s.now ≡ bytes "1" = text_from_reads _ (bytes "1") (omega arith) (omega arith, tt) in
    rw c.in-Back-eq49.is-0 (said Back (fixed Back (bytes "1") tt (refl, tt) (λ u. refl) e))
