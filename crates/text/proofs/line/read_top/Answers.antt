-- `text::line::read_top` meets its contract. Assumes nothing.
use Rattle.std.proofs.Common.{◌≡◌, arith, Some, option_map}
use Rattle.std.proofs.lemmas.Slice.Eq.{text_from_reads}
use Rattle.std.proofs.lemmas.Grind.{common_steps}
use Rattle.text.specs.Words.{bytes}
use Rattle.text.specs.declared.keys.Word.TheVariants.{Top}
use Rattle.text.proofs.Operands.{said, make, top_none, top_value}
use Rattle.text.proofs.line.read_top.Goals as goal

pub returns-in-none : goal.returns-in-none
returns-in-none c =
    let e : c.args.s.now ≡ bytes "none" = text_from_reads _ (bytes "none") (omega arith) (omega arith, (omega arith, (omega arith, (omega arith, tt)))) in
    said Top (top_none e)

pub returns-in_default : goal.returns-in_default
returns-in_default c =
    let n : c.args.s.now ≡ bytes "none" → ⊥ = grind (arith, common_steps) in
    let e : c.map.result ≡ option_map (make Top) (option_map Some c.read_whole.result) = grind (arith, common_steps) in
    rw e (said Top (top_value n c.read_whole.ensures))
