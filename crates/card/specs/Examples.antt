-- Document 01's example is a good card, computed from the definitions. Assumes nothing.
use Rattle.std.specs.Prelude.{refl, [], ◌∷◌, pos, negsuc, Some}
use Rattle.std.proofs.Common.{arith}
use Rattle.text.specs.declared.line.Op.TheVariants.{Bind, Wind, Look, Goto, Peek}
use Rattle.text.specs.declared.line.Line.TheVariants.{Vars, Nodes, Room, Top, Do}
use Rattle.text.specs.Words.{bytes}
use Rattle.text.specs.Decimal.{tens, decimal, whole}
use Rattle.card.specs.Cards.{Whole, Made}

pub example : Made Whole (bytes "vars=1\nnodes=4\nroom=2\ntop=1\nbind=0,-1\nwind=10,11\nbind=0,1\ngoto=0\ngoto=3\nlook=0\npeek=1,0\nbind=0,5\n")
unfolding decimal whole tens
example =
    record {
      lines = Vars 1 ∷ Nodes 4 ∷ Room 2 ∷ Top (Some (pos 1)) ∷ Do (Bind 0 (negsuc 0)) ∷ Do (Wind 10 11) ∷ Do (Bind 0 (pos 1)) ∷ Do (Goto 0)
          ∷ Do (Goto 3) ∷ Do (Look 0) ∷ Do (Peek 1 0) ∷ Do (Bind 0 (pos 5)) ∷ [];
      whole = record {
        vars = 1;
        nodes = 4;
        room = 2;
        tops = Some (pos 1) ∷ [];
        ops = Bind 0 (negsuc 0) ∷ Wind 10 11 ∷ Bind 0 (pos 1) ∷ Goto 0 ∷ Goto 3 ∷ Look 0 ∷ Peek 1 0 ∷ Bind 0 (pos 5) ∷ [];
        order = refl;
        count = refl;
        range = omega arith;
      };
      bytes = refl;
    }
