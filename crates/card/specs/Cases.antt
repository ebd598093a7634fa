-- Document 01's cases (a) to (l), "On both sides of the edges", as one table under one theorem: the card's half of (i), and the
-- store's rows, over its promises; (k) as its operations with their answers and events. Assumes nothing.
use Rattle.std.specs.Prelude.{refl, List, [], ◌∷◌, map, pos, negsuc, Some}
use Rattle.std.proofs.Common.{inl, inr, arith}
use Rattle.text.specs.declared.line.Op.{Op}
use Rattle.text.specs.declared.line.Op.TheVariants.{Bind}
use Rattle.text.specs.declared.line.Line.TheVariants.{Vars, Nodes, Room, Top, Do}
use Rattle.text.specs.Words.{bytes}
use Rattle.text.specs.Every as every
use Rattle.text.specs.Decimal.{tens, decimal, whole}
use Rattle.text.specs.Lines.{InRange}
use Rattle.card.specs.Cards.{Whole, passed, stopped, Checked}
use Rattle.card.specs.FirstBad.{first_bad}
use Rattle.demands.specs.Cases as store
use Rattle.demands.proofs.Cases as store_proved
use Rattle.demands.specs.Cases.{Case, All}

abbrev pub table : List Case
table =
    record { name = "(i) the card takes -2,147,483,648"; says = Checked (bytes "vars=1\nnodes=2\nroom=0\ntop=1\nbind=0,-2147483648\n") passed }
    ∷ record { name = "(i) the card refuses -2,147,483,649"; says = Checked (bytes "vars=1\nnodes=2\nroom=0\ntop=1\nbind=0,-2147483649\n") (stopped 5) }
    ∷ store.table

-- ---- (i): the headings of these cards, and operations behind them
lines : (ops : List Op) → every.All InRange (map Do ops) → Whole (Vars 1 ∷ Nodes 2 ∷ Room 0 ∷ Top (Some (pos 1)) ∷ map Do ops)
lines ops r =
    record {
      vars = 1;
      nodes = 2;
      room = 0;
      tops = Some (pos 1) ∷ [];
      ops = ops;
      order = refl;
      count = refl;
      range = ((omega arith, omega arith), ((omega arith, omega arith), (omega arith, (omega arith, r))));
    }

takes : Checked (bytes "vars=1\nnodes=2\nroom=0\ntop=1\nbind=0,-2147483648\n") passed
unfolding decimal whole tens
takes =
    record {
      known = inl refl;
      good = λ e. (omega arith, record { lines = _; whole = lines (Bind 0 (negsuc 2147483647) ∷ []) ((omega arith, omega arith), tt); bytes = refl });
      bad = λ e. absurd (omega (arith, e));
    }

refuses : Checked (bytes "vars=1\nnodes=2\nroom=0\ntop=1\nbind=0,-2147483649\n") (stopped 5)
unfolding decimal whole tens
refuses =
    record {
      known = inr refl;
      good = λ e. absurd (omega (arith, e));
      bad = λ e. (
        omega arith,
        first_bad (Do (Bind 0 (negsuc 2147483648))) (λ r. omega (arith, r.1)) []
            (Vars 1 ∷ Nodes 2 ∷ Room 0 ∷ Top (Some (pos 1)) ∷ []) [] (lines [] tt),
      );
    }

pub cases : All table
cases = (takes, (refuses, store_proved.cases))
