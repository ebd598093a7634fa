-- The text that a run prints (document 01, "The card"): the line of an operation, of an event, and of a card that is no good.
-- Assumes nothing: these are definitions.
use Rattle.std.specs.Prelude.{Bool, true, false, List, ◌++◌, ℕ, Option, Some, None}
use Rattle.std.proofs.Math.Option as maybe
use Rattle.rules.specs.Refusals.{no_line}
use Rattle.text.specs.Words.{bytes}
use Rattle.text.specs.Decimal.{decimal, whole}
use Rattle.print.specs.declared.Out.{Out}
use Rattle.print.specs.declared.Out.TheVariants.{Number, Value}
use Rattle.print.specs.declared.Report.{Report}

-- the answer, and none on a refusal
abbrev pub out_text : Option Out → List ℕ
out_text None = bytes "none"
out_text (Some (Number v)) = whole v
out_text (Some (Value v by)) = whole v

-- a word and a number behind it
abbrev pub field : List ℕ → ℕ → List ℕ
field w n = w ++ decimal n

-- the last field (document 02, W2): the decider of a value, and none where the answer is no value
abbrev pub by_of : Option Out → maybe.Option ℕ
by_of None = maybe.none
by_of (Some (Number n)) = maybe.none
by_of (Some (Value v by)) = maybe.some by

abbrev pub by_text : maybe.Option ℕ → List ℕ
by_text maybe.none = bytes " by=none\n"
by_text (maybe.some n) = field (bytes " by=") n ++ bytes "\n"

-- the line of an operation
unfoldable pub op_line : Report → List ℕ
op_line r =
    field (bytes "op=") r.op
    ++ field (bytes " code=") r.code
    ++ bytes " out="
    ++ out_text r.out
    ++ field (bytes " moves=") r.moves
    ++ field (bytes " events=") r.events
    ++ by_text (by_of r.out)

-- the line of an event
abbrev pub kind_text : Bool → List ℕ
kind_text true = bytes "enter="
kind_text false = bytes "leave="

unfoldable pub event_line : Bool → ℕ → ℕ → List ℕ
event_line entering thunk place = field (kind_text entering) thunk ++ field (bytes "@") place ++ bytes "\n"

-- the one line of a card that is no good: its first bad line, and the number for that
unfoldable pub bad_line : ℕ → List ℕ
bad_line n = field (bytes "line=") n ++ (field (bytes " code=") no_line ++ bytes "\n")

-- no line has more bytes
abbrev pub longest : ℕ
longest = 96
