-- The promises leave no choice: two outcomes that one allows coincide. Assumes nothing.
use Rattle.std.specs.Prelude.{◌≡◌, List, ℕ, Option}
use Rattle.text.specs.declared.line.Line.{Line}
use Rattle.text.specs.Finds.{Finds, finds_one}
use Rattle.text.specs.Lines.{Leads}

-- next_line: one answer for each text
pub next_one : (s : List ℕ) (r q : Option (Line × ℕ)) → Finds (Leads s) r → Finds (Leads s) q → r ≡ q
next_one s r q f g = finds_one r q f g
