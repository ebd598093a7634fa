-- The lines that explain a value (document 02, W7): the environments up to the decider, the shadowed bindings, the top value. A value
-- that is unbound is printed as none, as for an operation's answer. Assumes nothing: these are definitions.
use Rattle.std.specs.Prelude.{◌≡◌, List, ◌++◌, ℕ, ◌+◌, ◌≤◌, ◌<◌, length, Option}
use Rattle.text.specs.Words.{bytes}
use Rattle.print.specs.declared.Out.{Out}
use Rattle.print.specs.Printed.{out_text, field}
use Rattle.print.specs.Writing.{Wrote}

-- an environment: a binding with its variable and the value that it holds, a wind with its thunks, the top
unfoldable pub bind_line : ℕ → ℕ → Option Out → List ℕ
bind_line n x v = field (bytes "env=") n ++ field (bytes " bind=") x ++ bytes "," ++ out_text v ++ bytes "\n"

unfoldable pub wind_line : ℕ → ℕ → ℕ → List ℕ
wind_line n p q = field (bytes "env=") n ++ field (bytes " wind=") p ++ field (bytes ",") q ++ bytes "\n"

unfoldable pub top_line : List ℕ
top_line = bytes "env=0 top\n"

-- a binding behind the decider, with the value that it holds
unfoldable pub shadowed_line : ℕ → Option Out → List ℕ
shadowed_line n v = field (bytes "shadowed=") n ++ bytes " value=" ++ out_text v ++ bytes "\n"

-- the last line: the top value, or that there is no value
unfoldable pub top_value_line : Option Out → List ℕ
top_value_line v = bytes "top=" ++ out_text v ++ bytes "\n"

unfoldable pub unbound_line : List ℕ
unbound_line = bytes "unbound\n"

-- the line stands at the place where there was room for it; elsewhere nothing was put
pub record Puts (line before : List ℕ) (at : ℕ) (after : List ℕ) (next : ℕ) : Type 0 where
  pub roomy : at + length line ≤ length before → Wrote before at line after next
  pub tight : length before < at + length line → (after ≡ before) × (next ≡ at)
