-- What a cell answers. Assumes nothing: this is a definition.
use Rattle.std.specs.Prelude.{ℕ, Result, Ok, Err}
use Rattle.rules.specs.Values.{Cell, unbound, value}
use Rattle.promises.specs.declared.Answer.{Answer}
use Rattle.promises.specs.declared.Answer.TheVariants.{Value}
use Rattle.promises.specs.declared.Refusal.{Refusal}
use Rattle.promises.specs.declared.Refusal.TheVariants.{Unbound}

-- its value with this decider, or that it has none
abbrev pub of_cell : Cell → ℕ → Result Answer Refusal
of_cell unbound by = Err Unbound
of_cell (value v) by = Ok (Value (record { value = v; by = by }))
