-- The text that explains a value (document 02, W7), from the store as it is now: where the peek found a value, a line for each environment
-- up to the decider, one for each shadowed binding, one for the top value; where it found none, a line for each environment up to the top,
-- and `unbound`; else nothing. Which environments these are, the rules say (`Why`). Assumes nothing: these are definitions.
use Rattle.std.specs.Prelude.{◌≡◌, Bool, false, cond, List, [], ◌∷◌, ◌++◌, ℕ, ◌+◌, ◌*◌, ◌≤◌, eqb, length, Option, Some, None}
use Rattle.rules.specs.Tree.{What, blank, top, binding, wind, binds, path}
use Rattle.rules.specs.Values.{Cell, unbound, value}
use Rattle.rules.specs.Refusals.{no_value}
use Rattle.rules.specs.Why.{chain_by, behind_by, shown_at, shadowed_at}
use Rattle.layout.specs.View.{view}
use Rattle.layout.specs.Made.{IsMade}
use Rattle.promises.specs.Answers.{Numbers}
use Rattle.promises.specs.Promises.{at, PeekPromise}
use Rattle.print.specs.declared.Out.{Out}
use Rattle.print.specs.declared.Out.TheVariants.{Number}
use Rattle.print.specs.Printed.{longest}
use Rattle.print.specs.Explaining.{bind_line, wind_line, top_line, shadowed_line, top_value_line, unbound_line}
use Rattle.print.specs.Writing.{Wrote}
use Rattle.why.specs.declared.explain.Lines.{Lines}

-- ---- the lines
-- a cell as it is printed
abbrev pub held : Cell → Option Out
held unbound = None
held (value v) = Some (Number v)

-- the environment n, which is w; `own x` is the value of x there, for a binding of x its own value
abbrev pub env_line : ℕ → What → (ℕ → Cell) → List ℕ
env_line n blank own = []
env_line n top own = top_line
env_line n (binding x) own = bind_line n x (held (own x))
env_line n (wind p q) own = wind_line n p q

unfoldable pub env_text : List ℕ → ℕ → List ℕ
env_text s n = env_line n ((view s).tree.what n) (at s n)

-- a binding n of x behind the decider, with its own value
unfoldable pub shadow_text : List ℕ → ℕ → ℕ → List ℕ
shadow_text s x n = shadowed_line n (held (at s n x))

-- a line for each environment, in this order
abbrev pub joined : (ℕ → List ℕ) → List ℕ → List ℕ
joined line [] = []
joined line (n ∷ l) = line n ++ joined line l

-- ---- the whole text
unfoldable pub found_text : List ℕ → ℕ → ℕ → List ℕ
found_text s a x =
    joined (env_text s) (shown_at (view s).tree a x) ++ joined (shadow_text s x) (shadowed_at (view s).tree a x) ++ top_value_line (held (at s 0 x))

unfoldable pub lost_text : List ℕ → ℕ → List ℕ
lost_text s a = joined (env_text s) (path (view s).tree a ++ (0 ∷ [])) ++ unbound_line

-- by the number that the peek answers
abbrev pub why_text : ℕ → List ℕ → ℕ → ℕ → List ℕ
why_text code s a x = cond (eqb code 0) (found_text s a x) (cond (eqb code no_value) (lost_text s a) [])

-- what the explanation of the peek of x at a promises: the text by the peek's number, from the front of the lent text
pub record Explains (s : List ℕ) (a x : ℕ) (out out' : List ℕ) (r : ℕ) : Type 0 where
  pub answer : Numbers
  pub peeked : PeekPromise s a x s answer
  pub wrote : Wrote out 0 (why_text answer.code s a x) out' r

-- ---- its parts, while they are written
-- a line for each environment that a store may hold, and the last one
abbrev pub most_bytes : ℕ
most_bytes = 196704

-- the lines stay where they are lent, and the text is put behind them
pub record Adds (before : Lines) (text : List ℕ) (after : Lines) : Type 0 where
  pub same_bytes : after.out.ghost_name ≡ before.out.ghost_name
  pub wrote : Wrote before.out.now before.at text after.out.now after.at

-- the lines up to where the way stops, the parent of the last, and what is behind: it stops at a binding of the variable that is asked for,
-- if one is
abbrev pub stops_by : Option ℕ → What → Bool
stops_by None w = false
stops_by (Some x) w = binds w x

abbrev pub stops : List ℕ → Option ℕ → ℕ → Bool
stops s x n = stops_by x ((view s).tree.what n)

pub record Chained (s : List ℕ) (stop : ℕ → Bool) (a : ℕ) (before after : Lines) (next : ℕ) : Type 0 where
  pub made : IsMade s next
  pub adds : Adds before (joined (env_text s) (chain_by stop (path (view s).tree a))) after
  pub behind : path (view s).tree next ≡ behind_by stop (path (view s).tree a)
  pub room : after.at + longest * (length (path (view s).tree next) + 1) ≤ most_bytes

pub record Answered (s : List ℕ) (a x : ℕ) (before after : Lines) : Type 0 where
  pub answer : Numbers
  pub peeked : PeekPromise s a x s answer
  pub adds : Adds before (why_text answer.code s a x) after
