-- The parts of an explanation make the whole text. Assumes nothing.
use mathlib.Core.Path.{◌≡◌, ap}
use mathlib.Core.List.{List, ◌++◌}
use Prim.Native.Nat.{ℕ}
use Rattle.std.specs.Prelude.{Option, Some, None}
use Rattle.rules.specs.Tree.{path}
use Rattle.rules.specs.Why.{binders, shown_at, shadowed_at}
use Rattle.rules.proofs.Why.{chain_whole}
use Rattle.layout.specs.View.{view}
use Rattle.promises.specs.Promises.{at}
use Rattle.print.specs.declared.Out.{Out}
use Rattle.print.specs.Explaining.{top_value_line, unbound_line}
use Rattle.why.specs.declared.explain.Lines.{Lines}
use Rattle.why.specs.Explained.{held, env_text, shadow_text, joined, found_text, lost_text, stops, Adds, Chained}
use Rattle.why.proofs.Chain.{adds_then, adds_same}

module _ {s : List ℕ} {a : ℕ} {before chain : Lines} {next : ℕ} where
  pub lost_added : {after : Lines} → Chained s (stops s None) a before chain next → Adds chain unbound_line after → Adds before (lost_text s a) after
  unfolding lost_text
  lost_added c w = adds_same (ap (λ (m : List ℕ). joined (env_text s) m ++ unbound_line) (chain_whole (path (view s).tree a))) (adds_then c.adds w)

  pub found_added : (x : ℕ) {behind after : Lines} {v : Option Out} → Chained s (stops s (Some x)) a before chain next
      → Adds chain (joined (shadow_text s x) (binders (view s).tree.what x (path (view s).tree next))) behind
      → v ≡ held (at s 0 x) → Adds behind (top_value_line v) after → Adds before (found_text s a x) after
  unfolding found_text shown_at shadowed_at
  found_added x c b e w =
      adds_then (adds_then c.adds (adds_same (ap (λ (m : List ℕ). joined (shadow_text s x) (binders (view s).tree.what x m)) c.behind) b))
      (adds_same (ap top_value_line e) w)
