-- Reading from afar, on the bytes of a store: the binding that decides, by its number, what is found there, and the climb from the
-- focus to the last binding below it. Assumes nothing: these are definitions.
use Rattle.std.specs.Prelude.{◌≡◌, ◌⊎◌, true}
use Rattle.std.proofs.Math.Option.{Option, none, some}
use Prim.Native.Nat.{ℕ, zero, suc}
use mathlib.Core.List.{List}
use Rattle.rules.specs.Basic.{on}
use Rattle.rules.specs.Tree.{path}
use Rattle.rules.specs.Values.{below}
use Rattle.rules.specs.Store.{home}
use Rattle.rules.specs.Calls.{decider_at, value_at}
use Rattle.layout.specs.Records.{focus, ProperCell}
use Rattle.layout.specs.View.{as_cell, view}
use Rattle.layout.specs.Made.{IsMade}

-- ---- a decider by its number: 0 where the top value decides
unfoldable pub binder_of : ℕ → Option ℕ
binder_of zero = none
binder_of (suc n) = some (suc n)

-- ---- what peek answers: the decider of x at a by its number, and the decider's own value as a proper bare cell
pub record FoundAt (s : List ℕ) (a x : ℕ) (n : ℕ) (c : List ℕ) : Type 0 where
  pub by : binder_of n ≡ decider_at (view s).tree a x
  pub made : IsMade s n
  pub value : as_cell c ≡ value_at (home (view s)) a x
  pub proper : ProperCell c

-- ---- the climb from the focus: `stop` is the top or still ahead of n
abbrev pub Ahead : List ℕ → ℕ → ℕ → Type 0
Ahead s stop n = (stop ≡ 0) ⊎ (on stop (path (view s).tree n) ≡ true)

-- the last binding of x on the way from the focus up to `stop`
unfoldable pub last_below : List ℕ → ℕ → ℕ → Option ℕ
last_below s stop x = below (view s).tree.what x (binder_of stop) (path (view s).tree (focus s))
