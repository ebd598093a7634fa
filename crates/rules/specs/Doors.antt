-- Going round by another door, in the owner's words: runs that differ only in extra answered gotos and backs, which leave the
-- focus at each bind, wind, set and here unchanged; both without walks.
-- From document 02, W4; proofs/Runs has the theorem behind it. Assumes nothing.
use Rattle.std.specs.Prelude.{◌≡◌, true}
use mathlib.Core.List.{List, [], ◌∷◌}
use Rattle.rules.specs.Store.{Deep}
use Rattle.rules.specs.World.{World}
use Rattle.rules.specs.Act.{Goal, Call, Size, act}
use Rattle.rules.specs.Runs.{Asked, after, is_mark, is_done}

-- a goto or a back
pub data Jump : Call → Type 0 where
  by_switch : {g : Goal} → Jump (Call.switch g)

-- two runs side by side, from w and from u
pub data Extra (z : Size) : World Deep → List Asked → World Deep → List Asked → Type 0 where
  ends : {w u : World Deep} → Extra z w [] u []
  same : {w u : World Deep} {q : Asked} {qs rs : List Asked} → (is_mark q.call ≡ true → w.store.focus ≡ u.store.focus)
      → Extra z (after z q w) qs (after z q u) rs → Extra z w (q ∷ qs) u (q ∷ rs)
  one_more : {w u : World Deep} {q : Asked} {qs rs : List Asked} → Jump q.call → is_done (act z q.room q.call w).answer ≡ true
      → Extra z (after z q w) qs u rs → Extra z w (q ∷ qs) u rs
  other_more : {w u : World Deep} {q : Asked} {qs rs : List Asked} → Jump q.call → is_done (act z q.room q.call u).answer ≡ true
      → Extra z w qs (after z q u) rs → Extra z w qs u (q ∷ rs)
