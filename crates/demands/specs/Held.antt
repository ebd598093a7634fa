-- In the list of moves of a switch, and of moves with sets between them, every store on the way is held: it is the view of
-- exactly one sound buffer of the entry's V and N with the entry's bytes past the size. From document 01, "What each call does"
-- ("there is a list of moves, each leading from one store to the next"). Assumes that the store at entry is bytes, as memory is.
use Rattle.std.specs.Prelude.{◌≡◌, ℕ, ◌<◌, List, [], ◌∷◌}
use Rattle.std.proofs.Common.{SFits}
use Rattle.std.specs.Int.{w32}
use Rattle.rules.specs.Values.{unbound, value}
use Rattle.rules.specs.Store as store
use Rattle.rules.specs.Moves.{Move, Moves, done, move}
use Rattle.rules.specs.Deeds.{Deed, moves, sets, Deeds, rest, moved}
use Rattle.layout.specs.Sound.{Sound}
use Rattle.layout.specs.Becomes.{Becomes}
use Rattle.layout.specs.Bytes.{Bytes}

-- ---- a store that is held: one sound buffer of s's size, with s's bytes past it and s's walk, is seen as w, and no other is
pub record Held (s : List ℕ) (w : store.Store) : Type 0 where
  pub buffer : List ℕ
  pub becomes : Becomes s buffer w
  pub sound : Sound buffer
  pub bytes : Bytes buffer
  pub only : (u : List ℕ) → Bytes u → Becomes s u w → u ≡ buffer

-- every store on the way has the property P
abbrev pub Way : (P : store.Store → Type 0) {v w : store.Store} {ms : List Move} → Moves v ms w → Type 0
Way P (done {s = v}) = P v
Way P (move {s = v} h r) = P v × Way P r

-- .. of moves with sets between them
abbrev pub WayOf : (P : store.Store → Type 0) {v w : store.Store} {ds : List Deed} → Deeds v ds w → Type 0
WayOf P (rest {s = v}) = P v
WayOf P (moved {s = v} h r) = P v × WayOf P r
WayOf P (Deeds.set {s = v} r) = P v × WayOf P r

-- of so many variables, each set's is one, and its value is a value of a cell
abbrev pub SetsFit : ℕ → List Deed → Type 0
SetsFit k [] = Unit {0}
SetsFit k (moves m ∷ ds) = SetsFit k ds
SetsFit k (sets x unbound ∷ ds) = ⊥
SetsFit k (sets x (value z) ∷ ds) = (x < k) × SFits w32 z × SetsFit k ds
