-- W4, going round by another door: jumps between the other calls of a run leave no trace. Over the bytes of the store, of runs of
-- calls that keep their promises, each with the trace lent to it, while no walk is under way. The proofs
-- stand in proofs/Doors.antt.
-- From document 02, W4. Assumes that what a run leaves is bytes, as memory is.
use Rattle.std.specs.Prelude.{◌≡◌, ◌≢◌, Bool, ◌&&◌, ℕ}
use Rattle.std.proofs.Math.Bool.{true}
use mathlib.Core.List.{List, [], ◌∷◌, ◌++◌, map}
use Rattle.std.proofs.Math.Dec.{eqb}
use Rattle.rules.specs.Act.{Stride, Call}
use Rattle.rules.specs.Runs as runs
use Rattle.rules.specs.Runs.{Asked, leaves, is_mark, Mark, mark_if, Stand, stands}
use Rattle.rules.specs.Doors.{Jump}
use Rattle.layout.specs.Limits.{none_n}
use Rattle.layout.specs.Records.{focus, target}
use Rattle.layout.specs.Sound.{Sound}
use Rattle.layout.specs.Becomes.{Sized}
use Rattle.layout.specs.Bytes.{Bytes}
use Rattle.promises.specs.Answers.{Numbers}
use Rattle.promises.specs.Promises.{world, room_for}
use Rattle.promises.specs.Calls.{Promised}
use Rattle.demands.specs.Tests.{size_at}

-- a call of a run: the focus at it, the trace lent to it and as it came back, the numbers of its answer
pub record Step : Type 0 where
  pub call : Call
  pub place : ℕ
  pub lent : List ℕ
  pub traced : List ℕ
  pub numbers : Numbers

-- a run from the store s to the store v: these calls one after the other, each keeping its promise
pub data Run : List ℕ → List Step → List ℕ → Type 0 where
  over : {s : List ℕ} → Run s [] s
  next : {s v : List ℕ} {q : Step} {qs : List Step} (u : List ℕ) → focus s ≡ q.place → Promised q.call s q.lent u q.traced q.numbers
      → Run u qs v → Run s (q ∷ qs) v

-- a run without walks (document 02, W5): none is under way at any store of it
abbrev pub NoWalk : {s v : List ℕ} {qs : List Step} → Run s qs v → Type 0
NoWalk (over {s = s}) = target s ≡ none_n
NoWalk (next {s = s} u e p r) = (target s ≡ none_n) × NoWalk r

abbrev pub NoBegin : List Step → Type 0
NoBegin [] = Unit {0}
NoBegin (q ∷ qs) = ((a : ℕ) → q.call ≢ Call.stride (Stride.begin a)) × NoBegin qs

-- its marks: its answered binds, winds, sets and heres, each with the focus at it, in order
abbrev pub answered : Step → Bool
answered q = eqb q.numbers.code 0

abbrev pub marks : List Step → List Mark
marks [] = []
marks (q ∷ qs) = mark_if (is_mark q.call && answered q) q.call q.place ++ marks qs

-- two runs that differ only in extra answered gotos and backs of either, which leave the focus at each bind, wind, set and here
-- unchanged
pub data Extra : List Step → List Step → Type 0 where
  ends : Extra [] []
  same : {q p : Step} {qs ps : List Step} → q.call ≡ p.call → q.lent ≡ p.lent → (is_mark q.call ≡ true → q.place ≡ p.place)
      → Extra qs ps → Extra (q ∷ qs) (p ∷ ps)
  one_more : {q : Step} {qs ps : List Step} → Jump q.call → answered q ≡ true → Extra qs ps → Extra (q ∷ qs) ps
  other_more : {p : Step} {qs ps : List Step} → Jump p.call → answered p ≡ true → Extra qs ps → Extra qs (p ∷ ps)

pub record W4 : Type 0 where
  -- two runs from one sound store that have the same marks and end with the same focus end in the same bytes, past the size too
  pub no_trace : (s s₁ s₂ : List ℕ) (r₁ r₂ : List Step) (run₁ : Run s r₁ s₁) (run₂ : Run s r₂ s₂) → NoWalk run₁ → NoWalk run₂ → Sound s → Bytes s₁ → Bytes s₂
      → marks r₁ ≡ marks r₂ → focus s₁ ≡ focus s₂ → s₁ ≡ s₂
  -- in the owner's words
  pub another_door : (s s₁ s₂ : List ℕ) (r₁ r₂ : List Step) (run₁ : Run s r₁ s₁) (run₂ : Run s r₂ s₂) → NoWalk run₁ → NoWalk run₂ → Sound s → Bytes s₁ → Bytes s₂
      → Extra r₁ r₂ → focus s₁ ≡ focus s₂ → s₁ ≡ s₂
  -- a run is without walks where it starts outside one and begins none
  pub no_begin : (s v : List ℕ) (qs : List Step) (run : Run s qs v) → Sound s → target s ≡ none_n → NoBegin qs → NoWalk run

-- ==== a run on bytes is the rules' run on what the store means
abbrev pub asked : Step → Asked
asked q = record { call = q.call; room = room_for q.lent }

abbrev pub stand_of : Step → Stand
stand_of q = record { place = q.place; answered = answered q }

pub record RunActs (s v : List ℕ) (qs : List Step) : Type 0 where
  pub meaning : world v ≡ leaves (size_at s) (map asked qs) (world s)
  pub sound : Sound v
  pub size : Sized s v
  pub marked : marks qs ≡ runs.marks (size_at s) (map asked qs) (world s)
  pub stood : map stand_of qs ≡ stands (size_at s) (map asked qs) (world s)
