-- What is proved of specs/Partway.antt, whose head says it in words. Assumes nothing.
use Rattle.std.specs.Prelude.{◌≡◌, ◌≢◌, ◌⊎◌, true, ℕ, zero, suc, length}
use Rattle.std.proofs.Math.Path.{refl, sym, ap}
use Rattle.std.proofs.Common.{◌∙◌, inl, inr, arith}
use Rattle.std.proofs.Math.Option.{Option, none, some}
use mathlib.Core.List.{List, [], ◌∷◌, ◌++◌, map, map-append, append_assoc}
use Rattle.rules.proofs.Basic.{clash}
use Rattle.rules.specs.Store.{Deep}
use Rattle.rules.specs.World.{Walk, World}
use Rattle.rules.specs.Moves.{Move, route, Event}
use Rattle.rules.specs.Leg.{leg_to}
use Rattle.rules.specs.Refusals.{first}
use Rattle.rules.specs.Act.{Stride, Call, stride, step, drop, Free, Barred, Needing, steps as needs_step, drops, Size, is_walking, shown, rows, events_of, goes_on, walk_after, outcome, act}
use Rattle.rules.specs.Agree.{Kept, held}
use Rattle.rules.specs.Places.{Due}
use Rattle.rules.specs.Runs.{Asked, after, leaves}
use Rattle.rules.proofs.Grounds.{each_call}
use Rattle.rules.specs.Deeds.{moves_in}
use Rattle.rules.proofs.Deeds.{moves_append}
use Rattle.rules.specs.Thunks.{asked, Finishes, hands_over, meanwhile, deeds, handed_over, steps}
use Rattle.rules.specs.Going.{Going, target_of}
use Rattle.rules.proofs.Going.{kept_all, under_way_lem}
use Rattle.rules.specs.Ending.{NoDrop, owed_in}
use Rattle.rules.proofs.Ending.{finishes_from}
use Rattle.rules.specs.Partway.{Inside}

-- ---- a run in two parts
module _ (z : Size) where
  deeds_join : (qs rs : List Asked) (w : World Deep) → deeds z (qs ++ rs) w ≡ deeds z qs w ++ deeds z rs (leaves z qs w)
  unfolding deeds leaves
  deeds_join [] rs w = refl
  deeds_join (q ∷ qs) rs w = rw (deeds_join qs rs (after z q w), append_assoc)

  handed_join : (qs rs : List Asked) (w : World Deep) → handed_over z (qs ++ rs) w ≡ handed_over z qs w ++ handed_over z rs (leaves z qs w)
  unfolding handed_over leaves
  handed_join [] rs w = refl
  handed_join (q ∷ qs) rs w = rw (handed_join qs rs (after z q w), append_assoc)

at_first : (z : Size) (qs : List Asked) (w : World Deep) → Inside z qs w → is_walking w.walk ≡ true
at_first z [] w i = i
at_first z (q ∷ qs) w i = i.0

at_last : (z : Size) (qs : List Asked) (w : World Deep) → Inside z qs w → is_walking (leaves z qs w).walk ≡ true
unfolding leaves
at_last z [] w i = i
at_last z (q ∷ qs) w i = at_last z qs (after z q w) i.1

-- a step that says done ends the walk, and so does a drop
ends_walk : (z : Size) (room : ℕ) (d : Deep) (o : Option Walk) → (act z room (stride step) (record { store = d; walk = o })).events ≡ []
    → (act z room (stride step) (record { store = d; walk = o })).after.walk ≡ none
unfolding act outcome first rows events_of walk_after shown
ends_walk z room d none q = refl
ends_walk z room d (some k) q = ap (λ (v : List Event). goes_on v (some k) (leg_to d.tree d.focus k.target k.handed).handed) q

drop_ends : (z : Size) (room : ℕ) (d : Deep) (o : Option Walk) → (act z room (stride drop) (record { store = d; walk = o })).after.walk ≡ none
unfolding act outcome first rows walk_after shown
drop_ends z room d none = refl
drop_ends z room d (some k) = refl

-- its calls may stand before those that finish the walk
finishes_after : (z : Size) (qs rs : List Asked) (w : World Deep) → Inside z qs w → Finishes z rs (leaves z qs w) → Finishes z (qs ++ rs) w
unfolding leaves
finishes_after z [] rs w i f = f
finishes_after z (q ∷ qs) rs w i f = go q.call (each_call q.call) (at_first z qs (after z q w) i.1) (finishes_after z qs rs (after z q w) i.1 f)
  where
    steps_on : (es : List Event) → (act z q.room (stride step) w).events ≡ es → is_walking (act z q.room (stride step) w).after.walk ≡ true
        → Finishes z (qs ++ rs) (act z q.room (stride step) w).after → Finishes z (asked (stride step) q.room ∷ (qs ++ rs)) w
    steps_on (e ∷ es) p on r = hands_over p r
    steps_on [] p on r = clash on (ap is_walking (ends_walk z q.room w.store w.walk p))

    go : (c : Call) → Free c ⊎ (Barred c ⊎ Needing c) → is_walking (act z q.room c w).after.walk ≡ true
        → Finishes z (qs ++ rs) (act z q.room c w).after → Finishes z (asked c q.room ∷ (qs ++ rs)) w
    go c (inl f) on r = meanwhile (inl f) r
    go c (inr (inl b)) on r = meanwhile (inr b) r
    go (stride step) (inr (inr needs_step)) on r = steps_on (act z q.room (stride step) w).events refl on r
    go (stride drop) (inr (inr drops)) on r = clash on (ap is_walking (drop_ends z q.room w.store w.walk))
    go (Call.ask _) (inr (inr x8)) on r = elim x8 [ ]
    go (Call.make _) (inr (inr x9)) on r = elim x9 [ ]
    go (Call.set _ _) (inr (inr x11)) on r = elim x11 [ ]
    go (Call.switch _) (inr (inr x11)) on r = elim x11 [ ]
    go (stride (Stride.begin _)) (inr (inr x14)) on r = elim x14 [ ]

-- enough steps to finish it
some_steps : ℕ → List Asked
some_steps zero = []
some_steps (suc m) = asked (stride step) 0 ∷ some_steps m

not_drop : stride step ≢ stride drop
not_drop e = let z : ◌≡◌ {A = ℕ} 0 1 = cc in omega arith

some_steps_lem : (m : ℕ) → NoDrop (some_steps m) × (steps (some_steps m) ≡ m)
unfolding some_steps
some_steps_lem zero = (tt, refl)
some_steps_lem (suc m) = ((not_drop, (some_steps_lem m).0), omega (arith, (some_steps_lem m).1))

-- ---- the theorem
module _ (z : Size) (qs : List Asked) (w : World Deep) (kept : Kept z (held w)) (inside : Inside z qs w) where
  v : World Deep
  v = leaves z qs w

  still : is_walking v.walk ≡ true
  unfolding v
  still = at_last z qs w inside

  rs : List Asked
  rs = some_steps (length (owed_in v)) ++ asked (stride step) 0 ∷ []

  rest : Finishes z rs v
  unfolding v rs
  rest = finishes_from z 0 (some_steps (length (owed_in v))) v still (kept_all z qs w kept) (some_steps_lem (length (owed_in v))).0 (some_steps_lem (length (owed_in v))).1

  whole : Going z (qs ++ rs) w
  unfolding v rs
  whole = under_way_lem (finishes_after z qs rs w inside rest) (at_first z qs w inside) kept

  left : Going z rs v
  unfolding v rs
  left = under_way_lem rest still (kept_all z qs w kept)

  pub first_moves : route w.store.tree w.store.focus (target_of w.walk)
      ≡ moves_in (deeds z qs w) ++ route (leaves z qs w).store.tree (leaves z qs w).store.focus (target_of (leaves z qs w).walk)
  unfolding v
  first_moves = sym whole.joins ∙ ap moves_in (deeds_join z qs rs w) ∙ moves_append (deeds z qs w) (deeds z rs v) ∙ ap (λ (ms : List Move). moves_in (deeds z qs w) ++ ms) left.joins

  pub first_events : owed_in w ≡ map (λ (u : Due). u.event) (handed_over z qs w) ++ owed_in (leaves z qs w)
  unfolding v
  first_events =
      sym whole.told ∙ ap (map (λ (u : Due). u.event)) (handed_join z qs rs w)
      ∙ map-append (λ (u : Due). u.event) (handed_over z qs w) (handed_over z rs v)
      ∙ ap (λ (es : List Event). map (λ (u : Due). u.event) (handed_over z qs w) ++ es) left.told
