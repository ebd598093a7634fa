-- Begin, step and drop, one call at a time: what each answers, hands over and leaves, and when a walk refuses.
-- From document 02, W5. Assumes nothing.
use Rattle.std.specs.Prelude.{◌≡◌, List, [], ◌∷◌, ℕ, ◌≤◌, length}
use Rattle.std.proofs.Math.Option.{Option, none, some}
use Rattle.rules.specs.Store.{Deep, shallow, move_to}
use Rattle.rules.specs.World.{Walk, World, alone}
use Rattle.rules.specs.Moves.{Event, trace}
use Rattle.rules.specs.Way.{OnWay}
use Rattle.rules.specs.Leg.{Leg}
use Rattle.rules.specs.Stops.{AllAt, Hands}
use Rattle.rules.specs.Act.{a_number, done, Outcome}
use Rattle.rules.specs.Demands.{Switched}

-- ---- a free call during a walk does as ever, and the walk stays
abbrev pub with_walk : Option Walk → Outcome (World Deep) → Outcome (World Deep)
with_walk o r = record { answer = r.answer; events = []; after = record { store = r.after.store; walk = o } }

-- ---- begin and drop answer the focus and leave the deep store as it is
abbrev pub under_way : Deep → Walk → World Deep
under_way d k = record { store = d; walk = some k }

abbrev pub fresh : ℕ → Walk
fresh a = record { target = a; handed = none }

abbrev pub answers_focus : World Deep → World Deep → Outcome (World Deep)
answers_focus w w' = record { answer = done (a_number w.store.focus) 0; events = []; after = w' }

-- ---- a step, by its leg l
pub record OneStep (d : Deep) (k : Walk) (l : Leg) (r : Outcome (World Deep)) : Type 0 where
  -- it answers the focus and its moves: those of the switch to where it stops, on the way to the target
  pub answered : r.answer ≡ done (a_number r.after.store.focus) (length l.moves)
  pub switches : Switched (shallow d) (shallow r.after.store) r.after.store.focus l.moves (length l.moves) (trace d.tree l.moves)
  pub on_way : OnWay d.tree d.focus r.after.store.focus k.target
  -- the deep store changes its focus and nothing else
  pub keeps : r.after.store ≡ move_to r.after.store.focus d
  -- it hands over one event at most, with the focus at its place, the wind's parent, and the wind out (`child_out`)
  pub events : r.events ≡ l.events
  pub at_most_one : length r.events ≤ 1
  pub placed : AllAt r.after.store.focus r.events
  pub hands : Hands d.tree r.after.store.focus l
  -- with no event it has arrived and the walk is over, else the walk goes on
  pub says_done : r.events ≡ [] → r.after ≡ alone (move_to k.target d)
  pub goes_on_lem : (e : Event) (es : List Event) → r.events ≡ e ∷ es → r.after.walk ≡ some (record { target = k.target; handed = l.handed })
