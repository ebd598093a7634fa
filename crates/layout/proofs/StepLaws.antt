-- What a step of a walk leaves (document 02, W5): its leg is gone to its stop; where an event is handed over the walk goes on, else
-- it is over. Assumes nothing.
use Rattle.std.specs.Prelude.{◌≡◌, ◌≢◌, true, false, ℕ, ◌<◌, List, [], ◌∷◌, ◌++◌, None, Some}
use Rattle.std.specs.Prelude as answered
use Rattle.std.proofs.Math.Path.{refl, ap}
use Rattle.std.proofs.Common.{sym, subst, ◌∙◌}
use Rattle.std.proofs.Math.Option.{Option, none, some}
use native.Mathlib.Omega.{arith}
use Rattle.std.proofs.Math.ListN.{length}
use Rattle.rules.specs.Basic.{or_top}
use Rattle.rules.specs.Tree.{Tree, blank}
use Rattle.rules.specs.Store as store
use Rattle.rules.specs.Moves.{Move, left, entered, Event, is_wind, Moves, route, trace}
use Rattle.rules.proofs.Moves.{moves_tree, route_length}
use Rattle.rules.specs.Leg.{Leg, going, up_to, leg_to, end_of, Handed}
use Rattle.rules.specs.Stops.{Stepped}
use Rattle.rules.proofs.Stops.{stepped, moves_end, leg_route}
use Rattle.rules.specs.Act.{goes_on}
use Rattle.layout.specs.Limits.{none_n}
use Rattle.layout.specs.Records.{focus, target, handed, node_of, kind_n, var_n, post_n}
use Rattle.layout.specs.Fields.{fields_of}
use Rattle.layout.specs.Kinds.{IsWind}
use Rattle.layout.specs.View.{view_f, view, or_none, walk_of}
use Rattle.layout.specs.Sound.{Whole, Sound}
use Rattle.layout.specs.Made.{IsMade}
use Rattle.layout.specs.Becomes.{Sized}
use Rattle.layout.proofs.SoundLaws.{sound_view}
use Rattle.layout.proofs.WalkLaws.{sized_self, made_seen, seen_made, parent_seen}
use Rattle.layout.proofs.RouteLaws.{what_node, wind_kind, few_moves}
use Rattle.layout.proofs.TellLaws.{parent, left_wind, entered_wind}
use Rattle.layout.proofs.StrideLaws.{Rewalked}
use Rattle.layout.proofs.HandedLaws.{top_kind, walking_at, target_made, under_way_lem, walks, over}
use Rattle.layout.specs.Legs.{WindAt, place_of, Above}
use Rattle.layout.proofs.StopLaws.{leg_left, leg_entered, leg_arrives}
use Rattle.layout.specs.Legs.{Moved, enters_first}
use Rattle.layout.proofs.LegLaws.{moved_then, moved_made}
use Rattle.layout.specs.Legs.{Goes, goes_on_lem, arrives, leg_from}

pub moved_focus : {s u : List ℕ} {ms : List Move} {a c : ℕ} → Moved s u ms a c → focus u ≡ end_of (view s).tree (focus s) ms
unfolding view view_f fields_of
moved_focus m = moves_end m.moves

-- other moves before it, or the same moves named otherwise
abbrev pub after : List Move → Leg → Leg
after ms l = record { moves = ms ++ l.moves; events = l.events; handed = l.handed }

pub moved_by : {s u : List ℕ} {ms ns : List Move} {a c : ℕ} → ms ≡ ns → Moved s u ns a c → Moved s u ms a c
moved_by e m = rw e m

-- ---- the leg from a store in which no wind waits to be entered, by the first wind of either climb
ends_left : (t : Tree) (f w : ℕ) (pre : List Move) → end_of t f (pre ++ left w ∷ []) ≡ or_top (t.up w)
ends_left t f w [] = refl
ends_left t f w (left n ∷ pre) = ends_left t (or_top (t.up n)) w pre
ends_left t f w (entered n ∷ pre) = ends_left t n w pre

-- it stops at g, hands the events es over, and the wind h waits to be entered
pub record LegIs (s : List ℕ) (a g : ℕ) (es : List Event) (h : Option ℕ) : Type 0 where
  pub stop : end_of (view s).tree (focus s) (leg_from s a).moves ≡ g
  pub moves : (leg_from s a).moves ≡ route (view s).tree (focus s) g
  pub events : (leg_from s a).events ≡ es
  pub handed : (leg_from s a).handed ≡ h

-- the events of leaving and of entering the wind w, by its record
abbrev pub leaving : List ℕ → ℕ → Event
leaving s w = record { entering = false; thunk = post_n (node_of s w); place = place_of s w }

abbrev pub entering : List ℕ → ℕ → Event
entering s w = record { entering = true; thunk = var_n (node_of s w); place = place_of s w }

module _ (s : List ℕ) (ok : Whole s) (a : ℕ) (made : IsMade s a) where
  abbrev t : Tree
  t = (view s).tree

  abbrev f : ℕ
  f = focus s

  -- few enough for its number, with one more before it
  pub leg_few : length (leg_from s a).moves < 65535
  unfolding view view_f fields_of leg_to
  leg_few = omega (
    arith,
    ap length (leg_route (view s) (sound_view s ok) a none (made_seen s ok a made) tt),
    route_length t f (end_of t f (leg_from s a).moves),
    few_moves s ok (end_of t f (leg_from s a).moves),
  )

  leg_stops : Stepped t f a none (leg_from s a) (end_of t f (leg_from s a).moves)
  unfolding view view_f fields_of leg_to
  leg_stops = stepped (view s) (sound_view s ok) a none (made_seen s ok a made) tt

  -- it is known by where it stops: the moves are the way there
  leg_by : (g : ℕ) (es : List Event) (h : Option ℕ) → end_of t f (leg_from s a).moves ≡ g → (leg_from s a).events ≡ es → (leg_from s a).handed ≡ h → LegIs s a g es h
  unfolding view view_f fields_of leg_to
  leg_by g es h stop events handed = record {
    stop = stop;
    moves = leg_route (view s) (sound_view s ok) a none (made_seen s ok a made) tt ∙ ap (route t f) stop;
    events = events;
    handed = handed;
  }

  -- a wind of the tree is made, and is one by its record
  wind_made : (w : ℕ) → is_wind (t.what w) ≡ 1 → IsMade s w
  wind_made w is = seen_made s ok w (λ e. omega (arith, is, ap is_wind e))

  wind_record : (w : ℕ) → is_wind (t.what w) ≡ 1 → IsWind (kind_n (node_of s w))
  wind_record w is = wind_kind (node_of s w) (sym (ap is_wind (what_node s ok w (wind_made w is))) ∙ is)

  wind_up : (w : ℕ) → is_wind (t.what w) ≡ 1 → t.up w ≡ some (place_of s w)
  wind_up w is = parent s ok w (wind_made w is) (wind_record w is)

  -- the top is none
  not_top : (w : ℕ) → is_wind (t.what w) ≡ 1 → w ≡ 0 → ⊥
  not_top w is e = omega (arith, top_kind s ok, ap (λ (n : ℕ). kind_n (node_of s n)) e, wind_record w is)

  -- the first wind on the focus's way up is left
  pub leaves : (m : ℕ) (o : answered.Option ℕ) → Above s a m o → (w : ℕ) → WindAt t left (route t f m) w → IsMade s w × LegIs s a (place_of s w) (leaving s w ∷ []) none
  leaves m o above w first =
      let l = leg_left t f a m above.passed above.way w first.pre first.post first.split first.quiet first.wind in (
        wind_made w first.wind,
        leg_by (place_of s w) (leaving s w ∷ []) none (ap (λ (k : Leg). end_of t f k.moves) l ∙ ends_left t f w first.pre ∙ ap or_top (wind_up w first.wind))
            (ap (λ (k : Leg). k.events) l ∙ left_wind s ok w (wind_made w first.wind) (wind_record w first.wind)) (ap (λ (k : Leg). k.handed) l),
      )

  -- none is left, and the outermost wind to be entered waits for it
  module _ (m : ℕ) (none_left : trace t (route t f m) ≡ []) where
    pub enters : (w : ℕ) → Above s a m (Some w) → IsMade s w × LegIs s a (place_of s w) (entering s w ∷ []) (some w)
    enters w above =
        let first = above.first in
        let l = leg_entered t f a m above.passed above.way none_left w first.pre first.post first.split first.quiet first.wind in
        let handed = ap (λ (k : Leg). k.handed) l in
        let up = (subst (Handed t (end_of t f (leg_from s a).moves) a) handed leg_stops.sound).0 in (
          wind_made w first.wind,
          leg_by (place_of s w) (entering s w ∷ []) (some w) (sym (parent_seen s ok w _ up))
              (ap (λ (k : Leg). k.events) l ∙ entered_wind s ok w (wind_made w first.wind) (wind_record w first.wind)) handed,
        )

    -- no wind at all
    pub reaches : Above s a m None → LegIs s a a [] none
    reaches above =
        let l = leg_arrives t f a m above.passed above.way none_left above.first in
        let events = ap (λ (k : Leg). k.events) l in
        leg_by a [] none (leg_stops.arrives events).0 events (ap (λ (k : Leg). k.handed) l)

  -- so it is gone when its stop is reached, with the wind that waits in the header; or when the walk is over
  module _ {u : List ℕ} {g : ℕ} {h : Option ℕ} where
    pub gone_on : {e : Event} → LegIs s a g (e ∷ []) h → (c : ℕ) → h ≡ or_none c → Moved s u (route t f g) (target s) c → Goes s u (leg_from s a)
    gone_on {e} is c k m = goes_on_lem c e is.events (is.handed ∙ k) (moved_by is.moves m)

    pub gone_there : LegIs s a g [] h → Moved s u (route t f g) none_n none_n → Goes s u (leg_from s a)
    gone_there is m = arrives is.events (moved_by is.moves m)

-- ---- the wind that waited is entered first, then the leg from there
legs_join : (v v' : store.Store) (a : ℕ) (h : Option ℕ) → Moves v (enters_first h) v'
    → leg_to v.tree v.focus a h ≡ after (enters_first h) (up_to v'.tree (route v'.tree v'.focus a))
unfolding leg_to
legs_join v v' a none ms = sym (λ i. up_to (moves_tree ms i) (route (moves_tree ms i) (moves_end ms i) a))
legs_join v v' a (some c) ms = sym (λ i. going (entered c) (up_to (moves_tree ms i) (route (moves_tree ms i) (moves_end ms i) a)))

module _ (s : List ℕ) (ok : Sound s) (walking : target s ≢ none_n) where
  abbrev whole_leg : Leg
  whole_leg = leg_to (view s).tree (focus s) (target s) (or_none (handed s))

  is_handed : Handed (view s).tree (focus s) (target s) (or_none (handed s))
  is_handed = (walking_at s ok.whole walking ok.walk).1

  is_made_lem : (view s).tree.what (target s) ≢ blank
  is_made_lem = (walking_at s ok.whole walking ok.walk).0

  pub leg_is : {m : List ℕ} → Moved s m (enters_first (or_none (handed s))) (target s) none_n → whole_leg ≡ after (enters_first (or_none (handed s))) (leg_from m (target m))
  unfolding view view_f fields_of
  leg_is {m} first =
      legs_join (view s) (view m) (target s) (or_none (handed s)) first.moves ∙ ap (λ (a : ℕ). after (enters_first (or_none (handed s))) (leg_from m a)) (sym first.target)

  -- the target is made still
  pub then_onward : {m : List ℕ} → Moved s m (enters_first (or_none (handed s))) (target s) none_n → Whole m × (IsMade m (target m) × (handed m ≡ none_n))
  then_onward {m} first =
      (first.whole, (rw first.target (moved_made ok.whole first (target s) (target_made s ok.whole walking ok.walk)), first.handed))

  pub leg_joined : {m u : List ℕ} → Moved s m (enters_first (or_none (handed s))) (target s) none_n → Goes m u (leg_from m (target m)) → Goes s u whole_leg
  unfolding view view_f fields_of
  leg_joined {m} {u} first rest = rw (leg_is first) (go rest)
    where
      go : Goes m u (leg_from m (target m)) → Goes s u (after (enters_first (or_none (handed s))) (leg_from m (target m)))
      go (goes_on_lem c e es h moved) =
          let n = moved_then first moved in
          goes_on_lem c e es h (record { whole = n.whole; size = n.size; moves = n.moves; target = n.target ∙ first.target; handed = n.handed })
      go (arrives es moved) = arrives es (moved_then first moved)

  -- the store is sound then, and the walk as the rules leave it
  whole_stops : Stepped (view s).tree (focus s) (target s) (or_none (handed s)) whole_leg (end_of (view s).tree (focus s) whole_leg.moves)
  unfolding view view_f fields_of
  whole_stops = stepped (view s) (sound_view s ok.whole) (target s) (or_none (handed s)) is_made_lem is_handed

  pub goes_sound : {u : List ℕ} → Goes s u whole_leg
      → Sound u × Sized s u × Moves (view s) whole_leg.moves (view u) × (walk_of u ≡ goes_on whole_leg.events (some (record { target = target s; handed = or_none (handed s) })) whole_leg.handed)
  unfolding view view_f fields_of
  goes_sound {u} (goes_on_lem c e es h moved) =
      let r : Rewalked u u (target s) c = record { whole = moved.whole; seen = refl; size = sized_self u; target = moved.target; handed = moved.handed } in
      let tree : (view u).tree ≡ (view s).tree = moves_tree moved.moves in
      let is : Handed (view s).tree (focus u) (target s) (or_none c) = rw (h, ← (moved_focus moved)) at whole_stops.sound in (
        walks r walking (λ z. is_made_lem (sym (ap (λ (t : Tree). t.what (target s)) tree) ∙ z)) (subst (λ (t : Tree). Handed t (focus u) (target s) (or_none c)) (sym tree) is),
        moved.size,
        moved.moves,
        under_way_lem r walking ∙ rw (es, h) refl,
      )
  goes_sound {u} (arrives es moved) =
      let r : Rewalked u u none_n none_n = record { whole = moved.whole; seen = refl; size = sized_self u; target = moved.target; handed = moved.handed } in
      let (sound, none_left) = over r refl refl in
      (sound, moved.size, moved.moves, none_left ∙ rw es refl)
