-- What is proved of specs/Going.antt, whose head says it in words. Assumes nothing.
use Rattle.std.specs.Prelude.{◌≡◌, true, ℕ, ◌+◌}
use Rattle.std.proofs.Math.Path.{refl, sym, ap}
use Rattle.std.proofs.Common.{◌∙◌, inl, inr, arith, length-append}
use Rattle.std.proofs.Math.Option.{Option, none, some}
use mathlib.Core.List.{List, [], ◌∷◌, ◌++◌, map, map-append}
use Rattle.std.proofs.Math.ListN.{length}
use Rattle.std.proofs.lemmas.List.{length-map}
use Rattle.rules.proofs.Basic.{clash}
use Rattle.rules.specs.Tree.{Proper}
use Rattle.rules.specs.Values.{value}
use Rattle.rules.specs.Store.{Store, Deep, Sound, shallow, goto as switch, move_to}
use Rattle.rules.proofs.Store.{home_shallow}
use Rattle.rules.specs.World.{Walk, World}
use Rattle.rules.specs.Moves.{Move, Moves, route, Event}
use Rattle.rules.proofs.Moves.{moves_sound}
use Rattle.rules.proofs.Route.{route_self}
use Rattle.rules.specs.Leg.{Leg, leg_to, stop_to, Walking}
use Rattle.rules.specs.Stops.{owed, AllAt, Stepped}
use Rattle.rules.proofs.Stops.{stepped, leg_moves}
use Rattle.rules.specs.Refusals.{walking, first}
use Rattle.rules.specs.Act.{Call, stride, step, Free, asks, sets, makes, switches, begins, Size, shown, is_walking, rows, refused, answer_of, events_of, changed, goes_on, walk_after, becomes, Outcome, outcome, act}
use Rattle.rules.specs.Agree.{Kept, held}
use Rattle.rules.proofs.Agree.{act_keeps}
use Rattle.rules.specs.Places.{Due, due_in, AllPlaced}
use Rattle.rules.proofs.Places.{placed_at, placed_append, events_in_lem}
use Rattle.rules.specs.Runs.{Asked, leaves}
use Rattle.rules.specs.Steps.{under_way}
use Rattle.rules.proofs.Steps.{walking_refused, act_refused, as_ever}
use Rattle.rules.specs.Deeds.{Deed, moves, rest, moves_in}
use Rattle.rules.proofs.Deeds.{moves_deeds, deeds_append, moves_append, moves_only, set_leads}
use Rattle.rules.specs.Thunks.{asked, Aside, Finishes, says_done, hands_over, meanwhile, deeds_of, if_done, deeds, handed_over, reported, is_step}
use Rattle.rules.specs.Going.{target_of, handed_of, Going, Quiet}

-- ---- a call that stands between two steps
-- the walk stays as it is
pub aside_walk : (z : Size) (room : ℕ) (c : Call) (w : World Deep) → Aside c → is_walking w.walk ≡ true → (act z room c w).after.walk ≡ w.walk
aside_walk z room c w (inl f) i = ap (λ (r : Outcome (World Deep)). r.after.walk) (as_ever z room c w f)
aside_walk z room c w (inr b) i = ap (λ (r : Outcome (World Deep)). r.after.walk) (act_refused z room c w walking (walking_refused z room c w b i))

pub no_step : {c : Call} → Aside c → is_step c ≡ 0
no_step (inl asks) = refl
no_step (inl sets) = refl
no_step (inr makes) = refl
no_step (inr switches) = refl
no_step (inr begins) = refl

module _ (z : Size) (room : ℕ) (w : World Deep) (ok : Sound (shallow w.store)) where
  -- a refusal; an ask; a set
  refused_quiet : (c : Call) (n : ℕ) → Quiet c w (record { answer = refused n; events = []; after = w })
  refused_quiet c n = record { tree = refl; focus = refl; events = refl; count = refl; leads = rest; no_moves = refl }

  free_quiet : (c : Call) → Free c → Quiet c w (record { answer = answer_of z c (shown w); events = events_of c (shown w); after = becomes z c w })
  unfolding answer_of events_of changed
  free_quiet (Call.ask q) asks = record { tree = refl; focus = refl; events = refl; count = refl; leads = rest; no_moves = refl }
  free_quiet (Call.set x v) sets = record { tree = refl; focus = refl; events = refl; count = refl; leads = set_leads x (value v) w.store ok; no_moves = refl }
  free_quiet (Call.make _) x'' = elim x'' [ ]
  free_quiet (Call.switch _) x3 = elim x3 [ ]
  free_quiet (stride _) x4 = elim x4 [ ]

  pub quiet : (c : Call) → Aside c → is_walking w.walk ≡ true → Quiet c w (act z room c w)
  unfolding act outcome
  quiet c (inl f) i = go (first (rows z room c (shown w)))
    where
      go : (o : Option ℕ) → Quiet c w (outcome o (answer_of z c (shown w)) (events_of c (shown w)) w (becomes z c w))
      go none = free_quiet c f
      go (some n) = refused_quiet c n
  quiet c (inr b) i = rw (act_refused z room c w walking (walking_refused z room c w b i)) (refused_quiet c walking)

meanwhile_going : (z : Size) (c : Call) (room : ℕ) (qs : List Asked) (w : World Deep) → Sound (shallow w.store) → Aside c → is_walking w.walk ≡ true
    → Going z qs (act z room c w).after → Going z (asked c room ∷ qs) w
unfolding leaves deeds handed_over reported
meanwhile_going z c room qs w ok h i g = record {
  arrives = g.arrives ∙ ap target_of stays;
  over = g.over;
  leads = deeds_append q.leads g.leads;
  joins = joined ∙ g.joins ∙ rw (q.tree, q.focus, stays);
  told = rw q.events (g.told ∙ rw (q.tree, q.focus, stays));
  placed = rw q.events g.placed;
  counted = rw q.count (omega (arith, g.counted, ap length joined));
  stepped = rw (no_step h, q.events) (omega (arith, g.stepped));
}
  where
    q : Quiet c w (act z room c w)
    q = quiet z room w ok c h i

    stays : (act z room c w).after.walk ≡ w.walk
    stays = aside_walk z room c w h i

    ds : List Deed
    ds = if_done (act z room c w).answer (deeds_of c (shown w))

    rs : List Deed
    rs = deeds z qs (act z room c w).after

    joined : moves_in (ds ++ rs) ≡ moves_in rs
    joined = moves_append ds rs ∙ ap (λ (ms : List Move). ms ++ moves_in rs) q.no_moves

-- ---- a step
placed_all : (s : Store) → Sound s → (es : List Event) → AllAt s.focus es → AllPlaced (map (due_in s) es)
placed_all s ok [] h = tt
placed_all s ok (e ∷ es) (h, r) = (placed_at s ok e h, placed_all s ok es r)

module _ (d : Deep) (k : Walk) (ok : Sound (shallow d)) (walks : Walking d.tree d.focus (some k)) where
  l : Leg
  l = leg_to d.tree d.focus k.target k.handed

  n : ℕ
  n = stop_to d.tree d.focus k.target k.handed

  one_leg : Stepped d.tree d.focus k.target k.handed l n
  unfolding l n shallow
  one_leg = stepped (shallow d) ok k.target k.handed walks.0 walks.1

  leg_leads : Moves (shallow d) l.moves (shallow (move_to n d))
  unfolding l n shallow switch
  leg_leads = rw (home_shallow d) at (leg_moves (shallow d) ok k.target k.handed walks.0 walks.1)

  stop_sound : Sound (shallow (move_to n d))
  stop_sound = moves_sound leg_leads ok

  -- the leg, then what is done and handed over after it
  leg_joins : (rs : List Deed) → moves_in rs ≡ route d.tree n k.target → moves_in (map moves l.moves ++ rs) ≡ route d.tree d.focus k.target
  leg_joins rs e =
      moves_append (map moves l.moves) rs ∙ (λ i. moves_only l.moves i ++ e i) ∙ sym one_leg.joins

  leg_told : (us : List Due) → map (λ (u : Due). u.event) us ≡ owed d.tree n k.target l.handed
      → map (λ (u : Due). u.event) (map (due_in (shallow (move_to n d))) l.events ++ us) ≡ owed d.tree d.focus k.target k.handed
  leg_told us e =
      map-append (λ (u : Due). u.event) (map (due_in (shallow (move_to n d))) l.events) us
      ∙ (λ i. events_in_lem (shallow (move_to n d)) l.events i ++ e i) ∙ sym one_leg.owes

  leg_placed : (us : List Due) → AllPlaced us → AllPlaced (map (due_in (shallow (move_to n d))) l.events ++ us)
  unfolding shallow
  leg_placed us h =
      placed_append (map (due_in (shallow (move_to n d))) l.events) us (placed_all (shallow (move_to n d)) stop_sound l.events one_leg.places) h

  leg_counted : (rs : List Deed) → length (moves_in (map moves l.moves ++ rs)) ≡ length l.moves + length (moves_in rs)
  leg_counted rs =
      ap length (moves_append (map moves l.moves) rs ∙ ap (λ (ms : List Move). ms ++ moves_in rs) (moves_only l.moves))
      ∙ length-append l.moves (moves_in rs)

  leg_length : (us : List Due) → length (map (due_in (shallow (move_to n d))) l.events ++ us) ≡ length l.events + length us
  leg_length us = length-append (map (due_in (shallow (move_to n d))) l.events) us ∙ ap (λ (m : ℕ). m + length us) (length-map l.events (due_in (shallow (move_to n d))))

  module _ (z : Size) (room : ℕ) where
    done_going : (act z room (stride step) (under_way d k)).events ≡ [] → Going z (asked (stride step) room ∷ []) (under_way d k)
    unfolding l n act outcome first rows events_of answer_of changed walk_after shown leaves deeds handed_over reported shallow
    done_going q =
        let there : n ≡ k.target = (one_leg.arrives q).0 in
        let none_left : route d.tree n k.target ≡ [] = rw there (route_self d.tree ok.proper k.target) in
        record {
          arrives = there;
          over = ap (λ (es : List Event). goes_on es (some k) l.handed) q;
          leads = deeds_append (moves_deeds leg_leads) rest;
          joins = leg_joins [] (sym none_left);
          told = leg_told [] (rw ((one_leg.arrives q).1, none_left));
          placed = leg_placed [] tt;
          counted = sym (leg_counted []);
          stepped = omega (arith, leg_length [], ap length q);
        }

    hands_going : (qs : List Asked) (e : Event) (es : List Event) → (act z room (stride step) (under_way d k)).events ≡ e ∷ es
        → Going z qs (act z room (stride step) (under_way d k)).after → Going z (asked (stride step) room ∷ qs) (under_way d k)
    unfolding l n act outcome first rows events_of answer_of changed walk_after shown leaves deeds handed_over reported
    hands_going qs e es q g = record {
      arrives = g.arrives ∙ same_target;
      over = g.over;
      leads = deeds_append (moves_deeds leg_leads) g.leads;
      joins = leg_joins _ (g.joins ∙ ap (route d.tree n) same_target);
      told = leg_told _ (g.told ∙ (λ i. owed d.tree n (same_target i) (same_handed i)));
      placed = leg_placed _ g.placed;
      counted = omega (arith, g.counted, leg_counted (deeds z qs w₁));
      stepped = omega (arith, g.stepped, leg_length (handed_over z qs w₁), ap length q, one_leg.one);
    }
      where
        w₁ : World Deep
        w₁ = (act z room (stride step) (under_way d k)).after

        same_target : target_of (goes_on l.events (some k) l.handed) ≡ k.target
        same_target = ap (λ (v : List Event). target_of (goes_on v (some k) l.handed)) q

        same_handed : handed_of (goes_on l.events (some k) l.handed) ≡ l.handed
        same_handed = ap (λ (v : List Event). handed_of (goes_on v (some k) l.handed)) q

-- a run keeps the world sound
pub kept_all : (z : Size) (qs : List Asked) (w : World Deep) → Kept z (held w) → Kept z (held (leaves z qs w))
unfolding leaves
kept_all z [] w h = h
kept_all z (q ∷ qs) w h = kept_all z qs (act z q.room q.call w).after (act_keeps z q.room q.call w h)

pub held_sound : (z : Size) (w : World Deep) → Kept z (held w) → Sound (shallow w.store)
unfolding held
held_sound z w kept = kept.well.sound

pub proper_held : (z : Size) (w : World Deep) → Kept z (held w) → Proper w.store.tree
unfolding held shallow
proper_held z w kept = kept.well.sound.proper

-- ---- all of it
module _ (z : Size) (room : ℕ) (d : Deep) where
  done_at : (o : Option Walk) → is_walking o ≡ true → Kept z (held (record { store = d; walk = o }))
      → (act z room (stride step) (record { store = d; walk = o })).events ≡ [] → Going z (asked (stride step) room ∷ []) (record { store = d; walk = o })
  unfolding held shallow
  done_at none i kept q = clash i refl
  done_at (some k) i kept q = done_going d k kept.well.sound kept.walk z room q

  hands_at : (o : Option Walk) → is_walking o ≡ true → Kept z (held (record { store = d; walk = o })) → (qs : List Asked) (e : Event) (es : List Event)
      → (act z room (stride step) (record { store = d; walk = o })).events ≡ e ∷ es
      → Going z qs (act z room (stride step) (record { store = d; walk = o })).after → Going z (asked (stride step) room ∷ qs) (record { store = d; walk = o })
  unfolding held shallow
  hands_at none i kept qs e es q g = clash i refl
  hands_at (some k) i kept qs e es q g = hands_going d k kept.well.sound kept.walk z room qs e es q g

  pub goes_on_lem : (o : Option Walk) → is_walking o ≡ true → (e : Event) (es : List Event)
      → (act z room (stride step) (record { store = d; walk = o })).events ≡ e ∷ es → is_walking (act z room (stride step) (record { store = d; walk = o })).after.walk ≡ true
  unfolding act outcome first rows events_of walk_after shown
  goes_on_lem none i e es q = clash i refl
  goes_on_lem (some k) i e es q = ap (λ (v : List Event). is_walking (goes_on v (some k) (leg_to d.tree d.focus k.target k.handed).handed)) q

pub under_way_lem : {z : Size} {qs : List Asked} {w : World Deep} → Finishes z qs w → is_walking w.walk ≡ true → Kept z (held w) → Going z qs w
under_way_lem {z} (says_done {w = w} {room = room} q) i kept = done_at z room w.store w.walk i kept q
under_way_lem {z} (hands_over {w = w} {room = room} {qs = qs} {e = e} {es = es} q r) i kept =
    hands_at z room w.store w.walk i kept qs e es q
    (under_way_lem r (goes_on_lem z room w.store w.walk i e es q) (act_keeps z room (stride step) w kept))
under_way_lem {z} (meanwhile {w = w} {c = c} {room = room} {qs = qs} h r) i kept =
    let ok : Sound (shallow w.store) = held_sound z w kept in
    meanwhile_going z c room qs w ok h i
    (under_way_lem r (ap is_walking (aside_walk z room c w h i) ∙ i) (act_keeps z room c w kept))
