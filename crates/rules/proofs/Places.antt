-- What is proved of specs/Places.antt, whose head says it in words. Assumes nothing.
use Rattle.std.specs.Prelude.{◌≡◌, refl, Bool, true, false, List, [], ◌∷◌, ◌++◌, map, ℕ}
use Rattle.std.proofs.Common.{sym, ap, ◌∙◌}
use Rattle.std.proofs.lemmas.List.{map-append}
use Rattle.rules.specs.Basic.{or_top}
use Rattle.rules.specs.Tree.{What, blank, top, binding, wind, Tree}
use Rattle.rules.specs.Store.{Store, Sound, leave, enter}
use Rattle.rules.proofs.Store.{goto_here}
use Rattle.rules.proofs.Far.{far_self}
use Rattle.rules.specs.Moves.{Move, left, entered, after, Moves, done, move, Event, wind_event, event_of, trace}
use Rattle.rules.proofs.Moves.{left_parent, moves_tree, moves_sound}
use Rattle.rules.proofs.Route.{route_self}
use Rattle.rules.specs.Demands.{Switched}
use Rattle.rules.proofs.Demands.{goto_switches}
use Rattle.rules.specs.Places.{due_at, Due, due_in, dues, Placed, AllPlaced, InPlace}

-- ---- proofs
-- a switch to where the focus is: no move, no event
pub resumes : (s : Store) → Sound s → Switched s s s.focus [] 0 []
resumes s ok =
    rw (goto_here s ok, route_self s.tree ok.proper s.focus, far_self s.tree ok.proper s.focus) at
    (goto_switches s s.focus ok ok.focus_made)

pub placed_at : (s : Store) → Sound s → (e : Event) → e.place ≡ s.focus → Placed (due_in s e)
placed_at s ok e h = record { place = h; resumed = rw h (resumes s ok) }

placed_wind : (s : Store) → Sound s → (e : Bool) (w : What) (p : ℕ) → p ≡ s.focus → AllPlaced (map (due_in s) (wind_event e w p))
placed_wind s ok e blank p h = tt
placed_wind s ok e top p h = tt
placed_wind s ok e (binding x) p h = tt
placed_wind s ok e (wind a b) p h = (placed_at s ok _ h, tt)

pub placed_append : (l r : List Due) → AllPlaced l → AllPlaced r → AllPlaced (l ++ r)
placed_append [] r h k = k
placed_append (d ∷ l) r (h, g) k = (h, placed_append l r g k)

placed_moves : {s s' : Store} {ms : List Move} → Sound s → Moves s ms s' → AllPlaced (dues s ms)
placed_moves ok done = tt
placed_moves ok (move {s = s} {m = left n} {ms = ms} h r) =
    let next : Sound (leave s) = moves_sound (move {m = left n} h done) ok in
    placed_append (map (due_in (leave s)) (event_of s.tree (left n))) (dues (leave s) ms)
    (placed_wind (leave s) next false (s.tree.what n) _ (left_parent s n h)) (placed_moves next r)
placed_moves ok (move {s = s} {m = entered n} {ms = ms} h r) =
    let next : Sound (enter n s) = moves_sound (move {m = entered n} h done) ok in
    placed_append (map (due_in s) (event_of s.tree (entered n))) (dues (enter n s) ms)
    (placed_wind s ok true (s.tree.what n) _ (ap or_top h)) (placed_moves next r)

-- nothing is added to the events and nothing left out
pub events_in_lem : (s : Store) (es : List Event) → map (λ (d : Due). d.event) (map (due_in s) es) ≡ es
events_in_lem s [] = refl
events_in_lem s (e ∷ es) = ap (λ (l : List Event). e ∷ l) (events_in_lem s es)

dues_trace : {s s' : Store} {ms : List Move} → Moves s ms s' → map (λ (d : Due). d.event) (dues s ms) ≡ trace s.tree ms
dues_trace done = refl
dues_trace (move {s = s} {m = m} {ms = ms} h r) =
    let same : (after m s).tree ≡ s.tree = moves_tree (move {m = m} h done) in
    map-append (λ (d : Due). d.event) (map (due_in (due_at m s)) (event_of s.tree m)) (dues (after m s) ms)
    ∙ (λ i. events_in_lem (due_at m s) (event_of s.tree m) i ++ (dues_trace r ∙ ap (λ (t : Tree). trace t ms) same) i)

pub moves_placed : {s s' : Store} {ms : List Move} → Sound s → Moves s ms s' → InPlace s ms (trace s.tree ms)
moves_placed ok r = record { all = sym (dues_trace r); placed = placed_moves ok r }
