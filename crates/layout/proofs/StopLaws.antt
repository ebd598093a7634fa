-- Where a step of a walk stops, as the code finds it (document 02, W5): the first wind on the focus's way up to the meeting point is
-- left; where there is none, the outermost wind on the target's way down from there is to be entered; else the target is reached.
-- Assumes nothing.
use Rattle.std.specs.Prelude.{◌≡◌, refl, ◌≢◌, ◌⊎◌, true, ℕ, ◌<◌, length, Option, None, Some, IfSome}
use Rattle.std.proofs.Common.{sym, ◌∙◌, inl, inr, arith}
use Rattle.std.proofs.Math.Path.{ap}
use Rattle.std.proofs.Math.Bool.{false}
use Rattle.std.proofs.Math.Option.{none, some}
use mathlib.Core.List.{List, [], ◌∷◌, ◌++◌, append_assoc, append-nil}
use Rattle.rules.specs.Basic.{on}
use Rattle.rules.proofs.Basic.{some≢none}
use Rattle.rules.specs.Tree.{Tree, path}
use Rattle.rules.proofs.Tree.{path_up}
use Rattle.rules.specs.Moves.{Move, left, entered, node_of, Event, event_of, route, trace, is_wind}
use Rattle.rules.proofs.Moves.{route_entered, trace_append, length_event}
use Rattle.rules.proofs.Route.{leave_first, route_self}
use Rattle.rules.specs.Leg.{up_to}
use Rattle.rules.proofs.Stops.{up_to_none, up_to_first}
use Rattle.layout.specs.Records as records
use Rattle.layout.specs.Records.{focus, kind_n, parent_n}
use Rattle.layout.specs.Kinds.{is_out, IsWind}
use Rattle.layout.specs.View.{view_f, view}
use Rattle.layout.specs.Fields.{fields_of}
use Rattle.layout.specs.Sound.{Whole}
use Rattle.layout.specs.Made.{IsMade}
use Rattle.layout.specs.Routes.{moves_from, moves_to, meeting, Over, OnWay}
use Rattle.layout.proofs.SoundLaws.{what_wind, sound_fit}
use Rattle.layout.proofs.Laws.{node_in, of_buffer}
use Rattle.layout.proofs.MoveLaws.{inner}
use Rattle.layout.proofs.CheckLaws.{ins_focus, sound_rises}
use Rattle.layout.proofs.WalkLaws.{made_seen, made_room, focus_made, out_up, in_above, parent_made, parent_seen}
use Rattle.layout.proofs.RouteLaws.{proper, what_node, out_off, in_meets, below_over, meet_up, moves_entered, plain, risen}
use Rattle.layout.specs.Legs.{WindAt, FirstWind, place_of, StopsAt, Above}

-- no event of a node that is no wind, one of a wind
quiet : (t : Tree) (m : Move) → is_wind (t.what (node_of m)) ≡ 0 → event_of t m ≡ []
quiet t m h = go (event_of t m) (length_event t m ∙ h)
  where
    go : (es : List Event) → length es ≡ 0 → es ≡ []
    go [] e = refl
    go (x ∷ es) e = absurd (omega arith)

quiet_first : (t : Tree) (m : Move) (ms : List Move) → is_wind (t.what (node_of m)) ≡ 0 → trace t ms ≡ [] → trace t (m ∷ ms) ≡ []
quiet_first t m ms h k = (λ i. quiet t m h i ++ k i)

stops_at : (s : List ℕ) {p w m : ℕ} → p ≡ place_of s w → IsMade s p → meeting s p ≡ m → StopsAt s w m
stops_at s e made met = record { made = rw (← e) made; met = rw (← e) met }

-- the climb from the focus towards m has come to g, over no wind
pub record Below (s : List ℕ) (m g : ℕ) : Type 0 where
  pub made : IsMade s g
  pub inside : is_out (kind_n (records.node_of s g)) ≡ false
  pub over : Over (view s).tree m g
  pub passed : List Move
  pub way : route (view s).tree (focus s) m ≡ passed ++ route (view s).tree g m
  pub quiet : trace (view s).tree passed ≡ []

-- the focus is in or the top, and so is the parent of a node that is in
module _ (s : List ℕ) (ok : Whole s) where
  focus_inside : is_out (kind_n (records.node_of s (focus s))) ≡ false
  unfolding fields_of IsMade
  focus_inside = ap (λ (p : List ℕ). is_out (kind_n p)) (sym (node_in s (focus s) (made_room s ok (focus s) (focus_made s ok))))
      ∙ (ins_focus (fields_of s) (of_buffer s (sound_fit s ok)) ok.fields.shape ok.fields.ins).0

  parent_inside : (g p : ℕ) → IsMade s g → is_out (kind_n (records.node_of s g)) ≡ false → (view s).tree.up g ≡ some p → is_out (kind_n (records.node_of s p)) ≡ false
  unfolding fields_of IsMade view view_f
  parent_inside g p m i u = go (in_above s ok g m i)
    where
      go : ((view s).tree.up g ≡ none) ⊎ ((view s).mode g ≡ true) → is_out (kind_n (records.node_of s p)) ≡ false
      go (inl e) = some≢none u e
      go (inr e) =
          let (l, h, q, mp) = inner s ok g p u in
          ap (λ (n : List ℕ). is_out (kind_n n)) (sym (node_in s p (made_room s ok p mp)) ∙ ap (fields_of s).node (sym q)) ∙ sound_rises s ok g l h e

module _ (s : List ℕ) (ok : Whole s) where
  abbrev t : Tree
  t = (view s).tree

  abbrev f : ℕ
  f = focus s

  -- ---- the climb from the target
  pub above_start : (a : ℕ) → IsMade s a → Above s a a None
  above_start a m = record { made = m; same = refl; passed = []; way = sym (append-nil (route t f a)); first = refl; stop = tt }

  module _ (a c : ℕ) (o : Option ℕ) (at : Above s a c o) (out : is_out (kind_n (records.node_of s c)) ≡ true) (p : ℕ) (named : p ≡ parent_n (records.node_of s c)) where
    up : t.up c ≡ some p
    up = (out_up s ok c at.made out).0 ∙ ap some (sym named)

    off : on c (path t f) ≡ false
    off = out_off s ok c at.made out

    last : route t f c ≡ route t f p ++ entered c ∷ []
    unfolding route
    last = rw (path_up t (proper s ok) c p up) (route_entered c (path t f) (path t p) off)

    met : meeting s p ≡ meeting s a
    met = sym (meet_up t (proper s ok) f c p up off) ∙ at.same

    above_by : (v : Option ℕ) → FirstWind t entered (entered c ∷ at.passed) v → IfSome v (λ w. StopsAt s w (meeting s a)) → Above s a p v
    above_by v h stop = record {
      made = parent_made s ok c p up;
      same = met;
      passed = entered c ∷ at.passed;
      way = at.way ∙ ap (λ (l : List Move). l ++ at.passed) last ∙ append_assoc (route t f p) (entered c ∷ []) at.passed;
      first = h;
      stop = stop;
    }

    -- over a wind, and over any other node
    pub above_wind : IsWind (kind_n (records.node_of s c)) → Above s a p (Some c)
    above_wind is = above_by (Some c) first (stops_at s named (parent_made s ok c p up) met)
      where
        first : WindAt t entered (entered c ∷ at.passed) c
        first = record { pre = []; post = at.passed; split = refl; quiet = refl; wind = ap is_wind (what_node s ok c at.made ∙ what_wind (records.node_of s c) is) }

    pub above_plain : (IsWind (kind_n (records.node_of s c)) → ⊥) → Above s a p o
    above_plain is_not = above_by o (go o at.first) at.stop
      where
        still : is_wind (t.what c) ≡ 0
        still = ap is_wind (what_node s ok c at.made) ∙ plain (records.node_of s c) is_not

        go : (v : Option ℕ) → FirstWind t entered at.passed v → FirstWind t entered (entered c ∷ at.passed) v
        go None h = quiet_first t (entered c) at.passed still h
        go (Some w) h = record {
          pre = entered c ∷ h.pre;
          post = h.post;
          split = ap (λ (l : List Move). entered c ∷ l) h.split;
          quiet = quiet_first t (entered c) h.pre still h.quiet;
          wind = h.wind;
        }

  pub above_up : (a c : ℕ) (o : Option ℕ) → Above s a c o → is_out (kind_n (records.node_of s c)) ≡ true → (v : Option ℕ)
      → (IsWind (kind_n (records.node_of s c)) × (v ≡ Some c)) ⊎ ((IsWind (kind_n (records.node_of s c)) → ⊥) × (v ≡ o)) → (p : ℕ) → p ≡ parent_n (records.node_of s c) → Above s a p v
  above_up a c o at out v (inl (is, e)) p named = rw e (above_wind a c o at out p named is)
  above_up a c o at out v (inr (is_not, e)) p named = rw e (above_plain a c o at out p named is_not)

  pub above_less : (a c : ℕ) (o : Option ℕ) → Above s a c o → is_out (kind_n (records.node_of s c)) ≡ true → (p : ℕ) → p ≡ parent_n (records.node_of s c) → moves_to s p < moves_to s c
  above_less a c o at out p named =
      omega (arith, moves_entered t (proper s ok) f c p ((out_up s ok c at.made out).0 ∙ ap some (sym named)) (out_off s ok c at.made out))

  pub above_end : (a c : ℕ) (o : Option ℕ) → Above s a c o → is_out (kind_n (records.node_of s c)) ≡ false → c ≡ meeting s a
  above_end a c o at i = sym (in_meets s ok c at.made i) ∙ at.same

  -- ---- the climb from the focus
  module _ (m : ℕ) (on_way : OnWay s m) where
    pub below_start : Below s m f
    below_start = record { made = focus_made s ok; inside = focus_inside s ok; over = on_way.over; passed = []; way = refl; quiet = refl }

    module _ (g : ℕ) (at : Below s m g) (d : g ≢ m) (p : ℕ) (named : p ≡ parent_n (records.node_of s g)) where
      next : (t.up g ≡ some p) × (route t g m ≡ left g ∷ route t p m) × Over t m p
      next =
          let (q, u, o, v) = below_over t (proper s ok) m g (made_seen s ok m on_way.made) (made_seen s ok g at.made) at.over d in
          let same : q ≡ p = sym (parent_seen s ok g q u) ∙ sym named in
          let up : t.up g ≡ some p = u ∙ ap some same in
          (up, leave_first t (proper s ok) g p m up o, rw same at v)

      -- above a node that is in is one that is in, or the top
      rises : is_out (kind_n (records.node_of s p)) ≡ false
      rises = parent_inside s ok g p at.made at.inside next.0

      pub below_stops : StopsAt s g p
      below_stops = stops_at s named (parent_made s ok g p next.0) (in_meets s ok p (parent_made s ok g p next.0) rises)

      pub below_wind : IsWind (kind_n (records.node_of s g)) → WindAt t left (route t f m) g
      below_wind is = record {
        pre = at.passed;
        post = route t p m;
        split = at.way ∙ ap (λ (l : List Move). at.passed ++ l) next.1;
        quiet = at.quiet;
        wind = ap is_wind (what_node s ok g at.made ∙ what_wind (records.node_of s g) is);
      }

      pub below_plain : (IsWind (kind_n (records.node_of s g)) → ⊥) → Below s m p
      below_plain is_not = record {
        made = parent_made s ok g p next.0;
        inside = rises;
        over = next.2;
        passed = at.passed ++ left g ∷ [];
        way = at.way ∙ ap (λ (l : List Move). at.passed ++ l) next.1 ∙ sym (append_assoc at.passed (left g ∷ []) (route t p m));
        quiet = trace_append t at.passed (left g ∷ []) ∙ (λ i. at.quiet i ++ quiet_first t (left g) [] still refl i);
      }
        where
          still : is_wind (t.what g) ≡ 0
          still = ap is_wind (what_node s ok g at.made) ∙ plain (records.node_of s g) is_not

    pub below_less : (g : ℕ) → Below s m g → g ≢ m → (p : ℕ) → p ≡ parent_n (records.node_of s g) → moves_from s p m < moves_from s g m
    below_less g at d p named = omega (arith, (risen s ok m on_way g at.made at.over d p named).moves)

    pub below_end : (g : ℕ) → Below s m g → g ≡ m → trace t (route t f m) ≡ []
    below_end g at e =
        ap (trace t) (at.way ∙ ap (λ (n : ℕ). at.passed ++ route t n m) e ∙ ap (λ (l : List Move). at.passed ++ l) (route_self t (proper s ok) m) ∙ append-nil at.passed) ∙ at.quiet

-- ---- what the step does, by the first wind of either climb: the way is the way to the meeting point m, then what was passed
one_event : (t : Tree) (m : Move) → is_wind (t.what (node_of m)) ≡ 1 → (e : Event) × (event_of t m ≡ e ∷ [])
one_event t m h = go (event_of t m) (length_event t m ∙ h)
  where
    go : (es : List Event) → length es ≡ 1 → (e : Event) × (es ≡ e ∷ [])
    go [] q = absurd (omega arith)
    go (e ∷ []) q = (e, refl)
    go (e ∷ (x ∷ es)) q = absurd (omega arith)

module _ (t : Tree) (f a m : ℕ) (passed : List Move) (way : route t f a ≡ route t f m ++ passed) where
  -- a wind is left
  pub leg_left : (w : ℕ) (pre post : List Move) → route t f m ≡ pre ++ left w ∷ post → trace t pre ≡ [] → is_wind (t.what w) ≡ 1
      → up_to t (route t f a) ≡ record { moves = pre ++ left w ∷ []; events = event_of t (left w); handed = none }
  leg_left w pre post is none_before wind =
      let (e, one) = one_event t (left w) wind in
      ap (up_to t) (way ∙ ap (λ (l : List Move). l ++ passed) is ∙ append_assoc pre (left w ∷ post) passed)
      ∙ up_to_first t pre (left w) (post ++ passed) e [] none_before one

  module _ (none_left : trace t (route t f m) ≡ []) where
    -- none is left, one is to be entered
    pub leg_entered : (w : ℕ) (pre post : List Move) → passed ≡ pre ++ entered w ∷ post → trace t pre ≡ [] → is_wind (t.what w) ≡ 1
        → up_to t (route t f a) ≡ record { moves = route t f m ++ pre; events = event_of t (entered w); handed = some w }
    leg_entered w pre post is none_before wind =
        let (e, one) = one_event t (entered w) wind in
        let quiet_so_far : trace t (route t f m ++ pre) ≡ [] = trace_append t (route t f m) pre ∙ (λ i. none_left i ++ none_before i) in
        ap (up_to t) (way ∙ ap (λ (l : List Move). route t f m ++ l) is ∙ sym (append_assoc (route t f m) pre (entered w ∷ post)))
        ∙ up_to_first t (route t f m ++ pre) (entered w) post e [] quiet_so_far one
        ∙ ap (λ (l : List Move). record { moves = l; events = event_of t (entered w); handed = some w }) (append-nil (route t f m ++ pre))

    -- no wind at all: the target is reached
    pub leg_arrives : trace t passed ≡ [] → up_to t (route t f a) ≡ record { moves = route t f a; events = []; handed = none }
    leg_arrives none_passed =
        up_to_none t (route t f a) (ap (trace t) way ∙ trace_append t (route t f m) passed ∙ (λ i. none_left i ++ none_passed i))
