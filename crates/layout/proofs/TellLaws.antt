-- A switch's events told: the leaving ones forward from the focus, the entering ones backward from the target, both up to the
-- meeting point. Assumes nothing.
use Rattle.std.specs.Prelude.{◌≡◌, refl, ◌≢◌, Bool, true, false, ℕ, suc, ◌+◌, ◌*◌, ◌≤◌, ◌<◌, List, [], ◌∷◌, ◌++◌, length}
use Rattle.std.proofs.Common.{sym, ◌∙◌, inr, arith, append-nil, append_assoc, length-append}
use Rattle.std.proofs.Math.Path.{ap}
use Rattle.std.proofs.Math.Option.{Option, some}
use Rattle.rules.specs.Basic.{or_top}
use Rattle.rules.specs.Tree.{What, blank, top, binding, wind, Tree}
use Rattle.rules.specs.Moves.{Event, wind_event, is_wind}
use Rattle.layout.specs.Limits.{event_size}
use Rattle.layout.specs.Bytes.{splice}
use Rattle.layout.specs.Records.{focus, node_of, kind_n, parent_n, var_n, post_n}
use Rattle.layout.specs.Fields.{fields_of}
use Rattle.layout.specs.Kinds.{IsWind}
use Rattle.layout.specs.View.{up_n, tree_f, view_f, view}
use Rattle.layout.specs.Sound.{Whole}
use Rattle.layout.specs.Events.{event_d, told, events_from, events_to}
use Rattle.layout.specs.Made.{IsMade}
use Rattle.layout.proofs.Laws.{node_in}
use Rattle.layout.proofs.SoundLaws.{what_wind, up_node}
use Rattle.layout.proofs.WalkLaws.{made_seen, made_room, focus_made, parent_seen, parent_made}
use Rattle.layout.specs.Routes.{Over, moves_to, moves_from, left_events, entered_events, meeting, OnWay, told_at, Entering}
use Rattle.layout.proofs.RouteLaws.{moves_entered, events_entered, events_none, meet_up, below_meet, plain, what_node, proper, risen}
use Rattle.layout.proofs.EventLaws.{told_first, told_none, told_left, told_entered, told_length, told_next, told_prev}

-- ---- the events of one node
no_wind : (e : Bool) (w : What) (p : ℕ) → is_wind w ≡ 0 → wind_event e w p ≡ []
no_wind e blank p z = refl
no_wind e top p z = refl
no_wind e (binding x) p z = refl
no_wind e (wind a b) p z = absurd (omega arith)

-- the leaving events up to m, told as far as g: t came from t₀
pub record Leaving (s : List ℕ) (m g e : ℕ) (t₀ t : List ℕ) : Type 0 where
  pub made : IsMade s g
  pub over : Over (view s).tree m g
  pub front : List Event
  pub all : events_to s m ≡ front ++ events_from s g m
  pub count : e ≡ length front
  pub bytes : t ≡ told_at 0 front t₀

module _ (s : List ℕ) (ok : Whole s) where
  abbrev t : Tree
  t = (view s).tree

  module _ (n : ℕ) (made : IsMade s n) where
    pub parent : IsWind (kind_n (node_of s n)) → t.up n ≡ some (parent_n (node_of s n))
    unfolding view view_f tree_f fields_of
    parent is = ap up_n (node_in s n (made_room s ok n made)) ∙ up_node (node_of s n) (inr is)

    pub left_wind : IsWind (kind_n (node_of s n)) → left_events s n ≡ record { entering = false; thunk = post_n (node_of s n); place = parent_n (node_of s n) } ∷ []
    left_wind is =
        ap (λ (w : What). wind_event false w (or_top (t.up n))) (what_node s ok n made ∙ what_wind (node_of s n) is)
        ∙ ap (λ (o : Option ℕ). wind_event false (wind (var_n (node_of s n)) (post_n (node_of s n))) (or_top o)) (parent is)

    left_none : (IsWind (kind_n (node_of s n)) → ⊥) → left_events s n ≡ []
    left_none h = no_wind false (t.what n) (or_top (t.up n)) (ap is_wind (what_node s ok n made) ∙ plain (node_of s n) h)

    pub entered_wind : IsWind (kind_n (node_of s n)) → entered_events s n ≡ record { entering = true; thunk = var_n (node_of s n); place = parent_n (node_of s n) } ∷ []
    entered_wind is =
        ap (λ (w : What). wind_event true w (or_top (t.up n))) (what_node s ok n made ∙ what_wind (node_of s n) is)
        ∙ ap (λ (o : Option ℕ). wind_event true (wind (var_n (node_of s n)) (post_n (node_of s n))) (or_top o)) (parent is)

    entered_none : (IsWind (kind_n (node_of s n)) → ⊥) → entered_events s n ≡ []
    entered_none h = no_wind true (t.what n) (or_top (t.up n)) (ap is_wind (what_node s ok n made) ∙ plain (node_of s n) h)

    -- a wind's event, put at its number
    module _ (is : IsWind (kind_n (node_of s n))) (now after : List ℕ) where
      pub left_one : length (left_events s n) ≡ 1
      left_one = ap length (left_wind is)

      pub left_told : (e q p : ℕ) → q ≡ post_n (node_of s n) → p ≡ parent_n (node_of s n) → after ≡ splice now (event_size * e) event_size (event_d 0 q p) → after ≡ told_at e (left_events s n) now
      left_told e q p f g h = h ∙ rw (f, g, left_wind is) (sym (told_left e (post_n (node_of s n)) (parent_n (node_of s n)) now))

      pub entered_one : length (entered_events s n) ≡ 1
      entered_one = ap length (entered_wind is)

      pub entered_told : (e q p : ℕ) → q ≡ var_n (node_of s n) → p ≡ parent_n (node_of s n) → after ≡ splice now (event_size * e) event_size (event_d 1 q p) → after ≡ told_at e (entered_events s n) now
      entered_told e q p f g h = h ∙ rw (f, g, entered_wind is) (sym (told_entered e (var_n (node_of s n)) (parent_n (node_of s n)) now))

    -- no event of any other node
    module _ (other : IsWind (kind_n (node_of s n)) → ⊥) (e : ℕ) (now : List ℕ) where
      pub left_kept : (e ≡ e + length (left_events s n)) × (now ≡ told_at e (left_events s n) now)
      left_kept = (omega (arith, ap length (left_none other)), rw (left_none other) (sym (told_none e now)))

      pub entered_kept : (e + length (entered_events s n) ≡ e) × (now ≡ told_at e (entered_events s n) now)
      entered_kept = (omega (arith, ap length (entered_none other)), rw (entered_none other) (sym (told_none e now)))

  -- ---- the leaving events, forward
  module _ (m : ℕ) (way : OnWay s m) where
    pub leaving_start : (g : ℕ) (t₀ : List ℕ) → g ≡ focus s → Leaving s m g 0 t₀ t₀
    leaving_start g t₀ e = rw e record { made = focus_made s ok; over = way.over; front = []; all = refl; count = refl; bytes = sym (told_none 0 t₀) }

    module _ (g e : ℕ) (t₀ now : List ℕ) (fits : event_size * length (events_to s m) ≤ length t₀) (at : Leaving s m g e t₀ now) where
      leaving_fits : event_size * (0 + length at.front) ≤ length t₀
      leaving_fits = omega (arith, ap length at.all ∙ length-append at.front (events_from s g m))

      pub leaving_length : length now ≡ length t₀
      leaving_length = ap length at.bytes ∙ told_length 0 at.front [] t₀ leaving_fits

      module _ (d : g ≢ m) (p : ℕ) (named : p ≡ parent_n (node_of s g)) where
        pub leaving_less : moves_from s p m < moves_from s g m
        leaving_less = omega (arith, (risen s ok m way g at.made at.over d p named).moves)

        -- the node's own event has room
        pub leaving_room : event_size * (e + length (left_events s g)) ≤ length now
        leaving_room =
            let all = ap length at.all ∙ length-append at.front (events_from s g m) in
            let more = ap length (risen s ok m way g at.made at.over d p named).events ∙ length-append (left_events s g) (events_from s p m) in
            omega (arith, leaving_length, at.count)

        pub leaving_step : (r : ℕ) (after : List ℕ) → r ≡ e + length (left_events s g) → after ≡ told_at e (left_events s g) now → Leaving s m p r t₀ after
        leaving_step r after f h =
            let up = risen s ok m way g at.made at.over d p named in
            let count : e ≡ 0 + length at.front = omega (arith, at.count) in
            record {
              made = up.made;
              over = up.over;
              front = at.front ++ left_events s g;
              all = at.all ∙ ap (λ (l : List Event). at.front ++ l) up.events ∙ sym (append_assoc at.front (left_events s g) (events_from s p m));
              count = f ∙ omega (arith, at.count, length-append at.front (left_events s g));
              bytes = h ∙ rw (at.bytes, count) (told_next 0 at.front (left_events s g) t₀ leaving_fits);
            }

      pub leaving_end : g ≡ m → now ≡ told_at 0 (events_to s m) t₀
      leaving_end d =
          let none : events_from s g m ≡ [] = rw d (events_none t (proper s ok) m) in
          at.bytes ∙ ap (λ (l : List Event). told_at 0 l t₀) (sym (at.all ∙ ap (λ (l : List Event). at.front ++ l) none ∙ append-nil at.front))

  -- ---- the entering events, backward
  module _ (a : ℕ) where
    pub entering_start : (e : ℕ) (t₀ : List ℕ) → IsMade s a → e ≡ length (events_to s a) → Entering s a a e t₀ t₀
    entering_start e t₀ made h = record { made = made; same = refl; rest = []; all = sym (append-nil (events_to s a)); count = h; bytes = sym (told_none e t₀) }

    module _ (c e : ℕ) (t₀ now : List ℕ) (fits : event_size * length (events_to s a) ≤ length t₀) (at : Entering s a c e t₀ now) where
      entering_fits : event_size * (e + length at.rest) ≤ length t₀
      entering_fits = omega (arith, at.count, ap length at.all ∙ length-append (events_to s c) at.rest)

      pub entering_length : length now ≡ length t₀
      entering_length = ap length at.bytes ∙ told_length e at.rest [] t₀ entering_fits

      pub entering_end : (m : ℕ) → c ≡ m → Entering s a m (length (events_to s m)) t₀ now
      entering_end m d = rw (← d, ← at.count) at

      module _ (d : c ≢ meeting s a) (p : ℕ) (named : p ≡ parent_n (node_of s c)) where
        record Below : Type 0 where
          made : IsMade s p
          same : meeting s c ≡ meeting s p
          moves : moves_to s c ≡ suc (moves_to s p)
          events : events_to s c ≡ events_to s p ++ entered_events s c

        below : Below
        below =
            let (q, u, o) = below_meet t (proper s ok) (focus s) c (made_seen s ok c at.made) (λ z. d (z ∙ at.same)) in
            let up : t.up c ≡ some p = u ∙ ap some (sym (parent_seen s ok c q u) ∙ sym named) in
            record { made = parent_made s ok c p up; same = meet_up t (proper s ok) (focus s) c p up o; moves = moves_entered t (proper s ok) (focus s) c p up o; events = events_entered t (proper s ok) (focus s) c p up o }

        pub entering_less : moves_to s p < moves_to s c
        entering_less = omega (arith, below.moves)

        counts : e ≡ length (events_to s p) + length (entered_events s c)
        counts = at.count ∙ ap length below.events ∙ length-append (events_to s p) (entered_events s c)

        -- the node's own event is among those that remain, and has room
        pub entering_room : (length (entered_events s c) ≤ e) × (event_size * e ≤ length now)
        entering_room = (omega (arith, counts), omega (arith, entering_fits, entering_length))

        pub entering_step : (r : ℕ) (after : List ℕ) → r + length (entered_events s c) ≡ e → after ≡ told_at r (entered_events s c) now → Entering s a p r t₀ after
        entering_step r after f h =
            record {
              made = below.made;
              same = sym below.same ∙ at.same;
              rest = entered_events s c ++ at.rest;
              all = at.all ∙ ap (λ (l : List Event). l ++ at.rest) below.events ∙ append_assoc (events_to s p) (entered_events s c) at.rest;
              count = omega (arith, counts);
              bytes = h ∙ rw (at.bytes, ← f) (told_prev r (entered_events s c) at.rest t₀ (omega (arith, entering_fits)));
            }

  -- ---- both: the entering events, then the leaving ones before them
  module _ (a m : ℕ) (t₀ t₁ : List ℕ) (fits : event_size * length (events_to s a) ≤ length t₀) (entered : Entering s a m (length (events_to s m)) t₀ t₁) where
    pub rest_fits : event_size * length (events_to s m) ≤ length t₀
    rest_fits = omega (arith, ap length entered.all ∙ length-append (events_to s m) entered.rest)

    pub all_told : (t₂ : List ℕ) → t₂ ≡ told_at 0 (events_to s m) t₁ → t₂ ≡ told (events_to s a) t₀
    all_told t₂ h =
        let zero : 0 + length (events_to s m) ≡ length (events_to s m) = omega arith in
        let both = rw zero at (told_prev 0 (events_to s m) entered.rest t₀ (omega (arith, rest_fits))) in
        h ∙ ap (told_at 0 (events_to s m)) entered.bytes ∙ both ∙ ap (λ (l : List Event). told_at 0 l t₀) (sym entered.all) ∙ sym (told_first (events_to s a) t₀)
