-- What is proved of specs/OneStep.antt, whose head says it in words. Assumes nothing.
use Rattle.std.specs.Prelude.{◌≡◌, ◌≢◌, true, false, ℕ, pos}
use Rattle.std.proofs.Math.Path.{refl, sym, ap, subst}
use Rattle.std.proofs.Common.{◌∙◌, inl, inr, arith}
use Rattle.std.proofs.Math.Option.{Option, none, some}
use mathlib.Core.List.{List, [], ◌∷◌, ◌++◌, map}
use Rattle.std.proofs.Math.ListN.{length}
use Rattle.rules.specs.Basic.{or_top}
use Rattle.rules.specs.Tree.{What, blank, top, binding, wind, Tree}
use Rattle.rules.specs.Store.{home}
use Rattle.rules.specs.Moves.{Move, left, entered, Moves, route, Event, wind_event}
use Rattle.rules.proofs.Moves.{moves_tree}
use Rattle.rules.specs.World.{Walk}
use Rattle.rules.specs.Leg.{Leg, up_to, leg_to, stop_to, Walking}
use Rattle.rules.specs.Stops as stops
use Rattle.rules.specs.Stops.{owed}
use Rattle.rules.proofs.Stops.{child_out, moves_end, stepped}
use Rattle.rules.specs.Act.{stride, step, shown, leg_of, leg_in, goes_on}
use Rattle.layout.specs.Limits.{none_n}
use Rattle.layout.specs.Records.{focus, target, handed}
use Rattle.layout.specs.Fields.{fields_of}
use Rattle.layout.specs.View.{view_f, view, or_none, walk_of}
use Rattle.layout.specs.Sound.{Sound}
use Rattle.layout.proofs.SoundLaws.{sound_view}
use Rattle.layout.proofs.StrideLaws.{none_is, some_is, with_target_lem}
use Rattle.promises.specs.Answers.{Numbers, handing}
use Rattle.promises.specs.Tables.{First}
use Rattle.promises.specs.Promises.{meaning, world, damaged_row, not_walking_row, StrideDone}
use Rattle.promises.specs.Calls.{Promised}
use Rattle.demands.proofs.Tests.{no_walk_lem, walk_is, none_of, some_of}
use Rattle.demands.specs.AsAct.{enters_in, thunk_in}
use Rattle.demands.proofs.AsAct.{handing_is}
use Rattle.demands.specs.OneStep.{heard_in, heard_as, owed_at, Tells, Stopped, says_done, leaving, entering, OneStep}

-- ==== the proof
module _ (s s' : List ℕ) (n : Numbers) (ok : Sound s) (on : target s ≢ none_n) (d : StrideDone step s s' n) where
  abbrev k : Walk
  k = record { target = target s; handed = or_none (handed s) }

  under_way_lem : walk_of s ≡ some k
  unfolding walk_of fields_of
  under_way_lem = with_target_lem (fields_of s) on

  walks : Walking (view s).tree (focus s) (some k)
  unfolding view view_f fields_of walk_of
  walks = subst (λ (o : Option Walk). Walking (view s).tree (focus s) o) under_way_lem ok.walk.walking

  -- the leg that it goes, and where that stops
  abbrev l : Leg
  l = leg_to (view s).tree (focus s) (target s) (or_none (handed s))

  leg_is : leg_of step (shown (world s)) ≡ l
  unfolding shown world meaning home view view_f fields_of
  leg_is = ap (leg_in (view s).tree (focus s)) under_way_lem

  st : stops.Stepped (view s).tree (focus s) (target s) (or_none (handed s)) l (stop_to (view s).tree (focus s) (target s) (or_none (handed s)))
  unfolding view view_f fields_of
  st = stepped (view s) (sound_view s ok.whole) (target s) (or_none (handed s)) walks.0 walks.1

  led : Moves (view s) l.moves (view s')
  led = subst (λ (g : Leg). Moves (view s) g.moves (view s')) leg_is d.moved

  there : focus s' ≡ stop_to (view s).tree (focus s) (target s) (or_none (handed s))
  unfolding view view_f fields_of
  there = moves_end led

  st' : stops.Stepped (view s).tree (focus s) (target s) (or_none (handed s)) l (focus s')
  st' = rw there st

  numbers : n ≡ record { code = 0; out = pos (focus s'); moves = length l.moves; events = length l.events; by = none; event = enters_in l.events; thunk = thunk_in l.events }
  numbers = d.answer ∙ ap (λ (g : Leg). handing (focus s') (length g.moves) g.events) leg_is ∙ handing_is (focus s') (length l.moves) l.events

  walk_then : walk_of s' ≡ goes_on l.events (some k) l.handed
  unfolding shown world
  walk_then = d.walk ∙ (λ i. goes_on (leg_is i).events (under_way_lem i) (leg_is i).handed)

  -- a child of the focus is out
  out_there : (w : ℕ) → (view s).tree.up w ≡ some (focus s') → (view s').mode w ≡ false
  unfolding view view_f fields_of
  out_there w u = child_out (view s') (sound_view s' d.sound.whole) w (ap (λ (t : Tree). t.up w) (moves_tree led) ∙ u)

  is_done_lem : l.events ≡ [] → Stopped s s' n l.moves
  unfolding fields_of
  is_done_lem e =
      let out : target s' ≡ none_n = no_walk_lem s' (walk_then ∙ ap (λ (es : List Event). goes_on es (some k) l.handed) e) in
      says_done (ap (λ (m : Numbers). m.events) numbers ∙ ap length e) (st'.arrives e).0 out (d.sound.walk.only out)

  -- an event of these
  tells : (x : Event) → l.events ≡ x ∷ [] → Tells n (enters_in (x ∷ [])) x.thunk
  tells x e = (
    ap (λ (m : Numbers). m.events) numbers ∙ ap length e,
    ap (λ (m : Numbers). m.event) numbers ∙ ap enters_in e,
    ap (λ (m : Numbers). m.thunk) numbers ∙ ap thunk_in e,
  )

  goes : (x : Event) (o : Option ℕ) → l.events ≡ x ∷ [] → l.handed ≡ o → (target s' ≡ target s) × (or_none (handed s') ≡ o)
  goes x o e h = walk_is s' (target s) o (walk_then ∙ (λ i. goes_on (e i) (some k) (h i)))

  stopped : Stopped s s' n l.moves
  stopped = go st'.hands
    where
      left_as : (w : ℕ) (before : List Move) → (view s).tree.up w ≡ some (focus s') → l.moves ≡ before ++ left w ∷ [] → l.handed ≡ none
          → (x : What) → (view s).tree.what w ≡ x → l.events ≡ wind_event false x (or_top ((view s).tree.up w)) → Stopped s s' n l.moves
      left_as w before u ms h blank is e = is_done_lem e
      left_as w before u ms h top is e = is_done_lem e
      left_as w before u ms h (binding x) is e = is_done_lem e
      left_as w before u ms h (wind p q) is e = let (same, no_wind) = goes _ none e h in leaving w p q before is u (out_there w u) ms (tells _ e) same (none_of (handed s') no_wind)

      entered_as : (w : ℕ) → (view s).tree.up w ≡ some (focus s') → l.handed ≡ some w
          → (x : What) → (view s).tree.what w ≡ x → l.events ≡ wind_event true x (or_top ((view s).tree.up w)) → Stopped s s' n l.moves
      entered_as w u h blank is e = is_done_lem e
      entered_as w u h top is e = is_done_lem e
      entered_as w u h (binding x) is e = is_done_lem e
      entered_as w u h (wind p q) is e = let (same, noted) = goes _ (some w) e h in entering w p q is u (out_there w u) (tells _ e) same (some_of (handed s') w noted)

      go : stops.Hands (view s).tree (focus s') l → Stopped s s' n l.moves
      go (stops.nothing e h) = is_done_lem e
      go (stops.leaving w before u e ms h) = left_as w before u ms h ((view s).tree.what w) refl e
      go (stops.entering w u e h) = entered_as w u h ((view s).tree.what w) refl e

  -- its event, with the focus at its place
  heard_one : (es : List Event) → l.events ≡ es → heard_in n.events n ≡ map heard_as es
  heard_one [] e = ap (λ (m : ℕ). heard_in m n) (ap (λ (m : Numbers). m.events) numbers ∙ ap length e)
  heard_one (x ∷ []) e =
      let (one, enters, thunk) = tells x e in
      let place : x.place ≡ focus s' = (subst (λ (es : List Event). stops.AllAt (focus s') es) e st'.places).0 in
      ap (λ (m : ℕ). heard_in m n) one ∙ (λ i. record { enters = enters i; thunk = thunk i; focus = (ap (λ (m : Numbers). m.out) numbers ∙ ap pos (sym place)) i } ∷ [])
  heard_one (x ∷ y ∷ es) e = absurd (omega (arith, st'.one, ap length e))

  -- the wind that is then noted is the leg's
  noted : or_none (handed s') ≡ l.handed
  unfolding fields_of
  noted = go l.events refl
    where
      go : (es : List Event) → l.events ≡ es → or_none (handed s') ≡ l.handed
      go [] e =
          let out : target s' ≡ none_n = no_walk_lem s' (walk_then ∙ ap (λ (es : List Event). goes_on es (some k) l.handed) e) in
          none_is (handed s') (d.sound.walk.only out) ∙ sym (st'.arrives e).1
      go (x ∷ es) e = (walk_is s' (target s) l.handed (walk_then ∙ ap (λ (es : List Event). goes_on es (some k) l.handed) e)).1

  owes_next : owed_at s (target s) ≡ l.events ++ owed_at s' (target s)
  owes_next = st'.owes ∙ sym (λ i. l.events ++ owed (moves_tree led i) (focus s') (target s) (noted i))

  first_entered : handed s ≢ none_n → (more : List Move) × (l.moves ≡ entered (handed s) ∷ more)
  unfolding leg_to
  first_entered h =
      let is : or_none (handed s) ≡ some (handed s) = some_is (handed s) h in
      ((up_to (view s).tree (route (view s).tree (handed s) (target s))).moves, ap (λ (o : Option ℕ). (leg_to (view s).tree (focus s) (target s) o).moves) is)

pub steps_on : (s t s' t' : List ℕ) (n : Numbers) → Sound s → target s ≢ none_n → Promised (stride step) s t s' t' n → (n.code ≡ 0) × OneStep s t s' t' n
steps_on s t s' t' n ok on (p, e) = go p.answers.first
  where
    go : First (damaged_row s ∷ not_walking_row s ∷ []) n.code → (n.code ≡ 0) × OneStep s t s' t' n
    go (inl (c, bad)) = absurd (bad ok)
    go (inr (x, inl (c, out))) = absurd (on out)
    go (inr (x, inr (y, c))) =
        let d = p.answers.done c in (
          c,
          record {
            moves = (l s s' n ok on d).moves;
            leads = led s s' n ok on d;
            counted = ap (λ (m : Numbers). m.moves) (numbers s s' n ok on d);
            replies = ap (λ (m : Numbers). m.out) (numbers s s' n ok on d);
            on_way = (st' s s' n ok on d).joins;
            enters_first_lem = first_entered s s' n ok on d;
            stops = stopped s s' n ok on d;
            events = (l s s' n ok on d).events;
            hands = heard_one s s' n ok on d (l s s' n ok on d).events refl;
            owes = owes_next s s' n ok on d;
            sound = d.sound;
            size = d.size;
            untraced = e;
          },
        )
