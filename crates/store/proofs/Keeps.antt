-- From what the private functions ensure to what the calls promise: each way out of a call keeps its promise.
-- Assumes nothing.
use Rattle.std.specs.Prelude.{Result, Ok, Err, IsErr, IsErrAnd}
use mathlib.Core.Path.{◌≡◌, refl, sym, ap, subst, ◌∙◌}
use mathlib.Core.Logic.{◌≢◌, inl, inr}
use Prim.Native.Nat.{ℕ, ◌+◌, ◌≤◌, ◌<◌}
use native.Mathlib.Omega.{arith}
use mathlib.Core.Option.{Option, none}
use mathlib.Core.List.{List, [], ◌∷◌, ◌++◌}
use lib.IntN.{ℤ, pos}
use lib.ListN.{length, drop, length-drop}
use borrow.Author.Tests.{ne_eqb}
use mir.Syntax.{w32}
use mir.Val.{SFits}
use Rattle.rules.specs.Basic.{or_top}
use Rattle.rules.proofs.Basic.{eqb_self}
use Rattle.rules.specs.Tree.{binding, wind}
use Rattle.rules.specs.Values.{Cell, unbound, value}
use Rattle.rules.specs.Store.{home, goto}
use Rattle.rules.specs.Moves.{Move, route, trace}
use Rattle.rules.proofs.Moves.{route_length}
use Rattle.rules.proofs.Route.{route_self, far_between}
use Rattle.rules.specs.Calls.{decider_at, decided_by}
use Rattle.rules.proofs.Calls.{look_right, home_set, home_make, make_own, make_rest}
use Rattle.rules.specs.Refusals.{setup}
use Rattle.rules.proofs.Demands.{goto_switches}
use Rattle.rules.proofs.Effects.{made_node, set_done}
use Rattle.layout.specs.Limits.{none_n, size_of}
use Rattle.layout.specs.Records.{vars, focus, target, bare_c, cell_of, node_of, parent_n}
use Rattle.layout.specs.Fields.{fields_of, past}
use Rattle.layout.specs.View.{as_cell, view, view_f}
use Rattle.layout.specs.Sound.{Whole, Sound}
use Rattle.layout.specs.Made.{IsMade, next_of, IsFull}
use Rattle.layout.specs.Becomes.{Becomes}
use Rattle.layout.specs.Routes.{moves_from, moves_to}
use Rattle.layout.specs.Events.{events_from, events_to}
use Rattle.layout.specs.Writes.{set_b, bind_b, wind_b, open_b}
use Rattle.layout.specs.Events.{told}
use Rattle.layout.proofs.Laws.{cell_in}
use Rattle.layout.proofs.SoundLaws.{sound_view}
use Rattle.layout.proofs.WalkLaws.{made_seen, focus_made}
use Rattle.layout.specs.Deciders.{binder_of, FoundAt}
use Rattle.layout.proofs.Reading.{number_is, top_up, up_is}
use Rattle.layout.proofs.StrideLaws.{still_sound, outside_sound}
use Rattle.layout.proofs.OpenLaws.{opens}
use Rattle.layout.proofs.GrowLaws.{set_becomes, bind_becomes, wind_becomes, can_grow, is_binding, is_wind_lem}
use Rattle.promises.specs.declared.Answer.TheVariants.{Opened, Number, Made, Switched}
use Rattle.promises.specs.declared.Refusal.{Refusal}
use Rattle.promises.specs.declared.Refusal.TheVariants.{Setup, Damaged, NoVariable, NoEnvironment, Unbound, Full, TraceRoom, Top, Walking}
use Rattle.promises.specs.Answers.{Numbers, refusal, done, seen, numbers}
use Rattle.store.specs.Cells.{of_cell}
use Rattle.promises.specs.Tables.{Row, row, First}
use Rattle.promises.specs.Promises.{meaning, at, by_at, Answers, Shows, damaged_row, variable_row, environment_row, value_row, full_row, room_row, top_row, walking_row, room_for, entering, parent_at, Openable, Switches, LookPromise, PeekPromise, FarPromise, HerePromise, SetPromise, BindPromise, WindPromise, GotoPromise, BackPromise, OpenPromise}

-- what `?` hands on: the refusal of the row that applies
pub handed_on : {A : Type 0} {d e : Refusal} (r : Result A Refusal) → IsErr r × IsErrAnd r (λ x. x ≡ d) → d ≡ e → r ≡ Err e
handed_on (Ok x) h e = absurd h.1
handed_on (Err y) h e = ap Err (h.1 ∙ e)

-- ---- row by row: this one applies, and nothing is changed; this one does not; none is left, and the call is done
module _ {rs : List Row} {Same Done : Type 0} where
  pub give : (r : Row) → r.when → 1 ≤ r.number → Same → Answers (r ∷ rs) (refusal r.number) Same Done
  give r w low same = record { first = inl (refl, w); refused = λ l. (refl, same); done = λ e. absurd (omega arith) }

  pub skip : {r : Row} {n : Numbers} → (r.when → ⊥) → Answers rs n Same Done → Answers (r ∷ rs) n Same Done
  skip never h = record { first = inr (never, h.first); refused = h.refused; done = h.done }

pub finish : {n : Numbers} {Same Done : Type 0} → n.code ≡ 0 → Done → Answers [] n Same Done
finish {n} e d = record { first = e; refused = λ l. absurd (omega arith); done = λ z. d }

-- the cell of x shows the value at the focus
pub at_focus : (s : List ℕ) → Whole s → (x : ℕ) → x < vars s → at s (focus s) x ≡ as_cell (bare_c (cell_of s x))
unfolding at meaning view view_f fields_of
at_focus s ok x l = sym (look_right (view s) (sound_view s ok) x) ∙ ap (λ (c : List ℕ). as_cell (bare_c c)) (cell_in s x l)

-- a cell that has a value is not unbound
pub bound : {c : Cell} {v : ℤ} → c ≡ value v → c ≡ unbound → ⊥
bound e f = let z : ◌≡◌ {A = ℕ} 0 1 = cc in omega arith

-- what a cell and its decider answer, at the last row of look and peek
module _ (s : List ℕ) (a x : ℕ) (c : List ℕ) (n : ℕ) (is : at s a x ≡ as_cell c) (decides : binder_of n ≡ decider_at (view s).tree a x) where
  abbrev Shown : Numbers → Type 0
  Shown k = Answers (value_row s a x ∷ []) k (Unit {0}) (Shows s a x k)

  by_is : n ≡ by_at s a x
  unfolding by_at decided_by meaning home
  by_is = number_is n decides

  pub shows : Shown (numbers (of_cell (as_cell c) n))
  unfolding numbers
  shows = go (as_cell c) is
    where
      go : (d : Cell) → at s a x ≡ d → Shown (numbers (of_cell d n))
      go unbound e = give (value_row s a x) e (omega arith) tt
      go (value v) e = skip (bound e) (finish refl (v, ap (seen v) by_is, e))

-- ---- here and look
pub here_damaged : (s : List ℕ) → (Sound s → ⊥) → HerePromise s s (numbers (Err Damaged))
unfolding numbers
here_damaged s no_store = record { same = refl; answers = give (damaged_row s) no_store (omega arith) tt }

pub here_done : (s : List ℕ) → Sound s → (f : ℕ) → f ≡ focus s → HerePromise s s (numbers (Ok (Number f)))
unfolding numbers
here_done s ok f e = record { same = refl; answers = skip (λ h. h ok) (finish refl (ap (λ (g : ℕ). record { code = 0; out = pos g; moves = 0; events = 0; by = none; event = 0; thunk = 0 }) e)) }

module _ (s : List ℕ) (x : ℕ) where
  pub look_damaged : (Sound s → ⊥) → LookPromise s x s (numbers (Err Damaged))
  unfolding numbers
  look_damaged no_store = record { same = refl; answers = give (damaged_row s) no_store (omega arith) tt }

  pub look_unknown : Sound s → vars s ≤ x → LookPromise s x s (numbers (Err NoVariable))
  unfolding numbers
  look_unknown ok l = record { same = refl; answers = skip (λ h. h ok) (give (variable_row s x) l (omega arith) tt) }

  pub look_shown : Sound s → x < vars s → (n : ℕ) → binder_of n ≡ decider_at (view s).tree (focus s) x → LookPromise s x s (numbers (of_cell (as_cell (bare_c (cell_of s x))) n))
  look_shown ok l n by = record { same = refl; answers = skip (λ h. h ok) (skip (λ h. omega arith) (shows s (focus s) x (bare_c (cell_of s x)) n (at_focus s ok.whole x l) by)) }

-- ---- set
module _ (s : List ℕ) (x : ℕ) (v : ℤ) where
  pub set_damaged : (Sound s → ⊥) → SetPromise s x v s (numbers (Err Damaged))
  unfolding numbers
  set_damaged no_store = record { answers = give (damaged_row s) no_store (omega arith) refl }

  pub set_unknown : Sound s → vars s ≤ x → SetPromise s x v s (numbers (Err NoVariable))
  unfolding numbers
  set_unknown ok l = record { answers = skip (λ h. h ok) (give (variable_row s x) l (omega arith) refl) }

  pub set_unbound : Sound s → x < vars s → as_cell (bare_c (cell_of s x)) ≡ unbound → SetPromise s x v s (numbers (Err Unbound))
  unfolding numbers
  set_unbound ok l e =
      record { answers = skip (λ h. h ok) (skip (λ h. omega arith) (give (value_row s (focus s) x) (at_focus s ok.whole x l ∙ e) (omega arith) refl)) }

  pub set_done_keeps : Sound s → x < vars s → {w : ℤ} → as_cell (bare_c (cell_of s x)) ≡ value w → SFits w32 v → (f : ℕ) → f ≡ focus s → SetPromise s x v (set_b s x v) (numbers (Ok (Number f)))
  unfolding numbers meaning
  set_done_keeps ok l e fits f same =
      let b = set_becomes s ok.whole x l v fits in
      record {
        answers = skip (λ h. h ok) (skip (λ h. omega arith) (skip (bound (at_focus s ok.whole x l ∙ e)) (finish refl (record {
          answer = ap (λ (g : ℕ). record { code = 0; out = pos g; moves = 0; events = 0; by = none; event = 0; thunk = 0 }) same;
          sound = still_sound ok b refl refl;
          kept = b.kept;
          effect = rw (b.seen, home_set x (value v) (view s) (sound_view s ok.whole)) (set_done x (value v) (home (view s)));
        }))));
      }

-- ---- bind
module _ (s : List ℕ) (x : ℕ) (v : ℤ) where
  pub bind_damaged : (Sound s → ⊥) → BindPromise s x v s (numbers (Err Damaged))
  unfolding numbers
  bind_damaged no_store = record { answers = give (damaged_row s) no_store (omega arith) refl }

  pub bind_walking : Sound s → target s ≢ none_n → BindPromise s x v s (numbers (Err Walking))
  unfolding numbers
  bind_walking ok w = record { answers = skip (λ h. h ok) (give (walking_row s) w (omega arith) refl) }

  pub bind_unknown : Sound s → target s ≡ none_n → vars s ≤ x → BindPromise s x v s (numbers (Err NoVariable))
  unfolding numbers
  bind_unknown ok out l = record { answers = skip (λ h. h ok) (skip (λ h. h out) (give (variable_row s x) l (omega arith) refl)) }

  pub bind_full : Sound s → target s ≡ none_n → x < vars s → IsFull s → BindPromise s x v s (numbers (Err Full))
  unfolding numbers
  bind_full ok out l h = record { answers = skip (λ h. h ok) (skip (λ h. h out) (skip (λ h. omega arith) (give (full_row s) h (omega arith) refl))) }

  pub bind_done : Sound s → target s ≡ none_n → x < vars s → (IsFull s → ⊥) → SFits w32 v → (n : ℕ) → n ≡ next_of s → BindPromise s x v (bind_b s x v) (numbers (Ok (Made (record { node = n; events = 0 }))))
  unfolding numbers meaning at view view_f fields_of home next_of
  bind_done ok out l space fits n same =
      let b = bind_becomes s ok.whole space x l v fits in
      let can = can_grow s ok.whole space (binding x) (is_binding x refl) in
      let means = ap home b.seen ∙ home_make (value v) (view s) (sound_view s ok.whole) can in
      record {
        answers = skip (λ h. h ok) (skip (λ h. h out) (skip (λ h. omega arith) (skip space (finish refl (record {
          answer = ap (λ (g : ℕ). record { code = 0; out = pos g; moves = 0; events = 0; by = none; event = 0; thunk = 0 }) same;
          sound = outside_sound ok out b;
          kept = b.kept;
          new = rw means (made_node (value v) (home (view s)) can);
          own = rw means (make_own (value v) (home (view s)) can x (eqb_self x));
          rest = λ y e. rw means (make_rest (value v) (home (view s)) can y (ne_eqb x y (λ q. e (sym q))));
        })))));
      }

-- ---- peek
module _ (s : List ℕ) (a x : ℕ) where
  pub peek_damaged : (Sound s → ⊥) → PeekPromise s a x s (numbers (Err Damaged))
  unfolding numbers
  peek_damaged no_store = record { same = refl; answers = give (damaged_row s) no_store (omega arith) tt }

  pub peek_unknown : Sound s → vars s ≤ x → PeekPromise s a x s (numbers (Err NoVariable))
  unfolding numbers
  peek_unknown ok l = record { same = refl; answers = skip (λ h. h ok) (give (variable_row s x) l (omega arith) tt) }

  pub peek_unmade : Sound s → x < vars s → (IsMade s a → ⊥) → PeekPromise s a x s (numbers (Err NoEnvironment))
  unfolding numbers
  peek_unmade ok l h = record { same = refl; answers = skip (λ h. h ok) (skip (λ h. omega arith) (give (environment_row s a) h (omega arith) tt)) }

  pub peek_shown : Sound s → x < vars s → IsMade s a → {n : ℕ} {c : List ℕ} → FoundAt s a x n c → PeekPromise s a x s (numbers (of_cell (as_cell c) n))
  unfolding at meaning
  peek_shown ok l made {n} {c} found =
      record { same = refl; answers = skip (λ h. h ok) (skip (λ h. omega arith) (skip (λ h. h made) (shows s a x c n (sym found.value) found.by))) }

-- ---- far
module _ (s : List ℕ) (a b : ℕ) where
  pub far_damaged : (Sound s → ⊥) → FarPromise s a b s (numbers (Err Damaged))
  unfolding numbers
  far_damaged no_store = record { same = refl; answers = give (damaged_row s) no_store (omega arith) tt }

  pub far_unmade : Sound s → (IsMade s a → ⊥) → FarPromise s a b s (numbers (Err NoEnvironment))
  unfolding numbers
  far_unmade ok h = record { same = refl; answers = skip (λ h. h ok) (give (environment_row s a) h (omega arith) tt) }

  pub far_unmade_2 : Sound s → IsMade s a → (IsMade s b → ⊥) → FarPromise s a b s (numbers (Err NoEnvironment))
  unfolding numbers
  far_unmade_2 ok made h = record { same = refl; answers = skip (λ h. h ok) (skip (λ h. h made) (give (environment_row s b) h (omega arith) tt)) }

  pub far_done : Sound s → IsMade s a → IsMade s b → (k : ℕ) → k ≡ moves_from s a b → FarPromise s a b s (numbers (Ok (Number k)))
  unfolding numbers
  far_done ok made made' k e =
      let told : done (pos k) 0 0 ≡ done (pos (moves_from s a b)) 0 0 = ap (λ (g : ℕ). done (pos g) 0 0) e in
      let apart = far_between (view s).tree (sound_view s ok.whole).proper a b (made_seen s ok.whole a made) (made_seen s ok.whole b made') in
      record { same = refl; answers = skip (λ h. h ok) (skip (λ h. h made) (skip (λ h. h made') (finish refl (moves_from s a b, told, apart)))) }

-- ---- wind
module _ (s t : List ℕ) (p q : ℕ) where
  pub wind_damaged : (Sound s → ⊥) → WindPromise s t p q s t (numbers (Err Damaged))
  unfolding numbers
  wind_damaged no_store = record { answers = give (damaged_row s) no_store (omega arith) (refl, refl) }

  pub wind_walking : Sound s → target s ≢ none_n → WindPromise s t p q s t (numbers (Err Walking))
  unfolding numbers
  wind_walking ok w = record { answers = skip (λ h. h ok) (give (walking_row s) w (omega arith) (refl, refl)) }

  pub wind_full : Sound s → target s ≡ none_n → IsFull s → WindPromise s t p q s t (numbers (Err Full))
  unfolding numbers
  wind_full ok out h = record { answers = skip (λ h. h ok) (skip (λ h. h out) (give (full_row s) h (omega arith) (refl, refl))) }

  pub wind_no_room : Sound s → target s ≡ none_n → (IsFull s → ⊥) → room_for t < 1 → WindPromise s t p q s t (numbers (Err TraceRoom))
  unfolding numbers
  wind_no_room ok out space h = record { answers = skip (λ h. h ok) (skip (λ h. h out) (skip space (give (room_row t (entering s p)) h (omega arith) (refl, refl)))) }

  pub wind_done : Sound s → target s ≡ none_n → (IsFull s → ⊥) → 1 ≤ room_for t
      → WindPromise s t p q (wind_b s p q) (told (entering s p) t) (numbers (Ok (Made (record { node = next_of s; events = 1 }))))
  unfolding numbers meaning at view view_f fields_of home next_of
  wind_done ok out space h =
      let b = wind_becomes s ok.whole space p q in
      let can = can_grow s ok.whole space (wind p q) (is_wind_lem p q refl) in
      let means = ap home b.seen ∙ home_make unbound (view s) (sound_view s ok.whole) can in
      record {
        answers = skip (λ h. h ok) (skip (λ h. h out) (skip space (skip (λ l. omega arith) (finish refl (record {
          answer = refl;
          sound = outside_sound ok out b;
          kept = b.kept;
          new = rw means (made_node unbound (home (view s)) can);
          rest = λ y. rw means (make_rest unbound (home (view s)) can y refl);
          trace = refl;
        })))));
      }

-- ---- a switch
module _ (s t : List ℕ) (a : ℕ) where
  abbrev Outcome : List ℕ → List ℕ → Numbers → Type 0
  Outcome s' t' n = Switches s t a s' t' (room_row t (events_to s a) ∷ []) n

  pub switch_no_room : room_for t < length (events_to s a) → Outcome s t (numbers (Err TraceRoom))
  unfolding numbers
  switch_no_room h = give (room_row t (events_to s a)) h (omega arith) (refl, refl)

  pub switch_done : Sound s → target s ≡ none_n → IsMade s a → length (events_to s a) ≤ room_for t → {s' : List ℕ} → Becomes s s' (goto a (view s))
      → Outcome s' (told (events_to s a) t) (numbers (Ok (Switched (record { focus = a; moves = moves_to s a; events = length (events_to s a) }))))
  unfolding numbers view view_f fields_of
  switch_done ok out made room {s'} b =
      let ms : List Move = route (view s).tree (focus s) a in
      let count : length ms ≡ moves_to s a = route_length (view s).tree (focus s) a in
      let w = goto_switches (view s) a (sound_view s ok.whole) (made_seen s ok.whole a made) in
      skip (λ h. omega arith) (finish refl (record {
        moves = ms;
        events = events_to s a;
        answer = ap (λ (m : ℕ). record { code = 0; out = pos a; moves = m; events = length (events_to s a); by = none; event = 0; thunk = 0 }) (sym count);
        sound = outside_sound ok out b;
        kept = b.kept;
        switched = rw (b.seen, count) w;
        trace = refl;
      }))

module _ (s t : List ℕ) (a : ℕ) where
  pub goto_damaged : (Sound s → ⊥) → GotoPromise s t a s t (numbers (Err Damaged))
  unfolding numbers
  goto_damaged no_store = record { answers = give (damaged_row s) no_store (omega arith) (refl, refl) }

  pub goto_walking : Sound s → target s ≢ none_n → GotoPromise s t a s t (numbers (Err Walking))
  unfolding numbers
  goto_walking ok w = record { answers = skip (λ h. h ok) (give (walking_row s) w (omega arith) (refl, refl)) }

  pub goto_unmade : Sound s → target s ≡ none_n → (IsMade s a → ⊥) → GotoPromise s t a s t (numbers (Err NoEnvironment))
  unfolding numbers
  goto_unmade ok out h = record { answers = skip (λ h. h ok) (skip (λ h. h out) (give (environment_row s a) h (omega arith) (refl, refl))) }

module _ (s t : List ℕ) where
  pub back_damaged : (Sound s → ⊥) → BackPromise s t s t (numbers (Err Damaged))
  unfolding numbers
  back_damaged no_store = record { answers = give (damaged_row s) no_store (omega arith) (refl, refl) }

  -- at the top back has no events
  top_events : Whole s → focus s ≡ 0 → length (events_to s (parent_at s)) ≡ 0
  unfolding parent_at
  top_events ok e =
      let none_up : (view s).tree.up 0 ≡ none = top_up s ok in
      ap (λ (f : ℕ). length (events_from s f (or_top ((view s).tree.up f)))) e
      ∙ ap (λ (o : Option ℕ). length (events_from s 0 (or_top o))) none_up
      ∙ ap (λ (ms : List Move). length (trace (view s).tree ms)) (route_self (view s).tree (sound_view s ok).proper 0)

  pub back_walking : Sound s → target s ≢ none_n → BackPromise s t s t (numbers (Err Walking))
  unfolding numbers
  back_walking ok w = record { answers = skip (λ h. h ok) (give (walking_row s) w (omega arith) (refl, refl)) }

  pub back_top : Sound s → target s ≡ none_n → focus s ≡ 0 → BackPromise s t s t (numbers (Err Top))
  unfolding numbers
  back_top ok out e = record { answers = skip (λ h. h ok) (skip (λ h. h out) (skip (λ h. omega (arith, top_events ok.whole e)) (give (top_row s) e (omega arith) (refl, refl)))) }

  pub back_switched : Sound s → target s ≡ none_n → focus s ≢ 0 → (p : ℕ) → p ≡ parent_at s → {s' t' : List ℕ} {n : Numbers} → Switches s t p s' t' (room_row t (events_to s p) ∷ []) n → BackPromise s t s' t' n
  back_switched ok out low p e {s'} {t'} {n} h =
      let w = subst (λ (a : ℕ). Switches s t a s' t' (room_row t (events_to s a) ∷ []) n) e h in
      record { answers = skip (λ h. h ok) (skip (λ h. h out) (record { first = last w.first; refused = w.refused; done = w.done })) }
    where
      -- the last row does not apply
      last : First (room_row t (events_to s (parent_at s)) ∷ []) n.code → First (room_row t (events_to s (parent_at s)) ∷ top_row s ∷ []) n.code
      last (inl a) = inl a
      last (inr (never, e)) = inr (never, inr (low, e))

-- ---- open
module _ (v n : ℕ) (tops s : List ℕ) where
  pub open_setup : (Openable v n tops s → ⊥) → OpenPromise v n tops s s (numbers (Err Setup))
  unfolding numbers
  open_setup h = record { answers = give (row setup (Openable v n tops s → ⊥)) h (omega arith) refl }

  pub open_done : Openable v n tops s → OpenPromise v n tops s (open_b v n tops ++ drop (size_of v n) s) (numbers (Ok Opened))
  unfolding numbers at meaning past
  open_done ok =
      let o = opens v n tops (drop (size_of v n) s) ok.fits ok.proper in
      record {
        answers = skip (λ h. h ok) (finish refl (record {
          answer = refl;
          sound = o.sound;
          vars = o.vars;
          nodes = o.room;
          only_top = o.only_top;
          focus = o.focus;
          walk = o.walk;
          values = λ x l. o.values 0 x l;
          long = o.long ∙ rest_length;
          past = rw (o.vars, o.room) at o.past;
        }));
      }
    where
      rest_length : size_of v n + length (drop (size_of v n) s) ≡ length s
      rest_length = simp length-drop (omega (arith, ok.long))

-- below the top the focus's parent is the one that its record names
pub parent_at_lem : (s : List ℕ) → Whole s → focus s ≢ 0 → parent_at s ≡ parent_n (node_of s (focus s))
unfolding parent_at
parent_at_lem s ok low = ap or_top (up_is s ok (focus s) (omega arith) (focus_made s ok))
