-- Bytes past the size are never read, and of a trace only its room is: two stores that agree up to the size, and two traces
-- of equal room, give equal answers, equal bytes up to the size and equal events; what open leaves up to the size does not
-- depend on the buffer's old bytes. From document 01, "The bytes of a store". Stated over the promises.
-- Assumes that what a call leaves is bytes, as memory is.
use Rattle.std.specs.Prelude.{◌≡◌, refl, ℕ, ◌*◌, ◌≤◌, ◌<◌, length, take, drop, eqb}
use Rattle.std.proofs.Math.Path.{sym, ap}
use Rattle.std.proofs.Common.{◌∙◌, arith, take_at, drop_at, lt-ltb, le-ltb, ne_eqb, inl, inr}
use Rattle.std.proofs.Math.Option.{none}
use Rattle.std.proofs.Math.Decide.{ℕ_discrete, dec_lt}
use mathlib.Core.List.{List, [], ◌∷◌}
use Rattle.rules.specs.Basic.{or_top}
use Rattle.rules.proofs.Tree.{path_top}
use Rattle.rules.specs.Values.{unbound}
use Rattle.rules.specs.Store.{Store, Deep, home}
use Rattle.rules.specs.Moves.{Event}
use Rattle.rules.specs.Calls.{decider_at, value_at, open_what}
use Rattle.rules.proofs.Calls.{look_right}
use Rattle.rules.specs.World.{World}
use Rattle.rules.specs.Act.{Call, Outcome, act}
use Rattle.rules.specs.Effects.{SameDeep}
use Rattle.layout.specs.Limits.{event_size, size_of}
use Rattle.layout.specs.Records.{vars, room, made, bare_c, top_c}
use Rattle.layout.specs.Fields.{fields_of, nodes}
use Rattle.layout.specs.View.{as_cell, what_n, up_n, tree_f, view_f, view}
use Rattle.layout.specs.Sound.{Sound}
use Rattle.layout.specs.Made.{IsMade}
use Rattle.layout.specs.Events.{events_b, told}
use Rattle.layout.proofs.EventLaws.{events_length}
use Rattle.layout.proofs.Laws.{of_buffer, cell_past}
use Rattle.layout.proofs.SoundLaws.{what_top, what_blank, up_top, up_blank, Place, is_top, is_inner, is_blank, place, blank_node_lem, sound_fit, sound_view}
use Rattle.layout.proofs.WalkLaws.{made_seen, seen_made}
use Rattle.layout.specs.Bytes.{Bytes}
use Rattle.layout.proofs.Same.{same_meant, agree_vars, agree_room, agree_view, agree_walk, agree_sound, agree_back}
use Rattle.layout.specs.Agreeing.{AgreeTo}
use Rattle.layout.proofs.StrideLaws.{walk_once}
use Rattle.layout.specs.Opening.{top_cells}
use Rattle.promises.specs.declared.Told.{Told}
use Rattle.promises.specs.Answers.{Numbers, refusal, telling}
use Rattle.promises.specs.Tables.{First}
use Rattle.promises.proofs.Tables.{first_one}
use Rattle.promises.proofs.Stable.{sound_stable, made_stable}
use Rattle.promises.specs.Promises.{meaning, world, at, room_for, damaged_row, environment_row, tells, TellPromise, Opened, Openable, OpenPromise}
use Rattle.promises.specs.Calls.{Promised, table, Called, Code, is_done_lem, is_refused}
use Rattle.promises.proofs.Calls.{called, code_of_lem, done_sound, opens, opens_not, tell_damaged, tell_unmade, tell_made}
use Rattle.demands.specs.Tests.{size_at, traced_by}
use Rattle.demands.specs.AsAct.{acted, numbers_of, AsAct}
use Rattle.demands.proofs.AsAct.{keeps_size, as_act}
use Rattle.demands.specs.Runs.{written}

-- ---- a store that is not sound is refused as such
pub damaged_only : (c : Call) (s t s' t' : List ℕ) (n : Numbers) → (Sound s → ⊥) → Called c s t s' t' n → n.code ≡ 2
damaged_only c s t s' t' n bad p = first_one (damaged_row s ∷ table c s t) n.code 2 p.first (inl (refl, bad))

-- ---- two runs of one call: from stores that agree up to the size, with traces of equal room
module _ (c : Call) (s u t w : List ℕ) (agree : AgreeTo s u) (rooms : room_for t ≡ room_for w) where
  acted_alike : acted c s t ≡ acted c u w
  unfolding acted size_at world meaning
  acted_alike = λ i. act (record { vars = agree_vars s u agree i; nodes = agree_room s u agree i }) (rooms i) c (record { store = home (agree_view s u agree i); walk = agree_walk s u agree i })

  -- both are refused alike, or both are `act`'s
  pub data Fate (s' u' t' w' : List ℕ) (n m : Numbers) : Type 0 where
    both_refused : n ≡ m → n ≡ refusal n.code → s' ≡ s → u' ≡ u → t' ≡ t → w' ≡ w → Fate s' u' t' w' n m
    both_acted : Sound s → AsAct c s t s' t' n → AsAct c u w u' w' m → Fate s' u' t' w' n m

  pub fate : (s' u' t' w' : List ℕ) (n m : Numbers) → Called c s t s' t' n → Called c u w u' w' m → Fate s' u' t' w' n m
  fate s' u' t' w' n m p q = go (ℕ_discrete n.code m.code) (code_of_lem n)
    where
      acts : Sound s → Fate s' u' t' w' n m
      acts ok = both_acted ok (as_act c s t s' t' n ok p) (as_act c u w u' w' m (agree_sound s u agree ok) q)

      codes : Sound s → n.code ≡ m.code
      codes ok =
          let a : n ≡ numbers_of c (acted c s t) = (as_act c s t s' t' n ok p).answer in
          let b : m ≡ numbers_of c (acted c u w) = (as_act c u w u' w' m (agree_sound s u agree ok) q).answer in
          cc (acted_alike)

      go : Dec (n.code ≡ m.code) → Code n → Fate s' u' t' w' n m
      go (yes e) (is_done_lem d) = acts (done_sound p d)
      go (yes e) (is_refused h) =
          let (r, (a, b)) = p.refused h in
          let (r', (a', b')) = q.refused (omega arith) in
          both_refused (r ∙ ap refusal e ∙ sym r') r a a' b b'
      go (no k) d = absurd (k (damaged_only c s t s' t' n (λ ok. k (codes ok)) p ∙ sym (damaged_only c u w u' w' m (λ ok. k (codes (agree_sound u s (agree_back s u agree) ok))) q)))

-- ---- the events' bytes
-- a trace begins with the events told, and goes on as it was
pub told_take : (es : List Event) (t : List ℕ) → take (event_size * length es) (told es t) ≡ events_b es
unfolding told
told_take es t = take_at (events_b es) (drop (event_size * length es) t) (event_size * length es) (events_length es)

pub told_drop : (es : List Event) (t : List ℕ) → drop (event_size * length es) (told es t) ≡ drop (event_size * length es) t
unfolding told
told_drop es t = drop_at (events_b es) (drop (event_size * length es) t) (event_size * length es) (events_length es)

pub deep_same : {d d' : Deep} → d ≡ d' → SameDeep d d'
deep_same e = record {
  focus = ap (λ (k : Deep). k.focus) e;
  kinds = λ a. ap (λ (k : Deep). k.tree.what a) e;
  parents = λ a. ap (λ (k : Deep). k.tree.up a) e;
  values = λ a x. ap (λ (k : Deep). value_at k a x) e;
}

-- sound stores of one size, with the same meaning and the same walk, have the same bytes up to the size
pub same_world : (s t : List ℕ) → Sound s → Sound t → Bytes s → Bytes t → vars s ≡ vars t → room s ≡ room t → world s ≡ world t
    → take (size_of (vars s) (room s)) s ≡ take (size_of (vars s) (room s)) t
unfolding world meaning
same_world s t ok ok' b b' v r e =
    let (a, h) = walk_once ok ok' (ap (λ (w : World Deep). w.walk) e) in
    same_meant s t ok.whole ok'.whole b b' v r a h (deep_same (ap (λ (w : World Deep). w.store) e))

-- they are those that `act` tells the trace
pub written_as : (c : Call) (n : Numbers) (o : Outcome (World Deep)) → n ≡ numbers_of c o → written c n ≡ length (traced_by c o.events)
unfolding numbers_of
written_as (Call.ask q) n o e = ap (λ (k : Numbers). k.events) e
written_as (Call.make k) n o e = ap (λ (k : Numbers). k.events) e
written_as (Call.set x v) n o e = ap (λ (k : Numbers). k.events) e
written_as (Call.switch g) n o e = ap (λ (k : Numbers). k.events) e
written_as (Call.stride k) n o e = refl

written_none : (c : Call) (n : Numbers) → n.events ≡ 0 → written c n ≡ 0
written_none (Call.ask q) n e = e
written_none (Call.make k) n e = e
written_none (Call.set x v) n e = e
written_none (Call.switch g) n e = e
written_none (Call.stride k) n e = refl

-- equal answers, equal bytes up to the size, equal events
pub never_read : (c : Call) (s u t w s' u' t' w' : List ℕ) (n m : Numbers) → AgreeTo s u → room_for t ≡ room_for w → Bytes s' → Bytes u'
    → Promised c s t s' t' n → Promised c u w u' w' m
    → (n ≡ m) × (take (size_of (vars s) (room s)) s' ≡ take (size_of (vars s) (room s)) u') × (take (event_size * written c n) t' ≡ take (event_size * written c n) w')
unfolding numbers_of meaning
never_read c s u t w s' u' t' w' n m agree rooms b b' p q = go (fate c s u t w agree rooms s' u' t' w' n m (called c s t s' t' n p) (called c u w u' w' m q))
  where
    size : ℕ
    size = size_of (vars s) (room s)

    go : Fate c s u t w agree rooms s' u' t' w' n m → (n ≡ m) × (take size s' ≡ take size u') × (take (event_size * written c n) t' ≡ take (event_size * written c n) w')
    go (both_refused e r f g h k) =
        let none_told : written c n ≡ 0 = written_none c n (ap (λ (o : Numbers). o.events) r) in
        (e, rw (f, g) agree, rw none_told refl)
    go (both_acted ok x y) =
        let same : acted c s t ≡ acted c u w = acted_alike c s u t w agree rooms in
        let means : world s' ≡ world u' = x.meaning ∙ ap (λ (o : Outcome (World Deep)). o.after) same ∙ sym y.meaning in
        let k = keeps_size c s s' x.kept in
        let k' = keeps_size c u u' y.kept in
        let v : vars s' ≡ vars u' = k.vars ∙ agree_vars s u agree ∙ sym k'.vars in
        let r : room s' ≡ room u' = k.room ∙ agree_room s u agree ∙ sym k'.room in
        let bytes = same_world s' u' x.sound y.sound b b' v r means in
        let es : List Event = traced_by c (acted c s t).events in
        let fs : List Event = traced_by c (acted c u w).events in
        let one : es ≡ fs = ap (λ (o : Outcome (World Deep)). traced_by c o.events) same in
        let count : written c n ≡ length es = written_as c n (acted c s t) x.answer in
        let told_s : take (event_size * length es) t' ≡ events_b es = ap (take (event_size * length es)) x.events ∙ told_take es t in
        let told_u : take (event_size * length fs) w' ≡ events_b fs = ap (take (event_size * length fs)) y.events ∙ told_take fs w in (
          x.answer ∙ ap (numbers_of c) same ∙ sym y.answer,
          rw (k.vars, k.room) at bytes,
          rw count (told_s ∙ sym (rw (← one) at told_u)),
        )

cell_below : (v : ℕ) (tops : List ℕ) (x : ℕ) → x < v → top_cells v tops x ≡ as_cell (top_c tops x)
unfolding top_cells
cell_below v tops x h = simp (lt-ltb _ _ h)

cell_beyond : (v : ℕ) (tops : List ℕ) (x : ℕ) → v ≤ x → top_cells v tops x ≡ unbound
unfolding top_cells
cell_beyond v tops x h = simp (le-ltb _ _ h)

-- ---- open: only the top is made, so every environment has the top values, and past V there are none
module _ (v n : ℕ) (tops s s' : List ℕ) (out : Numbers) (o : Opened v n tops s s' out) where
  pub one_made : made s' ≡ 1
  unfolding IsMade fields_of
  one_made = go (dec_lt 1 (made s'))
    where
      go : Dec (1 < made s') → made s' ≡ 1
      go (yes l) = absurd (omega (arith, o.only_top 1 l))
      go (no l) = omega (arith, o.sound.whole.fields.shape.head.made_low)

  pub opened_what : (a : ℕ) → (view s').tree.what a ≡ open_what (eqb a 0)
  unfolding view view_f tree_f fields_of
  opened_what a = go (place (made s') a)
    where
      go : Place (made s') a → what_n (nodes s' a) ≡ open_what (eqb a 0)
      go (is_top e) = rw e (ap what_n o.sound.whole.fields.shape.top ∙ what_top)
      go (is_inner l h) = absurd (omega (arith, one_made))
      go (is_blank l) =
          rw (ne_eqb a 0 (λ e. omega (arith, one_made)))
          (ap what_n (blank_node_lem (fields_of s') (of_buffer s' (sound_fit s' o.sound.whole)) o.sound.whole.fields.shape a l) ∙ what_blank)

  pub opened_up : (a : ℕ) → (view s').tree.up a ≡ none
  unfolding view view_f tree_f fields_of
  opened_up a = go (place (made s') a)
    where
      go : Place (made s') a → up_n (nodes s' a) ≡ none
      go (is_top e) = rw e (ap up_n o.sound.whole.fields.shape.top ∙ up_top)
      go (is_inner l h) = absurd (omega (arith, one_made))
      go (is_blank l) = ap up_n (blank_node_lem (fields_of s') (of_buffer s' (sound_fit s' o.sound.whole)) o.sound.whole.fields.shape a l) ∙ up_blank

  -- every environment's value is the top's
  top_value : (a x : ℕ) → at s' a x ≡ at s' 0 x
  unfolding at value_at decider_at meaning home
  top_value a x =
      let proper = (sound_view s' o.sound.whole).proper in
      rw (path_top (view s').tree proper a (opened_up a), path_top (view s').tree proper 0 (opened_up 0))

  past_vars : (x : ℕ) → v ≤ x → at s' 0 x ≡ unbound
  unfolding at meaning view view_f fields_of as_cell bare_c
  past_vars x h =
      ap (λ (a : ℕ). at s' a x) (sym o.focus) ∙ sym (look_right (view s') (sound_view s' o.sound.whole) x)
      ∙ ap (λ (c : List ℕ). as_cell (bare_c c)) (cell_past s' x (omega (arith, o.vars)))

  pub opened_value : (a x : ℕ) → at s' a x ≡ top_cells v tops x
  opened_value a x = top_value a x ∙ go (dec_lt x v)
    where
      go : Dec (x < v) → at s' 0 x ≡ top_cells v tops x
      go (yes l) = o.values x l ∙ sym (cell_below v tops x l)
      go (no l) = past_vars x (omega arith) ∙ sym (cell_beyond v tops x (omega arith))

-- two buffers that open leaves from the same arguments
pub opened_alike : (v n : ℕ) (tops s u s' u' : List ℕ) (out out' : Numbers) → Bytes s' → Bytes u'
    → Opened v n tops s s' out → Opened v n tops u u' out' → (out ≡ out') × (take (size_of v n) s' ≡ take (size_of v n) u')
unfolding meaning home at view view_f fields_of
opened_alike v n tops s u s' u' out out' b b' o o' =
    let same : SameDeep (home (view s')) (home (view u')) = record {
      focus = o.focus ∙ sym o'.focus;
      kinds = λ a. opened_what v n tops s s' out o a ∙ sym (opened_what v n tops u u' out' o' a);
      parents = λ a. opened_up v n tops s s' out o a ∙ sym (opened_up v n tops u u' out' o' a);
      values = λ a x. opened_value v n tops s s' out o a x ∙ sym (opened_value v n tops u u' out' o' a x);
    } in
    let (a, h) = walk_once o.sound o'.sound (o.walk ∙ sym o'.walk) in
    let bytes = same_meant s' u' o.sound.whole o'.sound.whole b b' (o.vars ∙ sym o'.vars) (o.nodes ∙ sym o'.nodes) a h same in
    (o.answer ∙ sym o'.answer, rw (o.vars, o.nodes) at bytes)

longer : {v n : ℕ} {tops s u : List ℕ} → length s ≡ length u → Openable v n tops s → Openable v n tops u
longer e o = record { fits = o.fits; proper = o.proper; long = omega (arith, o.long) }

-- the same arguments and buffers of the same length: equal answers, and once opened equal bytes up to the size
pub never_read_open : (v n : ℕ) (tops s u s' u' : List ℕ) (out out' : Numbers) → length s ≡ length u → Bytes s' → Bytes u'
    → OpenPromise v n tops s s' out → OpenPromise v n tops u u' out' → (out ≡ out') × (out.code ≡ 0 → take (size_of v n) s' ≡ take (size_of v n) u')
never_read_open v n tops s u s' u' out out' long b b' p q = go (code_of_lem out) (code_of_lem out')
  where
    -- refused there, so refused here
    bad : {w w' : List ℕ} {o : Numbers} → OpenPromise v n tops w w' o → 1 ≤ o.code → Openable v n tops w → ⊥
    bad {w} {w'} {o} r h good = omega (arith, ap (λ (k : Numbers). k.code) (opens v n tops w w' o r good).answer)

    go : Code out → Code out' → (out ≡ out') × (out.code ≡ 0 → take (size_of v n) s' ≡ take (size_of v n) u')
    go (is_done_lem d) (is_done_lem d') =
        let (e, bytes) = opened_alike v n tops s u s' u' out out' b b' (p.answers.done d) (q.answers.done d') in
        (e, λ z. bytes)
    go (is_done_lem d) (is_refused r) =
        absurd (omega (arith, ap (λ (k : Numbers). k.code) (opens_not v n tops s s' out p (λ o. bad q r (longer long o))).0))
    go (is_refused r) c =
        let first = (opens_not v n tops s s' out p (bad p r)).0 in
        (first ∙ sym (opens_not v n tops u u' out' q (λ o. bad p r (longer (sym long) o))).0, λ z. absurd (omega arith))

-- ---- tell: stores that agree up to the size tell the same
tells_alike : (s u : List ℕ) (a : ℕ) → view s ≡ view u → tells s a ≡ tells u a
unfolding at meaning
tells_alike s u a e = ap (λ (v : Store). telling (v.tree.what a) (or_top (v.tree.up a)) (value_at (home v) a)) e

pub never_read_tell : (s u : List ℕ) (a : ℕ) (s' u' : List ℕ) (n m : Told) → AgreeTo s u → TellPromise s a s' n → TellPromise u a u' m → n ≡ m
never_read_tell s u a s' u' n m agree p q = go p.first
  where
    made_too : {v w : List ℕ} → Sound v → Sound w → view v ≡ view w → IsMade v a → IsMade w a
    made_too {v} {w} ok ok' e h = seen_made w ok'.whole a (λ z. made_seen v ok.whole a h (ap (λ (d : Store). d.tree.what a) e ∙ z))

    sounds : ((Sound s → ⊥) → ⊥) → Sound s × Sound u
    sounds twice = let ok = sound_stable s twice in (ok, agree_sound s u agree ok)

    go : First (damaged_row s ∷ environment_row s a ∷ []) n.code → n ≡ m
    go (inl (e, bad)) = tell_damaged s a s' n p bad ∙ sym (tell_damaged u a u' m q (λ ok. bad (agree_sound u s (agree_back s u agree) ok)))
    go (inr (twice, inl (e, un))) =
        let (ok, ok') = sounds twice in
        tell_unmade s a s' n p ok un ∙ sym (tell_unmade u a u' m q ok' (λ h. un (made_too ok' ok (sym (agree_view s u agree)) h)))
    go (inr (twice, inr (off, e))) =
        let (ok, ok') = sounds twice in
        let here : IsMade s a = made_stable s a off in
        p.done e ∙ tells_alike s u a (agree_view s u agree) ∙ sym (tell_made u a u' m q ok' (made_too ok ok' (agree_view s u agree) here))
