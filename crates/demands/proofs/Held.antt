-- What is proved of specs/Held.antt, whose head says it in words. Assumes that the store at entry is bytes, as memory is.
use Rattle.std.specs.Prelude.{◌≡◌, ℕ, ◌<◌, List, ℤ}
use Rattle.std.proofs.Math.Path.{refl, ap}
use Rattle.std.proofs.Common.{sym, ◌∙◌, arith, SFits}
use Rattle.std.proofs.Math.Bool.{false}
use Rattle.std.proofs.Math.Option.{Option, none, some}
use Rattle.std.specs.Int.{w32}
use Rattle.rules.proofs.Tree.{off_parent}
use Rattle.rules.specs.Values.{unbound, value}
use Rattle.rules.specs.Store as store
use Rattle.rules.specs.Store.{home, leave, enter}
use Rattle.rules.proofs.Store.{leave_at}
use Rattle.rules.specs.Moves.{Move, left, entered, Moves, done, move, May}
use Rattle.rules.specs.Calls.{set_cell, value_at}
use Rattle.rules.proofs.Calls.{look_right}
use Rattle.rules.specs.Deeds.{Deed, Deeds, rest, moved}
use Rattle.layout.specs.Limits.{none_n}
use Rattle.layout.specs.Records.{vars, focus, target}
use Rattle.layout.specs.Fields.{fields_of}
use Rattle.layout.specs.View.{view_f, view}
use Rattle.layout.specs.Sound.{Whole, Sound}
use Rattle.layout.specs.Becomes.{Becomes}
use Rattle.layout.specs.Writes.{leave_b, enter_b, set_b, Turns}
use Rattle.layout.specs.Bytes.{Bytes}
use Rattle.layout.proofs.SoundLaws.{sound_view}
use Rattle.layout.proofs.GrowLaws.{set_becomes}
use Rattle.layout.proofs.MoveLaws.{leave_becomes, enter_becomes}
use Rattle.layout.proofs.StrideLaws.{outside_sound}
use Rattle.layout.proofs.WalkLaws.{kept_self, becomes_then, turns}
use Rattle.layout.proofs.Same.{becomes_one}
use Rattle.layout.proofs.ByteLaws.{leave_bytes, enter_bytes, set_bytes, cell_fits}
use Rattle.promises.specs.Answers.{Numbers}
use Rattle.promises.specs.Promises.{meaning, SetDone, SwitchDone}
use Rattle.demands.specs.Held.{Held, Way, WayOf, SetsFit}

-- a set that is done set such a one
pub set_fits : (s u : List ℕ) (x : ℕ) (z : ℤ) (n : Numbers) → Bytes u → x < vars s → SetDone s x z u n → SFits w32 z
unfolding meaning home view view_f fields_of
set_fits s u x z n b known d =
    let held_there : (view u).values.cell x ≡ value z =
    look_right (view u) (sound_view u d.sound.whole) x ∙ ap (λ (f : ℕ). value_at (meaning u) f x) d.effect.focus ∙ d.effect.seen (focus s) refl in
    cell_fits u x z b (omega (arith, d.kept.size.vars)) held_there

-- from a buffer t, held in place of s, on; s is outside a walk
module _ (s : List ℕ) (ok : Sound s) (out : target s ≡ none_n) where
  holds : {t : List ℕ} {w : store.Store} → Becomes s t w → Bytes t → Held s w
  holds {t} h b = record { buffer = t; becomes = h; sound = outside_sound ok out h; bytes = b; only = λ u c k. becomes_one c b k h }

  leave_held : (t : List ℕ) (v : store.Store) (n : ℕ) → Becomes s t v → Bytes t → May v (left n) → Becomes s (leave_b t) (leave v) × Bytes (leave_b t)
  unfolding view view_f fields_of
  leave_held t v n h b may = (go ((view t).tree.up (focus t)) refl, leave_bytes t b)
    where
      whole : Whole t
      whole = h.sound

      go : (o : Option ℕ) → (view t).tree.up (focus t) ≡ o → Becomes s (leave_b t) (leave v)
      go none e = absurd (may.1 (ap v.tree.up may.0 ∙ ap (λ (w : store.Store). w.tree.up w.focus) (sym h.seen) ∙ e))
      go (some p) e = becomes_then h (leave_becomes t whole p e) (sym (leave_at p (view t) e) ∙ ap leave h.seen)

  enter_held : (t : List ℕ) (v : store.Store) (n : ℕ) → Becomes s t v → Bytes t → May v (entered n) → Becomes s (enter_b t n) (enter n v) × Bytes (enter_b t n)
  unfolding view view_f fields_of
  enter_held t v n h b may =
      let whole : Whole t = h.sound in
      let e : (view t).tree.up n ≡ some (focus t) = ap (λ (w : store.Store). w.tree.up n) h.seen ∙ may ∙ ap (λ (w : store.Store). some w.focus) (sym h.seen) in
      let w = sound_view t whole in
      let out : (view t).mode n ≡ false = w.modes n ∙ off_parent (view t).tree w.proper n (focus t) e in
      let can : Turns t n = turns t whole n (focus t) e in (
        becomes_then h (enter_becomes t whole n e out) (ap (enter n) h.seen),
        enter_bytes t n can b,
      )

  set_held : (t : List ℕ) (v : store.Store) (x : ℕ) (z : ℤ) → Becomes s t v → Bytes t → x < vars s → SFits w32 z → Becomes s (set_b t x z) (set_cell x (value z) v) × Bytes (set_b t x z)
  set_held t v x z h b known fits =
      let inside : x < vars t = omega (arith, h.kept.size.vars) in
      (becomes_then h (set_becomes t h.sound x inside z fits) (ap (set_cell x (value z)) h.seen), set_bytes t x z b)

  pub held : {v w : store.Store} {ms : List Move} (t : List ℕ) → Becomes s t v → Bytes t → (m : Moves v ms w) → Way (Held s) m
  held t h b done = holds h b
  held t h b (move {s = v} {m = left n} may r) = let (k, c) = leave_held t v n h b may in (holds h b, held (leave_b t) k c r)
  held t h b (move {s = v} {m = entered n} may r) = let (k, c) = enter_held t v n h b may in (holds h b, held (enter_b t n) k c r)

  pub held_with_sets : {v w : store.Store} {ds : List Deed} (t : List ℕ) → Becomes s t v → Bytes t → (m : Deeds v ds w) → SetsFit (vars s) ds → WayOf (Held s) m
  held_with_sets t h b rest f = holds h b
  held_with_sets t h b (moved {s = v} {m = left n} may r) f = let (k, c) = leave_held t v n h b may in (holds h b, held_with_sets (leave_b t) k c r f)
  held_with_sets t h b (moved {s = v} {m = entered n} may r) f = let (k, c) = enter_held t v n h b may in (holds h b, held_with_sets (enter_b t n) k c r f)
  held_with_sets t h b (Deeds.set {s = v} {x = x} {c = unbound} r) f = absurd f
  held_with_sets t h b (Deeds.set {s = v} {x = x} {c = value z} r) (known, fits, f) =
      let (k, c) = set_held t v x z h b known fits in (holds h b, held_with_sets (set_b t x z) k c r f)

-- every store on the way of a switch is held
pub switch_held : (s t : List ℕ) (a : ℕ) (s' t' : List ℕ) (n : Numbers) → Sound s → target s ≡ none_n → Bytes s → (d : SwitchDone s t a s' t' n) → Way (Held s) d.switched.moves
switch_held s t a s' t' n ok out b d = held s ok out s (record { sound = ok.whole; seen = refl; kept = kept_self s }) b d.switched.moves
