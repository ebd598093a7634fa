-- The walk that the header names (document 02, W5): what of it a call that writes leaves, and when it is sound.
-- No place of the layout stands here. Assumes nothing.
use Rattle.std.specs.Prelude.{◌≡◌, ℕ, List}
use Rattle.std.proofs.Math.Path.{refl}
use Rattle.std.proofs.Common.{sym, ap, subst, ◌∙◌, arith, ne_eqb}
use Rattle.std.proofs.Math.Option.{Option, none, some}
use Rattle.std.proofs.Math.Decide.{ℕ_discrete}
use Rattle.rules.specs.Basic.{or_top}
use Rattle.rules.proofs.Basic.{some≢none}
use Rattle.rules.specs.Tree.{Tree}
use Rattle.rules.specs.Store as store
use Rattle.rules.specs.World.{Walk}
use Rattle.rules.specs.Leg.{Walking}
use Rattle.layout.specs.Limits.{none_n}
use Rattle.layout.specs.Records.{vars, room, focus, target, handed, with_target, with_handed}
use Rattle.layout.specs.Fields.{Fields, fields_of, vars_f, room_f, target_f, handed_f}
use Rattle.layout.specs.View.{tree_f, view_f, view, or_none, walk_to, walk_f, walk_of}
use Rattle.layout.specs.Sound.{Shape, SoundF, Whole, WalkOk, Sound}
use Rattle.layout.specs.Becomes.{Sized, Kept, Becomes}
use Rattle.layout.proofs.Laws.{Wrote, target_to, handed_to, fields_number, fields_vars, fields_room, wrote_target, wrote_handed, wrote_fit}
use Rattle.layout.proofs.SoundLaws.{sound_fit}

-- ---- a number in the header, or none
pub none_is : (n : ℕ) → n ≡ none_n → or_none n ≡ none
none_is n e = rw e refl

pub some_is : (n : ℕ) → (n ≡ none_n → ⊥) → or_none n ≡ some n
some_is n k = rw (ne_eqb n none_n k)

-- the same, where the code has told which
pub is_none : (n : ℕ) → none ≡ or_none n → n ≡ none_n
is_none n e = go (ℕ_discrete n none_n)
  where
    go : Dec (n ≡ none_n) → n ≡ none_n
    go (yes z) = z
    go (no k) = some≢none (some_is n k) (sym e)

pub is_some : (n : ℕ) {a : ℕ} → some a ≡ or_none n → (a ≡ n) × (n ≡ none_n → ⊥)
is_some n {a} e = go (ℕ_discrete n none_n)
  where
    go : Dec (n ≡ none_n) → (a ≡ n) × (n ≡ none_n → ⊥)
    go (yes z) = some≢none (sym e) (none_is n z)
    go (no k) = (let q : some a ≡ some n = e ∙ some_is n k in cc, k)

-- ---- no target: no walk
pub no_target : (f : Fields) → target_f f ≡ none_n → walk_f f ≡ none
unfolding walk_f
no_target f e = ap (λ (o : Option ℕ). walk_to o (or_none (handed_f f))) (none_is (target_f f) e)

pub no_walk_lem : (f : Fields) → target_f f ≡ none_n → handed_f f ≡ none_n → WalkOk f
no_walk_lem f e k = record { walking = rw (no_target f e) tt; only = λ _. k }

pub with_target_lem : (f : Fields) → (target_f f ≡ none_n → ⊥) → walk_f f ≡ some (record { target = target_f f; handed = or_none (handed_f f) })
unfolding walk_f
with_target_lem f k = ap (λ (o : Option ℕ). walk_to o (or_none (handed_f f))) (some_is (target_f f) k)

-- ---- code that keeps the two numbers keeps the walk
pub kept_walk : {s t : List ℕ} → Kept s t → walk_of t ≡ walk_of s
unfolding walk_of walk_f fields_of
kept_walk k = λ i. walk_to (or_none (k.target i)) (or_none (k.handed i))

-- where neither the tree nor the focus is altered it stays sound
pub still_sound : {s t : List ℕ} {w : store.Store} → Sound s → Becomes s t w → w.tree ≡ (view s).tree → w.focus ≡ (view s).focus → Sound t
unfolding view view_f walk_of fields_of
still_sound {s} {t} ok b tree foc = record {
  whole = b.sound;
  walk = record {
    walking = subst (λ (k : Option Walk). Walking (tree_f (fields_of t).node) (focus t) k) (sym (kept_walk b.kept))
        (subst (λ (u : Tree). Walking u (focus t) (walk_of s)) (sym (ap (λ (v : store.Store). v.tree) b.seen ∙ tree))
        (subst (λ (g : ℕ). Walking (tree_f (fields_of s).node) g (walk_of s)) (sym (ap (λ (v : store.Store). v.focus) b.seen ∙ foc)) ok.walk.walking));
    only = λ e. b.kept.handed ∙ ok.walk.only (sym b.kept.target ∙ e);
  };
}

-- outside a walk there is nothing more to show
pub outside_sound : {s t : List ℕ} {w : store.Store} → Sound s → target s ≡ none_n → Becomes s t w → Sound t
unfolding fields_of
outside_sound {s} {t} ok out b =
    record { whole = b.sound; walk = no_walk_lem (fields_of t) (b.kept.target ∙ out) (b.kept.handed ∙ ok.walk.only out) }

-- ---- the same walk, so the same two numbers
number_once : (n m : ℕ) → or_none n ≡ or_none m → n ≡ m
number_once n m e = go (ℕ_discrete n none_n) (ℕ_discrete m none_n)
  where
    go : Dec (n ≡ none_n) → Dec (m ≡ none_n) → n ≡ m
    go (yes p) (yes q) = p ∙ sym q
    go (yes p) (no q) = some≢none (some_is m q) (sym e ∙ none_is n p)
    go (no p) (yes q) = some≢none (some_is n p) (e ∙ none_is m q)
    go (no p) (no q) = ap or_top (sym (some_is n p) ∙ e ∙ some_is m q)

not_none : {A : Type 0} {o : Option Walk} {k : Walk} → o ≡ some k → o ≡ none → A
not_none e h = absurd (let z : ◌≡◌ {A = ℕ} 0 1 = cc in omega arith)

pub walk_once : {s t : List ℕ} → Sound s → Sound t → walk_of s ≡ walk_of t → (target s ≡ target t) × (handed s ≡ handed t)
unfolding walk_of fields_of
walk_once {s} {t} ok ok' e = go (ℕ_discrete (target s) none_n) (ℕ_discrete (target t) none_n)
  where
    go : Dec (target s ≡ none_n) → Dec (target t ≡ none_n) → (target s ≡ target t) × (handed s ≡ handed t)
    go (yes p) (yes q) = (p ∙ sym q, ok.walk.only p ∙ sym (ok'.walk.only q))
    go (yes p) (no q) = not_none (with_target_lem (fields_of t) q) (sym e ∙ no_target (fields_of s) p)
    go (no p) (yes q) = not_none (with_target_lem (fields_of s) p) (e ∙ no_target (fields_of t) q)
    go (no p) (no q) =
        let same : ◌≡◌ {A = Option Walk} (some (record { target = target s; handed = or_none (handed s) })) (some (record { target = target t; handed = or_none (handed t) })) =
        sym (with_target_lem (fields_of s) p) ∙ e ∙ with_target_lem (fields_of t) q in
        (ap target_in same, number_once (handed s) (handed t) (ap handed_in same))
      where
        target_in : Option Walk → ℕ
        target_in none = 0
        target_in (some k) = k.target

        handed_in : Option Walk → Option ℕ
        handed_in none = none
        handed_in (some k) = k.handed

-- ---- the walk's numbers are written: the store is seen as it was
pub record Rewalked (s t : List ℕ) (a c : ℕ) : Type 0 where
  pub whole : Whole t
  pub seen : view t ≡ view s
  pub size : Sized s t
  pub target : target t ≡ a
  pub handed : handed t ≡ c

rewalked : {s t : List ℕ} (a c : ℕ) (f : Fields) → Whole s → Wrote s t f → SoundF f → view_f f ≡ view s → vars_f f ≡ vars s → room_f f ≡ room s → target_f f ≡ a → handed_f f ≡ c
    → Rewalked s t a c
unfolding view
rewalked {s} {t} a c f ok w sound seen v r ta h = record {
  whole = record { long = (wrote_fit w v r (sound_fit s ok)).long; fields = rw w.fields sound };
  seen = ap view_f w.fields ∙ seen;
  size = record { vars = fields_vars t w.fields ∙ v; room = fields_room t w.fields ∙ r; long = w.long; past = w.rest };
  target = fields_number t w.fields 4 ∙ ta;
  handed = fields_number t w.fields 5 ∙ h;
}

-- no clause but the one on walks speaks of them
abbrev shape_before : {f : Fields} (v : ℕ) → Shape f → Shape (target_to v f)
shape_before v o = record { head = o.head; cells = o.cells; top = o.top; nodes = o.nodes; no_gap = o.no_gap }

abbrev shape_before' : {f : Fields} (v : ℕ) → Shape f → Shape (handed_to v f)
shape_before' v o = record { head = o.head; cells = o.cells; top = o.top; nodes = o.nodes; no_gap = o.no_gap }

module _ (s : List ℕ) (ok : Whole s) where
  pub target_written : (a : ℕ) → Rewalked s (with_target s a) a (handed s)
  unfolding view view_f fields_of
  target_written a = rewalked a (handed s) (target_to a (fields_of s)) ok (wrote_target s a (sound_fit s ok)) (record { shape = shape_before a ok.fields.shape; ins = ok.fields.ins }) refl refl refl refl refl

  pub handed_written : (c : ℕ) → Rewalked s (with_handed s c) (target s) c
  unfolding view view_f fields_of
  handed_written c = rewalked (target s) c (handed_to c (fields_of s)) ok (wrote_handed s c (sound_fit s ok)) (record { shape = shape_before' c ok.fields.shape; ins = ok.fields.ins }) refl refl refl refl refl
