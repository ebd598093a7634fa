-- What is proved of specs/Effects.antt, whose head says it in words. Assumes nothing.
use Rattle.std.specs.Prelude.{◌≡◌, ◌≢◌, Bool, true, false, ℕ}
use Rattle.std.proofs.Math.Path.{refl}
use Rattle.std.proofs.Common.{sym, ap, ◌∙◌}
use Rattle.std.proofs.Math.Option.{Option, none, some, discrete as option-discrete}
use Rattle.std.proofs.Math.Decide.{ℕ_discrete}
use Rattle.rules.proofs.Basic.{upd_same, upd_other}
use Rattle.rules.specs.Tree.{What, blank, binds, Tree, Proper}
use Rattle.rules.specs.Values.{Cell, value}
use Rattle.rules.specs.Store.{Deep}
use Rattle.rules.specs.World.{World}
use Rattle.rules.specs.Grow.{Growable}
use Rattle.rules.specs.Calls.{decider_at, value_at, set_deep, make_deep}
use Rattle.rules.proofs.Calls.{set_seen, set_unseen, set_others, make_own, make_rest, make_others}
use Rattle.rules.specs.Refusals.{first}
use Rattle.rules.specs.Act.{Child, Stride, Call, Size, next_number, shown, what_of, own_of, rows, events_of, answer_of, depth_under, changed, walk_after, becomes, outcome, act}
use Rattle.rules.specs.Agree.{Numbered}
use Rattle.rules.proofs.Agree.{growable, not_blank_lem, new_is}
use Rattle.rules.specs.Effects.{NewNode, SetTo, FocusAt, Effect, SameDeep}

-- making a node where one can grow does that
pub made_node : {m : ℕ} {w : What} {r : ℕ} (c : Cell) (d : Deep) → Growable d.tree m d.focus w r → NewNode d (make_deep m w c r d) m w
made_node {m} {w} {r} c d can = record {
  is = upd_same d.tree.what m w;
  child = upd_same d.tree.up m (some d.focus);
  focus = refl;
  kinds = λ a e. upd_other d.tree.what m a w e;
  parents = λ a e. upd_other d.tree.up m a (some d.focus) e;
  values = λ a x e. make_others c d can a x e;
}

-- setting the decider's value does that
pub set_done : (x : ℕ) (c : Cell) (d : Deep) → SetTo d (set_deep x c d) x c
set_done x c d = record { tree = refl; focus = refl; seen = set_seen x c d; unseen = set_unseen x c d; others = set_others x c d }

module _ (z : Size) (w : World Deep) (ok : Proper w.store.tree) (made : w.store.tree.what w.store.focus ≢ blank) (by : Numbered z w.store.tree) where
  can : (n : Child) → Growable w.store.tree (next_number z w.store.tree) w.store.focus (what_of n) (depth_under w.store)
  can n = growable z w.store.tree by w.store.focus (what_of n) ok made (not_blank_lem (what_of n) (new_is n))

  changed_effect : (c : Call) → Effect z c w (changed z c w)
  unfolding changed value_at
  changed_effect (Call.ask q) = refl
  changed_effect (Call.make n) = (made_node (own_of n) w.store (can n), make_own (own_of n) w.store (can n), make_rest (own_of n) w.store (can n))
  changed_effect (Call.set x v) = set_done x (value v) w.store
  changed_effect (Call.switch g) = record { tree = refl; focus = refl; values = λ b x. refl }
  changed_effect (Call.stride s) = record { tree = refl; focus = refl; values = λ b x. refl }

  -- what `act` leaves where nothing refuses
  pub act_effect : (room : ℕ) (c : Call) → first (rows z room c (shown w)) ≡ none → Effect z c w (act z room c w).after.store
  unfolding act outcome
  act_effect room c h = rw h (changed_effect c)

-- every call but a stride keeps the walk
pub act_walk : (z : Size) (room : ℕ) (c : Call) (w : World Deep) → ((s : Stride) → c ≢ Call.stride s) → (act z room c w).after.walk ≡ w.walk
unfolding act outcome walk_after shown
act_walk z room c w other = go (first (rows z room c (shown w)))
  where
    keeps : (c : Call) → ((s : Stride) → c ≢ Call.stride s) → walk_after c (shown w) ≡ w.walk
    keeps (Call.ask q) h = refl
    keeps (Call.make n) h = refl
    keeps (Call.set x v) h = refl
    keeps (Call.switch g) h = refl
    keeps (Call.stride s) h = absurd (h s refl)

    go : (o : Option ℕ) → (outcome o (answer_of z c (shown w)) (events_of c (shown w)) w (becomes z c w)).after.walk ≡ w.walk
    go none = keeps c other
    go (some n) = refl

module _ (d d₁ d₂ : Deep) where
  same_deep : d₁ ≡ d → d₂ ≡ d → SameDeep d₁ d₂
  same_deep p q =
      let e : d₁ ≡ d₂ = p ∙ sym q in record {
        focus = ap (λ (k : Deep). k.focus) e;
        kinds = λ a. ap (λ (k : Deep). k.tree.what a) e;
        parents = λ a. ap (λ (k : Deep). k.tree.up a) e;
        values = λ a x. ap (λ (k : Deep). value_at k a x) e;
      }

  same_new : (m : ℕ) (w : What) → NewNode d d₁ m w → NewNode d d₂ m w
      → ((y : ℕ) → value_at d₁ d₁.focus y ≡ value_at d₂ d₂.focus y) → SameDeep d₁ d₂
  same_new m w p q h = record {
    focus = p.focus ∙ sym q.focus;
    kinds = λ a. kinds' a (ℕ_discrete a m);
    parents = λ a. parents' a (ℕ_discrete a m);
    values = λ a x. values' a x (ℕ_discrete a m);
  }
    where
      kinds' : (a : ℕ) → Dec (a ≡ m) → d₁.tree.what a ≡ d₂.tree.what a
      kinds' a (yes e) = rw e (p.is ∙ sym q.is)
      kinds' a (no e) = p.kinds a e ∙ sym (q.kinds a e)

      parents' : (a : ℕ) → Dec (a ≡ m) → d₁.tree.up a ≡ d₂.tree.up a
      parents' a (yes e) = rw e (p.child ∙ sym q.child)
      parents' a (no e) = p.parents a e ∙ sym (q.parents a e)

      values' : (a x : ℕ) → Dec (a ≡ m) → value_at d₁ a x ≡ value_at d₂ a x
      values' a x (yes e) = rw e (cc (h x, p.focus, q.focus))
      values' a x (no e) = p.values a x e ∙ sym (q.values a x e)

  same_set : (x : ℕ) (c : Cell) → SetTo d d₁ x c → SetTo d d₂ x c → SameDeep d₁ d₂
  same_set x c p q = record {
    focus = p.focus ∙ sym q.focus;
    kinds = λ a. ap (λ (t : Tree). t.what a) (p.tree ∙ sym q.tree);
    parents = λ a. ap (λ (t : Tree). t.up a) (p.tree ∙ sym q.tree);
    values = λ a y. values' a y (ℕ_discrete y x);
  }
    where
      at_x : (a : ℕ) → Dec (decider_at d.tree a x ≡ decider_at d.tree d.focus x) → value_at d₁ a x ≡ value_at d₂ a x
      at_x a (yes e) = p.seen a e ∙ sym (q.seen a e)
      at_x a (no e) = p.unseen a e ∙ sym (q.unseen a e)

      values' : (a y : ℕ) → Dec (y ≡ x) → value_at d₁ a y ≡ value_at d₂ a y
      values' a y (yes e) = rw e (at_x a (option-discrete ℕ_discrete (decider_at d.tree a x) (decider_at d.tree d.focus x)))
      values' a y (no e) = p.others a y e ∙ sym (q.others a y e)

  same_focus : (a : ℕ) → FocusAt d d₁ a → FocusAt d d₂ a → SameDeep d₁ d₂
  same_focus a p q = record {
    focus = p.focus ∙ sym q.focus;
    kinds = λ b. ap (λ (t : Tree). t.what b) (p.tree ∙ sym q.tree);
    parents = λ b. ap (λ (t : Tree). t.up b) (p.tree ∙ sym q.tree);
    values = λ b x. p.values b x ∙ sym (q.values b x);
  }

pub effect_determined : (z : Size) (c : Call) (w : World Deep) (d₁ d₂ : Deep) → Effect z c w d₁ → Effect z c w d₂ → SameDeep d₁ d₂
effect_determined z (Call.ask a) w d₁ d₂ p q = same_deep w.store d₁ d₂ p q
effect_determined z (Call.make n) w d₁ d₂ (n₁, v₁, o₁) (n₂, v₂, o₂) = same_new w.store d₁ d₂ _ _ n₁ n₂ (λ y. there y (binds (what_of n) y) refl)
  where
    there : (y : ℕ) (b : Bool) → binds (what_of n) y ≡ b → value_at d₁ d₁.focus y ≡ value_at d₂ d₂.focus y
    there y true e = v₁ y e ∙ sym (v₂ y e)
    there y false e = o₁ y e ∙ sym (o₂ y e)
effect_determined z (Call.set x v) w d₁ d₂ p q = same_set w.store d₁ d₂ x (value v) p q
effect_determined z (Call.switch g) w d₁ d₂ p q = same_focus w.store d₁ d₂ _ p q
effect_determined z (Call.stride s) w d₁ d₂ p q = same_focus w.store d₁ d₂ _ p q
