-- What is proved of specs/Meaning.antt, whose head says it in words. Assumes nothing.
use Rattle.std.specs.Prelude.{◌≡◌, refl, ◌⊎◌, Bool, true, false, ℕ}
use Rattle.std.proofs.Common.{sym, ◌∙◌, inl, inr, eqb-true}
use Rattle.std.proofs.Math.Path.{ap}
use Rattle.std.proofs.Math.Option.{Option, none, some}
use mathlib.Core.List.{List, ◌∷◌, ◌++◌}
use Rattle.rules.specs.Basic.{on, Once}
use Rattle.rules.proofs.Basic.{clash, eqb_self, on_head, on_more, on_cases}
use Rattle.rules.specs.Tree.{What, blank, top, binding, wind, binds, Tree, Proper, path}
use Rattle.rules.proofs.Tree.{path_top, path_up, path_once, path_through, downward}
use Rattle.rules.specs.Values.{Values, decider, enter_all, Decides, value_by}
use Rattle.rules.proofs.Values.{enter_leave, stored_off, stored_on, decider_decides}
use Rattle.rules.specs.Store.{Store, Deep, Sound, home}
use Rattle.rules.specs.Calls.{decider_at, value_at}
use Rattle.rules.proofs.Calls.{look_right}
use Rattle.rules.specs.Meaning.{Means, SameOwn}

pub binds_is : (w : What) (x : ℕ) → binds w x ≡ true → w ≡ binding x
binds_is blank x h = clash h refl
binds_is top x h = clash h refl
binds_is (binding y) x h = ap binding (eqb-true y x h)
binds_is (wind p q) x h = clash h refl

binding_binds : (w : What) (x : ℕ) → w ≡ binding x → binds w x ≡ true
binding_binds w x e = rw (e, eqb_self x)

-- so they have every environment's value of every variable in common
pub same_own_values : (t : Tree) (f : ℕ) (o o' : Values) → SameOwn t o o' → (a x : ℕ)
    → value_at (record { tree = t; focus = f; own = o }) a x ≡ value_at (record { tree = t; focus = f; own = o' }) a x
unfolding value_at decider_at
same_own_values t f o o' same a x = go (decider t.what x (path t a)) (decider_decides t.what x (path t a))
  where
    go : (b : Option ℕ) → Decides t.what x (path t a) b → value_by o x b ≡ value_by o' x b
    go none h = same.tops x
    go (some n) h = same.bindings n x (binds_is (t.what n) x h.1)

-- ---- the meaning is the only one
-- the value at an environment and at its parent: the same, but for the variable that it binds
module _ (t : Tree) (ok : Proper t) (d : Deep) (tree : d.tree ≡ t) where
  value_top : (a x : ℕ) → t.up a ≡ none → value_at d a x ≡ d.own.cell x
  unfolding value_at decider_at
  value_top a x e = rw (tree, path_top t ok a e)

  value_own : (a p x : ℕ) → t.up a ≡ some p → t.what a ≡ binding x → value_at d a x ≡ d.own.stored a
  unfolding value_at decider_at
  value_own a p x e b = rw (tree, path_up t ok a p e, binding_binds (t.what a) x b)

  value_up : (a p x : ℕ) → t.up a ≡ some p → binds (t.what a) x ≡ false → value_at d a x ≡ value_at d p x
  unfolding value_at decider_at
  value_up a p x e b = rw (tree, path_up t ok a p e, b)

module _ (s : Store) (ok : Sound s) (d d' : Deep) (m : Means s d) (m' : Means s d') where
  -- the two agree at an environment on every variable
  abbrev Agree : ℕ → Type 0
  Agree a = (x : ℕ) → value_at d a x ≡ value_at d' a x

  -- .. and on the own values above it
  abbrev AgreeAbove : ℕ → Type 0
  AgreeAbove a = ((n x : ℕ) → on n (path s.tree a) ≡ true → s.tree.what n ≡ binding x → d.own.stored n ≡ d'.own.stored n)
      × ((x : ℕ) → d.own.cell x ≡ d'.own.cell x)

  -- where a binding in stores the value at its parent, agreement goes up
  agree_up : (a p : ℕ) → s.tree.up a ≡ some p → s.mode a ≡ true → Agree a → Agree p
  agree_up a p e i h x = go (binds (s.tree.what a) x) refl
    where
      go : (b : Bool) → binds (s.tree.what a) x ≡ b → value_at d p x ≡ value_at d' p x
      go true q =
          let is : s.tree.what a ≡ binding x = binds_is (s.tree.what a) x q in
          sym (m.in_stores_parents a x p is i e) ∙ m'.in_stores_parents a x p is i e
      go false q =
          sym (value_up s.tree ok.proper d m.same_tree a p x e q) ∙ h x
          ∙ value_up s.tree ok.proper d' m'.same_tree a p x e q

  agree_above : (a : ℕ) → ((n : ℕ) → on n (path s.tree a) ≡ true → s.mode n ≡ true) → Agree a → AgreeAbove a
  agree_above = downward s.tree ok.proper (λ a. ((n : ℕ) → on n (path s.tree a) ≡ true → s.mode n ≡ true) → Agree a → AgreeAbove a) at_top up_one
    where
      at_top : (a : ℕ) → s.tree.up a ≡ none → ((n : ℕ) → on n (path s.tree a) ≡ true → s.mode n ≡ true) → Agree a → AgreeAbove a
      at_top a e i h = (
        λ n x o b. clash o (rw (path_top s.tree ok.proper a e)),
        λ x. sym (value_top s.tree ok.proper d m.same_tree a x e) ∙ h x ∙ value_top s.tree ok.proper d' m'.same_tree a x e,
      )

      up_one : (a p : ℕ) → s.tree.up a ≡ some p → (((n : ℕ) → on n (path s.tree p) ≡ true → s.mode n ≡ true) → Agree p → AgreeAbove p)
          → ((n : ℕ) → on n (path s.tree a) ≡ true → s.mode n ≡ true) → Agree a → AgreeAbove a
      up_one a p e ih i h = (λ n x o b. own n x b (on_cases n a (path s.tree p) (rw (path_up s.tree ok.proper a p e) at o)), rest.1)
        where
          in_a : s.mode a ≡ true
          in_a = i a (rw (path_up s.tree ok.proper a p e) (on_head a (path s.tree p)))

          rest : AgreeAbove p
          rest = ih (λ n o. i n (rw (path_up s.tree ok.proper a p e) (on_more n a (path s.tree p) o))) (agree_up a p e in_a h)

          own : (n x : ℕ) → s.tree.what n ≡ binding x → (n ≡ a) ⊎ (on n (path s.tree p) ≡ true) → d.own.stored n ≡ d'.own.stored n
          own n x b (inr o) = rest.0 n x o b
          own n x b (inl q) =
              let is : s.tree.what a ≡ binding x = rw q at b in
              rw q (sym (value_own s.tree ok.proper d m.same_tree a p x e is) ∙ h x ∙ value_own s.tree ok.proper d' m'.same_tree a p x e is)

  pub means_once : SameOwn s.tree d.own d'.own
  means_once = record { bindings = λ n x b. by_mode n x b (s.mode n) refl; tops = all.1 }
    where
      all : AgreeAbove s.focus
      all = agree_above s.focus (λ n o. ok.modes n ∙ o) (λ x. sym (m.cells_hold_focus x) ∙ m'.cells_hold_focus x)

      by_mode : (n x : ℕ) → s.tree.what n ≡ binding x → (b : Bool) → s.mode n ≡ b → d.own.stored n ≡ d'.own.stored n
      by_mode n x b true q = all.0 n x (sym (ok.modes n) ∙ q) b
      by_mode n x b false q = sym (m.out_stores_own n x b q) ∙ m'.out_stores_own n x b q

-- ---- and `home` is it
module _ (s : Store) (ok : Sound s) where
  -- what the store holds is its meaning with the focus's path entered
  entered_home : enter_all s.tree.what (path s.tree s.focus) (home s).own ≡ s.values
  unfolding home
  entered_home = enter_leave s.tree.what (path s.tree s.focus) s.values

  stored_through : (n x p : ℕ) → s.tree.what n ≡ binding x → s.tree.up n ≡ some p → on n (path s.tree s.focus) ≡ true → s.values.stored n ≡ value_at (home s) p x
  unfolding home value_at decider_at
  stored_through n x p b u h =
      let (pre, q) = path_through s.tree ok.proper n s.focus h in
      let r : path s.tree s.focus ≡ pre ++ n ∷ path s.tree p = rw (path_up s.tree ok.proper n p u) at q in
      let once : Once (pre ++ n ∷ path s.tree p) = rw r at (path_once s.tree ok.proper s.focus) in
      ap (λ (v : Values). v.stored n) (sym entered_home)
      ∙ ap (λ (l : List ℕ). (enter_all s.tree.what l (home s).own).stored n) r
      ∙ stored_on s.tree.what pre n (path s.tree p) (home s).own x once (binding_binds (s.tree.what n) x b)

  pub home_means : Means s (home s)
  unfolding home
  home_means = record {
    same_tree = refl;
    same_focus = refl;
    out_stores_own = λ n x b q. ap (λ (v : Values). v.stored n) (sym entered_home) ∙ stored_off s.tree.what n (path s.tree s.focus) (home s).own (sym (ok.modes n) ∙ q);
    in_stores_parents = λ n x p b q u. stored_through n x p b u (sym (ok.modes n) ∙ q);
    cells_hold_focus = look_right s ok;
  }

  -- every meaning of a sound store is `home`'s: the same own value of every binding, the same top values
  pub only_meaning : (d : Deep) → Means s d → SameOwn s.tree d.own (home s).own
  only_meaning d m = means_once s ok d (home s) m home_means

  -- .. and so the same value of every variable in every environment
  pub only_values : (d : Deep) → Means s d → (a x : ℕ) → value_at d a x ≡ value_at (home s) a x
  unfolding home
  only_values d m a x =
      ap (λ (e : Deep). value_at e a x) (λ i. record { tree = m.same_tree i; focus = m.same_focus i; own = d.own })
      ∙ same_own_values s.tree s.focus d.own (home s).own (only_meaning d m) a x
