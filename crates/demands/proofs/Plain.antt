-- What is proved of specs/Plain.antt, whose head says it in words. Assumes nothing.
use Rattle.std.specs.Prelude.{◌≡◌, refl, ◌≢◌, List, [], ◌∷◌}
use Rattle.std.proofs.Common.{sym, ◌∙◌, arith}
use Rattle.std.proofs.Math.Path.{fun_ext}
use Rattle.std.proofs.Math.Option.{Option, none, some}
use Prim.Native.Nat.{ℕ}
use Rattle.std.proofs.Math.Decide.{ℕ_discrete}
use Rattle.rules.specs.Basic.{upd}
use Rattle.rules.proofs.Basic.{upd_same, upd_other}
use Rattle.rules.specs.Tree.{What, blank, top, binding, wind, Proper, Ranked, path}
use Rattle.rules.proofs.Tree.{path_top, ranks_once}
use Rattle.rules.specs.Values.{unbound, value, Values, exchange, leave_all, assign, Decides}
use Rattle.rules.proofs.Values.{swap_stored_other, decider_decides}
use Rattle.rules.specs.Store.{Deep, home}
use Rattle.rules.specs.Calls.{decider_at, value_at}
use Rattle.rules.proofs.Meaning.{binds_is}
use Rattle.rules.specs.World.{World}
use Rattle.rules.specs.Act.{Child, Call, Size, next_number, what_of, own_of, changed}
use Rattle.rules.proofs.Grow.{grow_ranked}
use Rattle.rules.proofs.Agree.{growable, not_blank_lem, new_is}
use Rattle.rules.specs.Effects.{SameDeep}
use Rattle.layout.specs.View.{view}
use Rattle.layout.specs.Sound.{Sound}
use Rattle.layout.proofs.SoundLaws.{sound_view, sound_ranked}
use Rattle.layout.proofs.Same.{own_value, binding_up, others_blank}
use Rattle.layout.proofs.Reading.{top_up}
use Rattle.promises.specs.Promises.{meaning, world}
use Rattle.demands.specs.Tests.{size_at}
use Rattle.demands.proofs.Tests.{seen_numbered}
use Rattle.demands.specs.Plain.{Plain}

top_value : (d : Deep) → Proper d.tree → d.tree.up 0 ≡ none → (x : ℕ) → value_at d 0 x ≡ d.own.cell x
unfolding value_at decider_at
top_value d proper e x = rw (path_top d.tree proper 0 e)

-- the same tree, focus and values: the same deep store
pub deep_one : (s : List ℕ) → Sound s → (d : Deep) → SameDeep (meaning s) d → Ranked d.tree → Plain (meaning s) → Plain d → meaning s ≡ d
unfolding meaning home
deep_one s ok d same ranked plain plain' = λ i. record { tree = trees i; focus = same.focus i; own = record { cell = fun_ext cell i; stored = fun_ext stored i } }
  where
    rank : (n : ℕ) → (view s).tree.rank n ≡ d.tree.rank n
    rank = ranks_once (view s).tree (sound_view s ok.whole).proper d.tree (sound_ranked s ok.whole) ranked (λ n. sym (same.parents n))

    trees : (view s).tree ≡ d.tree
    trees = λ i. record { what = fun_ext same.kinds i; up = fun_ext same.parents i; rank = fun_ext rank i }

    proper : Proper d.tree
    proper = rw (← trees) (sound_view s ok.whole).proper

    cell : (x : ℕ) → (meaning s).own.cell x ≡ d.own.cell x
    cell x =
        sym (top_value (meaning s) (sound_view s ok.whole).proper (top_up s ok.whole) x) ∙ same.values 0 x
        ∙ top_value d proper (sym (same.parents 0) ∙ top_up s ok.whole) x

    by_what : (n : ℕ) (w : What) → (view s).tree.what n ≡ w → (meaning s).own.stored n ≡ d.own.stored n
    by_what n (binding x) e =
        let (p, u) = binding_up s ok.whole n x e in
        sym (own_value (meaning s) (sound_view s ok.whole).proper n x p e u) ∙ same.values n x
        ∙ own_value d proper n x p (sym (same.kinds n) ∙ e) (sym (same.parents n) ∙ u)
    by_what n blank e =
        let other : (x : ℕ) → (view s).tree.what n ≢ binding x = λ x f. let z : ◌≡◌ {A = ℕ} 0 1 = cc in omega arith in
        plain n other ∙ sym (plain' n (λ x f. other x (same.kinds n ∙ f)))
    by_what n top e =
        let other : (x : ℕ) → (view s).tree.what n ≢ binding x = λ x f. let z : ◌≡◌ {A = ℕ} 0 1 = cc in omega arith in
        plain n other ∙ sym (plain' n (λ x f. other x (same.kinds n ∙ f)))
    by_what n (wind a b) e =
        let other : (x : ℕ) → (view s).tree.what n ≢ binding x = λ x f. let z : ◌≡◌ {A = ℕ} 0 1 = cc in omega arith in
        plain n other ∙ sym (plain' n (λ x f. other x (same.kinds n ∙ f)))

    stored : (n : ℕ) → (meaning s).own.stored n ≡ d.own.stored n
    stored n = by_what n ((view s).tree.what n) refl

-- leaving exchanges only what bindings store
still : (what : ℕ → What) (l : List ℕ) (v : Values) (n : ℕ) → ((x : ℕ) → what n ≢ binding x) → (leave_all what l v).stored n ≡ v.stored n
still what [] v n h = refl
still what (m ∷ l) v n h = still what l (exchange (what m) m v) n h ∙ go (what m) refl
  where
    go : (w : What) → what m ≡ w → (exchange w m v).stored n ≡ v.stored n
    go blank e = refl
    go top e = refl
    go (binding x) e = swap_stored_other (some x) m n v (λ q. h x (rw q e))
    go (wind a b) e = refl

pub plain_meaning : (s : List ℕ) → Sound s → Plain (meaning s)
unfolding meaning home
plain_meaning s ok n h = still (view s).tree.what (path (view s).tree (view s).focus) (view s).values n h ∙ others_blank s ok.whole n h

-- a child that is no binding stores nothing
child_plain : (k : Child) → ((x : ℕ) → what_of k ≢ binding x) → own_of k ≡ unbound
child_plain (Child.bind x v) h = absurd (h x refl)
child_plain (Child.wind p q) h = refl

-- no call stores anything but by a binding
module _ (z : Size) (u : World Deep) (plain : Plain u.store) where
  abbrev d : Deep
  d = u.store

  pub plain_changed : (c : Call) → Plain (changed z c u)
  unfolding changed decider_at
  plain_changed (Call.ask q) n h = plain n h
  plain_changed (Call.make k) n h = go (ℕ_discrete n (next_number z d.tree))
    where
      m : ℕ
      m = next_number z d.tree

      go : Dec (n ≡ m) → upd d.own.stored m (own_of k) n ≡ unbound
      go (yes e) = rw (e, upd_same d.own.stored m (own_of k)) (child_plain k (λ x f. h x (rw (e, upd_same d.tree.what m (what_of k)) f)))
      go (no e) = upd_other d.own.stored m n (own_of k) e ∙ plain n (λ y f. h y (upd_other d.tree.what m n (what_of k) e ∙ f))
  plain_changed (Call.set x v) n h = go (decider_at d.tree d.focus x) (decider_decides d.tree.what x (path d.tree d.focus))
    where
      go : (o : Option ℕ) → Decides d.tree.what x (path d.tree d.focus) o → (assign x (value v) o d.own).stored n ≡ unbound
      go none k = plain n h
      go (some m) k = upd_other d.own.stored m n (value v) (λ e. h x (rw e (binds_is (d.tree.what m) x k.1))) ∙ plain n h
  plain_changed (Call.switch g) n h = plain n h
  plain_changed (Call.stride k) n h = plain n h

-- a child is one deeper than its parent
pub ranked_changed : (s : List ℕ) → Sound s → (c : Call) → Ranked (changed (size_at s) c (world s)).tree
unfolding changed world meaning home
ranked_changed s ok (Call.ask q) = sound_ranked s ok.whole
ranked_changed s ok (Call.make k) =
    let w = sound_view s ok.whole in
    grow_ranked (growable (size_at s) (view s).tree (seen_numbered s ok) (view s).focus (what_of k) w.proper w.focus_made (not_blank_lem (what_of k) (new_is k))) (sound_ranked s ok.whole) refl
ranked_changed s ok (Call.set x v) = sound_ranked s ok.whole
ranked_changed s ok (Call.switch g) = sound_ranked s ok.whole
ranked_changed s ok (Call.stride k) = sound_ranked s ok.whole
