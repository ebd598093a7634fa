-- What is proved of specs/Grow.antt, whose head says it in words. Assumes nothing.
use Rattle.std.specs.Prelude.{◌≡◌, refl, ◌≢◌, false, List, [], ◌∷◌, ℕ, suc, ◌<◌}
use Rattle.std.proofs.Common.{sym, ap, ◌∙◌}
use Rattle.std.proofs.Math.Option.{none, some}
use Rattle.std.proofs.Math.Decide.{ℕ_discrete}
use Rattle.rules.specs.Basic.{upd, on}
use Rattle.rules.proofs.Basic.{upd_same, upd_other, some≢none, off_head, off_tail}
use Rattle.rules.specs.Tree.{What, blank, Tree, Proper, Ranked, path}
use Rattle.rules.proofs.Tree.{path_up, path_agree, on_path_up}
use Rattle.rules.specs.Values.{Values, exchange, leave_all, decider}
use Rattle.rules.specs.Grow.{grow, Growable}

module _ (what : ℕ → What) (m : ℕ) (w : What) where
  pub leave_all_grow : (l : List ℕ) (d : Values) → on m l ≡ false → leave_all (upd what m w) l d ≡ leave_all what l d
  leave_all_grow [] d h = refl
  leave_all_grow (n ∷ l) d h =
      leave_all_grow l (exchange (upd what m w n) n d) (off_tail m n l h)
      ∙ ap (λ (v : What). leave_all what l (exchange v n d)) (upd_other what m n w (λ e. off_head m n l h (sym e)))

  pub decider_grow : (x : ℕ) (l : List ℕ) → on m l ≡ false → decider (upd what m w) x l ≡ decider what x l
  decider_grow x [] h = refl
  decider_grow x (n ∷ l) h = rw (upd_other what m n w (λ e. off_head m n l h (sym e)), decider_grow x l (off_tail m n l h))

module _ {t : Tree} {m f : ℕ} {w : What} {r : ℕ} (can : Growable t m f w r) where
  open can use {proper as ok, fresh, made, is, higher}

  pub made_differs : (a : ℕ) → t.what a ≢ blank → a ≢ m
  made_differs a h e = h (rw e fresh)

  -- a parent in the grown tree: f of the new node, and an old node's old parent; in both cases a made one
  up_new : (a p : ℕ) → a ≡ m → upd t.up m (some f) a ≡ some p → f ≡ p
  up_new a p e h = let z : some f ≡ some p = sym (upd_same t.up m (some f)) ∙ (rw e at h) in cc

  up_old : (a : ℕ) → a ≢ m → upd t.up m (some f) a ≡ t.up a
  up_old a e = upd_other t.up m a (some f) e

  parent_made : (a p : ℕ) → upd t.up m (some f) a ≡ some p → Dec (a ≡ m) → t.what p ≢ blank
  parent_made a p h (yes e) = rw (← (up_new a p e h)) made
  parent_made a p h (no e) = ok.made_up a p (rw (up_old a e) at h)

  what_old : (a : ℕ) → a ≢ m → upd t.what m w a ≡ t.what a
  what_old a e = upd_other t.what m a w e

  rank_old : (a : ℕ) → t.what a ≢ blank → upd t.rank m r a ≡ t.rank a
  rank_old a h = upd_other t.rank m a r (made_differs a h)

  pub grow_proper : Proper (grow m f w r t)
  grow_proper = record {
    falls = λ a p h. falls' a p h (ℕ_discrete a m);
    made_up = λ a p h. made_up' a p h;
    blank_up = λ a h. blank_up' a h (ℕ_discrete a m);
    one_top = λ a h k. one_top' a h k (ℕ_discrete a m);
  }
    where
      falls' : (a p : ℕ) → upd t.up m (some f) a ≡ some p → Dec (a ≡ m) → upd t.rank m r p < upd t.rank m r a
      falls' a p h (yes e) = rw (e, upd_same, ← (up_new a p e h), rank_old f made) higher
      falls' a p h (no e) =
          rw (rank_old p (parent_made a p h (no e)), upd_other t.rank m a r e) (ok.falls a p (rw (up_old a e) at h))

      made_up' : (a p : ℕ) → upd t.up m (some f) a ≡ some p → upd t.what m w p ≢ blank
      made_up' a p h = let k : t.what p ≢ blank = parent_made a p h (ℕ_discrete a m) in rw (what_old p (made_differs p k)) k

      blank_up' : (a : ℕ) → upd t.what m w a ≡ blank → Dec (a ≡ m) → upd t.up m (some f) a ≡ none
      blank_up' a h (yes e) = absurd (is (sym (upd_same t.what m w) ∙ (rw e at h)))
      blank_up' a h (no e) = up_old a e ∙ ok.blank_up a (sym (what_old a e) ∙ h)

      one_top' : (a : ℕ) → upd t.what m w a ≢ blank → upd t.up m (some f) a ≡ none → Dec (a ≡ m) → a ≡ 0
      one_top' a h k (yes e) = some≢none (upd_same t.up m (some f)) (rw e at k)
      one_top' a h k (no e) = ok.one_top a (rw (what_old a e) at h) (sym (up_old a e) ∙ k)

  pub grow_ranked : Ranked t → r ≡ suc (t.rank f) → Ranked (grow m f w r t)
  grow_ranked ranked q = record { at_top = λ a h. at_top' a h (ℕ_discrete a m); below = λ a p h. below' a p h (ℕ_discrete a m) }
    where
      at_top' : (a : ℕ) → upd t.up m (some f) a ≡ none → Dec (a ≡ m) → upd t.rank m r a ≡ 0
      at_top' a h (yes e) = some≢none (upd_same t.up m (some f)) (rw e at h)
      at_top' a h (no e) = upd_other t.rank m a r e ∙ ranked.at_top a (sym (up_old a e) ∙ h)

      below' : (a p : ℕ) → upd t.up m (some f) a ≡ some p → Dec (a ≡ m) → upd t.rank m r a ≡ suc (upd t.rank m r p)
      below' a p h (yes e) = rw (e, upd_same, ← (up_new a p e h), rank_old f made) q
      below' a p h (no e) =
          rw (rank_old p (parent_made a p h (no e)), upd_other t.rank m a r e) (ranked.below a p (rw (up_old a e) at h))

  -- every old path stays; the new node's path goes on with its parent's
  pub path_old : (a : ℕ) → a ≢ m → path (grow m f w r t) a ≡ path t a
  path_old = path_agree t (grow m f w r t) ok grow_proper (λ a. a ≢ m) (λ a p d e. made_differs p (ok.made_up a p e)) up_old

  pub path_new : path (grow m f w r t) m ≡ m ∷ path t f
  path_new = path_up (grow m f w r t) grow_proper m f (upd_same t.up m (some f)) ∙ ap (λ (l : List ℕ). m ∷ l) (path_old f (made_differs f made))

  -- a blank number is on no path
  pub fresh_off : (a : ℕ) → on m (path t a) ≡ false
  fresh_off a = on_path_up t ok a m (ok.blank_up m fresh)
