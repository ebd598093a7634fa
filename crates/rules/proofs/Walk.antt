-- What is proved of specs/Walk.antt, whose head says it in words. Assumes nothing.
use Rattle.std.specs.Prelude.{◌≡◌, refl, ◌≢◌, ◌⊎◌, Bool, true, false, ℕ, zero, suc, eqb}
use Rattle.std.proofs.Math.Path.{sym}
use Rattle.std.proofs.Common.{ap, ◌∙◌, inl, inr, arith, eqb-true, ne_eqb, eq-eqb}
use Rattle.std.proofs.Math.Option.{Option, none, some}
use Rattle.std.proofs.lemmas.Bool.{eqb-false}
use Rattle.rules.specs.Basic.{on}
use Rattle.rules.proofs.Basic.{clash, some≢none, on_tail}
use Rattle.rules.proofs.Apart.{apart_self}
use Rattle.rules.specs.Tree.{blank, Tree, path}
use Rattle.rules.proofs.Tree.{path_top, path_up, on_path_rank}
use Rattle.rules.specs.Store.{Store, Sound, leave, leave_to, enter, goto, home, shallow}
use Rattle.rules.proofs.Store.{goto_here, goto_goto, goto_sound, goto_tree, goto_focus, leave_at, leave_sound, leave_goto, enter_goto}
use Rattle.rules.specs.Far.{far}
use Rattle.rules.proofs.Far.{far_lift, far_sym}
use Rattle.rules.specs.Moves.{left, entered, Moves, done, move, route}
use Rattle.rules.proofs.Moves.{moves_snoc, route_left, route_entered}
use Rattle.rules.specs.Walk.{out_parent, refocus, Turn, arrived, outside, above}

module _ (s : Store) (ok : Sound s) (l : ℕ) (made : s.tree.what l ≢ blank) where
  -- a focus other than l lies on no path of an l above it
  pub above_off : (p : ℕ) → s.tree.up s.focus ≡ some p → l ≢ s.focus → (s.tree.up l ≡ none) ⊎ (s.mode l ≡ true) → on s.focus (path s.tree l) ≡ false
  above_off p e d (inl q) = rw (path_top s.tree ok.proper l q)
  above_off p e d (inr q) = go (on s.focus (path s.tree l)) refl
    where
      l_above : on l (path s.tree p) ≡ true
      l_above = sym (on_tail l s.focus (path s.tree p) d) ∙ ap (on l) (sym (path_up s.tree ok.proper s.focus p e)) ∙ sym (ok.modes l) ∙ q

      go : (b : Bool) → on s.focus (path s.tree l) ≡ b → b ≡ false
      go true h = absurd (omega (arith, on_path_rank s.tree ok.proper l s.focus h, on_path_rank s.tree ok.proper p l l_above, ok.proper.falls s.focus p e))
      go false h = refl

  -- with a target in or at the top that is not the focus, the focus has a parent
  pub turn : Turn s l
  turn = same (eqb l s.focus) refl
    where
      up_focus : l ≢ s.focus → (s.tree.up l ≡ none) ⊎ (s.mode l ≡ true) → (o : Option ℕ) → s.tree.up s.focus ≡ o → Turn s l
      up_focus d h (some p) e = above p e h d (above_off p e d h)
      up_focus d (inl q) none e = absurd (d (ok.proper.one_top l made q ∙ sym (ok.proper.one_top s.focus ok.focus_made e)))
      up_focus d (inr q) none e = clash q (ok.modes l ∙ rw (path_top s.tree ok.proper s.focus e))

      mode_l : l ≢ s.focus → (p : ℕ) → s.tree.up l ≡ some p → (b : Bool) → s.mode l ≡ b → Turn s l
      mode_l d p e true m = up_focus d (inr m) (s.tree.up s.focus) refl
      mode_l d p e false m = outside p e m d (sym (ok.modes l) ∙ m)

      up_l : l ≢ s.focus → (o : Option ℕ) → s.tree.up l ≡ o → Turn s l
      up_l d none e = up_focus d (inl e) (s.tree.up s.focus) refl
      up_l d (some p) e = mode_l d p e (s.mode l) refl

      same : (b : Bool) → eqb l s.focus ≡ b → Turn s l
      same true e = arrived (eqb-true l s.focus e)
      same false e = up_l (eqb-false l s.focus e) (s.tree.up l) refl

  -- the switch meets TR397's equations
  pub goto_out : (p : ℕ) → s.tree.up l ≡ some p → goto l s ≡ enter l (goto p s)
  unfolding goto home shallow
  goto_out p e = sym (enter_goto (goto p s) (goto_sound p s ok (ok.proper.made_up l p e)) l e made ∙ goto_goto l p s)

  pub goto_in : (p : ℕ) → s.tree.up s.focus ≡ some p → goto l s ≡ goto l (leave_to p s)
  goto_in p e = sym (ap (goto l) (leave_goto s ok p e) ∙ goto_goto l p s)

  -- the distance falls by one with each call
  pub far_out : (p : ℕ) → s.tree.up l ≡ some p → on l (path s.tree s.focus) ≡ false → far s.tree s.focus l ≡ suc (far s.tree s.focus p)
  far_out p e h = far_sym s.tree ok.proper s.focus l ∙ far_lift s.tree ok.proper l s.focus p e h ∙ ap suc (far_sym s.tree ok.proper p s.focus)

  pub far_in : (p : ℕ) → s.tree.up s.focus ≡ some p → on s.focus (path s.tree l) ≡ false → far s.tree s.focus l ≡ suc (far s.tree p l)
  far_in p e h = far_lift s.tree ok.proper s.focus l p e h

far_zero : (s : Store) → Sound s → (l : ℕ) → s.tree.what l ≢ blank → far s.tree s.focus l ≡ 0 → l ≡ s.focus
far_zero s ok l made h = go (turn s ok l made)
  where
    go : Turn s l → l ≡ s.focus
    go (arrived e) = e
    go (outside p e m d o) = absurd (omega (arith, far_out s ok l made p e o))
    go (above p e m d o) = absurd (omega (arith, far_in s ok l made p e o))

module _ (k l : ℕ) (s : Store) where
  refocus_at : l ≡ s.focus → refocus (suc k) l s ≡ s
  refocus_at e = rw (eq-eqb l s.focus e, refocus)

  refocus_out : (p : ℕ) → l ≢ s.focus → s.mode l ≡ false → s.tree.up l ≡ some p → refocus (suc k) l s ≡ enter l (refocus k p s)
  refocus_out p d m e = rw (ne_eqb l s.focus d, refocus, m, e)

  refocus_in : (p : ℕ) → l ≢ s.focus → (s.tree.up l ≡ none) ⊎ (s.mode l ≡ true) → s.tree.up s.focus ≡ some p → refocus (suc k) l s ≡ refocus k l (leave_to p s)
  refocus_in p d m e = rw (ne_eqb l s.focus d, refocus, is_in_lem m) (ap (refocus k l) (leave_at p s e))
    where
      pick : (b : Bool) → out_parent b none ≡ none
      pick true = refl
      pick false = refl

      is_in_lem : (s.tree.up l ≡ none) ⊎ (s.mode l ≡ true) → out_parent (s.mode l) (s.tree.up l) ≡ none
      is_in_lem (inl q) = rw q (pick (s.mode l))
      is_in_lem (inr q) = rw q

-- TR397's walk is the switch
pub refocus_goto : (k l : ℕ) (s : Store) → Sound s → s.tree.what l ≢ blank → far s.tree s.focus l ≡ k → refocus k l s ≡ goto l s
refocus_goto zero l s ok made h = sym (rw (far_zero s ok l made h) (goto_here s ok))
refocus_goto (suc k) l s ok made h = go (turn s ok l made) (λ p. refocus_goto k p s ok) (λ p. refocus_goto k l (leave_to p s))
  where
    go : Turn s l
        → ((p : ℕ) → s.tree.what p ≢ blank → far s.tree s.focus p ≡ k → refocus k p s ≡ goto p s)
        → ((p : ℕ) → Sound (leave_to p s) → s.tree.what l ≢ blank → far s.tree p l ≡ k → refocus k l (leave_to p s) ≡ goto l (leave_to p s))
        → refocus (suc k) l s ≡ goto l s
    go (arrived e) ih₁ ih₂ = refocus_at k l s e ∙ sym (rw e (goto_here s ok))
    go (outside p e m d o) ih₁ ih₂ =
        refocus_out k l s p d m e ∙ ap (enter l) (ih₁ p (ok.proper.made_up l p e) (omega (arith, far_out s ok l made p e o))) ∙ sym (goto_out s ok l made p e)
    go (above p e m d o) ih₁ ih₂ =
        refocus_in k l s p d m e ∙ ih₂ p (leave_sound s ok p e) made (omega (arith, far_in s ok l made p e o)) ∙ sym (goto_in s ok l made p e)

-- the switch is reached by the route's moves, each leading from one store to the next
pub goto_moves : (k l : ℕ) (s : Store) → Sound s → s.tree.what l ≢ blank → far s.tree s.focus l ≡ k → Moves s (route s.tree s.focus l) (goto l s)
unfolding route
goto_moves zero l s ok made h = rw (far_zero s ok l made h, goto_here s ok, apart_self) done
goto_moves (suc k) l s ok made h = go (turn s ok l made) (λ p. goto_moves k p s ok) (λ p. goto_moves k l (leave_to p s))
  where
    t : Tree
    t = s.tree

    f : ℕ
    f = s.focus

    go : Turn s l
        → ((p : ℕ) → t.what p ≢ blank → far t f p ≡ k → Moves s (route t f p) (goto p s))
        → ((p : ℕ) → Sound (leave_to p s) → t.what l ≢ blank → far t p l ≡ k → Moves (leave_to p s) (route t p l) (goto l (leave_to p s)))
        → Moves s (route t f l) (goto l s)
    go (arrived e) ih₁ ih₂ = rw (e, goto_here s ok, apart_self) done
    go (outside p e m d o) ih₁ ih₂ =
        rw (path_up t ok.proper l p e, route_entered l (path t f) (path t p) o, goto_out s ok l made p e)
        (moves_snoc (entered l) (ih₁ p (ok.proper.made_up l p e) (omega (arith, far_out s ok l made p e o))) (rw (goto_tree, goto_focus) e))
    go (above p e m d o) ih₁ ih₂ =
        let rest : Moves (leave s) (route t p l) (goto l (leave_to p s)) =
        rw (leave_at p s e) (ih₂ p (leave_sound s ok p e) made (omega (arith, far_in s ok l made p e o))) in
        rw (path_up t ok.proper f p e, route_left f (path t p) (path t l) o, goto_in s ok l made p e)
        (move {m = left f} (refl, λ q. some≢none e q) rest)
