-- What is proved of specs/Store.antt, whose head says it in words. Assumes nothing.
use Rattle.std.specs.Prelude.{◌≡◌, ◌≢◌, Bool, ◌||◌, ℕ}
use Rattle.std.proofs.Math.Path.{refl, sym, ap, fun_ext}
use Rattle.std.proofs.Common.{◌∙◌, eqb-true}
use Rattle.std.proofs.Math.Bool.{true, false, cond}
use Rattle.std.proofs.Math.Option.{some}
use Rattle.std.proofs.Math.Dec.{eqb}
use Rattle.std.proofs.lemmas.Bool.{eqb-false}
use Rattle.rules.specs.Basic.{upd, on}
use Rattle.rules.proofs.Basic.{upd_upd, upd_id, on_tail}
use Rattle.rules.specs.Tree.{blank, var_of, Tree, Proper, path}
use Rattle.rules.proofs.Tree.{path_up, path_once, off_parent}
use Rattle.rules.specs.Values.{Values, leave_all, deep}
use Rattle.rules.proofs.Values.{swap_twice, leave_enter, enter_leave, cells_show}
use Rattle.rules.specs.Store.{Store, Deep, leave_to, leave, enter, home, shallow, Sound, move_to, goto}

-- ---- a sound store and its meaning determine each other
pub home_shallow : (d : Deep) → home (shallow d) ≡ d
unfolding home shallow
home_shallow d = rw leave_enter

pub shallow_home : (s : Store) → Sound s → shallow (home s) ≡ s
unfolding home shallow
shallow_home s ok = rw (enter_leave, ← (fun_ext ok.modes))

pub shallow_sound : (d : Deep) → Proper d.tree → d.tree.what d.focus ≢ blank → Sound (shallow d)
unfolding shallow
shallow_sound d p l = record { proper = p; focus_made = l; modes = λ n. refl }

-- sound stores of one meaning are equal
pub same_meaning : (s s' : Store) → Sound s → Sound s' → home s ≡ home s' → s ≡ s'
same_meaning s s' p q e = cc (shallow_home s p, shallow_home s' q)

-- ---- the switch
pub goto_focus : (a : ℕ) (s : Store) → (goto a s).focus ≡ a
unfolding goto shallow
goto_focus a s = refl

pub goto_tree : (a : ℕ) (s : Store) → (goto a s).tree ≡ s.tree
unfolding goto shallow home
goto_tree a s = refl

-- a switch changes the focus and no environment's own values
pub home_goto : (a : ℕ) (s : Store) → home (goto a s) ≡ move_to a (home s)
unfolding goto
home_goto a s = home_shallow (move_to a (home s))

-- .. and it keeps soundness
pub goto_sound : (a : ℕ) (s : Store) → Sound s → s.tree.what a ≢ blank → Sound (goto a s)
unfolding goto home
goto_sound a s ok l = shallow_sound (move_to a (home s)) ok.proper l

pub goto_goto : (a b : ℕ) (s : Store) → goto a (goto b s) ≡ goto a s
unfolding goto
goto_goto a b s = rw home_shallow

pub goto_here : (s : Store) → Sound s → goto s.focus s ≡ s
unfolding goto home
goto_here s ok = shallow_home s ok

-- ---- one move
pub leave_at : (p : ℕ) (s : Store) → s.tree.up s.focus ≡ some p → leave s ≡ leave_to p s
leave_at p s e = rw (e, leave)

-- leaving takes entering back, and entering takes leaving back
pub leave_entered : (c : ℕ) (s : Store) → s.tree.up c ≡ some s.focus → s.mode c ≡ false → leave (enter c s) ≡ s
leave_entered c s e m =
    leave_at s.focus (enter c s) e
    ∙ rw (swap_twice (var_of (s.tree.what c)) c s.values, upd_upd, upd_id s.mode c false m)

pub enter_left : (p : ℕ) (s : Store) → s.tree.up s.focus ≡ some p → s.mode s.focus ≡ true → enter s.focus (leave s) ≡ s
enter_left p s e m =
    ap (enter s.focus) (leave_at p s e)
    ∙ rw (swap_twice (var_of (s.tree.what s.focus)) s.focus s.values, upd_upd, upd_id s.mode s.focus true m)

-- the modes after a move
module _ (t : Tree) (ok : Proper t) (a p : ℕ) (e : t.up a ≡ some p) (mode : ℕ → Bool) where
  entered_modes : ((n : ℕ) → mode n ≡ on n (path t p)) → (n : ℕ) → upd mode a true n ≡ on n (path t a)
  unfolding upd
  entered_modes h n = rw (path_up t ok a p e) (go (eqb n a))
    where
      go : (b : Bool) → cond b true (mode n) ≡ (b || on n (path t p))
      go true = refl
      go false = h n

  left_modes : ((n : ℕ) → mode n ≡ on n (path t a)) → (n : ℕ) → upd mode a false n ≡ on n (path t p)
  unfolding upd
  left_modes h n = go (eqb n a) refl
    where
      go : (b : Bool) → eqb n a ≡ b → cond b false (mode n) ≡ on n (path t p)
      go true q = rw (eqb-true n a q) (sym (off_parent t ok a p e))
      go false q = h n ∙ ap (on n) (path_up t ok a p e) ∙ on_tail n a (path t p) (eqb-false n a q)

module _ (s : Store) (ok : Sound s) where
  pub leave_sound : (p : ℕ) → s.tree.up s.focus ≡ some p → Sound (leave_to p s)
  leave_sound p e = record {
    proper = ok.proper;
    focus_made = ok.proper.made_up _ p e;
    modes = left_modes s.tree ok.proper s.focus p e s.mode ok.modes;
  }

  pub enter_sound : (c : ℕ) → s.tree.up c ≡ some s.focus → s.tree.what c ≢ blank → Sound (enter c s)
  enter_sound c e l = record {
    proper = ok.proper;
    focus_made = l;
    modes = entered_modes s.tree ok.proper c s.focus e s.mode ok.modes;
  }

  pub home_leave : (p : ℕ) → s.tree.up s.focus ≡ some p → home (leave_to p s) ≡ move_to p (home s)
  unfolding home
  home_leave p e = rw (path_up s.tree ok.proper s.focus p e)

  pub home_enter : (c : ℕ) → s.tree.up c ≡ some s.focus → home (enter c s) ≡ move_to c (home s)
  unfolding home
  home_enter c e = rw (path_up s.tree ok.proper c s.focus e) (ap left_from (swap_twice (var_of (s.tree.what c)) c s.values))
    where
      left_from : Values → Deep
      left_from v = record { tree = s.tree; focus = c; own = leave_all s.tree.what (path s.tree s.focus) v }

  -- a move is the switch to its end
  pub leave_goto : (p : ℕ) → s.tree.up s.focus ≡ some p → leave_to p s ≡ goto p s
  leave_goto p e = same_meaning _ _ (leave_sound p e) (goto_sound p s ok (ok.proper.made_up _ p e)) (home_leave p e ∙ sym (home_goto p s))

  pub enter_goto : (c : ℕ) → s.tree.up c ≡ some s.focus → s.tree.what c ≢ blank → enter c s ≡ goto c s
  enter_goto c e l = same_meaning _ _ (enter_sound c e l) (goto_sound c s ok l) (home_enter c e ∙ sym (home_goto c s))

  -- the cells show the focus
  pub cells_show_focus : (x : ℕ) → s.values.cell x ≡ deep s.tree.what (home s).own (path s.tree s.focus) x
  unfolding home
  cells_show_focus x =
      let l = path s.tree s.focus in
      sym (ap (λ (v : Values). v.cell x) (enter_leave s.tree.what l s.values))
      ∙ cells_show s.tree.what l (leave_all s.tree.what l s.values) x (path_once s.tree ok.proper s.focus)
