-- What is proved of specs/Calls.antt, whose head says it in words. Assumes nothing.
use Rattle.std.specs.Prelude.{◌≡◌, ◌≢◌, Bool, true, false, List, ℕ, eqb}
use Rattle.std.proofs.Math.Path.{refl, ap}
use Rattle.std.proofs.Common.{sym, ◌∙◌, arith, eqb-true}
use Rattle.std.proofs.Math.Option.{Option, none, some}
use Rattle.rules.specs.Basic.{upd, on}
use Rattle.rules.proofs.Basic.{some≢none, eqb_self, upd_same, upd_other, upd_upd}
use Rattle.rules.specs.Tree.{What, blank, binding, binds, Tree, Proper, path}
use Rattle.rules.proofs.Tree.{path_top, path_up, path_once}
use Rattle.rules.specs.Values.{Cell, Values, put_stored, leave_all, peek_by}
use Rattle.rules.proofs.Values.{enter_leave, leave_put_stored, set_assigns, assign_seen, assign_unseen, assign_other, put_stored_unseen, peek_right}
use Rattle.rules.specs.Store.{Store, Deep, Sound, home, goto}
use Rattle.rules.proofs.Store.{home_goto, home_enter, enter_sound, cells_show_focus}
use Rattle.rules.specs.Grow.{Growable, grow}
use Rattle.rules.proofs.Grow.{grow_proper, path_old, path_new, fresh_off, leave_all_grow, decider_grow, made_differs}
use Rattle.rules.specs.Calls.{decider_at, value_at, peek_of, peek, set_cell, set_deep, plant, make, make_deep, open_what, open_tree, opened, open_deep}

-- ---- look and peek
pub look_right : (s : Store) → Sound s → (x : ℕ) → s.values.cell x ≡ value_at (home s) s.focus x
unfolding home value_at decider_at
look_right s ok x = cells_show_focus s ok x

pub peek_shows : (s : Store) → Sound s → (a x : ℕ) → peek s a x ≡ value_at (home s) a x
unfolding home value_at decider_at
peek_shows s ok a x = as_peek_by (decider_at s.tree a x) ∙ ap (λ (v : Values). peek_by s.tree.what v f x (decider_at s.tree a x)) (sym (enter_leave s.tree.what f s.values))
    ∙ peek_right s.tree.what (leave_all s.tree.what f s.values) f (path s.tree a) x (path_once s.tree ok.proper s.focus)
  where
    f : List ℕ
    f = path s.tree s.focus

    as_peek_by : (o : Option ℕ) → peek_of s x o ≡ peek_by s.tree.what s.values f x o
    as_peek_by none = refl
    as_peek_by (some n) = rw (ok.modes n)

-- look is peek at the focus
pub look_is_peek : (s : Store) → Sound s → (x : ℕ) → s.values.cell x ≡ peek s s.focus x
look_is_peek s ok x = look_right s ok x ∙ sym (peek_shows s ok s.focus x)

-- ---- tell: a binding decides its own variable, so the value there is its own
pub own_decides : (t : Tree) → Proper t → (a p x : ℕ) → t.up a ≡ some p → t.what a ≡ binding x → decider_at t a x ≡ some a
unfolding decider_at
own_decides t ok a p x up is = rw (path_up t ok a p up, is, eqb_self x)

pub own_value : (d : Deep) → Proper d.tree → (a p x : ℕ) → d.tree.up a ≡ some p → d.tree.what a ≡ binding x → value_at d a x ≡ d.own.stored a
unfolding value_at
own_value d ok a p x up is = rw (own_decides d.tree ok a p x up is)

-- ---- goto: no environment's value changes
pub goto_values : (b : ℕ) (s : Store) (a x : ℕ) → value_at (home (goto b s)) a x ≡ value_at (home s) a x
unfolding value_at decider_at
goto_values b s a x = ap (λ (d : Deep). value_at d a x) (home_goto b s)

-- ---- set
pub set_sound : (x : ℕ) (c : Cell) (s : Store) → Sound s → Sound (set_cell x c s)
set_sound x c s ok = record { proper = ok.proper; focus_made = ok.focus_made; modes = ok.modes }

pub home_set : (x : ℕ) (c : Cell) (s : Store) → Sound s → home (set_cell x c s) ≡ set_deep x c (home s)
unfolding home value_at decider_at
home_set x c s ok = rw (set_assigns s.tree.what x c (path s.tree s.focus) s.values (path_once s.tree ok.proper s.focus))

module _ (x : ℕ) (c : Cell) (d : Deep) where
  -- exactly the environments where the same binding decides x see it
  pub set_seen : (a : ℕ) → decider_at d.tree a x ≡ decider_at d.tree d.focus x → value_at (set_deep x c d) a x ≡ c
  unfolding value_at decider_at
  set_seen a e = rw e (assign_seen d.tree.what x c (decider_at d.tree d.focus x) d.own)

  pub set_unseen : (a : ℕ) → decider_at d.tree a x ≢ decider_at d.tree d.focus x → value_at (set_deep x c d) a x ≡ value_at d a x
  unfolding value_at decider_at
  set_unseen a h = assign_unseen d.tree.what x c (decider_at d.tree d.focus x) (decider_at d.tree a x) d.own h

  pub set_others : (a y : ℕ) → y ≢ x → value_at (set_deep x c d) a y ≡ value_at d a y
  unfolding value_at decider_at
  set_others a y h = assign_other d.tree.what x y c (path d.tree d.focus) (path d.tree a) d.own h

-- ---- bind and wind
-- as the code writes it: the cell takes c, and the new node stores the cell's old value
pub make_binding : (m x : ℕ) (c : Cell) (r : ℕ) (s : Store)
    → (make m (binding x) c r s).values ≡ record { cell = upd s.values.cell x c; stored = upd s.values.stored m (s.values.cell x) }
make_binding m x c r s = rw (upd_same s.tree.what m (binding x)) (simp (upd_same, upd_upd))

module _ {m : ℕ} {w : What} {r : ℕ} (c : Cell) (s : Store) (ok : Sound s) (can : Growable s.tree m s.focus w r) where
  focus_old : s.focus ≢ m
  focus_old = made_differs can s.focus ok.focus_made

  plant_sound : Sound (plant m w c r s)
  plant_sound = record {
    proper = grow_proper can;
    focus_made = rw (upd_other s.tree.what m s.focus w focus_old) ok.focus_made;
    modes = λ n. ok.modes n ∙ ap (on n) (sym (path_old can s.focus focus_old));
  }

  pub make_sound : Sound (make m w c r s)
  make_sound = enter_sound (plant m w c r s) plant_sound m (upd_same s.tree.up m (some s.focus)) (rw (upd_same s.tree.what m w) can.is)

  pub home_make : home (make m w c r s) ≡ make_deep m w c r (home s)
  unfolding home
  home_make = home_enter (plant m w c r s) plant_sound m (upd_same s.tree.up m (some s.focus)) ∙ ap with_own planted
    where
      with_own : Values → Deep
      with_own v = record { tree = grow m s.focus w r s.tree; focus = m; own = v }

      planted : leave_all (upd s.tree.what m w) (path (grow m s.focus w r s.tree) s.focus) (put_stored m c s.values)
          ≡ put_stored m c (leave_all s.tree.what (path s.tree s.focus) s.values)
      planted =
          rw (path_old can s.focus focus_old) (leave_all_grow s.tree.what m w (path s.tree s.focus) (put_stored m c s.values) (fresh_off can s.focus)
          ∙ leave_put_stored s.tree.what m c (path s.tree s.focus) s.values (fresh_off can s.focus))

module _ {m : ℕ} {w : What} {r : ℕ} (c : Cell) (d : Deep) (can : Growable d.tree m d.focus w r) where
  pub make_others : (a y : ℕ) → a ≢ m → value_at (make_deep m w c r d) a y ≡ value_at d a y
  unfolding value_at decider_at
  make_others a y h =
      rw (path_old can a h, decider_grow d.tree.what m w y (path d.tree a) (fresh_off can a))
      (put_stored_unseen d.tree.what m y c (path d.tree a) d.own (fresh_off can a))

  -- the new environment sees its own value, and its parent's for the rest
  pub make_own : (x : ℕ) → binds w x ≡ true → value_at (make_deep m w c r d) m x ≡ c
  unfolding value_at decider_at
  make_own x h = rw (path_new can, upd_same d.tree.what m w, h) (upd_same d.own.stored m c)

  pub make_rest : (y : ℕ) → binds w y ≡ false → value_at (make_deep m w c r d) m y ≡ value_at d d.focus y
  unfolding value_at decider_at
  make_rest y h =
      rw (path_new can, upd_same d.tree.what m w, h, decider_grow d.tree.what m w y (path d.tree d.focus) (fresh_off can d.focus))
      (put_stored_unseen d.tree.what m y c (path d.tree d.focus) d.own (fresh_off can d.focus))

-- ---- open: every environment sees the top cells
module _ (rank : ℕ → ℕ) where
  open_proper : Proper (open_tree rank)
  open_proper = record {
    falls = λ a p h. some≢none h refl;
    made_up = λ a p h. some≢none h refl;
    blank_up = λ a h. refl;
    one_top = λ a h k. go a (eqb a 0) refl h;
  }
    where
      go : (a : ℕ) (b : Bool) → eqb a 0 ≡ b → open_what b ≢ blank → a ≡ 0
      go a true e h = eqb-true a 0 e
      go a false e h = absurd (h refl)

  pub open_sound : (cells : ℕ → Cell) → Sound (opened rank cells)
  open_sound cells = record {
    proper = open_proper;
    focus_made = λ e. absurd (let z : ◌≡◌ {A = ℕ} 0 1 = cc in omega arith);
    modes = λ n. rw (path_top (open_tree rank) open_proper 0 refl);
  }

  pub open_values : (cells : ℕ → Cell) (a x : ℕ) → value_at (home (opened rank cells)) a x ≡ cells x
  unfolding home value_at decider_at
  open_values cells a x = rw (path_top (open_tree rank) open_proper a refl, path_top (open_tree rank) open_proper 0 refl)

  pub home_open : (cells : ℕ → Cell) → home (opened rank cells) ≡ open_deep rank cells
  unfolding home
  home_open cells = rw (path_top (open_tree rank) open_proper 0 refl)
