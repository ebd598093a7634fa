-- What is proved of specs/Values.antt, whose head says it in words. Assumes nothing.
use Rattle.std.specs.Prelude.{◌≡◌, refl, ◌≢◌, Bool, true, false, cond, List, [], ◌∷◌, ◌++◌, ℕ, eqb}
use Rattle.std.proofs.Common.{sym, ap, ◌∙◌, eqb-true}
use Rattle.std.proofs.Math.Option.{Option, none, some}
use Rattle.std.proofs.lemmas.Bool.{eqb-false}
use Rattle.rules.specs.Basic.{on, Once}
use Rattle.rules.proofs.Basic.{upd_same, upd_other, upd_upd, upd_self, upd_comm, clash, on_head, on_tail, on_more, off_middle, off_head, off_tail}
use Rattle.rules.specs.Tree.{What, var_of, is_var, binds}
use Rattle.rules.specs.Values.{Cell, Values, put_cell, put_stored, swap, exchange, value_by, assign, leave_all, enter_all, decider, deep, is_at, or_else, below, peek_by, seek, or_seen, Decides, On}

-- ---- laws of one exchange
-- the same exchange again takes it back
pub swap_twice : (v : Option ℕ) (n : ℕ) (d : Values) → swap v n (swap v n d) ≡ d
swap_twice none n d = refl
swap_twice (some x) n d = simp (upd_same, upd_upd, upd_self d.cell x, upd_self d.stored n)

-- what one exchange does to the cell of x, to the node's own stored cell, and to the rest
pub swap_cell_own : (v : Option ℕ) (n x : ℕ) (d : Values) → is_var v x ≡ true → (swap v n d).cell x ≡ d.stored n
swap_cell_own none n x d h = clash h refl
swap_cell_own (some y) n x d h = rw (eqb-true y x h, upd_same)

pub swap_cell_other : (v : Option ℕ) (n x : ℕ) (d : Values) → is_var v x ≡ false → (swap v n d).cell x ≡ d.cell x
swap_cell_other none n x d h = refl
swap_cell_other (some y) n x d h = upd_other d.cell y x _ (λ e. eqb-false y x h (sym e))

pub swap_stored_own : (v : Option ℕ) (n x : ℕ) (d : Values) → is_var v x ≡ true → (swap v n d).stored n ≡ d.cell x
swap_stored_own none n x d h = clash h refl
swap_stored_own (some y) n x d h = rw (eqb-true y x h, upd_same)

pub swap_stored_other : (v : Option ℕ) (m n : ℕ) (d : Values) → n ≢ m → (swap v m d).stored n ≡ d.stored n
swap_stored_other none m n d h = refl
swap_stored_other (some y) m n d h = upd_other d.stored m n _ h

-- how an exchange passes a change of one cell, or of another node's stored cell
pub swap_put_cell_own : (v : Option ℕ) (n x : ℕ) (c : Cell) (d : Values) → is_var v x ≡ true → swap v n (put_cell x c d) ≡ put_stored n c (swap v n d)
swap_put_cell_own none n x c d h = clash h refl
swap_put_cell_own (some y) n x c d h = rw (eqb-true y x h) (simp (upd_same, upd_upd))

pub swap_put_cell_other : (v : Option ℕ) (n x : ℕ) (c : Cell) (d : Values) → is_var v x ≡ false → swap v n (put_cell x c d) ≡ put_cell x c (swap v n d)
swap_put_cell_other none n x c d h = refl
swap_put_cell_other (some y) n x c d h =
    rw (upd_other d.cell x y c (eqb-false y x h), upd_comm d.cell x y c (d.stored n) (λ e. eqb-false y x h (sym e)))

pub swap_put_stored : (v : Option ℕ) (m n : ℕ) (c : Cell) (d : Values) → n ≢ m → swap v m (put_stored n c d) ≡ put_stored n c (swap v m d)
swap_put_stored none m n c d h = refl
swap_put_stored (some y) m n c d h =
    rw (upd_other d.stored n m c (λ e. h (sym e)), upd_comm d.stored n m c (d.cell y) h)

pub var_one : (v : Option ℕ) (x y : ℕ) → is_var v x ≡ true → is_var v y ≡ true → y ≡ x
var_one none x y p q = clash p refl
var_one (some z) x y p q = sym (eqb-true z y q) ∙ eqb-true z x p

module _ (what : ℕ → What) where
  -- ---- laws of a path
  pub leave_enter : (l : List ℕ) (d : Values) → leave_all what l (enter_all what l d) ≡ d
  leave_enter [] d = refl
  leave_enter (n ∷ l) d = rw swap_twice (leave_enter l d)

  pub enter_leave : (l : List ℕ) (d : Values) → enter_all what l (leave_all what l d) ≡ d
  enter_leave [] d = refl
  enter_leave (n ∷ l) d = ap (exchange (what n) n) (enter_leave l (exchange (what n) n d)) ∙ swap_twice (var_of (what n)) n d

  pub decider_decides : (x : ℕ) (l : List ℕ) → Decides what x l (decider what x l)
  decider_decides x [] = tt
  decider_decides x (m ∷ l) = go (binds (what m) x) refl (decider what x l) (decider_decides x l)
    where
      go : (b : Bool) → binds (what m) x ≡ b → (o : Option ℕ) → Decides what x l o → Decides what x (m ∷ l) (cond b (some m) o)
      go true e o h = (on_head m l, e)
      go false e none h = tt
      go false e (some n) h = (on_more n m l h.0, h.1)

  -- a node that is off the path keeps its own value
  pub stored_off : (n : ℕ) (l : List ℕ) (d : Values) → on n l ≡ false → (enter_all what l d).stored n ≡ d.stored n
  stored_off n [] d h = refl
  stored_off n (m ∷ l) d h =
      swap_stored_other (var_of (what m)) m n (enter_all what l d) (off_head n m l h) ∙ stored_off n l d (off_tail n m l h)

  -- the cells show the deep rule's values
  pub cells_show : (l : List ℕ) (d : Values) (x : ℕ) → Once l → (enter_all what l d).cell x ≡ deep what d l x
  cells_show [] d x o = refl
  cells_show (n ∷ l) d x o = go (binds (what n) x) refl (cells_show l d x o.1)
    where
      go : (b : Bool) → binds (what n) x ≡ b → (enter_all what l d).cell x ≡ deep what d l x
          → (exchange (what n) n (enter_all what l d)).cell x ≡ value_by d x (cond b (some n) (decider what x l))
      go true e ih = swap_cell_own (var_of (what n)) n x (enter_all what l d) e ∙ stored_off n l d o.0
      go false e ih = swap_cell_other (var_of (what n)) n x (enter_all what l d) e ∙ ih

  -- a binding on the path stores the value of its variable at its parent
  pub stored_on : (pre : List ℕ) (n : ℕ) (post : List ℕ) (d : Values) (x : ℕ) → Once (pre ++ n ∷ post) → binds (what n) x ≡ true
      → (enter_all what (pre ++ n ∷ post) d).stored n ≡ deep what d post x
  stored_on [] n post d x o h = swap_stored_own (var_of (what n)) n x (enter_all what post d) h ∙ cells_show post d x o.1
  stored_on (m ∷ pre) n post d x o h =
      swap_stored_other (var_of (what m)) m n _ (off_middle m pre n post o.0) ∙ stored_on pre n post d x o.1 h

  -- a set of the cell is an assignment to the decider
  pub leave_put_stored : (n : ℕ) (c : Cell) (l : List ℕ) (d : Values) → on n l ≡ false → leave_all what l (put_stored n c d) ≡ put_stored n c (leave_all what l d)
  leave_put_stored n c [] d h = refl
  leave_put_stored n c (m ∷ l) d h =
      ap (leave_all what l) (swap_put_stored (var_of (what m)) m n c d (off_head n m l h)) ∙ leave_put_stored n c l (exchange (what m) m d) (off_tail n m l h)

  pub set_assigns : (x : ℕ) (c : Cell) (l : List ℕ) (d : Values) → Once l → leave_all what l (put_cell x c d) ≡ assign x c (decider what x l) (leave_all what l d)
  set_assigns x c [] d o = refl
  set_assigns x c (n ∷ l) d o = go (binds (what n) x) refl (set_assigns x c l (exchange (what n) n d) o.1)
    where
      go : (b : Bool) → binds (what n) x ≡ b
          → leave_all what l (put_cell x c (exchange (what n) n d)) ≡ assign x c (decider what x l) (leave_all what l (exchange (what n) n d))
          → leave_all what l (exchange (what n) n (put_cell x c d)) ≡ assign x c (cond b (some n) (decider what x l)) (leave_all what l (exchange (what n) n d))
      go true e ih = ap (leave_all what l) (swap_put_cell_own (var_of (what n)) n x c d e) ∙ leave_put_stored n c l (exchange (what n) n d) o.0
      go false e ih = ap (leave_all what l) (swap_put_cell_other (var_of (what n)) n x c d e) ∙ ih

  -- exactly those whom the same binding decides see it
  pub assign_seen : (x : ℕ) (c : Cell) (o : Option ℕ) (d : Values) → value_by (assign x c o d) x o ≡ c
  assign_seen x c none d = upd_same d.cell x c
  assign_seen x c (some n) d = upd_same d.stored n c

  pub assign_unseen : (x : ℕ) (c : Cell) (o o' : Option ℕ) (d : Values) → o' ≢ o → value_by (assign x c o d) x o' ≡ value_by d x o'
  assign_unseen x c none none d h = absurd (h refl)
  assign_unseen x c none (some m) d h = refl
  assign_unseen x c (some n) none d h = refl
  assign_unseen x c (some n) (some m) d h = upd_other d.stored n m c (λ e. h (ap some e))

  pub assign_other : (x y : ℕ) (c : Cell) (l m : List ℕ) (d : Values) → y ≢ x → deep what (assign x c (decider what x l) d) m y ≡ deep what d m y
  assign_other x y c l m d h = go (decider what x l) (decider what y m) (decider_decides x l) (decider_decides y m)
    where
      go : (o o' : Option ℕ) → Decides what x l o → Decides what y m o' → value_by (assign x c o d) y o' ≡ value_by d y o'
      go none none p q = upd_other d.cell x y c h
      go none (some k) p q = refl
      go (some n) none p q = refl
      go (some n) (some k) p q = upd_other d.stored n k c (λ e. h (var_one (var_of (what n)) x y p.1 (rw e at q.1)))

  -- a node off the path decides nothing there
  pub put_stored_unseen : (n y : ℕ) (c : Cell) (l : List ℕ) (d : Values) → on n l ≡ false → deep what (put_stored n c d) l y ≡ deep what d l y
  put_stored_unseen n y c l d h = go (decider what y l) (decider_decides y l)
    where
      go : (o : Option ℕ) → Decides what y l o → value_by (put_stored n c d) y o ≡ value_by d y o
      go none p = refl
      go (some m) p = upd_other d.stored n m c (λ e. clash p.0 (rw e h))

  below_on : (x : ℕ) (stop : Option ℕ) (l : List ℕ) → On what l (below what x stop l)
  below_on x stop [] = tt
  below_on x stop (m ∷ l) = go (is_at what stop m) (below what x stop l) (binds (what m) x) (below_on x stop l)
    where
      go : (a : Bool) (o : Option ℕ) (b : Bool) → On what l o → On what (m ∷ l) (cond a none (or_else what o b m))
      go true o b h = tt
      go false (some k) b h = on_more k m l h
      go false none true h = on_head m l
      go false none false h = tt

  -- one node m further in: the value that stood at o stands at `or_else o (m binds x) m`
  move_below : (x m : ℕ) (l : List ℕ) (e : Values) (o : Option ℕ) → On what l o → on m l ≡ false
      → value_by (exchange (what m) m e) x (or_else what o (binds (what m) x) m) ≡ value_by e x o
  move_below x m l e (some k) h off = swap_stored_other (var_of (what m)) m k e (λ q. clash h (rw q off))
  move_below x m l e none h off = go (binds (what m) x) refl
    where
      go : (b : Bool) → binds (what m) x ≡ b → value_by (exchange (what m) m e) x (or_else what none b m) ≡ e.cell x
      go true q = swap_stored_own (var_of (what m)) m x e q
      go false q = swap_cell_other (var_of (what m)) m x e q

  -- what the climb finds is the decider's own value
  pub below_value : (x : ℕ) (stop : Option ℕ) (l : List ℕ) (d : Values) → Once l → Decides what x l stop
      → value_by (enter_all what l d) x (below what x stop l) ≡ value_by d x stop
  below_value x none [] d o h = refl
  below_value x (some n) [] d o h = clash h.0 refl
  below_value x none (m ∷ l) d o h =
      move_below x m l (enter_all what l d) (below what x none l) (below_on x none l) o.0 ∙ below_value x none l d o.1 tt
  below_value x (some n) (m ∷ l) d o h = go (eqb n m) refl (λ k. below_value x (some n) l d o.1 (k, h.1))
    where
      go : (b : Bool) → eqb n m ≡ b → (on n l ≡ true → value_by (enter_all what l d) x (below what x (some n) l) ≡ d.stored n)
          → value_by (enter_all what (m ∷ l) d) x (cond b none (or_else what (below what x (some n) l) (binds (what m) x) m)) ≡ d.stored n
      go true e ih = rw (eqb-true n m e) (swap_cell_own (var_of (what m)) m x (enter_all what l d) (rw (eqb-true n m e) at h.1) ∙ stored_off m l d o.0)
      go false e ih =
          move_below x m l (enter_all what l d) (below what x (some n) l) (below_on x (some n) l) o.0
          ∙ ih (sym (on_tail n m l (eqb-false n m e)) ∙ h.0)

  pub peek_right : (d : Values) (f a : List ℕ) (x : ℕ) → Once f → peek_by what (enter_all what f d) f x (decider what x a) ≡ deep what d a x
  peek_right d f a x o = go (decider what x a) (decider_decides x a)
    where
      go : (s : Option ℕ) → Decides what x a s → peek_by what (enter_all what f d) f x s ≡ value_by d x s
      go none h = below_value x none f d o tt
      go (some n) h = split (on n f) refl
        where
          split : (b : Bool) → on n f ≡ b → cond b (value_by (enter_all what f d) x (below what x (some n) f)) ((enter_all what f d).stored n) ≡ d.stored n
          split true k = below_value x (some n) f d o (k, h.1)
          split false k = stored_off n f d k

  pub seek_below : (x : ℕ) (stop seen : Option ℕ) (l : List ℕ) → seek what x stop seen l ≡ or_seen what (below what x stop l) seen
  seek_below x stop seen [] = refl
  seek_below x stop seen (m ∷ l) = go (is_at what stop m) (binds (what m) x) (below what x stop l) (λ o. seek_below x stop o l)
    where
      go : (a b : Bool) (k : Option ℕ) → ((o : Option ℕ) → seek what x stop o l ≡ or_seen what k o)
          → cond a seen (seek what x stop (cond b (some m) seen) l) ≡ or_seen what (cond a none (or_else what k b m)) seen
      go true b k ih = refl
      go false true none ih = ih (some m)
      go false true (some j) ih = ih (some m)
      go false false none ih = ih seen
      go false false (some j) ih = ih seen
