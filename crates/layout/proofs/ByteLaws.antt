-- What the code writes is bytes where the buffer was: a move, a set; and what bytes hold in a cell is a value.
-- With Laws, PlaceLaws and RecordLaws these know the places. Assumes nothing.
use Rattle.std.specs.Prelude.{◌≡◌, Bool, true, false, cond, ℕ, zero, suc, ◌/◌, ◌%◌, ◌<◌, List, [], ◌∷◌, ◌++◌, get_or, set, take, drop, eqb, ℤ}
use Rattle.std.proofs.Common.{sym, ap, ◌∙◌, arith, SFits, of_z, to_z}
use Rattle.std.specs.Int.{w32}
use mir.ValLaws.{to_z-Fits}
use Rattle.rules.specs.Values.{unbound, value}
use Rattle.layout.specs.Limits.{header, cell_size, node_size, cell_at, node_at}
use Rattle.layout.specs.Bytes.{part, splice, u16, put16, Bytes}
use Rattle.layout.specs.Records.{vars, focus, bits_c, value_c, head_of, with_head, with_focus, cell_of, with_cell, bare_c, put_c, node_of, with_node, kind_n, parent_n, var_n, stored_n, turn_n, swap_n}
use Rattle.layout.specs.Kinds.{by_kind, left_kind, entered_kind, within}
use Rattle.layout.proofs.NodeKinds.{node_high}
use Rattle.layout.specs.Fields.{fields_of}
use Rattle.layout.specs.View.{as_cell, view_f, view}
use Rattle.layout.specs.Writes.{swap_b, turn_b, move_b, leave_b, enter_b, set_b, Turns}
use Rattle.layout.proofs.Laws.{cell_in}

-- each number of a list is below 256, number by number
data Each : List ℕ → Type 0 where
  no_more : Each []
  one : {a : ℕ} {l : List ℕ} → a < 256 → Each l → Each (a ∷ l)

each : (xs : List ℕ) → Bytes xs → Each xs
each [] b = no_more
each (x ∷ xs) b = one (b 0) (each xs (λ i. b (suc i)))

at_each : {xs : List ℕ} → Each xs → Bytes xs
at_each no_more i = omega arith
at_each (one h e) zero = h
at_each (one h e) (suc i) = at_each e i

append_each : {xs ys : List ℕ} → Each xs → Each ys → Each (xs ++ ys)
append_each no_more f = f
append_each (one h e) f = one h (append_each e f)

take_each : {xs : List ℕ} (n : ℕ) → Each xs → Each (take n xs)
take_each zero e = no_more
take_each (suc n) no_more = no_more
take_each (suc n) (one h e) = one h (take_each n e)

drop_each : {xs : List ℕ} (n : ℕ) → Each xs → Each (drop n xs)
drop_each zero e = e
drop_each (suc n) no_more = no_more
drop_each (suc n) (one h e) = drop_each n e

set_each : {xs : List ℕ} (i : ℕ) {v : ℕ} → v < 256 → Each xs → Each (set xs i v)
set_each i h no_more = no_more
set_each zero h (one k e) = one h e
set_each (suc i) h (one k e) = one k (set_each i h e)

part_each : {xs : List ℕ} (a n : ℕ) → Each xs → Each (part xs a n)
unfolding part
part_each a n e = take_each n (drop_each a e)

splice_each : {xs ys : List ℕ} (a n : ℕ) → Each xs → Each ys → Each (splice xs a n ys)
unfolding splice
splice_each a n e f = append_each (take_each a e) (append_each f (drop_each n (drop_each a e)))

bare_each : {p : List ℕ} → Each p → Each (bare_c p)
unfolding bare_c
bare_each e = one (at_each e 0) (one (at_each e 1) (one (at_each e 2) (one (at_each e 3) (one (at_each e 4) no_more))))

stored_each : {p : List ℕ} → Each p → Each (stored_n p)
unfolding stored_n
stored_each e = one (at_each e 1) (one (at_each e 8) (one (at_each e 9) (one (at_each e 10) (one (at_each e 11) no_more))))

put_each : {p c : List ℕ} → Each p → Each c → Each (put_c p c)
unfolding put_c
put_each e f = set_each 4 (at_each f 4) (set_each 3 (at_each f 3) (set_each 2 (at_each f 2) (set_each 1 (at_each f 1) (set_each 0 (at_each f 0) e))))

swap_each : {p c : List ℕ} {k : ℕ} → k < 256 → Each p → Each c → Each (swap_n p k c)
unfolding swap_n
swap_each h e f =
    set_each 11 (at_each f 4) (set_each 10 (at_each f 3) (set_each 9 (at_each f 2) (set_each 8 (at_each f 1) (set_each 1 (at_each f 0) (set_each 0 h e)))))

turn_each : {s : List ℕ} (n k : ℕ) → k < 256 → Each s → Each (turn_b s n k)
unfolding turn_b swap_b turn_n by_kind node_of with_node cell_of with_cell
turn_each {s} n k h e =
    choose (within 2 (kind_n (node_of s n)) 3) swapped (choose (within 4 (kind_n (node_of s n)) 5) wound (choose (eqb (kind_n (node_of s n)) 1) e e))
  where
    choose : (b : Bool) {xs ys : List ℕ} → Each xs → Each ys → Each (cond b xs ys)
    choose true e f = e
    choose false e f = f

    node : Each (node_of s n)
    node = part_each (node_at (vars s) n) node_size e

    wound : Each (with_node s n (set (node_of s n) 0 k))
    wound = splice_each (node_at (vars s) n) node_size e (set_each 0 h node)

    x : ℕ
    x = var_n (node_of s n)

    t : List ℕ
    t = with_node s n (swap_n (node_of s n) k (bare_c (cell_of s x)))

    each_t : Each t
    each_t = splice_each (node_at (vars s) n) node_size e (swap_each h node (bare_each (part_each (cell_at x) cell_size e)))

    swapped : Each (with_cell t x (put_c (cell_of t x) (stored_n (node_of s n))))
    swapped = splice_each (cell_at x) cell_size each_t (put_each (part_each (cell_at x) cell_size each_t) (stored_each node))

focus_each : {s : List ℕ} (f : ℕ) → f < 65536 → Each s → Each (with_focus s f)
unfolding with_head head_of put16
focus_each f h e = splice_each 0 header e (set_each 7 (omega arith) (set_each 6 (omega arith) (part_each 0 header e)))

move_bytes : (s : List ℕ) (n k f : ℕ) → k < 256 → f < 65536 → Bytes s → Bytes (move_b s n k f)
unfolding move_b
move_bytes s n k f h l b = at_each (focus_each f l (turn_each n k h (each s b)))

-- a value in a cell
value_each : (z : ℤ) → Each (value_c z)
unfolding value_c
value_each z =
    let n = of_z w32 z in
    one bound (one (low n) (one (low (n / 256)) (one (low (n / 65536)) (one (low (n / 16777216)) no_more))))
  where
    bound : 1 < 256
    bound = omega arith

    low : (n : ℕ) → n % 256 < 256
    low n = omega arith

set_cell_each : {s : List ℕ} (x : ℕ) (z : ℤ) → Each s → Each (set_b s x z)
unfolding set_b with_cell cell_of
set_cell_each x z e = splice_each (cell_at x) cell_size e (put_each (part_each (cell_at x) cell_size e) (value_each z))

node_bytes : (s : List ℕ) (n : ℕ) → Bytes s → Bytes (node_of s n)
unfolding node_of
node_bytes s n b = at_each (part_each (node_at (vars s) n) node_size (each s b))

left_byte : (k : ℕ) → k < 256 → left_kind k < 256
left_byte k h = omega arith

parent_byte : (p : List ℕ) → Bytes p → parent_n p < 65536
unfolding parent_n u16
parent_byte p b = omega (arith, b 2, b 3)

kind_byte : (p : List ℕ) → Bytes p → kind_n p < 256
unfolding kind_n
kind_byte p b = b 0

-- ---- what a move and a set leave
pub leave_bytes : (s : List ℕ) → Bytes s → Bytes (leave_b s)
leave_bytes s b =
    let node = node_bytes s (focus s) b in
    move_bytes s (focus s) (left_kind (kind_n (node_of s (focus s)))) (parent_n (node_of s (focus s))) (left_byte _ (kind_byte _ node)) (parent_byte _ node) b

pub enter_bytes : (s : List ℕ) (n : ℕ) → Turns s n → Bytes s → Bytes (enter_b s n)
enter_bytes s n can b = move_bytes s n (entered_kind (kind_n (node_of s n))) n (omega (arith, node_high _ can.node)) (omega (arith, can.below, can.fit.n)) b

pub set_bytes : (s : List ℕ) (x : ℕ) (z : ℤ) → Bytes s → Bytes (set_b s x z)
set_bytes s x z b = at_each (set_cell_each x z (each s b))

-- ---- what is seen in a cell
-- a value that bytes hold is one
value_fits : (c : List ℕ) → Bytes c → (z : ℤ) → as_cell c ≡ value z → SFits w32 z
unfolding as_cell bits_c
value_fits c b z = go (eqb (get_or c 0 0) 0)
  where
    fits : SFits w32 (to_z w32 (bits_c c))
    fits = to_z-Fits w32 (bits_c c) (record { fits = omega (arith, b 1, b 2, b 3, b 4) })

    go : (t : Bool) → cond t unbound (value (to_z w32 (bits_c c))) ≡ value z → SFits w32 z
    go true e = absurd (let y : ◌≡◌ {A = ℕ} 0 1 = cc in omega arith)
    go false e = let same : to_z w32 (bits_c c) ≡ z = cc in rw same at fits

pub cell_fits : (s : List ℕ) (x : ℕ) (z : ℤ) → Bytes s → x < vars s → (view s).values.cell x ≡ value z → SFits w32 z
unfolding view view_f fields_of cell_of
cell_fits s x z b known e =
    value_fits (bare_c (cell_of s x)) (at_each (bare_each (part_each (cell_at x) cell_size (each s b)))) z
    (ap (λ (c : List ℕ). as_cell (bare_c c)) (sym (cell_in s x known)) ∙ e)
