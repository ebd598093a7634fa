-- Where the records are found in a buffer that is written, looked through or compared whole. With Laws (one record written), RecordLaws
-- (the fields of a record), ByteLaws (what is written is bytes), Records and Limits, this is all that knows places. Assumes nothing.
use Rattle.std.specs.Prelude.{◌≡◌, ℕ, zero, suc, ◌+◌, ◌-◌, ◌*◌, ◌/◌, ◌%◌, ◌≤◌, ◌<◌, drop}
use Rattle.std.proofs.Math.Path.{refl, sym, ap}
use Rattle.std.proofs.Common.{◌∙◌, add-one, take-append-drop, ext_get_or, take_all, take_at, drop_at, drop-drop}
use native.Mathlib.Omega.{arith}
use Rattle.std.proofs.Math.Decide.{dec_lt}
use mathlib.Core.List.{List, [], ◌++◌, append_assoc}
use Rattle.std.proofs.Math.ListN.{length, get_or, replicate, length-append, length-replicate}
use Rattle.std.proofs.lemmas.List.{get_or-replicate}
use Rattle.layout.specs.Limits.{none_n, header, cell_size, node_size, cell_at, node_at, size_of}
use Rattle.layout.specs.Bytes.{part, splice, u16, put16, Zeros, BytesTo}
use Rattle.layout.proofs.Bytes.{part_length, part_at, part_left, part_right, part_bytes, splice_same, splice_again, splice_next, put16_length, zeros_list, list_zeros}
use Rattle.layout.specs.Records.{head_of, head_n, with_head, head_b, vars, room, made, focus, target, handed, with_header, cell_of, with_cell, with_cells, whole_c, top_c, node_of, with_nodes, top_node, blank_node}
use Rattle.layout.specs.Fields.{cells, nodes, Fit}
use Rattle.layout.specs.Writes.{cells_b, nodes_b, open_b}
use Rattle.layout.proofs.RecordLaws.{head_put, head_again, cell_length}
use Rattle.layout.proofs.Laws.{node_in, cell_in}

-- ---- the header's numbers, written one after the other
number_put : (s h : List ℕ) (k v : ℕ) → length h ≡ header → header ≤ length s → with_head (with_header s h) k v ≡ with_header s (put16 h (2 * k) v)
unfolding with_head with_header head_of
number_put s h k v l f =
    splice_again s h 0 header l f (put16 (part (splice s 0 header h) 0 header) (2 * k) v)
    ∙ ap (λ (p : List ℕ). splice s 0 header (put16 p (2 * k) v)) (splice_same s h 0 header l f)

-- t is s with the header h
pub record HeadedBy (s h t : List ℕ) : Type 0 where
  pub is : t ≡ with_header s h
  pub long : length h ≡ header

number_more : {s h t : List ℕ} (k v : ℕ) → header ≤ length s → HeadedBy s h t → HeadedBy s (put16 h (2 * k) v) (with_head t k v)
number_more {s} {h} k v f b =
    record { is = ap (λ (u : List ℕ). with_head u k v) b.is ∙ number_put s h k v b.long f; long = put16_length h (2 * k) v ∙ b.long }

pub header_put : (s : List ℕ) (v n m f a c : ℕ) → header ≤ length s
    → with_head (with_head (with_head (with_head (with_head (with_head s 0 v) 1 n) 2 m) 3 f) 4 a) 5 c ≡ with_header s (head_b v n m f a c)
unfolding with_head with_header head_of
header_put s v n m f a c long =
    let l : length (head_of s) ≡ header = part_length s 0 header long in
    let first : HeadedBy s (put16 (head_of s) 0 v) (with_head s 0 v) = record { is = refl; long = put16_length (head_of s) 0 v ∙ l } in
    let all = number_more 5 c long (number_more 4 a long (number_more 3 f long (number_more 2 m long (number_more 1 n long first)))) in
    all.is ∙ ap (with_header s) (head_put v n m f a c (head_of s) l)

-- ---- the cells, one by one: none, and one more
pub cells_length : (v : ℕ) (tops : List ℕ) → length (cells_b v tops) ≡ cell_size * v
cells_length zero tops = refl
cells_length (suc v) tops = length-append (cells_b v tops) (whole_c (top_c tops v)) ∙ omega (arith, cells_length v tops, cell_length (top_c tops v))

pub cells_none : (s tops : List ℕ) → s ≡ with_cells s 0 (cells_b 0 tops)
unfolding with_cells splice
cells_none s tops = sym (take-append-drop header s)

pub cells_more : (s tops : List ℕ) (x : ℕ) → cell_at x ≤ length s → with_cell (with_cells s x (cells_b x tops)) x (whole_c (top_c tops x)) ≡ with_cells s (x + 1) (cells_b (x + 1) tops)
unfolding with_cell with_cells
cells_more s tops x h =
    let more : cell_size * x + cell_size ≡ cell_size * (x + 1) = omega arith in
    splice_next s (cells_b x tops) (whole_c (top_c tops x)) header (cell_size * x) cell_size (cells_length x tops) h
    ∙ ap (λ (k : ℕ). splice s header k (cells_b x tops ++ whole_c (top_c tops x))) more
    ∙ ap (λ (k : ℕ). splice s header (cell_size * (x + 1)) (cells_b k tops)) (sym (add-one x))

-- the cell of x among them
cells_at : (v : ℕ) (tops : List ℕ) (x : ℕ) → x < v → part (cells_b v tops) (cell_size * x) cell_size ≡ whole_c (top_c tops x)
unfolding part
cells_at zero tops x h = absurd (omega arith)
cells_at (suc v) tops x h = go (dec_lt x v) (cells_at v tops x)
  where
    front : length (cells_b v tops) ≡ cell_size * v
    front = cells_length v tops

    go : Dec (x < v) → (x < v → part (cells_b v tops) (cell_size * x) cell_size ≡ whole_c (top_c tops x))
        → part (cells_b v tops ++ whole_c (top_c tops v)) (cell_size * x) cell_size ≡ whole_c (top_c tops x)
    go (yes l) before = part_left (cells_b v tops) (whole_c (top_c tops v)) (cell_size * x) cell_size (omega (arith, front)) ∙ before l
    go (no l) before =
        let e : x ≡ v = omega arith in
        let at : cell_size * x ≡ length (cells_b v tops) + 0 = omega (arith, front) in
        ap (λ (k : ℕ). part (cells_b v tops ++ whole_c (top_c tops v)) k cell_size) at
        ∙ part_right (cells_b v tops) (whole_c (top_c tops v)) 0 cell_size
        ∙ take_all cell_size (whole_c (top_c tops v)) (omega (arith, cell_length (top_c tops v)))
        ∙ ap (λ (y : ℕ). whole_c (top_c tops y)) (sym e)

-- ---- header, cells and nodes, each put in the place of what was there
put_after : (l r ys : List ℕ) (a n : ℕ) → length l ≡ a → splice (l ++ r) a n ys ≡ (l ++ ys) ++ drop n r
unfolding splice
put_after l r ys a n e =
    ap (λ (f : List ℕ). f ++ (ys ++ drop n (drop a (l ++ r)))) (take_at l r a e)
    ∙ ap (λ (d : List ℕ). l ++ (ys ++ drop n d)) (drop_at l r a e)
    ∙ sym (append_assoc l ys (drop n r))

pub written : (s tops : List ℕ) (v n : ℕ) → with_nodes (with_cells (with_header s (head_b v n 1 0 none_n none_n)) v (cells_b v tops)) v n (nodes_b (node_size * n)) ≡ open_b v n tops ++ drop (size_of v n) s
unfolding with_header with_cells with_nodes open_b head_b nodes_b
written s tops v n =
    let h : List ℕ = head_b v n 1 0 none_n none_n in
    let c : List ℕ = cells_b v tops in
    let long : length (h ++ c) ≡ header + cell_size * v = omega (arith, length-append h c, cells_length v tops) in
    let count : node_size * n - node_size ≡ node_size * (n - 1) = omega arith in
    ap (λ (t : List ℕ). splice (splice t header (cell_size * v) c) (header + cell_size * v) (node_size * n) (nodes_b (node_size * n))) (put_after [] s h 0 header refl)
    ∙ ap (λ (t : List ℕ). splice t (header + cell_size * v) (node_size * n) (nodes_b (node_size * n))) (put_after h (drop header s) c header (cell_size * v) refl)
    ∙ put_after (h ++ c) (drop (cell_size * v) (drop header s)) (nodes_b (node_size * n)) (header + cell_size * v) (node_size * n) long
    ∙ ap (λ (d : List ℕ). ((h ++ c) ++ nodes_b (node_size * n)) ++ drop (node_size * n) d) (drop-drop (cell_size * v) header s)
    ∙ ap (λ (d : List ℕ). ((h ++ c) ++ nodes_b (node_size * n)) ++ d) (drop-drop (node_size * n) (header + cell_size * v) s)
    ∙ ap (λ (k : ℕ). ((h ++ c) ++ (top_node ++ replicate k 0)) ++ drop (size_of v n) s) count
    ∙ ap (λ (l : List ℕ). l ++ drop (size_of v n) s) (append_assoc h c (top_node ++ replicate (node_size * (n - 1)) 0))

-- ---- a part of zeros
zeros_part : (m a k : ℕ) → a + k ≤ m → part (replicate m 0) a k ≡ replicate k 0
zeros_part m a k h =
    let long : length (part (replicate m 0) a k) ≡ k = part_length (replicate m 0) a k (omega (arith, length-replicate {A = ℕ} m 0)) in
    ext_get_or 0 _ _ (long ∙ sym (length-replicate k 0))
    (λ i l. part_at (replicate m 0) a k i (omega arith) ∙ get_or-replicate m (a + i) 0 0 (omega arith) ∙ sym (get_or-replicate k i 0 0 (omega arith)))

-- ---- the records of an opened store
module _ (v n : ℕ) (tops rest : List ℕ) where
  abbrev t : List ℕ
  t = open_b v n tops ++ rest

  head_is : head_of t ≡ head_b v n 1 0 none_n none_n
  unfolding head_of part open_b head_b
  head_is = refl

  pub opened_vars : vars t ≡ v
  unfolding head_n u16 head_b
  opened_vars = ap (λ (h : List ℕ). u16 h 0) head_is ∙ omega arith

  pub opened_room : room t ≡ n
  unfolding head_n u16 head_b
  opened_room = ap (λ (h : List ℕ). u16 h 2) head_is ∙ omega arith

  pub opened_made : made t ≡ 1
  unfolding head_n u16 head_b
  opened_made = ap (λ (h : List ℕ). u16 h 4) head_is

  pub opened_focus : focus t ≡ 0
  unfolding head_n u16 head_b
  opened_focus = ap (λ (h : List ℕ). u16 h 6) head_is

  pub opened_target : target t ≡ none_n
  unfolding head_n u16 head_b
  opened_target = ap (λ (h : List ℕ). u16 h 8) head_is

  pub opened_handed : handed t ≡ none_n
  unfolding head_n u16 head_b
  opened_handed = ap (λ (h : List ℕ). u16 h 10) head_is

  pub opened_size : 1 ≤ n → length (open_b v n tops) ≡ size_of v n
  unfolding open_b head_b top_node
  opened_size low = simp (length-append, length-replicate) (omega (arith, cells_length v tops))

  -- the three pieces that a cell or a node lies in
  abbrev blanks : List ℕ
  blanks = replicate (node_size * (n - 1)) 0 ++ rest

  split : t ≡ (head_b v n 1 0 none_n none_n ++ cells_b v tops) ++ (top_node ++ blanks)
  unfolding open_b
  split = simp append_assoc

  pub opened_cell : (x : ℕ) → x < v → cell_of t x ≡ whole_c (top_c tops x)
  unfolding cell_of head_b
  opened_cell x h =
      ap (λ (l : List ℕ). part l (cell_at x) cell_size) (split ∙ append_assoc (head_b v n 1 0 none_n none_n) (cells_b v tops) (top_node ++ blanks))
      ∙ part_right (head_b v n 1 0 none_n none_n) (cells_b v tops ++ (top_node ++ blanks)) (cell_size * x) cell_size
      ∙ part_left (cells_b v tops) (top_node ++ blanks) (cell_size * x) cell_size (omega (arith, cells_length v tops))
      ∙ cells_at v tops x h

  node_at_lem : (m : ℕ) → node_of t m ≡ part (top_node ++ blanks) (node_size * m) node_size
  unfolding node_of head_b
  node_at_lem m =
      let long : length (head_b v n 1 0 none_n none_n ++ cells_b v tops) + node_size * m ≡ node_at v m = omega (arith, length-append (head_b v n 1 0 none_n none_n) (cells_b v tops), cells_length v tops) in
      ap (λ (w : ℕ). part t (node_at w m) node_size) opened_vars
      ∙ ap (λ (l : List ℕ). part l (node_at v m) node_size) split
      ∙ ap (λ (k : ℕ). part ((head_b v n 1 0 none_n none_n ++ cells_b v tops) ++ (top_node ++ blanks)) k node_size) (sym long)
      ∙ part_right (head_b v n 1 0 none_n none_n ++ cells_b v tops) (top_node ++ blanks) (node_size * m) node_size

  pub opened_top : node_of t 0 ≡ top_node
  unfolding part top_node
  opened_top = node_at_lem 0

  pub opened_blank : (m : ℕ) → 1 ≤ m → m < n → node_of t m ≡ blank_node
  unfolding top_node blank_node
  opened_blank m l h =
      let place : node_size * m ≡ length top_node + node_size * (m - 1) = omega arith in
      let inside : node_size * (m - 1) + node_size ≤ node_size * (n - 1) = omega arith in
      node_at_lem m
      ∙ ap (λ (k : ℕ). part (top_node ++ blanks) k node_size) place
      ∙ part_right top_node blanks (node_size * (m - 1)) node_size
      ∙ part_left (replicate (node_size * (n - 1)) 0) rest (node_size * (m - 1)) node_size (omega (arith, length-replicate {A = ℕ} (node_size * (n - 1)) 0))
      ∙ zeros_part (node_size * (n - 1)) (node_size * (m - 1)) node_size inside

-- ---- a buffer of bytes, record by record
module _ (s : List ℕ) (bytes : (i : ℕ) → get_or s i 0 < 256) where
  -- the header is what its numbers say
  pub head_said : header ≤ length s → head_b (vars s) (room s) (made s) (focus s) (target s) (handed s) ≡ head_of s
  unfolding head_n head_of
  head_said h = head_again (head_of s) (part_length s 0 header h) (part_bytes s 0 header bytes)

  pub cell_bytes : (x : ℕ) → x < vars s → BytesTo cell_size (cells s x)
  unfolding cell_of
  cell_bytes x h = rw (cell_in s x h) (part_bytes s (cell_at x) cell_size bytes)

  pub node_bytes : (n : ℕ) → n < room s → BytesTo node_size (nodes s n)
  unfolding node_of
  node_bytes n h = rw (node_in s n h) (part_bytes s (node_at (vars s) n) node_size bytes)

-- ---- the nodes from m on are blank where their bytes are zero
module _ (s : List ℕ) (m : ℕ) (fit : Fit s) where
  pub zeros_blanks : Zeros s (node_at (vars s) m) (node_at (vars s) (room s)) → (n : ℕ) → m ≤ n → n < room s → nodes s n ≡ blank_node
  unfolding node_of blank_node
  zeros_blanks z n l h =
      let at = node_at (vars s) n in
      node_in s n h
      ∙ zeros_list (part s at node_size) node_size (part_length s at node_size (omega arith))
      (λ i _ k. part_at s at node_size i k ∙ z (at + i) (omega arith) (omega arith))

  pub blanks_zeros : ((n : ℕ) → m ≤ n → n < room s → nodes s n ≡ blank_node) → Zeros s (node_at (vars s) m) (node_at (vars s) (room s))
  unfolding node_of blank_node
  blanks_zeros b i l h =
      let o = i - node_at (vars s) 0 in
      let n = o / node_size in
      let j = o % node_size in
      let at = node_at (vars s) n in
      let in_room : n < room s = omega arith in
      let k : at + j ≡ i = omega arith in
      let q : part s at node_size ≡ replicate node_size 0 = sym (node_in s n in_room) ∙ b n (omega arith) in_room in
      ap (λ (x : ℕ). get_or s x 0) (sym k) ∙ sym (part_at s at node_size j (omega arith)) ∙ list_zeros _ node_size q j (omega arith) (omega arith)

-- ---- two buffers with the same bytes up to the size have the same records
module _ (s u : List ℕ) (same : (a n : ℕ) → a + n ≤ size_of (vars s) (room s) → part s a n ≡ part u a n) where
  pub alike_number : (k : ℕ) → head_n s k ≡ head_n u k
  unfolding head_n head_of
  alike_number k = ap (λ (h : List ℕ). u16 h (2 * k)) (same 0 header (omega arith))

  pub alike_cell : (x : ℕ) → x < vars s → cell_of s x ≡ cell_of u x
  unfolding cell_of
  alike_cell x h = same (cell_at x) cell_size (omega arith)

  pub alike_node : (n : ℕ) → n < room s → node_of s n ≡ node_of u n
  unfolding node_of
  alike_node n h = same (node_at (vars s) n) node_size (omega arith) ∙ ap (λ (v : ℕ). part u (node_at v n) node_size) (alike_number 0)

-- .. and the other way round
-- an element of equal parts
in_part : (s t : List ℕ) (a n j i : ℕ) → j < n → i ≡ a + j → part s a n ≡ part t a n → get_or s i 0 ≡ get_or t i 0
in_part s t a n j i l e q =
    rw e (sym (part_at s a n j l) ∙ ap (λ (p : List ℕ). get_or p j 0) q ∙ part_at t a n j l)

module _ (s t : List ℕ) (v : vars s ≡ vars t) (heads : head_of s ≡ head_of t)
    (same_cell : (x : ℕ) → x < vars s → cell_of s x ≡ cell_of t x) (same_node : (n : ℕ) → n < room s → node_of s n ≡ node_of t n) where
  -- every byte up to the size
  pub at_each : (i : ℕ) → i < size_of (vars s) (room s) → get_or s i 0 ≡ get_or t i 0
  unfolding head_of cell_of node_of
  at_each i h = go (dec_lt i header) (dec_lt i (node_at (vars s) 0))
    where
      go : Dec (i < header) → Dec (i < node_at (vars s) 0) → get_or s i 0 ≡ get_or t i 0
      go (yes a) b = in_part s t 0 header i i a (omega arith) heads
      go (no a) (yes b) =
          let x = (i - header) / cell_size in
          in_part s t (cell_at x) cell_size ((i - header) % cell_size) i (omega arith) (omega arith) (same_cell x (omega arith))
      go (no a) (no b) =
          let n = (i - node_at (vars s) 0) / node_size in
          in_part s t (node_at (vars s) n) node_size ((i - node_at (vars s) 0) % node_size) i (omega arith) (omega arith)
          (same_node n (omega arith) ∙ ap (λ (w : ℕ). part t (node_at w n) node_size) (sym v))
