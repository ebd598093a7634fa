-- What is read after a write. The header, the cells and the nodes are apart, so each write changes one field of `Fields`,
-- the buffer keeps its length and the bytes past the size stay. Assumes nothing.
-- Of the laws, these, PlaceLaws and ByteLaws know the records' places, and RecordLaws the fields'.
use Rattle.std.specs.Prelude.{◌≡◌, ◌≢◌, ℕ, ◌+◌, ◌*◌, ◌≤◌, ◌<◌, List, eqb, length, drop, replicate}
use Rattle.std.proofs.Common.{sym, ◌∙◌, arith, lt-ltb, le-ltb, ne_eqb}
use Rattle.std.proofs.Math.Path.{ap, fun_ext}
use Rattle.std.proofs.Math.Bool.{cond}
use Rattle.std.proofs.Math.Decide.{dec_lt, ℕ_discrete}
use Rattle.rules.specs.Basic.{upd}
use Rattle.rules.proofs.Basic.{upd_same, upd_other, eqb_self}
use Rattle.layout.specs.Limits.{header, cell_size, node_size, cell_at, node_at, size_of}
use Rattle.layout.specs.Bytes.{part, u16, put16}
use Rattle.layout.proofs.Bytes.{part_length, splice_length, splice_same, splice_before, splice_after, splice_apart, splice_drop, put16_length, u16_same, u16_other}
use Rattle.layout.specs.Records.{head_of, head_n, with_head, with_made, with_focus, with_target, with_handed, vars, room, cell_of, with_cell, node_of, with_node, blank_node}
use Rattle.layout.specs.Fields.{Fields, vars_f, room_f, cells, nodes, fields_of, Fit, past}

-- ---- the records of a buffer
pub node_in : (s : List ℕ) (n : ℕ) → n < room s → nodes s n ≡ node_of s n
unfolding nodes
node_in s n h = simp (lt-ltb _ _ h)

pub node_past : (s : List ℕ) (n : ℕ) → room s ≤ n → nodes s n ≡ blank_node
unfolding nodes
node_past s n h = simp (le-ltb _ _ h)

pub cell_in : (s : List ℕ) (x : ℕ) → x < vars s → cells s x ≡ cell_of s x
unfolding cells
cell_in s x h = simp (lt-ltb _ _ h)

pub cell_past : (s : List ℕ) (x : ℕ) → vars s ≤ x → cells s x ≡ replicate cell_size 0
unfolding cells
cell_past s x h = simp (le-ltb _ _ h)

-- the fields are those of a buffer: records have their lengths, and past V and N they are blank
pub record OfBuffer (f : Fields) : Type 0 where
  pub node_long : (n : ℕ) → length (f.node n) ≡ node_size
  pub cell_long : (x : ℕ) → length (f.cell x) ≡ cell_size
  pub node_end : (n : ℕ) → room_f f ≤ n → f.node n ≡ blank_node
  pub cell_end : (x : ℕ) → vars_f f ≤ x → f.cell x ≡ replicate cell_size 0

node_part : (s : List ℕ) (n : ℕ) → Fit s → n < room s → length (node_of s n) ≡ node_size
unfolding node_of
node_part s n fit h = part_length s (node_at (vars s) n) node_size (omega arith)

cell_part : (s : List ℕ) (x : ℕ) → Fit s → x < vars s → length (cell_of s x) ≡ cell_size
unfolding cell_of
cell_part s x fit h = part_length s (cell_at x) cell_size (omega arith)

pub of_buffer : (s : List ℕ) → Fit s → OfBuffer (fields_of s)
unfolding fields_of blank_node
of_buffer s fit = record { node_long = λ n. node_long n (dec_lt n (room s)); cell_long = λ x. cell_long x (dec_lt x (vars s)); node_end = node_past s; cell_end = cell_past s }
  where
    node_long : (n : ℕ) → Dec (n < room s) → length (nodes s n) ≡ node_size
    node_long n (yes h) = ap length (node_in s n h) ∙ node_part s n fit h
    node_long n (no h) = ap length (node_past s n (omega arith))

    cell_long : (x : ℕ) → Dec (x < vars s) → length (cells s x) ≡ cell_size
    cell_long x (yes h) = ap length (cell_in s x h) ∙ cell_part s x fit h
    cell_long x (no h) = ap length (cell_past s x (omega arith))

-- ---- the header's numbers are those of its bytes
same_head : (s t : List ℕ) → head_of t ≡ head_of s → (k : ℕ) → head_n t k ≡ head_n s k
unfolding head_n
same_head s t e k = ap (λ h. u16 h (2 * k)) e

-- ---- the cells and the nodes as functions, from the records
same_cells : (s t : List ℕ) → vars t ≡ vars s → ((x : ℕ) → x < vars s → cell_of t x ≡ cell_of s x) → cells t ≡ cells s
same_cells s t v h = fun_ext λ x. go x (dec_lt x (vars s))
  where
    go : (x : ℕ) → Dec (x < vars s) → cells t x ≡ cells s x
    go x (yes l) = cell_in t x (omega arith) ∙ h x l ∙ sym (cell_in s x l)
    go x (no l) = cell_past t x (omega arith) ∙ sym (cell_past s x (omega arith))

same_nodes : (s t : List ℕ) → room t ≡ room s → ((n : ℕ) → n < room s → node_of t n ≡ node_of s n) → nodes t ≡ nodes s
same_nodes s t r h = fun_ext λ n. go n (dec_lt n (room s))
  where
    go : (n : ℕ) → Dec (n < room s) → nodes t n ≡ nodes s n
    go n (yes l) = node_in t n (omega arith) ∙ h n l ∙ sym (node_in s n l)
    go n (no l) = node_past t n (omega arith) ∙ sym (node_past s n (omega arith))

put_cells : (s t : List ℕ) (x : ℕ) (c : List ℕ) → vars t ≡ vars s → x < vars s → cell_of t x ≡ c → ((y : ℕ) → y ≢ x → cell_of t y ≡ cell_of s y) → cells t ≡ upd (cells s) x c
put_cells s t x c v l e h = fun_ext λ y. go y (ℕ_discrete y x) (dec_lt y (vars s))
  where
    go : (y : ℕ) → Dec (y ≡ x) → Dec (y < vars s) → cells t y ≡ upd (cells s) x c y
    go y (yes q) d = rw (q, upd_same) (cell_in t x (omega arith) ∙ e)
    go y (no q) (yes d) = cell_in t y (omega arith) ∙ h y q ∙ sym (cell_in s y d) ∙ sym (upd_other (cells s) x y c q)
    go y (no q) (no d) = cell_past t y (omega arith) ∙ sym (cell_past s y (omega arith)) ∙ sym (upd_other (cells s) x y c q)

put_nodes : (s t : List ℕ) (n : ℕ) (p : List ℕ) → room t ≡ room s → n < room s → node_of t n ≡ p → ((m : ℕ) → m ≢ n → node_of t m ≡ node_of s m) → nodes t ≡ upd (nodes s) n p
put_nodes s t n p r l e h = fun_ext λ m. go m (ℕ_discrete m n) (dec_lt m (room s))
  where
    go : (m : ℕ) → Dec (m ≡ n) → Dec (m < room s) → nodes t m ≡ upd (nodes s) n p m
    go m (yes q) d = rw (q, upd_same) (node_in t n (omega arith) ∙ e)
    go m (no q) (yes d) = node_in t m (omega arith) ∙ h m q ∙ sym (node_in s m d) ∙ sym (upd_other (nodes s) n m p q)
    go m (no q) (no d) = node_past t m (omega arith) ∙ sym (node_past s m (omega arith)) ∙ sym (upd_other (nodes s) n m p q)

-- ---- what a write leaves: these fields, the length, the bytes past the size
pub record Wrote (s t : List ℕ) (f : Fields) : Type 0 where
  pub fields : fields_of t ≡ f
  pub long : length t ≡ length s
  pub rest : past t ≡ past s

-- fields with one of them changed
abbrev pub node_f : ℕ → List ℕ → Fields → Fields
node_f n p f = record { head = f.head; cell = f.cell; node = upd f.node n p }

abbrev pub cell_f : ℕ → List ℕ → Fields → Fields
cell_f x c f = record { head = f.head; cell = upd f.cell x c; node = f.node }

abbrev head_f : ℕ → ℕ → Fields → Fields
head_f k v f = record { head = λ j. cond (eqb j k) v (f.head j); cell = f.cell; node = f.node }

abbrev pub made_to : ℕ → Fields → Fields
made_to = head_f 2

abbrev pub focus_to : ℕ → Fields → Fields
focus_to = head_f 3

abbrev pub target_to : ℕ → Fields → Fields
target_to = head_f 4

abbrev pub handed_to : ℕ → Fields → Fields
handed_to = head_f 5

-- the numbers of the header as fields
pub fields_number : (t : List ℕ) {f : Fields} → fields_of t ≡ f → (k : ℕ) → head_n t k ≡ f.head k
unfolding fields_of
fields_number t e k = ap (λ (g : Fields). g.head k) e

pub fields_vars : (t : List ℕ) {f : Fields} → fields_of t ≡ f → vars t ≡ vars_f f
fields_vars t e = fields_number t e 0

pub fields_room : (t : List ℕ) {f : Fields} → fields_of t ≡ f → room t ≡ room_f f
fields_room t e = fields_number t e 1

same_past : (s t : List ℕ) → vars t ≡ vars s → room t ≡ room s → drop (size_of (vars s) (room s)) t ≡ drop (size_of (vars s) (room s)) s → past t ≡ past s
unfolding past
same_past s t v r e = rw (v, r) e

-- ---- a node is replaced
module _ (s : List ℕ) (n : ℕ) (p : List ℕ) (fit : Fit s) (below : n < room s) (long : length p ≡ node_size) where
  head_node : head_of (with_node s n p) ≡ head_of s
  unfolding with_node head_of
  head_node = splice_before s p (node_at (vars s) n) node_size long (omega arith) 0 header (omega arith)

  head_by_node : (k : ℕ) → head_n (with_node s n p) k ≡ head_n s k
  head_by_node = same_head s (with_node s n p) head_node

  cell_node : (x : ℕ) → x < vars s → cell_of (with_node s n p) x ≡ cell_of s x
  unfolding with_node cell_of
  cell_node x h = splice_before s p (node_at (vars s) n) node_size long (omega arith) (cell_at x) cell_size (omega arith)

  node_same : node_of (with_node s n p) n ≡ p
  unfolding node_of with_node
  node_same =
      ap (λ (v : ℕ). part (with_node s n p) (node_at v n) node_size) (head_by_node 0)
      ∙ splice_same s p (node_at (vars s) n) node_size long (omega arith)

  node_other : (m : ℕ) → m ≢ n → node_of (with_node s n p) m ≡ node_of s m
  unfolding node_of with_node
  node_other m h =
      ap (λ (v : ℕ). part (with_node s n p) (node_at v m) node_size) (head_by_node 0)
      ∙ splice_apart s p (node_at (vars s) n) node_size (node_at (vars s) m) node_size long (omega arith) (λ a b. omega arith)

  node_length : length (with_node s n p) ≡ length s
  unfolding with_node
  node_length = splice_length s p (node_at (vars s) n) node_size long (omega arith)

  node_rest : past (with_node s n p) ≡ past s
  unfolding with_node
  node_rest =
      same_past s (with_node s n p) (head_by_node 0) (head_by_node 1)
      (splice_drop s p (node_at (vars s) n) node_size long (omega arith) (size_of (vars s) (room s)) (omega arith))

  pub wrote_node : Wrote s (with_node s n p) (node_f n p (fields_of s))
  unfolding fields_of
  wrote_node = record { fields = same; long = node_length; rest = node_rest }
    where
      same : fields_of (with_node s n p) ≡ node_f n p (fields_of s)
      same = λ i. record {
        head = fun_ext head_by_node i;
        cell = same_cells s (with_node s n p) (head_by_node 0) cell_node i;
        node = put_nodes s (with_node s n p) n p (head_by_node 1) below node_same node_other i;
      }

-- ---- a cell is replaced
module _ (s : List ℕ) (x : ℕ) (c : List ℕ) (fit : Fit s) (known : x < vars s) (long : length c ≡ cell_size) where
  head_cell : head_of (with_cell s x c) ≡ head_of s
  unfolding with_cell head_of
  head_cell = splice_before s c (cell_at x) cell_size long (omega arith) 0 header (omega arith)

  head_by_cell : (k : ℕ) → head_n (with_cell s x c) k ≡ head_n s k
  head_by_cell = same_head s (with_cell s x c) head_cell

  node_cell : (n : ℕ) → n < room s → node_of (with_cell s x c) n ≡ node_of s n
  unfolding node_of with_cell
  node_cell n l =
      ap (λ (v : ℕ). part (with_cell s x c) (node_at v n) node_size) (head_by_cell 0)
      ∙ splice_after s c (cell_at x) cell_size long (omega arith) (node_at (vars s) n) node_size (omega arith)

  cell_same : cell_of (with_cell s x c) x ≡ c
  unfolding cell_of with_cell
  cell_same = splice_same s c (cell_at x) cell_size long (omega arith)

  cell_other : (y : ℕ) → y ≢ x → cell_of (with_cell s x c) y ≡ cell_of s y
  unfolding cell_of with_cell
  cell_other y h = splice_apart s c (cell_at x) cell_size (cell_at y) cell_size long (omega arith) (λ a b. omega arith)

  cell_length : length (with_cell s x c) ≡ length s
  unfolding with_cell
  cell_length = splice_length s c (cell_at x) cell_size long (omega arith)

  cell_rest : past (with_cell s x c) ≡ past s
  unfolding with_cell
  cell_rest =
      same_past s (with_cell s x c) (head_by_cell 0) (head_by_cell 1)
      (splice_drop s c (cell_at x) cell_size long (omega arith) (size_of (vars s) (room s)) (omega arith))

  pub wrote_cell : Wrote s (with_cell s x c) (cell_f x c (fields_of s))
  unfolding fields_of
  wrote_cell = record { fields = same; long = cell_length; rest = cell_rest }
    where
      same : fields_of (with_cell s x c) ≡ cell_f x c (fields_of s)
      same = λ i. record {
        head = fun_ext head_by_cell i;
        cell = put_cells s (with_cell s x c) x c (head_by_cell 0) known cell_same cell_other i;
        node = same_nodes s (with_cell s x c) (head_by_cell 1) node_cell i;
      }

-- ---- the header's number k, behind V and N, is replaced by v: the others, the cells and the nodes stay
module _ (s : List ℕ) (k v : ℕ) (fit : Fit s) (clear : 2 ≤ k) (inside : 2 * k + 2 ≤ header) where
  abbrev headed : List ℕ
  headed = with_head s k v

  abbrev bytes : List ℕ
  bytes = put16 (head_of s) (2 * k) v

  head_length : length bytes ≡ header
  unfolding head_of
  head_length = put16_length (part s 0 header) (2 * k) v ∙ part_length s 0 header (omega arith)

  head_is : head_of headed ≡ bytes
  unfolding with_head head_of
  head_is = splice_same s bytes 0 header head_length (omega arith)

  head_number : (j : ℕ) → head_n headed j ≡ cond (eqb j k) v (head_n s j)
  unfolding head_n head_of
  head_number j = ap (λ h. u16 h (2 * j)) head_is ∙ go (ℕ_discrete j k)
    where
      go : Dec (j ≡ k) → u16 bytes (2 * j) ≡ cond (eqb j k) v (u16 (head_of s) (2 * j))
      go (yes e) = rw (e, eqb_self k) (u16_same (head_of s) (2 * k) v (omega (arith, part_length s 0 header (omega arith))))
      go (no e) = rw (ne_eqb j k e) (u16_other (head_of s) (2 * k) v (2 * j) (λ a b. e (omega arith)))

  head_before : (j : ℕ) → j < 2 → head_n headed j ≡ head_n s j
  head_before j l = head_number j ∙ rw (ne_eqb j k (λ e. omega arith))

  abbrev head_vars : vars headed ≡ vars s
  head_vars = head_before 0 (omega arith)

  abbrev head_room : room headed ≡ room s
  head_room = head_before 1 (omega arith)

  head_cells : (x : ℕ) → cell_of headed x ≡ cell_of s x
  unfolding cell_of with_head
  head_cells x = splice_after s bytes 0 header head_length (omega arith) (cell_at x) cell_size (omega arith)

  head_nodes : (n : ℕ) → node_of headed n ≡ node_of s n
  unfolding node_of with_head
  head_nodes n =
      ap (λ (w : ℕ). part headed (node_at w n) node_size) head_vars
      ∙ splice_after s bytes 0 header head_length (omega arith) (node_at (vars s) n) node_size (omega arith)

  head_rest : past headed ≡ past s
  unfolding with_head
  head_rest =
      same_past s headed head_vars head_room
      (splice_drop s bytes 0 header head_length (omega arith) (size_of (vars s) (room s)) (omega arith))

  wrote_head : Wrote s headed (head_f k v (fields_of s))
  unfolding fields_of with_head
  wrote_head = record {
    fields = λ i. record {
      head = fun_ext head_number i;
      cell = same_cells s headed head_vars (λ x h. head_cells x) i;
      node = same_nodes s headed head_room (λ n h. head_nodes n) i;
    };
    long = splice_length s bytes 0 header head_length (omega arith);
    rest = head_rest;
  }

module _ (s : List ℕ) (v : ℕ) (fit : Fit s) where
  pub wrote_made : Wrote s (with_made s v) (made_to v (fields_of s))
  wrote_made = wrote_head s 2 v fit (omega arith) (omega arith)

  pub wrote_focus : Wrote s (with_focus s v) (focus_to v (fields_of s))
  wrote_focus = wrote_head s 3 v fit (omega arith) (omega arith)

  pub wrote_target : Wrote s (with_target s v) (target_to v (fields_of s))
  wrote_target = wrote_head s 4 v fit (omega arith) (omega arith)

  pub wrote_handed : Wrote s (with_handed s v) (handed_to v (fields_of s))
  wrote_handed = wrote_head s 5 v fit (omega arith) (omega arith)

-- ---- writes in a row
pub wrote_fit : {s t : List ℕ} {f : Fields} → Wrote s t f → vars_f f ≡ vars s → room_f f ≡ room s → Fit s → Fit t
wrote_fit {s} {t} w v r fit =
    let vars = fields_vars t w.fields in
    let room = fields_room t w.fields in record { v = omega arith; n = omega arith; long = omega (arith, w.long) }

pub then : {s t u : List ℕ} {f g : Fields} → Wrote s t f → Wrote t u g → Wrote s u g
then a b = record { fields = b.fields; long = b.long ∙ a.long; rest = b.rest ∙ a.rest }
