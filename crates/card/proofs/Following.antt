-- The lines that may follow so many others: one line less, a line that may not stand there, and the verdict on the whole card.
-- Assumes nothing.
use mathlib.Core.Path.{◌≡◌, refl, sym, ap, subst, ◌∙◌}
use mathlib.Core.Logic.{inl, inr}
use Rattle.std.specs.Prelude.{Option, None, Some, Result, Ok, Err, ℤ}
use mathlib.Core.List.{List, [], ◌∷◌, ◌++◌, map}
use Prim.Native.Nat.{ℕ, zero, suc, ◌+◌, ◌-◌, ◌≤◌, ◌<◌}
use native.Mathlib.Omega.{arith}
use native.Mathlib.Decide.{dec_lt}
use lib.ListN.{length, drop}
use Rattle.text.specs.declared.line.Op.{Op}
use Rattle.text.specs.declared.line.Line.{Line}
use Rattle.text.specs.declared.line.Line.TheVariants.{Vars, Nodes, Room, Top, Do}
use Rattle.text.specs.Every.{All}
use Rattle.text.specs.Finds.{Finds, got}
use Rattle.text.specs.Limits.{max_bytes}
use Rattle.text.specs.Lines.{InRange, Leads}
use Rattle.card.specs.declared.check.BadLine.{BadLine}
use Rattle.card.specs.Cards.{Whole, Breaks, ruling, Checked}
use Rattle.card.specs.Judging.{Judged, MayStand, ops_from, Follow}
use Rattle.card.proofs.Rest.{bad_at, step, judged_iff, no_line, at_end, other_line}

-- ---- some lines may follow, however many stand before
tops_on : (m before ops : ℕ) → 3 ≤ before → ops ≤ before + m → (ls : List Line) × Follow before ops ls
tops_on zero before ops h g = ([], omega arith)
tops_on (suc m) before ops h g = go (dec_lt before ops) (tops_on m (before + 1) ops (omega arith) (omega arith))
  where
    go : Dec (before < ops) → (ls : List Line) × Follow (before + 1) ops ls → (ls : List Line) × Follow before ops ls
    go (yes p) (ls, f) = (Top None ∷ ls, (tt, (h, p), f))
    go (no p) (ls, f) = ([], omega arith)

some_from : (before ops : ℕ) → (ls : List Line) × Follow before ops ls
some_from zero ops =
    let (ls, f) = tops_on 1 3 4 (omega arith) (omega arith) in
    (Vars 1 ∷ Nodes 1 ∷ Room 0 ∷ ls, ((omega arith, omega arith), refl, ((omega arith, omega arith), refl, (omega arith, refl, f))))
some_from (suc zero) ops =
    let (ls, f) = tops_on ops 3 ops (omega arith) (omega arith) in
    (Nodes 1 ∷ Room 0 ∷ ls, ((omega arith, omega arith), refl, (omega arith, refl, f)))
some_from (suc (suc zero)) ops = let (ls, f) = tops_on ops 3 ops (omega arith) (omega arith) in (Room 0 ∷ ls, (omega arith, refl, f))
some_from (suc (suc (suc before))) ops = tops_on ops (suc (suc (suc before))) ops (omega arith) (omega arith)

-- ---- the next line
module _ {s : List ℕ} {before ops : ℕ} where
  module _ (more : s ≡ [] → ⊥) where
    pub none_follows : Finds (Leads s) None → Judged (Follow before ops) s before (bad_at (before + 1))
    none_follows = no_line (λ x ls f. f.0) (some_from before ops) (λ f. more)

    pub other_follows : {l : Line} {n : ℕ} → Finds (Leads s) (Some (l, n)) → (MayStand l before ops → ⊥) → Judged (Follow before ops) s before (bad_at (before + 1))
    other_follows {l} {n} f h = other_line (λ x ls f. f.0) (some_from before ops) (λ f. more) f (λ ls k. h k.1)

  pub follows : {l : Line} {n : ℕ} {r : Result (Unit {0}) BadLine} → Finds (Leads s) (Some (l, n)) → MayStand l before ops →
      Judged (Follow (before + 1) (ops_from l ops)) (drop n s) (before + 1) r → Judged (Follow before ops) s before r
  follows {l} {n} {r} f m j = step f (Follow before ops) (λ x ls f. f.0) (judged_iff (λ ls k. ((got f refl).range, m, k)) (λ ls k. k.2) j)

  -- the end of the card: too early, or not
  pub early : before < ops → s ≡ [] → Judged (Follow before ops) s before (bad_at (before + 1))
  early h e = at_end (λ x ls f. f.0) (some_from before ops) (λ f z. omega (arith, f)) e

  pub ends : ops ≤ before → s ≡ [] → Judged (Follow before ops) s before (Ok tt)
  ends h e =
      record {
        good = λ q. record { lines = []; whole = h; bytes = e };
        bad = λ m q. absurd (let z : ◌≡◌ {A = ℕ} 0 1 = cc in omega arith);
      }

-- ---- lines that follow none are a whole card: three headings
abbrev heading : ℕ → ℕ → Line
heading zero n = Vars n
heading (suc zero) n = Nodes n
heading (suc (suc before)) n = Room n

heading_at : (l : Line) (before ops : ℕ) → before < 3 → 3 ≤ ops → MayStand l before ops → (n : ℕ) × (l ≡ heading before n)
heading_at (Vars n) before ops h g m = (n, ap (λ (b : ℕ). heading b n) (sym m))
heading_at (Nodes n) before ops h g m = (n, ap (λ (b : ℕ). heading b n) (sym m))
heading_at (Room n) before ops h g m = (n, ap (λ (b : ℕ). heading b n) (sym m))
heading_at (Top c) before ops h g m = absurd (omega (arith, m.0))
heading_at (Do o) before ops h g m = absurd (omega (arith, m))

next_heading : (before ops : ℕ) (ls : List Line) → before < 3 → 3 ≤ ops → Follow before ops ls →
    (n : ℕ) × (rest : List Line) × (ls ≡ heading before n ∷ rest) × Follow (before + 1) (ops_from (heading before n) ops) rest
next_heading before ops [] h g f = absurd (omega arith)
next_heading before ops (l ∷ ls) h g f =
    let (n, e) = heading_at l before ops h g f.1 in
    (n, ls, ap (λ (x : Line). x ∷ ls) e, subst (λ (x : Line). Follow (before + 1) (ops_from x ops) ls) e f.2)

-- then top values and operations
body : (before ops : ℕ) (ls : List Line) → 3 ≤ before → Follow before ops ls →
    (ts : List (Option ℤ)) × (os : List Op) × (ls ≡ map Top ts ++ map Do os) × (length ts ≡ ops - before)
body before ops [] h f = ([], [], refl, omega arith)
body before ops (Vars n ∷ ls) h f = absurd (omega (arith, f.1))
body before ops (Nodes n ∷ ls) h f = absurd (omega (arith, f.1))
body before ops (Room n ∷ ls) h f = absurd (omega (arith, f.1))
body before ops (Top c ∷ ls) h f =
    let (ts, os, e, n) = body (before + 1) ops ls (omega arith) f.2 in
    (c ∷ ts, os, ap (λ (t : List Line). Top c ∷ t) e, omega (arith, n, f.1.1))
body before ops (Do o ∷ ls) h f = let (ts, os, e, n) = body (before + 1) ops ls (omega arith) f.2 in go ts os e n
  where
    go : (ts : List (Option ℤ)) (os : List Op) → ls ≡ map Top ts ++ map Do os → length ts ≡ ops - (before + 1) →
        (ts : List (Option ℤ)) × (os : List Op) × (Do o ∷ ls ≡ map Top ts ++ map Do os) × (length ts ≡ ops - before)
    go [] os e n = ([], o ∷ os, ap (λ (t : List Line). Do o ∷ t) e, omega (arith, f.1))
    go (t ∷ ts) os e n = absurd (omega (arith, n, f.1))

ranges : (before ops : ℕ) (ls : List Line) → Follow before ops ls → All InRange ls
ranges before ops [] f = tt
ranges before ops (l ∷ ls) f = (f.0, ranges (before + 1) (ops_from l ops) ls f.2)

to_whole : (ls : List Line) → Follow 0 3 ls → Whole ls
to_whole ls f =
    let (v, ls₁, e₁, f₁) = next_heading 0 3 ls (omega arith) (omega arith) f in
    let (n, ls₂, e₂, f₂) = next_heading 1 (3 + v) ls₁ (omega arith) (omega arith) f₁ in
    let (m, ls₃, e₃, f₃) = next_heading 2 (3 + v) ls₂ (omega arith) (omega arith) f₂ in
    let (ts, os, e, k) = body 3 (3 + v) ls₃ (omega arith) f₃ in
    record {
      vars = v;
      nodes = n;
      room = m;
      tops = ts;
      ops = os;
      order = e₁ ∙ ap (λ (t : List Line). Vars v ∷ t) (e₂ ∙ ap (λ (t : List Line). Nodes n ∷ t) (e₃ ∙ ap (λ (t : List Line). Room m ∷ t) e));
      count = omega (arith, k);
      range = ranges 0 3 ls f;
    }

-- and a whole card's lines follow none
ops_follow : (before ops : ℕ) (os : List Op) → ops ≤ before → All InRange (map Do os) → Follow before ops (map Do os)
ops_follow before ops [] h r = h
ops_follow before ops (o ∷ os) h r = (r.0, h, ops_follow (before + 1) ops os (omega arith) r.1)

tops_follow : (before ops : ℕ) (ts : List (Option ℤ)) (os : List Op) → 3 ≤ before → ops ≡ before + length ts → All InRange (map Top ts ++ map Do os) →
    Follow before ops (map Top ts ++ map Do os)
tops_follow before ops [] os h e r = ops_follow before ops os (omega arith) r
tops_follow before ops (t ∷ ts) os h e r = (r.0, (h, omega arith), tops_follow (before + 1) ops ts os (omega arith) (omega arith) r.1)

from_whole : (ls : List Line) → Whole ls → Follow 0 3 ls
from_whole ls w =
    let r = subst (All InRange) w.order w.range in
    let tops = tops_follow 3 (3 + w.vars) w.tops w.ops (omega arith) (omega (arith, w.count)) r.1.1.1 in
    subst (Follow 0 3) (sym w.order) (r.0, refl, (r.1.0, refl, (r.1.1.0, refl, tops)))

-- the verdict on the whole card: it is too long, or not
pub too_long : {s : List ℕ} → max_bytes < length s → Checked s (ruling (bad_at 0))
too_long {s} h = record { known = inr refl; good = λ e. absurd (omega (arith, e)); bad = λ e. h }

pub checked : {s : List ℕ} (r : Result (Unit {0}) BadLine) → length s ≤ max_bytes → Judged (Follow 0 3) s 0 r → Checked s (ruling r)
checked {s} r h j = go r (judged_iff to_whole from_whole j)
  where
    stopped_at : (n : ℕ) → Judged Whole s 0 (bad_at n) → Checked s (ruling (bad_at n))
    stopped_at zero j = absurd (omega (arith, (j.bad _ refl).1))
    stopped_at (suc n) j =
        let b = j.bad _ refl in
        let e : b.0 ≡ n = omega (arith, b.1) in
        record { known = inr refl; good = λ z. absurd (omega (arith, z)); bad = λ z. (h, subst (Breaks Whole s) e b.2) }

    go : (r : Result (Unit {0}) BadLine) → Judged Whole s 0 r → Checked s (ruling r)
    go (Ok u) j = record { known = inl refl; good = λ e. (h, j.good refl); bad = λ e. absurd (omega (arith, e)) }
    go (Err b) j = stopped_at b.0 j
