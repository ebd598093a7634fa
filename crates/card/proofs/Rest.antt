-- The rest of a card: one line less, and a line that may not stand there. Assumes nothing.
use mathlib.Core.Path.{◌≡◌, refl, sym, ap, subst, ◌∙◌}
use Rattle.std.specs.Prelude.{Option, None, Some, Result, Err}
use mathlib.Core.List.{List, [], ◌∷◌, ◌++◌, append_assoc}
use Prim.Native.Nat.{ℕ, suc, ◌+◌, ◌-◌, ◌≤◌, ◌<◌}
use native.Mathlib.Omega.{arith}
use lib.ListN.{length, take, drop, length-append, length-drop}
use lib.Seq.{drop_at}
use Rattle.text.specs.declared.line.Line.{Line}
use Rattle.text.specs.Finds.{Finds, miss, got, gone, same}
use Rattle.text.specs.Lines.{written, InRange, Leads}
use Rattle.text.proofs.Cutting.{to_end}
use Rattle.card.specs.declared.check.BadLine.{BadLine}
use Rattle.card.specs.Cards.{Made, Opens, Breaks, text}
use Rattle.card.specs.Judging.{Judged}

-- the answer that a line is the first bad one
abbrev pub bad_at : ℕ → Result (Unit {0}) BadLine
bad_at n = Err (record { 0 = n })

-- ---- no text of a line is empty
filled : (l : Line) (t : List ℕ) → written l ++ (10 ∷ t) ≡ [] → ⊥
filled l t e = omega (arith, ap length e, length-append (written l) (10 ∷ t))

-- the good line that s begins with, and what is behind it
module _ {s : List ℕ} {l : Line} {n : ℕ} (f : Finds (Leads s) (Some (l, n))) where
  lead : Leads s (l, n)
  lead = got f refl

  behind : (t : List ℕ) → s ≡ written l ++ (10 ∷ t) → drop n s ≡ t
  behind t e =
      ap (drop n) (e ∙ sym (append_assoc (written l) (10 ∷ []) t))
      ∙ drop_at (written l ++ (10 ∷ [])) t n (length-append (written l) (10 ∷ []) ∙ sym lead.size)

  joined : s ≡ written l ++ (10 ∷ drop n s)
  joined = lead.text ∙ ap (λ (t : List ℕ). written l ++ (10 ∷ t)) (sym (behind lead.rest lead.text))

  enough : (0 < n) × (n ≤ length s)
  enough = (omega (arith, lead.size), omega (arith, lead.size, ap length lead.text ∙ length-append (written l) (10 ∷ lead.rest)))

  -- a text of in-range lines that is s begins with that line
  module _ (k : Line) (t : List ℕ) (r : InRange k) (e : s ≡ written k ++ (10 ∷ t)) where
    same_line : l ≡ k
    same_line = ap (λ (a : Line × ℕ). a.0) (same f refl (record { rest = t; text = e; range = r; size = refl }))

    same_rest : drop n s ≡ t
    same_rest = behind t (e ∙ ap (λ (x : Line). written x ++ (10 ∷ t)) (sym same_line))

  -- ---- one line less
  module _ (K : List Line → Type 0) (in_range : (x : Line) (ls : List Line) → K (x ∷ ls) → InRange x) where
    made_more : Made (λ ls. K (l ∷ ls)) (drop n s) → Made K s
    made_more m = record { lines = l ∷ m.lines; whole = m.whole; bytes = joined ∙ ap (λ (t : List ℕ). written l ++ (10 ∷ t)) m.bytes }

    made_less : Made K s → Made (λ ls. K (l ∷ ls)) (drop n s)
    made_less m = go m.lines m.whole m.bytes
      where
        go : (ls : List Line) → K ls → s ≡ text ls → Made (λ ls. K (l ∷ ls)) (drop n s)
        go [] w e = absurd (filled l (drop n s) (sym joined ∙ e))
        go (x ∷ ls) w e =
            record {
              lines = ls;
              whole = subst (λ (y : Line). K (y ∷ ls)) (sym (same_line x (text ls) (in_range x ls w) e)) w;
              bytes = same_rest x (text ls) (in_range x ls w) e;
            }

    opens_more : (k : ℕ) → Opens (λ ls. K (l ∷ ls)) (drop n s) k → Opens K s (suc k)
    opens_more k o =
        record {
          first = l ∷ o.first;
          more = o.more;
          rest = o.rest;
          whole = o.whole;
          count = ap suc o.count;
          bytes = joined ∙ ap (λ (t : List ℕ). written l ++ (10 ∷ t)) o.bytes ∙ sym (append_assoc (written l) (10 ∷ text o.first) o.rest);
        }

    opens_less : (k : ℕ) → Opens K s (suc k) → Opens (λ ls. K (l ∷ ls)) (drop n s) k
    opens_less k o = go o.first o.whole o.count o.bytes
      where
        go : (ls : List Line) → K (ls ++ o.more) → length ls ≡ suc k → s ≡ text ls ++ o.rest → Opens (λ ls. K (l ∷ ls)) (drop n s) k
        go [] w c e = absurd (omega (arith, c))
        go (x ∷ ls) w c e =
            let e' : s ≡ written x ++ (10 ∷ (text ls ++ o.rest)) = e ∙ append_assoc (written x) (10 ∷ text ls) o.rest in
            record {
              first = ls;
              more = o.more;
              rest = o.rest;
              whole = subst (λ (y : Line). K (y ∷ (ls ++ o.more))) (sym (same_line x (text ls ++ o.rest) (in_range x (ls ++ o.more) w) e')) w;
              count = omega (arith, c);
              bytes = same_rest x (text ls ++ o.rest) (in_range x (ls ++ o.more) w) e';
            }

    pub step : {before : ℕ} {r : Result (Unit {0}) BadLine} → Judged (λ ls. K (l ∷ ls)) (drop n s) (before + 1) r → Judged K s before r
    step {before} {r} j =
        record {
          good = λ e. made_more (j.good e);
          bad = λ m e. (let b = j.bad m e in (suc b.0, later b.0 b.1, breaks b.2));
        }
      where
        later : {m : ℕ} (k : ℕ) → m ≡ suc (before + 1 + k) → m ≡ suc (before + suc k)
        later {m} k e = omega arith

        breaks : {k : ℕ} → Breaks (λ ls. K (l ∷ ls)) (drop n s) k → Breaks K s (suc k)
        breaks {k} b =
            record { bad = λ m. b.bad (made_less m); before = opens_more k b.before; here = λ o. b.here (opens_less (suc k) o) }

-- ---- the line at a place, as the code lends the rest
pub at_place : (s : List ℕ) (at : ℕ) {r : Option (Line × ℕ)} → Finds (Leads (take (length s - at) (drop at s))) r → Finds (Leads (drop at s)) r
at_place s at {r} f = rw (to_end s at) at f

module _ (s : List ℕ) (at : ℕ) (h : at ≤ length s) {l : Line} {n : ℕ} (f : Finds (Leads (drop at s)) (Some (l, n))) where
  pub further : (0 < n) × (at + n ≤ length s)
  further = ((enough f).0, omega (arith, (enough f).1, length-drop at s))

-- ---- the line that stands next may not
module _ {K : List Line → Type 0} {s : List ℕ} (in_range : (x : Line) (ls : List Line) → K (x ∷ ls) → InRange x)
    (some_lines : (ls : List Line) × K ls) (no_end : K [] → s ≡ [] → ⊥) where
  stops : ((x : Line) (ls : List Line) (n : ℕ) → K (x ∷ ls) → Leads s (x, n) → ⊥) → Breaks K s 0
  stops next =
      record {
        bad = λ m. not_made m.lines m.whole m.bytes;
        before = record { first = []; more = some_lines.0; rest = s; whole = some_lines.1; count = refl; bytes = refl };
        here = λ o. not_opened o.more o.rest o.first o.whole o.count o.bytes;
      }
    where
      not_made : (ls : List Line) → K ls → s ≡ text ls → ⊥
      not_made [] w e = no_end w e
      not_made (x ∷ ls) w e = next x ls (length (written x) + 1) w (record { rest = text ls; text = e; range = in_range x ls w; size = refl })

      not_opened : (more : List Line) (rest : List ℕ) (ls : List Line) → K (ls ++ more) → length ls ≡ 1 → s ≡ text ls ++ rest → ⊥
      not_opened more rest [] w c e = omega (arith, c)
      not_opened more rest (x ∷ []) w c e =
          next x more (length (written x) + 1) w
          (record { rest = rest; text = e ∙ append_assoc (written x) (10 ∷ []) rest; range = in_range x more w; size = refl })
      not_opened more rest (x ∷ y ∷ ls) w c e = omega (arith, c)

  verdict : {before : ℕ} → Breaks K s 0 → Judged K s before (bad_at (before + 1))
  verdict {before} b =
      record {
        good = λ e. absurd (let z : ◌≡◌ {A = ℕ} 0 1 = cc in omega arith);
        bad = λ m e. (0, (let q : before + 1 ≡ m.0 = cc in omega arith), b);
      }

  pub no_line : {before : ℕ} → Finds (Leads s) None → Judged K s before (bad_at (before + 1))
  no_line {before} f = verdict (stops (λ x ls n w p. gone f refl p))

  -- nothing is left, and something was due
  pub at_end : {before : ℕ} → s ≡ [] → Judged K s before (bad_at (before + 1))
  at_end {before} e = no_line (miss (λ a p. filled a.0 p.rest (sym p.text ∙ e)))

  pub other_line : {before : ℕ} {l : Line} {n : ℕ} → Finds (Leads s) (Some (l, n)) → ((ls : List Line) → K (l ∷ ls) → ⊥) → Judged K s before (bad_at (before + 1))
  other_line {before} {l} {n} f h =
      verdict (stops (λ x ls k w p. h ls (subst (λ (y : Line). K (y ∷ ls)) (sym (ap (λ (a : Line × ℕ). a.0) (same f refl p))) w)))

-- ---- the same lines are whole
pub judged_iff : {K M : List Line → Type 0} {s : List ℕ} {before : ℕ} {r : Result (Unit {0}) BadLine} → ((ls : List Line) → K ls → M ls) →
    ((ls : List Line) → M ls → K ls) → Judged K s before r → Judged M s before r
judged_iff {K} {M} {s} {before} {r} f g j =
    record {
      good = λ e. made f (j.good e);
      bad = λ m e. (
          let b = j.bad m e in (
            b.0,
            b.1,
            record { bad = λ x. b.2.bad (made g x); before = opens f b.2.before; here = λ o. b.2.here (opens g o) },
          ));
    }
  where
    made : {K M : List Line → Type 0} → ((ls : List Line) → K ls → M ls) → Made K s → Made M s
    made {K} {M} f m = record { lines = m.lines; whole = f m.lines m.whole; bytes = m.bytes }

    opens : {K M : List Line → Type 0} {n : ℕ} → ((ls : List Line) → K ls → M ls) → Opens K s n → Opens M s n
    opens {K} {M} {n} f o =
        record { first = o.first; more = o.more; rest = o.rest; whole = f (o.first ++ o.more) o.whole; count = o.count; bytes = o.bytes }
