-- A line put on the page, a page filled, the pages handed on: each is the next part of the card's output. Assumes nothing.
use Rattle.std.specs.Prelude.{Some}
use mathlib.Core.Path.{◌≡◌, refl, sym, ap, subst, ◌∙◌}
use mathlib.Core.Logic.{◌⊎◌, inl, inr, ⊎_elim}
use mathlib.Core.Bool.{Bool, false}
use mathlib.Core.List.{List, [], ◌∷◌, ◌++◌, map, append_assoc, append-nil}
use Prim.Native.Nat.{ℕ, ◌+◌, ◌*◌, ◌≤◌, ◌<◌}
use native.Mathlib.Omega.{arith}
use native.Mathlib.Decide.{dec_le}
use lib.ListN.{length, take, drop, length-append, length-drop}
use lib.Seq.{length-take-le}
use Rattle.std.specs.Prelude.{Result, Ok, Err}
use Rattle.layout.specs.Limits.{event_size}
use Rattle.layout.specs.Bytes.{part}
use Rattle.layout.specs.Bytes.{Bytes}
use Rattle.text.specs.declared.line.Op.{Op}
use Rattle.text.specs.declared.line.Line.{Line}
use Rattle.text.specs.declared.line.Line.TheVariants.{Do}
use Rattle.text.specs.Finds.{Finds, Tells}
use Rattle.text.specs.Lines.{written, Leads}
use Rattle.print.specs.declared.Report.{Report}
use Rattle.print.specs.Printed.{op_line, bad_line, longest}
use Rattle.print.specs.Writing.{Wrote}
use Rattle.card.specs.Cards.{StopsAt, text}
use Rattle.card.specs.Running.{Ran}
use Rattle.play.specs.declared.progress.Progress.{Progress}
use Rattle.play.specs.Output.{event_text, events_text, Runs, Prints, bad, good, Leaves, finished, leaves_prints, Stands}
use Rattle.play.specs.Steps.{page_bytes, Ahead, SoFar, Ended, Ready, to_go, Told, Puts, Fills, HandedOn, AllOf, most_bytes, AllLeft}
use Rattle.play.proofs.Lines as lines
use Rattle.play.proofs.Texts.{grown, within, kept}
use Rattle.play.proofs.Running.{events_none, tell_next, run_next}

-- ---- one line
module _ {card : List ℕ} {p : Progress} {t page : List ℕ} (ready : Ready card t p) (fits : p.used + longest ≤ length page) where
  -- an event's
  pub told_puts : (s : List ℕ) {q : Progress} {page' : List ℕ} → 0 < p.left → Told p t page q page' → length page' ≡ length page → Puts card p s t page q s t page'
  told_puts s {q} {page'} h d long =
      subst (λ (x : Progress). Puts card p s t page x s t page') (sym d.progress)
      (record {
        ready = record { short = ready.short; few = ready.few; inside = ready.inside; counted = ready.counted; events = omega (arith, ready.events) };
        less = omega arith;
        within = within (omega arith) d.wrote long;
        line = event_text (part t (event_size * p.told) event_size);
        wrote = d.wrote;
        next = λ x f. tell_next f q.used h;
      })

  -- there is none, which no good card comes to
  pub stopped_puts : (s : List ℕ) → p.at < length card → ((x : List ℕ) → SoFar card x p s t → ⊥)
      → Puts card p s t page (record { at = length card; number = p.number; told = 0; left = 0; used = p.used }) s t page
  stopped_puts s h never =
      record {
        ready = record { short = ready.short; few = ready.few; inside = omega arith; counted = omega (arith, ready.counted); events = omega arith };
        less = omega arith;
        within = omega arith;
        line = [];
        wrote = kept page p.used;
        next = λ x f. absurd (never x f);
      }

  -- an operation's
  pub op_puts : {l : Line} {n : ℕ} {o : Op} {s s' t' page' : List ℕ} {r : Report} {u : ℕ}
      → Finds (Leads (drop p.at card)) (Some (l, n)) → l ≡ Do o → p.at < length card → p.left ≡ 0 → Ran (p.number + 1) o s t s' t' r
      → Bytes s' → r.events * event_size ≤ length t → length t' ≡ length t → Wrote page p.used (op_line r) page' u → length page' ≡ length page
      → Puts card p s t page (record { at = p.at + n; number = p.number + 1; told = 0; left = r.events; used = u }) s' t' page'
  op_puts {l} {n} {o} {s} {s'} {t'} {page'} {r} {u} f is h none ran memory room same w long =
      let m : (0 < n) × (p.at + n ≤ length card) = lines.within card p.at f ready.inside in
      record {
        ready = record {
          short = ready.short;
          few = omega (arith, ready.few, same);
          inside = m.1;
          counted = omega (arith, ready.counted, m.0);
          events = omega (arith, room, same);
        };
        less = omega (arith, m.0, m.1, room, ready.few);
        within = within (omega arith) w long;
        line = op_line r;
        wrote = w;
        next = λ x g. run_next g h f is none ran memory u;
      }

-- ---- a page
-- the page is filled so far
pub record Filling (card : List ℕ) (p : Progress) (s t : List ℕ) (q : Progress) (s' t' page : List ℕ) : Type 0 where
  pub ready : Ready card t' q
  pub moved : (to_go card q < to_go card p) ⊎ ((q.used ≡ 0) × (to_go card q ≡ to_go card p))
  pub long : length page ≡ page_bytes
  pub within : q.used ≤ length page
  pub next : (x : List ℕ) → SoFar card x p s t → SoFar card (x ++ take q.used page) q s' t'

pub filling_none : {card t page : List ℕ} {q : Progress} (s : List ℕ) → Ready card t q → q.used ≡ 0 → length page ≡ page_bytes → Filling card q s t q s t page
filling_none {card} {t} {page} {q} s ready empty long =
    record {
      ready = ready;
      moved = inr (empty, refl);
      long = long;
      within = omega arith;
      next = λ x f. subst (λ (y : List ℕ). SoFar card y q s t) (sym (ap (λ (n : ℕ). x ++ take n page) empty ∙ append-nil x)) f;
    }

module _ {card : List ℕ} {p q : Progress} {s t s' t' page : List ℕ} (f : Filling card p s t q s' t' page) where
  pub filling_more : {r : Progress} {s'' t'' page' : List ℕ} → Puts card q s' t' page r s'' t'' page' → length page' ≡ length page → Filling card p s t r s'' t'' page'
  filling_more {r} {s''} {t''} {page'} d same =
      record {
        ready = d.ready;
        moved = inl (⊎_elim (λ h. omega (arith, d.less, h)) (λ h. omega (arith, d.less, h.1)) f.moved);
        long = same ∙ f.long;
        within = omega (arith, d.within, same);
        next = λ x g. subst (λ (y : List ℕ). SoFar card y r s'' t'')
            (append_assoc x (take q.used page) d.line ∙ ap (λ (y : List ℕ). x ++ y) (sym (grown f.within d.wrote)))
            (d.next (x ++ take q.used page) (f.next x g));
      }

  -- nothing more goes on it
  pub filling_ends : {b : Bool} → b ≡ false → Tells b ((Ended card q → ⊥) × (q.used + longest ≤ page_bytes))
      → Fills card p s t q s' t' page
  filling_ends {b} e h =
      record { ready = f.ready; less = less; within = f.within; next = f.next }
    where
      go : to_go card q ≡ to_go card p → Dec (length card ≤ p.at) → Dec (p.left ≤ 0) → ((Ended card q → ⊥) → ⊥) → Ended card p ⊎ (to_go card q < to_go card p)
      go same (yes a) (yes b) never = inl (a, omega arith)
      go same (no a) d never = absurd (never (λ g. omega (arith, same, a, g.0, g.1)))
      go same (yes a) (no b) never = absurd (never (λ g. omega (arith, same, a, b, g.0, g.1)))

      less : Ended card p ⊎ (to_go card q < to_go card p)
      less = ⊎_elim (λ g. inr g) (λ g. go g.1 (dec_le (length card) p.at) (dec_le p.left 0) (λ d. h.fails e (d, omega (arith, g.0)))) f.moved

-- with other bytes of the page in use, all else is the same
module _ (p : Progress) (u : ℕ) where
  abbrev other : Progress
  other = record { at = p.at; number = p.number; told = p.told; left = p.left; used = u }

  pub ready_other : {card t : List ℕ} → Ready card t p → Ready card t other
  ready_other {card} {t} r = record { short = r.short; few = r.few; inside = r.inside; counted = r.counted; events = r.events }

  pub fills_other : {card s t s' t' page : List ℕ} {q : Progress} → Fills card other s t q s' t' page → Fills card p s t q s' t' page
  fills_other {card} {s} {t} {s'} {t'} {page} {q} f = record { ready = f.ready; less = f.less; within = f.within; next = λ x g. f.next x (so_far x g) }
    where
      so_far : (x : List ℕ) → SoFar card x p s t → SoFar card x other s t
      so_far x g = record { ops = g.ops; store = g.store; trace = g.trace; begins = g.begins; rest = g.rest; ahead = g.ahead; runs = g.runs }

-- ---- the pages
-- nothing is left to be printed
pub all_printed : {card x : List ℕ} {p : Progress} {s t : List ℕ} → SoFar card x p s t → Ended card p → Leaves card x s
all_printed {card} {x} {p} {s} {t} f d = go f.rest f.ahead f.runs
  where
    none_left : x ++ events_text t p.told p.left ≡ x
    none_left = ap (λ (y : List ℕ). x ++ y) (events_none t p.told p.left d.1) ∙ append-nil x

    go : (os : List Op) → Ahead card p.at (map Do os) → Runs 0 f.ops f.store f.trace (x ++ events_text t p.told p.left) p.number os s t → Leaves card x s
    go [] a g = finished f.begins (subst (λ (y : List ℕ). Runs 0 f.ops f.store f.trace y p.number [] s t) none_left g)
    go (o ∷ os) a g = absurd (omega (arith, d.0, length-drop p.at card, ap length a.bytes ∙ length-append (written (Do o)) (10 ∷ text (map Do os))))

-- what was printed last stands in the output
pub stands : {card : List ℕ} (before x : List ℕ) {p : Progress} {s t : List ℕ} {at : ℕ} → length before ≡ at → SoFar card (before ++ x) p s t → Stands card at x
stands {card} before x {p} {s} {t} {at} e f =
    record {
      before = before;
      behind = events_text t p.told p.left;
      rest = f.rest;
      place = e;
      prints = good f.begins (subst (λ (y : List ℕ). Runs 0 f.ops f.store f.trace y p.number f.rest s t) (append_assoc before x (events_text t p.told p.left)) f.runs);
    }

-- so many bytes were handed on, and they are what was printed so far
pub record Writing (card : List ℕ) (p₀ p : Progress) (s t : List ℕ) (done : ℕ) : Type 0 where
  pub ready : Ready card t p
  pub before : List ℕ
  pub count : length before ≡ done
  pub so_far : SoFar card before p s t
  pub bound : done + page_bytes * to_go card p ≤ page_bytes * to_go card p₀

pub writing_none : {card s t : List ℕ} {p : Progress} → Ready card t p → SoFar card [] p s t → Writing card p p s t 0
writing_none {card} {s} {t} {p} r f = record { ready = r; before = []; count = refl; so_far = f; bound = omega arith }

pub output_fits : {card s t t₀ : List ℕ} {p₀ p : Progress} {done : ℕ} → Writing card p₀ p s t done → Ready card t₀ p₀ → done ≤ most_bytes
output_fits w r = omega (arith, w.bound, r.short, r.few, r.events)

-- a line is left
pub some_left : (card : List ℕ) (p : Progress) → (Ended card p → ⊥) → p.left ≤ 0 → p.at < length card
some_left card p never none = go (dec_le (length card) p.at)
  where
    go : Dec (length card ≤ p.at) → p.at < length card
    go (yes h) = absurd (never (h, omega arith))
    go (no h) = omega arith

module _ {card : List ℕ} {p q : Progress} {s t s' t' page : List ℕ} (f : Fills card p s t q s' t' page) (goes : Ended card p → ⊥) where
  pub falls : to_go card q < to_go card p
  falls = ⊎_elim (λ d. absurd (goes d)) (λ h. h) f.less

  module _ {p₀ : Progress} {done : ℕ} (long : length page ≡ page_bytes) (w : Writing card p₀ p s t done) where
    pub page_fits : {t₀ : List ℕ} → Ready card t₀ p₀ → done + length (take q.used page) < 18446744073709551616
    page_fits {t₀} r =
        omega (arith, falls, w.bound, f.within, length-take-le q.used page f.within, r.short, r.few, r.events)

    pub page_stands : Stands card done (take q.used page)
    page_stands = stands w.before (take q.used page) w.count (f.next w.before w.so_far)

    pub writing_more : {next : ℕ} → next ≡ done + length (take q.used page) → Writing card p₀ q s' t' next
    writing_more {next} e =
        record {
          ready = f.ready;
          before = w.before ++ take q.used page;
          count = length-append w.before (take q.used page) ∙ omega (arith, w.count, e);
          so_far = f.next w.before w.so_far;
          bound = omega (arith, falls, w.bound, f.within, length-take-le q.used page f.within, e);
        }

-- a bad card's one line
pub bad_stands : {card x : List ℕ} (n : ℕ) → StopsAt card n → x ≡ bad_line n → Stands card 0 x
bad_stands {card} {x} n h e =
    record { before = []; behind = []; rest = []; place = refl; prints = subst (λ (y : List ℕ). Prints card [] y) (sym (append-nil x ∙ e)) (bad n h) }

-- ---- what was handed on
pub handed_all : {E : Type 0} {card x s : List ℕ} {n : ℕ} (r : Result ℕ E) → HandedOn n r → n ≡ length x → n ≤ longest → Leaves card x s → AllLeft card s r
handed_all {E} {card} {x} {s} {n} (Ok m) h e f p = (x, p, h ∙ e, omega (arith, h, f))
handed_all {E} {card} {x} {s} {n} (Err error) h e f p = tt

pub left_all : {E : Type 0} (card s : List ℕ) (r : Result ℕ E) → AllLeft card s r → AllOf card r
left_all card s (Ok m) h = (h.0, leaves_prints h.1, h.2)
left_all card s (Err error) h = tt
