-- The lines of a good card, read one by one: what the last of those read so far asks. Assumes nothing.
use mathlib.Core.Path.{◌≡◌, refl, sym, ap, subst, ◌∙◌}
use mathlib.Core.List.{List, [], ◌∷◌, ◌++◌, append_assoc, append-nil}
use Prim.Native.Nat.{ℕ, ◌+◌, ◌-◌, ◌≤◌, ◌<◌}
use native.Mathlib.Omega.{arith}
use lib.ListN.{length, take, drop, length-append, length-drop}
use Rattle.text.specs.declared.line.Line.{Line}
use Rattle.std.specs.Prelude.{None, Some, Result}
use Rattle.text.specs.Finds.{Finds}
use Rattle.text.specs.Lines.{written, Leads}
use Rattle.card.specs.Cards.{Whole, Passes, text}
use Rattle.play.specs.Steps.{Ahead}
use Rattle.card.specs.declared.check.BadLine.{BadLine}
use Rattle.card.proofs.Rest.{at_place}
use Rattle.play.proofs.Lines.{at_end, within, is_missing, is_found}
use Rattle.why.specs.declared.asked.Peek.{Peek}
use Rattle.why.specs.Asking.{asked_by, Asks, last}

-- some lines were read, and others stand ahead; the last that was read asks this, if any was read
pub record Reading (card : List ℕ) (g : Passes card) (at lines : ℕ) (asks : Result Peek BadLine) : Type 0 where
  pub front : List Line
  pub rest : List Line
  pub whole : g.1.lines ≡ front ++ rest
  pub count : lines ≡ length front
  pub low : lines ≤ at
  pub ahead : Ahead card at rest
  pub read : 1 ≤ lines → (before : List Line) × (l : Line) × (front ≡ before ++ (l ∷ [])) × (asks ≡ asked_by l lines)

pub reading_none : {card : List ℕ} (g : Passes card) (asks : Result Peek BadLine) → Reading card g 0 0 asks
reading_none {card} g asks =
    record {
      front = [];
      rest = g.1.lines;
      whole = refl;
      count = refl;
      low = omega arith;
      ahead = record { inside = omega arith; bytes = g.1.bytes; range = g.1.whole.range };
      read = λ h. absurd (omega arith);
    }

module _ {card : List ℕ} {g : Passes card} {at lines : ℕ} {asks : Result Peek BadLine} (r : Reading card g at lines asks) where
  -- at the end
  pub reading_ends : length card ≤ at → Asks card asks
  reading_ends h = go r.rest r.ahead r.whole
    where
      lines_some : (ls : List Line) → Whole ls → 1 ≤ length ls
      lines_some ls w = omega (arith, ap length w.order)

      go : (rest : List Line) → Ahead card at rest → g.1.lines ≡ r.front ++ rest → Asks card asks
      go (l ∷ rest) a e = absurd (omega (arith, ap length a.bytes ∙ length-append (written l) (10 ∷ text rest), length-drop at card))
      go [] a e =
          let all : g.1.lines ≡ r.front = e ∙ append-nil r.front in
          let (before, l, is, asked) = r.read (omega (arith, r.count, ap length all, lines_some g.1.lines g.1.whole)) in
          subst (Asks card) (sym (asked ∙ ap (asked_by l) (r.count ∙ sym (ap length all)))) (last g before l (all ∙ is))

  module _ (some_left : at < length card) where
    -- a line is there
    pub never_missing : Finds (Leads (take (length card - at) (drop at card))) None → ⊥
    never_missing found = go r.rest r.ahead
      where
        go : (ls : List Line) → Ahead card at ls → ⊥
        go [] a = at_end a some_left
        go (l ∷ ls) a = is_missing card at (at_place card at found) a

    module _ {l : Line} {n : ℕ} (found : Finds (Leads (take (length card - at) (drop at card))) (Some (l, n))) where
      pub further : (0 < n) × (at + n ≤ length card)
      further = within card at (at_place card at found) r.ahead.inside

      pub reading_more : Reading card g (at + n) (lines + 1) (asked_by l (lines + 1))
      reading_more = go r.rest r.ahead r.whole
        where
          go : (ls : List Line) → Ahead card at ls → g.1.lines ≡ r.front ++ ls → Reading card g (at + n) (lines + 1) (asked_by l (lines + 1))
          go [] a e = absurd (at_end a some_left)
          go (x ∷ ls) a e =
              let (same, further_ahead) = is_found card at (at_place card at found) a in
              record {
                front = r.front ++ (l ∷ []);
                rest = ls;
                whole = e ∙ ap (λ (y : Line). r.front ++ (y ∷ ls)) (sym same) ∙ sym (append_assoc r.front (l ∷ []) ls);
                count = omega (arith, r.count, length-append r.front (l ∷ []));
                low = omega (arith, r.low, further.0);
                ahead = further_ahead;
                read = λ h. (r.front, l, refl, refl);
              }
