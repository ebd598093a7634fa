-- What the writers of text promise: the text at a place of the lent buffer, all else as it was; and that one text behind
-- another is the two joined. Assumes nothing.
use Rattle.std.specs.Prelude.{◌≡◌, List, ◌++◌, ℕ, ◌+◌, ◌≤◌, length, take, drop}
use Rattle.std.proofs.Common.{sym, ap, ◌∙◌, append_assoc, arith, length-append, take_at, drop-drop, length-take-le}
use Rattle.std.proofs.Math.Seq.{drop-append-add}
use Rattle.print.specs.declared.writing.Pen.{Pen}

-- the text stands at the place at, the next place is behind it, and the other bytes are those of before
pub record Wrote (before : List ℕ) (at : ℕ) (text after : List ℕ) (next : ℕ) : Type 0 where
  pub place : next ≡ at + length text
  pub bytes : after ≡ take at before ++ (text ++ drop next before)

-- a pen writes the text where it stands, and stays on its line
pub record Adds (before : Pen) (text : List ℕ) (after : Pen) : Type 0 where
  pub same_line : after.line.ghost_name ≡ before.line.ghost_name
  pub on_line : before.at ≤ length before.line.now
  pub wrote : Wrote before.line.now before.at text after.line.now after.at

-- the place and the text give the buffer
pub wrote_one : {before text after after' : List ℕ} {at next next' : ℕ} → Wrote before at text after next →
    Wrote before at text after' next' → (after ≡ after') × (next ≡ next')
wrote_one {before} {text} {after} {after'} {at} {next} {next'} f g =
    let e : next ≡ next' = f.place ∙ sym g.place in
    (f.bytes ∙ rw e (sym g.bytes), e)

-- one text behind another
pub wrote_more : {before middle after s t : List ℕ} {at next last : ℕ} → at ≤ length before → Wrote before at s middle next →
    Wrote middle next t after last → Wrote before at (s ++ t) after last
wrote_more {before} {middle} {after} {s} {t} {at} {next} {last} h f g =
    record { place = end; bytes = g.bytes ∙ rw f.bytes (rw (front, rear) (simp append_assoc)) }
  where
    end : last ≡ at + length (s ++ t)
    end = rw length-append (omega (arith, f.place, g.place))

    short : length (take at before) ≡ at
    short = length-take-le at before h

    head : length (take at before ++ s) ≡ next
    head = rw (length-append, short) (sym f.place)

    joined : take at before ++ (s ++ drop next before) ≡ (take at before ++ s) ++ drop next before
    joined = sym (append_assoc (take at before) s (drop next before))

    front : take next (take at before ++ (s ++ drop next before)) ≡ take at before ++ s
    front = rw joined (take_at (take at before ++ s) (drop next before) next head)

    rear : drop last (take at before ++ (s ++ drop next before)) ≡ drop last before
    rear =
        ap (drop last) joined ∙ ap (λ (k : ℕ). drop k ((take at before ++ s) ++ drop next before)) (g.place ∙ ap (λ (k : ℕ). k + length t) (sym head))
        ∙ drop-append-add (take at before ++ s) (drop next before) (length t) ∙ drop-drop (length t) next before ∙ ap (λ (k : ℕ). drop k before) (sym g.place)

pub adds_then : {a b c : Pen} {s t : List ℕ} → Adds a s b → Adds b t c → Adds a (s ++ t) c
adds_then f g = record { same_line = g.same_line ∙ f.same_line; on_line = f.on_line; wrote = wrote_more f.on_line f.wrote g.wrote }
