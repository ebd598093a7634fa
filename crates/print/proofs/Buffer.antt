-- A buffer that is written from its last byte on. Assumes nothing.
use mathlib.Core.Path.{◌≡◌, ◌∙◌}
use mathlib.Core.List.{List, [], ◌∷◌, ◌++◌, append_assoc}
use Prim.Native.Nat.{ℕ, suc, ◌<◌}
use native.Mathlib.Omega.{arith}
use lib.ListN.{length, drop, set, length-append}
use lib.Seq.{drop-set-lt, drop-cons, get_or-set_same, lt-length-set}
use Rattle.print.specs.declared.writing.Pen.{Pen}
use Rattle.print.specs.Writing.{Wrote, Adds}

-- what the buffer is to hold in the end, with a text still to be written at its front
abbrev pub finished : List ℕ → List ℕ → List ℕ
finished out todo = todo ++ drop (length todo) out

-- the last byte of that text is written at q: the text before it is still to be written
pub stored_last : (out todo : List ℕ) (b q : ℕ) → q ≡ length todo → q < length out → finished (set out q b) todo ≡ finished out (todo ++ (b ∷ []))
stored_last out todo b q e h =
    let f : length (todo ++ (b ∷ [])) ≡ suc q = rw length-append (omega arith) in
    let g : drop q (set out q b) ≡ b ∷ drop (suc q) out = drop-cons (set out q b) q 0 (lt-length-set out q b h) ∙ rw (get_or-set_same out q b 0 h, drop-set-lt (suc q) out q b (omega arith)) in
    rw (← e, f, g, append_assoc)

-- the same text in other words
pub reworded : {before s t after : List ℕ} {at next : ℕ} → s ≡ t → Wrote before at s after next → Wrote before at t after next
reworded {before} {s} {t} {after} {at} {next} e f = rw e at f

pub retold : {a b : Pen} {s t : List ℕ} → s ≡ t → Adds a s b → Adds a t b
retold {a} {b} {s} {t} e f = rw e at f
