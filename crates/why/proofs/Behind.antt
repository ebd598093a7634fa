-- One text behind another, wherever the first begins. Assumes nothing.
use Rattle.std.specs.Prelude.{◌≡◌, List, [], ◌++◌, ℕ, ◌+◌, ◌≤◌, ◌<◌, length, take}
use Rattle.std.proofs.Common.{sym, ap, ◌∙◌, append_assoc, arith, length-append, take-append-drop}
use Rattle.std.proofs.Math.Decide.{dec_le}
use Rattle.std.proofs.Math.ListN.{drop_of_length-le}
use Rattle.std.proofs.lemmas.List.{append-nil}
use Rattle.print.specs.Writing.{Wrote, wrote_more}

-- where the place is behind the buffer's end nothing is behind the texts
take_all : (i : ℕ) (l : List ℕ) → length l ≤ i → take i l ≡ l
take_all i l h = sym (append-nil (take i l)) ∙ ap (λ (d : List ℕ). take i l ++ d) (sym (drop_of_length-le l h)) ∙ take-append-drop i l

wrote_behind : {before middle after s t : List ℕ} {at next last : ℕ} → length before < at → Wrote before at s middle next →
    Wrote middle next t after last → Wrote before at (s ++ t) after last
wrote_behind {before} {middle} {after} {s} {t} {at} {next} {last} h f g =
    record { place = end; bytes = alone ∙ rw (take_all at before (omega arith), drop_of_length-le before {i = last} (omega (arith, f.place, g.place)), whole) (simp (append-nil, append_assoc)) }
  where
    end : last ≡ at + length (s ++ t)
    end = rw length-append (omega (arith, f.place, g.place))

    whole : middle ≡ before ++ (s ++ [])
    whole = f.bytes ∙ rw (take_all at before (omega arith), drop_of_length-le before {i = next} (omega (arith, f.place)))

    long : length middle ≤ next
    long = rw (whole, append-nil, length-append) (omega (arith, f.place))

    alone : after ≡ middle ++ (t ++ [])
    alone = g.bytes ∙ rw (take_all next middle long, drop_of_length-le middle {i = last} (omega (arith, long, g.place)))

-- one text behind another, wherever the first begins
pub wrote_then : {before middle after s t : List ℕ} {at next last : ℕ} → Wrote before at s middle next → Wrote middle next t after last
    → Wrote before at (s ++ t) after last
wrote_then {before} {at} f g = elim (dec_le at (length before)) [ yes h ↦ wrote_more h f g | no n ↦ wrote_behind (omega arith) f g ]
