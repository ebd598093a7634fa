-- Reading the lines of a card one by one: the line that is found at a place is the first of those that stand there. Assumes nothing.
use Rattle.std.specs.Prelude.{None, Some}
use mathlib.Core.Path.{◌≡◌, refl, sym, ap, ◌∙◌}
use mathlib.Core.List.{List, [], ◌∷◌, ◌++◌, append_assoc}
use Prim.Native.Nat.{ℕ, ◌+◌, ◌≤◌, ◌<◌}
use native.Mathlib.Omega.{arith}
use lib.ListN.{length, drop, length-append, length-drop}
use lib.Seq.{drop_at, drop-drop}
use Rattle.text.specs.declared.line.Line.{Line}
use Rattle.text.specs.Finds.{Finds, miss, gone, same}
use Rattle.text.specs.Lines.{written, Leads}
use Rattle.card.specs.Cards.{text}
use Rattle.card.proofs.Rest.{further}
use Rattle.play.specs.Steps.{Ahead}

-- there is no line past the end
pub past : (card : List ℕ) (at : ℕ) → length card < at → Finds (Leads (drop at card)) None
past card at h = miss (λ x l. omega (arith, ap length l.text ∙ length-append (written x.0) (10 ∷ l.rest), length-drop at card))

pub at_end : {card : List ℕ} {at : ℕ} → Ahead card at [] → at < length card → ⊥
at_end {card} {at} a h = omega (arith, ap length a.bytes, length-drop at card)

leads : {card : List ℕ} {at : ℕ} {x : Line} {ls : List Line} → Ahead card at (x ∷ ls) → Leads (drop at card) (x, length (written x) + 1)
leads {card} {at} {x} {ls} a = record { rest = text ls; text = a.bytes; range = a.range.0; size = refl }

-- the line that is found at a place
module _ (card : List ℕ) (at : ℕ) where
  pub within : {l : Line} {n : ℕ} → Finds (Leads (drop at card)) (Some (l, n)) → at ≤ length card → (0 < n) × (at + n ≤ length card)
  within {l} {n} f h = further card at h f

  pub is_missing : {x : Line} {ls : List Line} → Finds (Leads (drop at card)) None → Ahead card at (x ∷ ls) → ⊥
  is_missing {x} {ls} f a = gone f refl (leads a)

  pub is_found : {x l : Line} {ls : List Line} {n : ℕ} → Finds (Leads (drop at card)) (Some (l, n)) → Ahead card at (x ∷ ls)
      → (l ≡ x) × Ahead card (at + n) ls
  is_found {x} {l} {ls} {n} f a =
      let q : ◌≡◌ {A = Line × ℕ} (l, n) (x, length (written x) + 1) = same f refl (leads a) in
      let size : n ≡ length (written x) + 1 = ap (λ (b : Line × ℕ). b.1) q in
      let long : length (written x ++ (10 ∷ [])) ≡ n = length-append (written x) (10 ∷ []) ∙ sym size in (
        ap (λ (b : Line × ℕ). b.0) q,
        record {
          inside = (within f a.inside).1;
          bytes = sym (drop-drop n at card) ∙ ap (drop n) (a.bytes ∙ sym (append_assoc (written x) (10 ∷ []) (text ls)))
              ∙ drop_at (written x ++ (10 ∷ [])) (text ls) n long;
          range = a.range.1;
        },
      )
