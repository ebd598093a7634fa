-- A store of which it is refuted that it is not sound is sound: every clause of document 01's sentence can be tested.
-- A table says "Damaged does not apply", which is that refutation. Assumes nothing.
use Rattle.std.specs.Prelude.{◌≡◌, ◌⊎◌, ℕ, ◌≤◌, get_or}
use Rattle.std.proofs.Common.{inl, inr, ⊎_elim}
use Rattle.std.proofs.Math.Bool.{Bool-discrete}
use Rattle.std.proofs.Math.Option.{Option, none, some, discrete as option-discrete}
use Rattle.std.proofs.Math.Decide.{ℕ_discrete, dec_le}
use mathlib.Core.List.{List, List-discrete}
use Rattle.layout.specs.Records.{ProperCell, blank_cell, blank_node, kind_n}
use Rattle.rules.specs.Tree.{Tree}
use Rattle.rules.specs.World.{Walk}
use Rattle.rules.specs.Leg.{Handed, Walking}
use Rattle.layout.specs.Fields.{fields_of, focus_f}
use Rattle.layout.specs.View.{tree_f, walk_f}
use Rattle.layout.specs.Sound.{NodeOk, Whole, Sound}
use Rattle.layout.specs.Made.{IsMade}

between : (lo k hi : ℕ) → Dec ((lo ≤ k) × (k ≤ hi))
between lo k hi = go (dec_le lo k) (dec_le k hi)
  where
    go : Dec (lo ≤ k) → Dec (k ≤ hi) → Dec ((lo ≤ k) × (k ≤ hi))
    go (yes l) (yes h) = yes (l, h)
    go (yes l) (no h) = no (λ q. h q.1)
    go (no l) h = no (λ q. l q.0)

-- what follows from a P that is not refuted, and can be tested, holds
module _ {P : Type 0} (twice : (P → ⊥) → ⊥) where
  tested : {Q : Type 0} → Dec Q → (P → Q) → Q
  tested (yes q) f = q
  tested (no k) f = absurd (twice (λ p. k (f p)))

  lists : {xs ys : List ℕ} → (P → xs ≡ ys) → xs ≡ ys
  lists {xs} {ys} f = tested (List-discrete ℕ_discrete xs ys) f

  numbers : {a b : ℕ} → (P → a ≡ b) → a ≡ b
  numbers {a} {b} f = tested (ℕ_discrete a b) f

  at_most : {a b : ℕ} → (P → a ≤ b) → a ≤ b
  at_most {a} {b} f = tested (dec_le a b) f

  one_of : {A B : Type 0} → Dec A → Dec B → (P → A ⊎ B) → A ⊎ B
  one_of (yes a) b f = inl a
  one_of (no a) (yes b) f = inr b
  one_of (no a) (no b) f = absurd (twice (λ p. ⊎_elim a b (f p)))

  proper : {c : List ℕ} → (P → ProperCell c) → ProperCell c
  proper {c} f = one_of (List-discrete ℕ_discrete c blank_cell) (ℕ_discrete (get_or c 0 0) 1) f

  node_ok : {v n d : ℕ} {p : List ℕ} → (P → NodeOk v n d p) → NodeOk v n d p
  node_ok {v} {n} {d} {p} f = record {
    node = one_of (between 2 (kind_n p) 3) (between 4 (kind_n p) 5) (λ q. (f q).node);
    parent = at_most (λ q. (f q).parent);
    depth = numbers (λ q. (f q).depth);
    var = λ h. at_most (λ q. (f q).var h);
    zero = λ h. numbers (λ q. (f q).zero h);
    stored = λ h. proper (λ q. (f q).stored h);
    still = λ h. lists (λ q. (f q).still h);
  }

  blank_or_ok : {v n d : ℕ} {p : List ℕ} → (P → (p ≡ blank_node) ⊎ NodeOk v n d p) → (p ≡ blank_node) ⊎ NodeOk v n d p
  blank_or_ok {v} {n} {d} {p} f = go (List-discrete ℕ_discrete p blank_node)
    where
      go : Dec (p ≡ blank_node) → (p ≡ blank_node) ⊎ NodeOk v n d p
      go (yes e) = inl e
      go (no e) = inr (node_ok (λ q. ⊎_elim (λ b. absurd (e b)) (λ o. o) (f q)))

whole_stable : (s : List ℕ) → ((Whole s → ⊥) → ⊥) → Whole s
whole_stable s twice = record {
  long = at_most twice (λ p. p.long);
  fields = record {
    shape = record {
      head = record {
        vars_low = at_most twice (λ p. p.fields.shape.head.vars_low);
        vars_high = at_most twice (λ p. p.fields.shape.head.vars_high);
        room_low = at_most twice (λ p. p.fields.shape.head.room_low);
        room_high = at_most twice (λ p. p.fields.shape.head.room_high);
        made_low = at_most twice (λ p. p.fields.shape.head.made_low);
        made_high = at_most twice (λ p. p.fields.shape.head.made_high);
        focus_made = at_most twice (λ p. p.fields.shape.head.focus_made);
      };
      cells = λ x h. proper twice (λ p. p.fields.shape.cells x h);
      top = lists twice (λ p. p.fields.shape.top);
      nodes = λ n l h. blank_or_ok twice (λ p. p.fields.shape.nodes n l h);
      no_gap = λ n l h. (λ e. at_most twice (λ p. (p.fields.shape.no_gap n l h).0 e), λ m. lists twice (λ p. (p.fields.shape.no_gap n l h).1 m));
    };
    ins = λ n. tested twice (Bool-discrete _ _) (λ p. p.fields.ins n);
  };
}

handed_stable : (t : Tree) (f a : ℕ) (o : Option ℕ) → ((Handed t f a o → ⊥) → ⊥) → Handed t f a o
handed_stable t f a none twice = tt
handed_stable t f a (some c) twice =
    (tested twice (option-discrete ℕ_discrete _ _) (λ p. p.0), tested twice (Bool-discrete _ _) (λ p. p.1), numbers twice (λ p. p.2))

walking_stable : (t : Tree) (f : ℕ) (o : Option Walk) → ((Walking t f o → ⊥) → ⊥) → Walking t f o
walking_stable t f none twice = tt
walking_stable t f (some k) twice =
    (λ e. twice (λ p. p.0 e), handed_stable t f k.target k.handed (λ h. twice (λ p. h p.1)))

pub sound_stable : (s : List ℕ) → ((Sound s → ⊥) → ⊥) → Sound s
sound_stable s twice = record {
  whole = whole_stable s (λ k. twice (λ p. k p.whole));
  walk = record {
    walking = walking_stable (tree_f (fields_of s).node) (focus_f (fields_of s)) (walk_f (fields_of s)) (λ k. twice (λ p. k p.walk.walking));
    only = λ e. numbers twice (λ p. p.walk.only e);
  };
}

-- so is an environment of which it is refuted that it is not made
pub made_stable : (s : List ℕ) (a : ℕ) → ((IsMade s a → ⊥) → ⊥) → IsMade s a
unfolding IsMade
made_stable s a twice = tested twice (dec_le _ _) (λ p. p)
