-- The top values of a card, one by one, as top cells one behind the other. Assumes nothing.
use Rattle.std.specs.Prelude.{Option, None, Some, ℤ}
use mathlib.Core.Path.{◌≡◌, refl, sym, ap, ◌∙◌}
use mathlib.Core.List.{List, [], ◌∷◌, ◌++◌, map, append_assoc, append-nil}
use Prim.Native.Nat.{ℕ, ◌+◌, ◌*◌, ◌/◌, ◌≤◌, ◌<◌}
use native.Mathlib.Omega.{arith}
use lib.ListN.{length, take, drop, length-append}
use lib.Seq.{take_at, take_all, length-take-le}
use Rattle.layout.specs.Limits.{bare_size}
use Rattle.text.specs.declared.line.Line.{Line}
use Rattle.text.specs.declared.line.Line.TheVariants.{Top}
use Rattle.text.specs.Finds.{Finds}
use Rattle.text.specs.Lines.{Leads}
use Rattle.card.specs.Tops.{cell_b, cell_long}
use Rattle.play.specs.Output.{tops_b}
use Rattle.play.specs.Steps.{Ahead}
use Rattle.play.proofs.Lines.{is_missing, is_found}

tops_more : (cs : List (Option ℤ)) (c : Option ℤ) → tops_b (cs ++ (c ∷ [])) ≡ tops_b cs ++ cell_b c
unfolding tops_b
tops_more [] c = append-nil (cell_b c)
tops_more (b ∷ cs) c = ap (λ (t : List ℕ). cell_b b ++ t) (tops_more cs c) ∙ sym (append_assoc (cell_b b) (tops_b cs) (cell_b c))

-- one cell more, in the place of what stood there
cell_put : {cell : List ℕ} (tops rest : List ℕ) (x : ℕ) (c : Option ℤ) → x < length tops / bare_size → cell ≡ cell_b c
    → take (bare_size * (x + 1)) (take (bare_size * x) tops ++ (cell ++ rest)) ≡ take (bare_size * x) tops ++ cell_b c
cell_put {cell} tops rest x c h is =
    let held : length (take (bare_size * x) tops) ≡ bare_size * x = length-take-le (bare_size * x) tops (omega (arith, h)) in
    let long : length (take (bare_size * x) tops ++ cell_b c) ≡ bare_size * (x + 1) = length-append (take (bare_size * x) tops) (cell_b c) ∙ omega (arith, held, cell_long c) in
    rw is
    (ap (take (bare_size * (x + 1))) (sym (append_assoc (take (bare_size * x) tops) (cell_b c) rest))
    ∙ take_at (take (bare_size * x) tops ++ cell_b c) rest (bare_size * (x + 1)) long)

top_inj : {c d : Option ℤ} → Top c ≡ Top d → c ≡ d
top_inj {c} {d} e = cc

-- the first x of the top values cs are cells, the others stand ahead, and the lines ls behind them
pub record Taken (cs : List (Option ℤ)) (ls : List Line) (card : List ℕ) (at x : ℕ) (tops : List ℕ) : Type 0 where
  pub done : List (Option ℤ)
  pub todo : List (Option ℤ)
  pub all : cs ≡ done ++ todo
  pub count : length done ≡ x
  pub bytes : take (bare_size * x) tops ≡ tops_b done
  pub ahead : Ahead card at (map Top todo ++ ls)

pub taken_none : {cs : List (Option ℤ)} {ls : List Line} {card : List ℕ} {at : ℕ} (tops : List ℕ) → Ahead card at (map Top cs ++ ls) → Taken cs ls card at 0 tops
unfolding tops_b
taken_none {cs} {ls} {card} {at} tops a = record { done = []; todo = cs; all = refl; count = refl; bytes = refl; ahead = a }

module _ {cs : List (Option ℤ)} {ls : List Line} {card : List ℕ} {at x : ℕ} {tops : List ℕ} (k : Taken cs ls card at x tops) where
  none_todo : (todo : List (Option ℤ)) → cs ≡ k.done ++ todo → todo ≡ [] → x < length cs → ⊥
  none_todo todo e n h = omega (arith, k.count, h, ap length e ∙ length-append k.done todo, ap length n)

  module _ (some_left : x < length cs) where
    top_there : Finds (Leads (drop at card)) None → ⊥
    top_there found = go k.todo k.all k.ahead
      where
        go : (todo : List (Option ℤ)) → cs ≡ k.done ++ todo → Ahead card at (map Top todo ++ ls) → ⊥
        go [] q a = none_todo [] q refl some_left
        go (c ∷ todo) q a = is_missing card at found a

    is_top : {l : Line} {n : ℕ} → Finds (Leads (drop at card)) (Some (l, n)) → (c : Option ℤ) × (l ≡ Top c)
    is_top {l} {n} found = go k.todo k.all k.ahead
      where
        go : (todo : List (Option ℤ)) → cs ≡ k.done ++ todo → Ahead card at (map Top todo ++ ls) → (c : Option ℤ) × (l ≡ Top c)
        go [] q a = absurd (none_todo [] q refl some_left)
        go (c ∷ todo) q a = (c, (is_found card at found a).0)

    -- so no other answer comes
    pub no_other : {r : Option (Line × ℕ)} → Finds (Leads (drop at card)) r → ((c : Option ℤ) (n : ℕ) → r ≡ Some (Top c, n) → ⊥) → ⊥
    no_other {r} found h = go r found h
      where
        go : (r : Option (Line × ℕ)) → Finds (Leads (drop at card)) r → ((c : Option ℤ) (n : ℕ) → r ≡ Some (Top c, n) → ⊥) → ⊥
        go None found h = top_there found
        go (Some a) found h = let (c, e) = is_top found in h c a.1 (ap (λ (l : Line). Some (l, a.1)) e)

    pub taken_more : {l : Line} {n : ℕ} {c : Option ℤ} {cell : List ℕ} (rest : List ℕ) → Finds (Leads (drop at card)) (Some (l, n)) → l ≡ Top c
        → x < length tops / bare_size → cell ≡ cell_b c
        → Taken cs ls card (at + n) (x + 1) (take (bare_size * x) tops ++ (cell ++ rest))
    taken_more {l} {n} {c} {cell} rest found is fits put = go k.todo k.all k.ahead
      where
        go : (todo : List (Option ℤ)) → cs ≡ k.done ++ todo → Ahead card at (map Top todo ++ ls) → Taken cs ls card (at + n) (x + 1) (take (bare_size * x) tops ++ (cell ++ rest))
        go [] q a = absurd (none_todo [] q refl some_left)
        go (d ∷ todo) q a =
            let same : c ≡ d = top_inj (sym is ∙ (is_found card at found a).0) in
            record {
              done = k.done ++ (d ∷ []);
              todo = todo;
              all = q ∙ sym (append_assoc k.done (d ∷ []) todo);
              count = length-append k.done (d ∷ []) ∙ omega (arith, k.count);
              bytes = cell_put tops rest x d fits (put ∙ ap cell_b same)
                  ∙ ap (λ (t : List ℕ). t ++ cell_b d) k.bytes ∙ sym (tops_more k.done d);
              ahead = (is_found card at found a).1;
            }

  -- all of them
  pub taken_all : bare_size * length cs ≡ length tops → length tops / bare_size ≤ x → (tops ≡ tops_b cs) × Ahead card at ls
  taken_all long over = go k.todo k.all k.ahead
    where
      go : (todo : List (Option ℤ)) → cs ≡ k.done ++ todo → Ahead card at (map Top todo ++ ls) → (tops ≡ tops_b cs) × Ahead card at ls
      go [] q a = (
        sym (take_all (bare_size * x) tops (omega (arith, over))) ∙ k.bytes ∙ ap tops_b (sym (q ∙ append-nil k.done)),
        a,
      )
      go (c ∷ todo) q a = absurd (omega (arith, k.count, long, over, ap length q ∙ length-append k.done (c ∷ todo)))
