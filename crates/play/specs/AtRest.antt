-- A good card's operations run on a sound store with no walk under way: open is handed what it asks for, and no operation begins a
-- walk (document 02, W5). So document 01's "the lowest number that applies" is said of every line (`ran_lowest`). Assumes nothing.
use Rattle.std.specs.Prelude.{◌≡◌, refl, List, [], ◌∷◌, ◌++◌, map, ℕ, zero, suc, ◌+◌, ◌*◌, ◌<◌, length, ℤ, Option, None, Some}
use Rattle.std.proofs.Common.{sym, ap, subst, ◌∙◌, inl, inr, arith, length-append}
use Rattle.std.proofs.Math.Option.{none}
use Rattle.std.proofs.Math.Decide.{ℕ_discrete}
use Rattle.layout.specs.Limits.{none_n, bare_size}
use Rattle.layout.specs.Bytes.{part}
use Rattle.layout.proofs.Bytes.{part_right}
use Rattle.layout.specs.Records.{target, value_c, bare_c, top_c, ProperCell}
use Rattle.layout.specs.Fields.{fields_of}
use Rattle.layout.specs.View.{walk_of}
use Rattle.layout.proofs.StrideLaws.{with_target_lem}
use Rattle.promises.specs.Tables.{Lowest}
use Rattle.promises.specs.Promises.{damaged_row, Openable, Opened}
use Rattle.promises.specs.Calls.{table}
use Rattle.promises.proofs.Calls.{opens}
use Rattle.text.specs.declared.line.Op.{Op}
use Rattle.text.specs.declared.line.Line.TheVariants.{Vars, Nodes, Room, Top, Do}
use Rattle.text.specs.Every.{All}
use Rattle.text.specs.Lines.{InRange}
use Rattle.print.specs.declared.Report.{Report}
use Rattle.card.specs.Cards.{Whole}
use Rattle.card.specs.Running.{call_of, Ran}
use Rattle.card.specs.Tops.{cell_b, cell_long}
use Rattle.card.specs.AtRest.{AtRest, ran_rest, ran_lowest}
use Rattle.play.specs.Output.{tops_b, Runs, stay, step, Begins}

-- ---- the top cells of a card are good
tops_long : (cs : List (Option ℤ)) → length (tops_b cs) ≡ bare_size * length cs
unfolding tops_b
tops_long [] = refl
tops_long (c ∷ cs) = length-append (cell_b c) (tops_b cs) ∙ omega (arith, cell_long c, tops_long cs)

-- behind one cell the others stand as they stood
tops_behind : (c : Option ℤ) (cs : List (Option ℤ)) (x : ℕ) → top_c (tops_b (c ∷ cs)) (suc x) ≡ top_c (tops_b cs) x
unfolding tops_b top_c
tops_behind c cs x =
    let at : bare_size * suc x ≡ length (cell_b c) + bare_size * x = omega (arith, cell_long c) in
    ap bare_c (ap (λ (k : ℕ). part (cell_b c ++ tops_b cs) k bare_size) at ∙ part_right (cell_b c) (tops_b cs) (bare_size * x) bare_size)

tops_proper : (cs : List (Option ℤ)) (x : ℕ) → x < length cs → ProperCell (top_c (tops_b cs) x)
unfolding tops_b cell_b value_c top_c bare_c part
tops_proper [] x h = absurd (omega arith)
tops_proper (Some v ∷ cs) zero h = inr refl
tops_proper (None ∷ cs) zero h = inl refl
tops_proper (c ∷ cs) (suc x) h = subst ProperCell (sym (tops_behind c cs x)) (tops_proper cs x (omega arith))

-- ---- so open is done, with no walk under way
rests : (s : List ℕ) → walk_of s ≡ none → target s ≡ none_n
unfolding walk_of fields_of
rests s e = go (ℕ_discrete (target s) none_n)
  where
    go : Dec (target s ≡ none_n) → target s ≡ none_n
    go (yes h) = h
    go (no h) = absurd (let walks = with_target_lem (fields_of s) h in let z : ◌≡◌ {A = ℕ} 0 1 = cc in omega arith)

module _ {card : List ℕ} {ops : List Op} {s t : List ℕ} (b : Begins card ops s t) where
  abbrev w : Whole b.good.1.lines
  w = b.good.1.whole

  openable : Openable w.vars w.nodes (tops_b w.tops) b.buffer
  openable =
      let r : All InRange (Vars w.vars ∷ Nodes w.nodes ∷ Room w.room ∷ (map Top w.tops ++ map Do w.ops)) = subst (All InRange) w.order w.range in
      record {
        fits = record {
          vars_low = r.0.0;
          vars_high = r.0.1;
          room_low = r.1.0.0;
          room_high = r.1.0.1;
          tops_long = tops_long w.tops ∙ ap (λ (k : ℕ). bare_size * k) w.count;
        };
        proper = λ x h. tops_proper w.tops x (omega (arith, h, w.count));
        long = b.long;
      }

  pub begins_rest : AtRest s
  begins_rest =
      let o : Opened w.vars w.nodes (tops_b w.tops) b.buffer s b.answer = opens _ _ _ _ _ _ b.opened openable in
      (o.sound, rests s o.walk)

-- ---- and it stays so
pub runs_rest : {k k' : ℕ} {os rest : List Op} {s t s' t' text : List ℕ} → Runs k os s t text k' rest s' t' → AtRest s → AtRest s'
runs_rest stay h = h
runs_rest (step f b g) h = runs_rest g (ran_rest f h)

-- the next operation of a good card, wherever its run has come to
pub next_lowest : {card text : List ℕ} {ops rest : List Op} {k n : ℕ} {o : Op} {s t s' t' s'' t'' : List ℕ} {r : Report}
    → Begins card ops s t → Runs 0 ops s t text k (o ∷ rest) s' t' → Ran n o s' t' s'' t'' r → Lowest (damaged_row s' ∷ table (call_of o) s' t') r.code
next_lowest b g f = ran_lowest f (runs_rest g (begins_rest b))
