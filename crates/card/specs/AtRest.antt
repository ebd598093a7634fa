-- No operation of a card begins a walk (document 02, W5): from a sound store with none under way it leaves such a store, and its number
-- is the lowest that applies, as document 01 says of calls outside a walk. Assumes nothing.
use Rattle.std.specs.Prelude.{◌≡◌, refl, false, List, ◌∷◌, ℕ}
use Rattle.std.proofs.Common.{◌∙◌, inr}
use Rattle.rules.proofs.Basic.{clash}
use Rattle.rules.specs.Act.{Call}
use Rattle.layout.specs.Limits.{none_n}
use Rattle.layout.specs.Records.{target}
use Rattle.layout.specs.Sound.{Sound}
use Rattle.layout.specs.Becomes.{Kept}
use Rattle.layout.proofs.WalkLaws.{kept_self}
use Rattle.promises.specs.Answers.{Numbers}
use Rattle.promises.specs.Tables.{Lowest}
use Rattle.promises.specs.Promises.{damaged_row}
use Rattle.promises.specs.Calls.{table, Done, Called, Code, is_done_lem, is_refused}
use Rattle.promises.proofs.Calls.{called, called_lowest, code_of_lem, done_leaves}
use Rattle.text.specs.declared.line.Op.{Op}
use Rattle.print.specs.declared.Report.{Report}
use Rattle.card.specs.Running.{call_of, is_stride, no_stride, shown, Ran}

-- a call that is no stride leaves the walk's two numbers as they were
done_keeps : (c : Call) (s t s' t' : List ℕ) (n : Numbers) → is_stride c ≡ false → Done c s t s' t' n → Kept s s'
done_keeps (Call.ask q) s t s' t' n h (d, e, f) = rw e (kept_self s)
done_keeps (Call.make k) s t s' t' n h d = d.kept
done_keeps (Call.set x v) s t s' t' n h (d, e) = d.kept
done_keeps (Call.switch g) s t s' t' n h d = d.kept
done_keeps (Call.stride k) s t s' t' n h d = clash refl h

call_keeps : (c : Call) (s t s' t' : List ℕ) (n : Numbers) → is_stride c ≡ false → Called c s t s' t' n → Kept s s'
call_keeps c s t s' t' n h p = go (code_of_lem n)
  where
    go : Code n → Kept s s'
    go (is_done_lem e) = done_keeps c s t s' t' n h (p.done e)
    go (is_refused r) = rw (p.refused r).1.0 (kept_self s)

-- a sound store, with no walk under way
abbrev pub AtRest : List ℕ → Type 0
AtRest s = Sound s × (target s ≡ none_n)

module _ {k : ℕ} {o : Op} {s t s' t' : List ℕ} {r : Report} (f : Ran k o s t s' t' r) (rest : AtRest s) where
  is_called : Called (call_of o) s t s' t' (shown r)
  is_called = called (call_of o) s t s' t' (shown r) f.call

  pub ran_rest : AtRest s'
  ran_rest = (leaves (code_of_lem (shown r)), (call_keeps (call_of o) s t s' t' (shown r) (no_stride o) is_called).target ∙ rest.1)
    where
      leaves : Code (shown r) → Sound s'
      leaves (is_done_lem e) = (done_leaves (call_of o) s t s' t' (shown r) rest.0 (is_called.done e)).0
      leaves (is_refused h) = rw (is_called.refused h).1.0 rest.0

  pub ran_lowest : Lowest (damaged_row s ∷ table (call_of o) s t) r.code
  ran_lowest = called_lowest (call_of o) s t s' t' (shown r) is_called (inr rest.1)
