-- The explanation leaves no choice, and what it shows is what document 02, W7, asks: the decider is the deep rule's, decider and shadowed are
-- every binding of the variable on the path, each once, in order, and each is shown with its own value. Assumes nothing.
use Rattle.std.specs.Prelude.{◌≡◌, ◌≢◌, List, [], ◌∷◌, ℕ, ◌≤◌}
use Rattle.std.proofs.Common.{sym, subst, ◌∙◌}
use Rattle.std.proofs.Math.Path.{ap}
use Rattle.std.proofs.Math.Option.{none, some}
use native.Mathlib.Omega.{arith}
use Rattle.std.proofs.Math.Decide.{dec_le}
use Rattle.rules.proofs.Basic.{eqb_self}
use Rattle.rules.specs.Tree.{What, blank, top, binding, wind, Proper}
use Rattle.rules.proofs.Tree.{path_top, path_up}
use Rattle.rules.specs.Store.{home}
use Rattle.rules.specs.Calls.{decider_at, value_at}
use Rattle.rules.specs.Why.{Why}
use Rattle.rules.proofs.Why.{why}
use Rattle.layout.specs.Records.{node_of, parent_n}
use Rattle.layout.specs.Fields.{fields_of}
use Rattle.layout.specs.View.{up_n, tree_f, view_f, view}
use Rattle.layout.specs.Sound.{Sound}
use Rattle.layout.proofs.SoundLaws.{up_top, sound_view}
use Rattle.layout.proofs.WalkLaws.{seen_made}
use Rattle.layout.proofs.Reading.{top_what, up_is}
use Rattle.promises.proofs.Tables.{first_one}
use Rattle.promises.specs.Promises.{meaning, at, damaged_row, variable_row, environment_row, value_row}
use Rattle.print.specs.Writing.{Wrote, wrote_one}
use Rattle.why.specs.Explained.{why_text, Explains}

-- two outcomes that the promise allows coincide
pub explains_one : {s out o o' : List ℕ} {a x r r' : ℕ} → Explains s a x out o r → Explains s a x out o' r' → (o ≡ o') × (r ≡ r')
explains_one {s} {out} {o} {o'} {a} {x} {r} {r'} f g =
    let e : f.answer.code ≡ g.answer.code = first_one (damaged_row s ∷ variable_row s x ∷ environment_row s a ∷ value_row s a x ∷ []) _ _ f.peeked.answers.first g.peeked.answers.first in
    wrote_one f.wrote (subst (λ (c : ℕ). Wrote out 0 (why_text c s a x) o' r') (sym e) g.wrote)

-- a number for what an environment is, to tell a binding from the rest
abbrev kind_of : What → ℕ
kind_of blank = 0
kind_of top = 1
kind_of (binding x) = 2
kind_of (wind p q) = 3

module _ (s : List ℕ) (ok : Sound s) where
  proper : Proper (view s).tree
  proper = (sound_view s ok.whole).proper

  -- which environments are shown, and which are called shadowed
  pub shown_right : (a x : ℕ) → Why (view s).tree a x
  shown_right a x = why (view s).tree proper a x

  -- the value shown beside a binding is its own
  pub own_value : (n x : ℕ) → (view s).tree.what n ≡ binding x → at s n x ≡ (meaning s).own.stored n
  unfolding at meaning home value_at decider_at
  own_value n x b = rw (path_up (view s).tree proper n (parent_n (node_of s n)) up, b, eqb_self x)
    where
      inner : Dec (1 ≤ n) → 1 ≤ n
      inner (yes l) = l
      inner (no l) = absurd (omega (arith, ap kind_of b, ap (λ (k : ℕ). kind_of ((view s).tree.what k)) zeroth, ap kind_of (top_what s ok.whole)))
        where
          zeroth : n ≡ 0
          zeroth = omega arith

      seen : (view s).tree.what n ≢ blank
      seen z = omega (arith, ap kind_of b, ap kind_of z)

      up : (view s).tree.up n ≡ some (parent_n (node_of s n))
      up = up_is s ok.whole n (inner (dec_le 1 n)) (seen_made s ok.whole n seen)

  -- .. and the value of the last line is the top value
  up_none : (view s).tree.up 0 ≡ none
  unfolding view view_f tree_f fields_of
  up_none = ap up_n ok.whole.fields.shape.top ∙ up_top

  pub top_is : (x : ℕ) → at s 0 x ≡ (meaning s).own.cell x
  unfolding at meaning home value_at decider_at
  top_is x = rw (path_top (view s).tree proper 0 up_none)
