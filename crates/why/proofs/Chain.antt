-- The two loops of an explanation: what is written so far, and what is still to be written, make the whole. Assumes nothing.
use mathlib.Core.Path.{◌≡◌, refl, sym, ap, subst, ◌∙◌}
use mathlib.Core.Bool.{Bool, true, false, cond}
use mathlib.Core.List.{List, [], ◌∷◌, ◌++◌, append_assoc, append-nil}
use Prim.Native.Nat.{ℕ, ◌+◌, ◌*◌, ◌≤◌, ◌<◌}
use native.Mathlib.Omega.{arith}
use lib.ListN.{length}
use Rattle.std.specs.Prelude.{Option, Ok}
use Rattle.rules.specs.Basic.{or_top}
use Rattle.rules.specs.Tree.{What, binds, path}
use Rattle.rules.specs.Values.{Cell}
use Rattle.rules.specs.Why.{chain_by, behind_by, binders}
use Rattle.layout.specs.View.{view}
use Rattle.layout.specs.Sound.{Sound}
use Rattle.layout.specs.Made.{IsMade}
use Rattle.layout.proofs.Reading.{top_made}
use Rattle.promises.specs.Promises as promises
use Rattle.promises.specs.declared.Told.{Told}
use Rattle.promises.specs.declared.Environment.{Environment}
use Rattle.promises.specs.Answers.{telling, numbers_told}
use Rattle.promises.specs.Promises.{tells, TellPromise}
use Rattle.print.specs.Explaining.{shadowed_line}
use Rattle.print.specs.Printed.{longest}
use Rattle.why.proofs.Behind.{wrote_then}
use Rattle.print.proofs.Buffer.{reworded}
use Rattle.play.proofs.Texts.{kept}
use Rattle.why.specs.declared.explain.Lines.{Lines}
use Rattle.why.specs.Explained.{held, env_line, env_text, shadow_text, joined, most_bytes, Adds, stops_by, stops, Chained}
use Rattle.why.proofs.Telling.{told_is}
use Rattle.why.proofs.Climb.{path_none, top_parent, parent_made, path_next, path_less}

abbrev value_in : List ℕ → ℕ → ℕ → Cell
value_in s n x = promises.at s n x

abbrev way : List ℕ → ℕ → List ℕ
way s n = path (view s).tree n

-- ---- texts put behind the lines
pub adds_none : (a : Lines) → Adds a [] a
adds_none a = record { same_bytes = refl; wrote = kept a.out.now a.at }

pub adds_then : {a b c : Lines} {s t : List ℕ} → Adds a s b → Adds b t c → Adds a (s ++ t) c
adds_then f g = record { same_bytes = g.same_bytes ∙ f.same_bytes; wrote = wrote_then f.wrote g.wrote }

pub adds_same : {a b : Lines} {s t : List ℕ} → s ≡ t → Adds a s b → Adds a t b
adds_same e f = record { same_bytes = f.same_bytes; wrote = reworded e f.wrote }

-- ---- an environment of a sound store, as it is told
module _ {s s' : List ℕ} (ok : Sound s) {n : ℕ} (made : IsMade s n) (env : Environment) (told : TellPromise s n s' (numbers_told (Ok env))) where
  pub put_told : {a b : Lines} → ((w : What) (p : ℕ) (own : ℕ → Cell) → numbers_told (Ok env) ≡ telling w p own → Adds a (env_line n w own) b)
      → Adds a (env_line n ((view s).tree.what n) (value_in s n)) b
  put_told f = f ((view s).tree.what n) (or_top ((view s).tree.up n)) (value_in s n) (told_is ok made told)

  pub put_told_behind : {x : ℕ} {a b : Lines}
      → ((w : What) (p : ℕ) (own : ℕ → Cell) → numbers_told (Ok env) ≡ telling w p own → Adds a (cond (binds w x) (shadowed_line n (held (own x))) []) b)
      → Adds a (cond (binds ((view s).tree.what n) x) (shadowed_line n (held (value_in s n x))) []) b
  put_told_behind f = f ((view s).tree.what n) (or_top ((view s).tree.up n)) (value_in s n) (told_is ok made told)

  pub stops_told : (x : Option ℕ) {r : Bool} → ((w : What) (p : ℕ) (own : ℕ → Cell) → numbers_told (Ok env) ≡ telling w p own → r ≡ stops_by x w) → r ≡ stops s x n
  stops_told x f = f ((view s).tree.what n) (or_top ((view s).tree.up n)) (value_in s n) (told_is ok made told)

  pub parent_told : {p : ℕ} → p ≡ (numbers_told (Ok env)).parent → p ≡ (tells s n).parent
  parent_told e = e ∙ ap (λ (k : Told). k.parent) (told_is ok made told)

  pub less_told : {p : ℕ} → p ≡ (numbers_told (Ok env)).parent → 1 ≤ n → length (way s p) < length (way s n)
  less_told e l = rw (parent_told e) (omega (arith, path_less s ok.whole n l made))

-- ---- the environments up to where the way stops
pub record Chaining (s : List ℕ) (stop : ℕ → Bool) (a : ℕ) (before now : Lines) (n : ℕ) : Type 0 where
  pub made : IsMade s n
  pub text : List ℕ
  pub adds : Adds before text now
  pub whole : text ++ joined (env_text s) (chain_by stop (way s n)) ≡ joined (env_text s) (chain_by stop (way s a))
  pub behind : behind_by stop (way s n) ≡ behind_by stop (way s a)
  pub room : now.at + longest * (length (way s n) + 2) ≤ most_bytes

pub chaining_none : {s : List ℕ} (stop : ℕ → Bool) {a : ℕ} (now : Lines) → IsMade s a → now.at + longest * (length (way s a) + 2) ≤ most_bytes → Chaining s stop a now now a
chaining_none stop now m h = record { made = m; text = []; adds = adds_none now; whole = refl; behind = refl; room = h }

module _ {s : List ℕ} (ok : Sound s) {stop : ℕ → Bool} {a : ℕ} {before now after : Lines} {n : ℕ} (c : Chaining s stop a before now n)
    (w : Adds now (env_line n ((view s).tree.what n) (value_in s n)) after) (short : after.at ≤ now.at + longest) where
  more : Adds before (c.text ++ env_text s n) after
  unfolding env_text
  more = adds_then c.adds w

  -- the way stops at n: its line was the last
  ended : chain_by stop (way s n) ≡ n ∷ [] → Adds before (joined (env_text s) (chain_by stop (way s a))) after
  ended e =
      adds_same (ap (λ (t : List ℕ). c.text ++ t) (sym (append-nil (env_text s n))) ∙ ap (λ (l : List ℕ). c.text ++ joined (env_text s) l) (sym e) ∙ c.whole) more

  -- the parent that is told of the top is the top
  pub chain_top : n ≡ 0 → (p : ℕ) → p ≡ (tells s n).parent → Chained s stop a before after p
  chain_top e p q =
      let none : way s n ≡ [] = ap (way s) e ∙ path_none s ok.whole in
      let zeroth : p ≡ 0 = q ∙ ap (λ (k : ℕ). (tells s k).parent) e ∙ top_parent s ok.whole in
      subst (λ (k : ℕ). Chained s stop a before after k) (sym zeroth)
      (record {
        made = top_made s ok.whole;
        adds = ended (ap (chain_by stop) none ∙ ap (λ (k : ℕ). k ∷ []) (sym e));
        behind = path_none s ok.whole ∙ sym (ap (behind_by stop) none) ∙ c.behind;
        room = omega (arith, c.room, short, ap length (path_none s ok.whole));
      })

  module _ (l : 1 ≤ n) where
    abbrev up : ℕ
    up = (tells s n).parent

    next : way s n ≡ n ∷ way s up
    next = path_next s ok.whole n l c.made

    pub chain_stops : stop n ≡ true → (p : ℕ) → p ≡ up → Chained s stop a before after p
    chain_stops e p q =
        subst (λ (k : ℕ). Chained s stop a before after k) (sym q)
        (record {
          made = parent_made s ok.whole n l c.made;
          adds = ended (ap (chain_by stop) next ∙ ap (λ (b : Bool). cond b (n ∷ []) (n ∷ chain_by stop (way s up))) e);
          behind = sym (ap (behind_by stop) next ∙ ap (λ (b : Bool). cond b (way s up) (behind_by stop (way s up))) e) ∙ c.behind;
          room = omega (arith, c.room, short, path_less s ok.whole n l c.made);
        })

    pub chain_goes : stop n ≡ false → (p : ℕ) → p ≡ up → Chaining s stop a before after p
    chain_goes e p q =
        let rest : chain_by stop (way s n) ≡ n ∷ chain_by stop (way s up) = ap (chain_by stop) next ∙ ap (λ (b : Bool). cond b (n ∷ []) (n ∷ chain_by stop (way s up))) e in
        subst (λ (k : ℕ). Chaining s stop a before after k) (sym q)
        (record {
          made = parent_made s ok.whole n l c.made;
          text = c.text ++ env_text s n;
          adds = more;
          whole = append_assoc c.text (env_text s n) (joined (env_text s) (chain_by stop (way s up))) ∙ ap (λ (m : List ℕ). c.text ++ joined (env_text s) m) (sym rest) ∙ c.whole;
          behind = sym (ap (behind_by stop) next ∙ ap (λ (b : Bool). cond b (way s up) (behind_by stop (way s up))) e) ∙ c.behind;
          room = omega (arith, c.room, short, path_less s ok.whole n l c.made);
        })

-- ---- the bindings of x from an environment up to the top
abbrev binders_of : List ℕ → ℕ → ℕ → List ℕ
binders_of s x n = binders (view s).tree.what x (way s n)

pub record Shadowing (s : List ℕ) (x from : ℕ) (before now : Lines) (n : ℕ) : Type 0 where
  pub made : IsMade s n
  pub text : List ℕ
  pub adds : Adds before text now
  pub whole : text ++ joined (shadow_text s x) (binders_of s x n) ≡ joined (shadow_text s x) (binders_of s x from)
  pub room : now.at + longest * (length (way s n) + 1) ≤ most_bytes

pub shadowing_none : {s : List ℕ} (x : ℕ) {from : ℕ} (now : Lines) → IsMade s from → now.at + longest * (length (way s from) + 1) ≤ most_bytes
    → Shadowing s x from now now from
shadowing_none x now m h = record { made = m; text = []; adds = adds_none now; whole = refl; room = h }

module _ {s : List ℕ} (ok : Sound s) {x from : ℕ} {before now : Lines} {n : ℕ} (c : Shadowing s x from before now n) where
  pub shadowing_ends : n ≡ 0 → Adds before (joined (shadow_text s x) (binders_of s x from)) now
  shadowing_ends e =
      adds_same (sym (append-nil c.text) ∙ ap (λ (l : List ℕ). c.text ++ joined (shadow_text s x) (binders (view s).tree.what x l)) (sym (ap (way s) e ∙ path_none s ok.whole)) ∙ c.whole) c.adds

  module _ (l : 1 ≤ n) {after : Lines}
      (w : Adds now (cond (binds ((view s).tree.what n) x) (shadowed_line n (held (value_in s n x))) []) after) (short : after.at ≤ now.at + longest) where
    abbrev above : ℕ
    above = (tells s n).parent

    one : (b : Bool) → cond b (shadowed_line n (held (value_in s n x))) [] ++ joined (shadow_text s x) (binders_of s x above)
        ≡ joined (shadow_text s x) (cond b (n ∷ binders_of s x above) (binders_of s x above))
    unfolding shadow_text
    one true = refl
    one false = refl

    pub shadowing_goes : (q : ℕ) → q ≡ above → Shadowing s x from before after q
    shadowing_goes q e =
        subst (λ (k : ℕ). Shadowing s x from before after k) (sym e)
        (record {
          made = parent_made s ok.whole n l c.made;
          text = c.text ++ cond (binds ((view s).tree.what n) x) (shadowed_line n (held (value_in s n x))) [];
          adds = adds_then c.adds w;
          whole = append_assoc c.text _ (joined (shadow_text s x) (binders_of s x above))
              ∙ ap (λ (t : List ℕ). c.text ++ t) (one (binds ((view s).tree.what n) x))
              ∙ ap (λ (m : List ℕ). c.text ++ joined (shadow_text s x) (binders (view s).tree.what x m)) (sym (path_next s ok.whole n l c.made))
              ∙ c.whole;
          room = omega (arith, c.room, short, path_less s ok.whole n l c.made);
        })
