-- The card's key words and how many numbers follow each (document 01, "The card"), and the table of them.
-- Assumes nothing: these are definitions.
use Rattle.std.specs.Prelude.{◌≡◌, List, [], ◌∷◌, ◌++◌, ℕ, get_or, Option, IfSome, option_map}
use Rattle.text.specs.declared.keys.Word.{Word}
use Rattle.text.specs.declared.keys.Word.TheVariants.{Vars, Nodes, Room, Top, Bind, Wind, Look, Set, Here, Goto, Back, Peek}
use Rattle.text.specs.declared.keys.Key.{Key}
use Rattle.text.specs.Words.{bytes}
use Rattle.text.specs.Finds.{Finds}

-- a key word with its '='
abbrev pub text : Word → List ℕ
text Vars = bytes "vars="
text Nodes = bytes "nodes="
text Room = bytes "room="
text Top = bytes "top="
text Bind = bytes "bind="
text Wind = bytes "wind="
text Look = bytes "look="
text Set = bytes "set="
text Here = bytes "here="
text Goto = bytes "goto="
text Back = bytes "back="
text Peek = bytes "peek="

-- how many numbers follow; `none` may stand for the one of top=, and `now` and `1` are no numbers but fixed words
abbrev pub numbers : Word → ℕ
numbers Vars = 1
numbers Nodes = 1
numbers Room = 1
numbers Top = 1
numbers Bind = 2
numbers Wind = 2
numbers Look = 1
numbers Set = 2
numbers Here = 0
numbers Goto = 1
numbers Back = 0
numbers Peek = 2

-- the words in the table's order, and what the table has of a word
abbrev pub words : List Word
words = Vars ∷ Nodes ∷ Room ∷ Top ∷ Bind ∷ Wind ∷ Look ∷ Set ∷ Here ∷ Goto ∷ Back ∷ Peek ∷ []

pub record IsEntry (w : Word) (k : Key) : Type 0 where
  pub text : k.text.now ≡ text w
  pub numbers : k.numbers ≡ numbers w
  pub word : k.word ≡ w

unfoldable pub word_at : ℕ → Word
word_at i = get_or words i Vars

-- s starts with t
pub record Starts (s t : List ℕ) : Type 0 where
  pub rest : List ℕ
  pub joined : s ≡ t ++ rest

-- the search answers the word that the line starts with, as the table has it, or that there is none
pub record Searched (line : List ℕ) (r : Option Key) : Type 0 where
  pub found : Finds (λ w. Starts line (text w)) (option_map (λ k. k.word) r)
  pub entry : IfSome r (λ k. IsEntry k.word k)
