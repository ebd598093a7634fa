-- A text put behind what a page holds, and a line taken from the front of its buffer. Assumes nothing.
use mathlib.Core.Path.{◌≡◌, sym, ap, ◌∙◌}
use mathlib.Core.List.{List, [], ◌++◌, append_assoc}
use Prim.Native.Nat.{ℕ, ◌≤◌}
use native.Mathlib.Omega.{arith}
use lib.ListN.{length, take, drop, length-append, take-append-drop}
use lib.Seq.{take_at, length-take-le}
use Rattle.print.specs.Writing.{Wrote}

module _ {page line page' : List ℕ} {at next : ℕ} (h : at ≤ length page) (w : Wrote page at line page' next) where
  held : length (take at page) ≡ at
  held = length-take-le at page h

  -- the page holds what it held, and then the text
  pub grown : take next page' ≡ take at page ++ line
  grown =
      ap (take next) (w.bytes ∙ sym (append_assoc (take at page) line (drop next page)))
      ∙ take_at (take at page ++ line) (drop next page) next (length-append (take at page) line ∙ omega (arith, held, w.place))

  pub within : length page' ≡ length page → next ≤ length page
  within e =
      omega (arith, held, w.place, ap length w.bytes, length-append (take at page) (line ++ drop next page), length-append line (drop next page))

-- a line that was written from the front of a buffer: it ends within it, and is what stands there
module _ {before line after : List ℕ} {next : ℕ} (w : Wrote before 0 line after next) where
  pub ends_within : next ≤ length after
  ends_within = omega (arith, w.place, ap length w.bytes, length-append line (drop next before))

  pub line_long : next ≡ length (take next after)
  line_long = sym (length-take-le next after ends_within)

  pub front : take next after ≡ line
  front = ap (take next) w.bytes ∙ take_at line (drop next before) next (omega (arith, w.place))

-- nothing was written
pub kept : (page : List ℕ) (at : ℕ) → Wrote page at [] page at
kept page at = record { place = omega arith; bytes = sym (take-append-drop at page) }
