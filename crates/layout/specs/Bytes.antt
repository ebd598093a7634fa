-- Parts of a list of bytes: the part that stands at a place, and the list with another part there.
-- Its laws (proofs/Bytes.antt) are stated once, over the place and the width; who cites them closes the places by omega. Assumes nothing.
use Rattle.std.specs.Prelude.{◌≡◌, get_or, set}
use Prim.Native.Nat.{ℕ, zero, suc, ◌+◌, ◌*◌, ◌/◌, ◌%◌, ◌≤◌, ◌<◌}
use mathlib.Core.List.{List, [], ◌∷◌, ◌++◌}
use Rattle.std.proofs.Math.ListN.{take, drop}

-- the part from a on, n long
unfoldable pub part : List ℕ → ℕ → ℕ → List ℕ
part xs a n = take n (drop a xs)

-- xs with the part from a on, n long, replaced by ys. The shape is the one that a part `&mut s[a..a + n]` comes back in
unfoldable pub splice : List ℕ → ℕ → ℕ → List ℕ → List ℕ
splice xs a n ys = take a xs ++ (ys ++ drop n (drop a xs))

-- ---- a number in two bytes
unfoldable pub u16 : List ℕ → ℕ → ℕ
u16 p o = get_or p o 0 + 256 * get_or p (o + 1) 0

unfoldable pub put16 : List ℕ → ℕ → ℕ → List ℕ
put16 p o v = set (set p o (v % 256)) (o + 1) (v / 256)

-- ---- a list of a known length, written out: what is read of it after stores at numerals then computes
abbrev pub tab : ℕ → (ℕ → ℕ) → List ℕ
tab zero f = []
tab (suc n) f = f 0 ∷ tab n (λ i. f (suc i))

-- ---- bytes that are zero: those from a up to e
abbrev pub Zeros : List ℕ → ℕ → ℕ → Type 0
Zeros s a e = (i : ℕ) → a ≤ i → i < e → get_or s i 0 ≡ 0

-- ---- numbers below 256, as memory holds them: all of them (past the end `get_or` gives 0), and the first n
abbrev pub Bytes : List ℕ → Type 0
Bytes xs = (i : ℕ) → get_or xs i 0 < 256

abbrev pub BytesTo : ℕ → List ℕ → Type 0
BytesTo n p = (i : ℕ) → i < n → get_or p i 0 < 256
