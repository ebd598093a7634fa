-- What reading into a buffer gives. Assumes nothing: these are definitions.
use Rattle.std.specs.Prelude.{◌≡◌, List, ℕ, ◌≤◌, length, take, Result, Ok, Err}

-- so many bytes at the front of the buffer, as it is behind the call; or an error
abbrev pub Within : {E : Type 0} → List ℕ → Result ℕ E → Type 0
Within buffer (Ok n) = (n ≤ length buffer) × (n ≡ length (take n buffer))
Within buffer (Err error) = Unit {0}
