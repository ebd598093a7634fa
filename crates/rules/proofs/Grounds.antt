-- What is proved of specs/Grounds.antt, whose head says it in words. Assumes nothing.
use Rattle.std.specs.Prelude.{refl, ◌⊎◌, ℕ, suc}
use Rattle.std.proofs.Common.{inl, inr, arith}
use Rattle.rules.specs.Refusals.{damaged, RisingFrom}
use Rattle.rules.specs.Act.{Ask, Child, Goal, Stride, Call, Free, asks, sets, Barred, makes, switches, begins, Needing, steps, drops, Size, Shown, rows}
use Rattle.rules.specs.Grounds.{RisesBehind}

-- a walk leaves a call free, bars it, or is needed by it
pub each_call : (c : Call) → Free c ⊎ (Barred c ⊎ Needing c)
each_call (Call.ask q) = inl asks
each_call (Call.make n) = inr (inl makes)
each_call (Call.set x v) = inl sets
each_call (Call.switch g) = inr (inl switches)
each_call (Call.stride (Stride.begin a)) = inr (inl begins)
each_call (Call.stride Stride.step) = inr (inr steps)
each_call (Call.stride Stride.drop) = inr (inr drops)

-- the numbers of a table rise, all above Damaged, where a walk leaves the call free
pub free_rise : (z : Size) (room : ℕ) (c : Call) (d : Shown) → Free c → RisingFrom (suc damaged) (rows z room c d)
unfolding rows
free_rise z room (Call.ask (Ask.look x)) d asks = (omega arith, (omega arith, tt))
free_rise z room (Call.ask Ask.here) d asks = tt
free_rise z room (Call.ask (Ask.peek a x)) d asks = (omega arith, (omega arith, (omega arith, tt)))
free_rise z room (Call.ask (Ask.far a b)) d asks = (omega arith, (omega arith, tt))
free_rise z room (Call.set x v) d sets = (omega arith, (omega arith, tt))
free_rise z room (Call.make _) d x'' = elim x'' [ ]
free_rise z room (Call.switch _) d x3 = elim x3 [ ]
free_rise z room (Call.stride _) d x4 = elim x4 [ ]

pub barred_first : (z : Size) (room : ℕ) (c : Call) (d : Shown) → Barred c → RisesBehind z room c d
barred_first z room (Call.make (Child.bind x v)) d makes = (_, refl, (omega arith, (omega arith, tt)))
barred_first z room (Call.make (Child.wind p q)) d makes = (_, refl, (omega arith, (omega arith, tt)))
barred_first z room (Call.switch (Goal.goto a)) d switches = (_, refl, (omega arith, (omega arith, tt)))
barred_first z room (Call.switch Goal.back) d switches = (_, refl, (omega arith, (omega arith, tt)))
barred_first z room (Call.stride (Stride.begin a)) d begins = (_, refl, (omega arith, tt))
barred_first z room (Call.ask _) d x'' = elim x'' [ ]
barred_first z room (Call.set _ _) d x4 = elim x4 [ ]
barred_first z room (Call.stride Stride.step) d x5 = elim x5 [ ]
barred_first z room (Call.stride Stride.drop) d x6 = elim x6 [ ]
