-- To or from the top the distance is the depth; else it is what the deeper one was lifted by, and what both then pass.
use mathlib.Core.Path.{◌≡◌, sym, subst, ◌∙◌}
use Prim.Native.Nat.{ℕ, ◌+◌, ◌-◌}
use native.Mathlib.Omega.{arith}
use Rattle.layout.proofs.SoundLaws.{sound_fit}
use Rattle.layout.proofs.WalkLaws.{made_room}
use Rattle.layout.specs.Routes.{moves_from}
use Rattle.layout.proofs.RouteLaws.{few_between}
use Rattle.layout.specs.Lifts.{depth_at, Lifted}
use Rattle.layout.proofs.FarLaws.{depth_is, moves_sym, from_top, to_top, lifted_apart}
use Rattle.store.proofs.apart.between.Goals as goal

pub depth_of-da-requires : goal.depth_of-da-requires
depth_of-da-requires c = let (ok, (made, made')) = c.requires in (sound_fit _ ok, made_room _ ok _ made)

pub depth_of-db-requires : goal.depth_of-db-requires
depth_of-db-requires c = let (ok, (made, made')) = c.requires in (sound_fit _ ok, made_room _ ok _ made')

pub returns-then-da-eq0 : goal.returns-then-da-eq0
returns-then-da-eq0 c =
    let deep : c.depth_of-da.result ≡ depth_at c.args.s.now c.args.a = let (ok, (made, made')) = c.requires in c.depth_of-da.ensures ∙ depth_is _ ok _ made in
    let deep' : c.depth_of-db.result ≡ depth_at c.args.s.now c.args.b = let (ok, (made, made')) = c.requires in c.depth_of-db.ensures ∙ depth_is _ ok _ made' in
    let (ok, (made, made')) = c.requires in
    deep' ∙ sym (from_top _ ok _ _ made (sym deep ∙ c.if-da-eq0.true))

pub returns-then-db-eq0 : goal.returns-then-db-eq0
returns-then-db-eq0 c =
    let deep : c.depth_of-da.result ≡ depth_at c.args.s.now c.args.a = let (ok, (made, made')) = c.requires in c.depth_of-da.ensures ∙ depth_is _ ok _ made in
    let deep' : c.depth_of-db.result ≡ depth_at c.args.s.now c.args.b = let (ok, (made, made')) = c.requires in c.depth_of-db.ensures ∙ depth_is _ ok _ made' in
    let (ok, (made, made')) = c.requires in
    deep ∙ sym (to_top _ ok _ _ made' (sym deep' ∙ c.if-db-eq0.true))

pub overflow_sub-result : goal.overflow_sub-result
overflow_sub-result c = omega arith

-- b is deeper, and is lifted
pub lift-requires : goal.lift-requires
lift-requires c =
    let deep : c.depth_of-da.result ≡ depth_at c.args.s.now c.args.a = let (ok, (made, made')) = c.requires in c.depth_of-da.ensures ∙ depth_is _ ok _ made in
    let deep' : c.depth_of-db.result ≡ depth_at c.args.s.now c.args.b = let (ok, (made, made')) = c.requires in c.depth_of-db.ensures ∙ depth_is _ ok _ made' in
    let (ok, (made, made')) = c.requires in
    (ok, (made', omega (arith, deep, deep')))

pub passed-requires : goal.passed-requires
passed-requires c =
    let deep : c.depth_of-da.result ≡ depth_at c.args.s.now c.args.a = let (ok, (made, made')) = c.requires in c.depth_of-da.ensures ∙ depth_is _ ok _ made in
    let lifted : Lifted c.args.s.now c.args.b (depth_at c.args.s.now c.args.a) c.lift.result =
    let args = c.args in
    subst (λ (d : ℕ). Lifted args.s.now args.b d c.lift.result) deep c.lift.ensures in
    let (ok, (made, made')) = c.requires in
    record { whole = (ok, (made, lifted.made)); a_value = sym lifted.deep }

pub overflow_add-result : goal.overflow_add-result
overflow_add-result c =
    let deep : c.depth_of-da.result ≡ depth_at c.args.s.now c.args.a = let (ok, (made, made')) = c.requires in c.depth_of-da.ensures ∙ depth_is _ ok _ made in
    let deep' : c.depth_of-db.result ≡ depth_at c.args.s.now c.args.b = let (ok, (made, made')) = c.requires in c.depth_of-db.ensures ∙ depth_is _ ok _ made' in
    let lifted : Lifted c.args.s.now c.args.b (depth_at c.args.s.now c.args.a) c.lift.result =
    let args = c.args in
    subst (λ (d : ℕ). Lifted args.s.now args.b d c.lift.result) deep c.lift.ensures in
    let found : c.depth_of-db.result - c.depth_of-da.result + c.passed.result ≡ moves_from c.args.s.now c.args.a c.args.b =
    let s = c.args.s.now in
    let a = c.args.a in
    let b = c.args.b in
    let (ok, (made, made')) = c.requires in
    let r = c.lift.result in
    omega (arith, c.passed.ensures, deep, deep', moves_sym s ok a b, moves_sym s ok a r, lifted_apart s ok b a r (omega (arith, deep, deep')) lifted) in
    omega (arith, found, few_between _ c.requires.0 c.args.a c.args.b)

-- a is at least as deep, and is lifted
pub lift-requires-else-da-db : goal.lift-requires-else-da-db
lift-requires-else-da-db c =
    let deep : c.depth_of-da.result ≡ depth_at c.args.s.now c.args.a = let (ok, (made, made')) = c.requires in c.depth_of-da.ensures ∙ depth_is _ ok _ made in
    let deep' : c.depth_of-db.result ≡ depth_at c.args.s.now c.args.b = let (ok, (made, made')) = c.requires in c.depth_of-db.ensures ∙ depth_is _ ok _ made' in
    let (ok, (made, made')) = c.requires in
    (ok, (made, omega (arith, deep, deep')))

pub passed-requires-else-da-db : goal.passed-requires-else-da-db
passed-requires-else-da-db c =
    let deep' : c.depth_of-db.result ≡ depth_at c.args.s.now c.args.b = let (ok, (made, made')) = c.requires in c.depth_of-db.ensures ∙ depth_is _ ok _ made' in
    let lifted' : Lifted c.args.s.now c.args.a (depth_at c.args.s.now c.args.b) c.lift-else-da-db.result =
    let args = c.args in
    subst (λ (d : ℕ). Lifted args.s.now args.a d c.lift-else-da-db.result) deep' c.lift-else-da-db.ensures in
    let (ok, (made, made')) = c.requires in
    record { whole = (ok, (lifted'.made, made')); a_value = lifted'.deep }

pub returns-then-da-db : goal.returns-then-da-db
returns-then-da-db c =
    let deep : c.depth_of-da.result ≡ depth_at c.args.s.now c.args.a = let (ok, (made, made')) = c.requires in c.depth_of-da.ensures ∙ depth_is _ ok _ made in
    let deep' : c.depth_of-db.result ≡ depth_at c.args.s.now c.args.b = let (ok, (made, made')) = c.requires in c.depth_of-db.ensures ∙ depth_is _ ok _ made' in
    let lifted : Lifted c.args.s.now c.args.b (depth_at c.args.s.now c.args.a) c.lift.result =
    let args = c.args in
    subst (λ (d : ℕ). Lifted args.s.now args.b d c.lift.result) deep c.lift.ensures in
    let found : c.depth_of-db.result - c.depth_of-da.result + c.passed.result ≡ moves_from c.args.s.now c.args.a c.args.b =
    let s = c.args.s.now in
    let a = c.args.a in
    let b = c.args.b in
    let (ok, (made, made')) = c.requires in
    let r = c.lift.result in
    omega (arith, c.passed.ensures, deep, deep', moves_sym s ok a b, moves_sym s ok a r, lifted_apart s ok b a r (omega (arith, deep, deep')) lifted) in
    found

pub returns-else-da-db : goal.returns-else-da-db
returns-else-da-db c =
    let deep : c.depth_of-da.result ≡ depth_at c.args.s.now c.args.a = let (ok, (made, made')) = c.requires in c.depth_of-da.ensures ∙ depth_is _ ok _ made in
    let deep' : c.depth_of-db.result ≡ depth_at c.args.s.now c.args.b = let (ok, (made, made')) = c.requires in c.depth_of-db.ensures ∙ depth_is _ ok _ made' in
    let lifted' : Lifted c.args.s.now c.args.a (depth_at c.args.s.now c.args.b) c.lift-else-da-db.result =
    let args = c.args in
    subst (λ (d : ℕ). Lifted args.s.now args.a d c.lift-else-da-db.result) deep' c.lift-else-da-db.ensures in
    let found' : c.depth_of-da.result - c.depth_of-db.result + c.passed-else-da-db.result ≡ moves_from c.args.s.now c.args.a c.args.b =
    let s = c.args.s.now in
    let (ok, (made, made')) = c.requires in
    let r = c.lift-else-da-db.result in
    omega (arith, c.passed-else-da-db.ensures, deep, deep', lifted_apart s ok c.args.a c.args.b r (omega (arith, deep, deep')) lifted') in
    found'

pub overflow_add-result-else-da-db : goal.overflow_add-result-else-da-db
overflow_add-result-else-da-db c =
    let deep : c.depth_of-da.result ≡ depth_at c.args.s.now c.args.a = let (ok, (made, made')) = c.requires in c.depth_of-da.ensures ∙ depth_is _ ok _ made in
    let deep' : c.depth_of-db.result ≡ depth_at c.args.s.now c.args.b = let (ok, (made, made')) = c.requires in c.depth_of-db.ensures ∙ depth_is _ ok _ made' in
    let lifted' : Lifted c.args.s.now c.args.a (depth_at c.args.s.now c.args.b) c.lift-else-da-db.result =
    let args = c.args in
    subst (λ (d : ℕ). Lifted args.s.now args.a d c.lift-else-da-db.result) deep' c.lift-else-da-db.ensures in
    let found' : c.depth_of-da.result - c.depth_of-db.result + c.passed-else-da-db.result ≡ moves_from c.args.s.now c.args.a c.args.b =
    let s = c.args.s.now in
    let (ok, (made, made')) = c.requires in
    let r = c.lift-else-da-db.result in
    omega (arith, c.passed-else-da-db.ensures, deep, deep', lifted_apart s ok c.args.a c.args.b r (omega (arith, deep, deep')) lifted') in
    omega (arith, found', few_between _ c.requires.0 c.args.a c.args.b)
