-- `tell_left` meets its contract: a wind has one event, any other node none.
use mathlib.Core.Path.{◌≡◌}
use mathlib.Core.List.{[]}
use native.Mathlib.Omega.{arith}
use lib.ListN.{length}
use Rattle.layout.specs.Routes.{left_events}
use Rattle.layout.specs.Records.{node_of, kind_n}
use Rattle.layout.specs.Kinds.{IsWind}
use Rattle.layout.proofs.SoundLaws.{sound_fit}
use Rattle.layout.proofs.WalkLaws.{made_room}
use Rattle.layout.proofs.TellLaws.{left_one, left_told, left_kept}
use Rattle.store.proofs.trace.tell_left.Goals as goal

pub kind_of-requires : goal.kind_of-requires
kind_of-requires c = let (ok, made) = c.requires.whole in (sound_fit _ ok, made_room _ ok _ made)

pub post_of-requires : goal.post_of-requires
post_of-requires c = let (ok, made) = c.requires.whole in (sound_fit _ ok, made_room _ ok _ made)

pub parent_of-requires : goal.parent_of-requires
parent_of-requires c = let (ok, made) = c.requires.whole in (sound_fit _ ok, made_room _ ok _ made)

pub note-requires : goal.note-requires
note-requires c =
    let wind : IsWind (kind_n (node_of c.args.s.now c.args.n)) = rw c.kind_of.ensures at c.if-is_wind.ensures in
    let one : length (left_events c.args.s.now c.args.n) ≡ 1 = let (ok, made) = c.requires.whole in left_one _ ok _ made wind [] [] in
    omega (arith, one, c.requires.n_in_bounds)

pub returns-then-is_wind : goal.returns-then-is_wind
returns-then-is_wind c =
    let wind : IsWind (kind_n (node_of c.args.s.now c.args.n)) = rw c.kind_of.ensures at c.if-is_wind.ensures in
    let one : length (left_events c.args.s.now c.args.n) ≡ 1 = let (ok, made) = c.requires.whole in left_one _ ok _ made wind [] [] in
    let (ok, made) = c.requires.whole in
    (omega (arith, one), left_told _ ok _ made wind _ _ _ _ _ c.post_of.ensures c.parent_of.ensures c.note.ensures)

pub returns : goal.returns
returns c =
    let (ok, made) = c.requires.whole in
    left_kept _ ok _ made (rw c.kind_of.ensures at c.if-is_wind.ensures) c.args.e c.args.t.now
