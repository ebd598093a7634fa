-- `tell_entered` meets its contract: a wind has one event, any other node none.
use mathlib.Core.Path.{◌≡◌}
use mathlib.Core.List.{[]}
use native.Mathlib.Omega.{arith}
use lib.ListN.{length}
use Rattle.layout.specs.Routes.{entered_events}
use Rattle.layout.specs.Records.{node_of, kind_n}
use Rattle.layout.specs.Kinds.{IsWind}
use Rattle.layout.proofs.SoundLaws.{sound_fit}
use Rattle.layout.proofs.WalkLaws.{made_room}
use Rattle.layout.proofs.TellLaws.{entered_one, entered_told, entered_kept}
use Rattle.store.proofs.trace.tell_entered.Goals as goal

pub kind_of-requires : goal.kind_of-requires
kind_of-requires c = let (ok, made) = c.requires.whole in (sound_fit _ ok, made_room _ ok _ made)

pub var_of-requires : goal.var_of-requires
var_of-requires c = let (ok, made) = c.requires.whole in (sound_fit _ ok, made_room _ ok _ made)

pub parent_of-requires : goal.parent_of-requires
parent_of-requires c = let (ok, made) = c.requires.whole in (sound_fit _ ok, made_room _ ok _ made)

pub note-requires : goal.note-requires
note-requires c =
    let wind : IsWind (kind_n (node_of c.args.s.now c.args.n)) = rw c.kind_of.ensures at c.if-is_wind.ensures in
    let one : length (entered_events c.args.s.now c.args.n) ≡ 1 = let (ok, made) = c.requires.whole in entered_one _ ok _ made wind [] [] in
    omega (arith, one, c.requires.n_len_bound)

pub overflow_sub-result : goal.overflow_sub-result
overflow_sub-result c =
    let wind : IsWind (kind_n (node_of c.args.s.now c.args.n)) = rw c.kind_of.ensures at c.if-is_wind.ensures in
    let one : length (entered_events c.args.s.now c.args.n) ≡ 1 = let (ok, made) = c.requires.whole in entered_one _ ok _ made wind [] [] in
    omega (arith, one, c.requires.n_len_bound)

pub returns-then-is_wind : goal.returns-then-is_wind
returns-then-is_wind c =
    let wind : IsWind (kind_n (node_of c.args.s.now c.args.n)) = rw c.kind_of.ensures at c.if-is_wind.ensures in
    let one : length (entered_events c.args.s.now c.args.n) ≡ 1 = let (ok, made) = c.requires.whole in entered_one _ ok _ made wind [] [] in
    let (ok, made) = c.requires.whole in
    (omega (arith, one, c.requires.n_len_bound), entered_told _ ok _ made wind _ _ _ _ _ c.var_of.ensures c.parent_of.ensures c.note.ensures)

pub returns : goal.returns
returns c =
    let (ok, made) = c.requires.whole in
    entered_kept _ ok _ made (rw c.kind_of.ensures at c.if-is_wind.ensures) c.args.e c.args.t.now

pub overflow_sub-e : goal.overflow_sub-e
overflow_sub-e c =
    let wind : IsWind (kind_n (node_of c.args.s.now c.args.n)) = rw c.kind_of.ensures at c.if-is_wind.ensures in
    let one : length (entered_events c.args.s.now c.args.n) ≡ 1 = let (ok, made) = c.requires.whole in entered_one _ ok _ made wind [] [] in
    omega (arith, one, c.requires.n_len_bound)
