-- Each test that fails refutes its clause; where the first two hold, the modes decide.
use Rattle.layout.specs.Sound.{Ins, Whole}
use Rattle.layout.specs.Fields.{fields_of}
use Rattle.layout.proofs.SoundLaws.{sound_headed}
use Rattle.layout.proofs.CheckLaws.{says_map, sound_rises}
use Rattle.store.proofs.check.whole.Goals as goal

pub returns-then-not-head_ok : goal.returns-then-not-head_ok
returns-then-not-head_ok c = λ ok. c.if-not-head_ok.ensures (sound_headed _ ok)

pub returns-in_default : goal.returns-in_default
returns-in_default c = λ ok. c.in_default.ensures (ok.fields.shape, sound_rises _ ok)

pub ins_ok-requires : goal.ins_ok-requires
ins_ok-requires c = record { headed = c.if-not-head_ok.ensures; shape = c.in-Some.ensures }

pub returns : goal.returns
returns c =
    let s = c.args.s.now in
    let all : Ins (fields_of s) → Whole s = λ i. record {
      long = c.if-not-head_ok.ensures.long;
      fields = record { shape = c.in-Some.ensures.0.0; ins = i };
    } in
    says_map c.ins_ok.result all (λ ok. ok.fields.ins) c.ins_ok.ensures
