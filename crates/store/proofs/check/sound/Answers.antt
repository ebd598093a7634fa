-- All clauses but the one on walks, then that one.
use Rattle.layout.proofs.CheckLaws.{says_map, says_not}
use Rattle.store.proofs.check.sound.Goals as goal

pub returns-then-whole : goal.returns-then-whole
returns-then-whole c = says_map c.walk_ok.result (λ w. record { whole = c.if-whole.ensures; walk = w }) (λ ok. ok.walk) c.walk_ok.ensures

pub returns-else-whole : goal.returns-else-whole
returns-else-whole c = says_not c.whole.result c.if-whole.false (λ ok. c.if-whole.ensures ok.whole)
