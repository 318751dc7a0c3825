-- The parts of a call make up a step of the lent record, by whether the decision changes anything.
use Rattle.host_record.proofs.Steps.{stays, moved}
use Rattle.linguastel.proofs.linguastel_unguarded_call.Goals as goal

pub apply-stepped-requires : goal.apply-stepped-requires
apply-stepped-requires c = c.judge-decision.ensures.appliable

pub returns-then-changes : goal.returns-then-changes
returns-then-changes c =
    moved c.args.lent.now c.state_of-state.ensures c.args.call c.judge-decision.ensures (rw (← c.if-changes.ensures) tt)
    c.apply-stepped.ensures c.stored.ensures c.from.ensures

pub returns : goal.returns
returns c =
    stays c.args.lent.now c.state_of-state.ensures c.args.call c.judge-decision.ensures
    (rw (← c.if-changes.ensures) tt) c.said.ensures
