-- A turn makes one call more; behind the loop all are made, and the state is stored.
use Rattle.std.proofs.Common.{refl, inl, inr, rules, length-set}
use Rattle.thin.specs.Turns.{over}
use Rattle.thin.proofs.Turns.{comes_to, one_more_call}
use Rattle.thin.proofs.table.enter_table.Goals as goal
use Rattle.thin.proofs.table.enter_table.Goals.{in-Some, in-None}

pub loop-i-init : goal.loop-i-init
loop-i-init g c = record { cells = refl; made = over }

pub judge-judgement-requires : goal.judge-judgement-requires
judge-judgement-requires g c =
    c.requires.judges c.loop-i.state c.index-calls-i.result
    (comes_to c.loop-i.i c.index-calls-i.result (record { read = c.read-state.ensures; test = rw c.in_ok-code.was at c.test.ensures })
    c.loop-i-test.true c.index-calls-i.is c.loop-i.invariant.made)

pub apply-stepped-requires : goal.apply-stepped-requires
apply-stepped-requires g c =
    c.requires.applies c.loop-i.state c.index-calls-i.result c.judge-judgement.result
    (comes_to c.loop-i.i c.index-calls-i.result (record { read = c.read-state.ensures; test = rw c.in_ok-code.was at c.test.ensures })
    c.loop-i-test.true c.index-calls-i.is c.loop-i.invariant.made)
    c.judge-judgement.ensures (rw c.in-None.is at c.say.ensures)

pub loop-i-preserved : goal.loop-i-preserved
loop-i-preserved g c = record {
  cells = search (rules, length-set);
  made = one_more_call c.args.calls.now c.loop-i.i c.index-calls-i.result c.loop-i-test.true c.index-calls-i.is c.loop-i.invariant.made (record {
    judgement = c.judge-judgement.result;
    found = c.judge-judgement.ensures;
    turned = elim c.match-say.branch [
      | in-Some w ↦ inr (record { same = w.state-is; said = rw w.answers-is (rw w.in-Some.is at c.say.ensures) })
      | in-None w ↦ inl (record { changes = rw w.in-None.is at c.say.ensures; step = w.apply-stepped.result; applied = w.apply-stepped.ensures; leaves = w.state-is; told = rw w.answers-is w.tell.ensures })
    ];
  });
}
