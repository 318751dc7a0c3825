-- A turn makes one call more; behind the loop all are made, and the state is written back.
use Rattle.std.proofs.Common.{refl, ◌≡◌, length, T, not, get_or, subst, sym, pos, false, arith}
use Rattle.model.specs.declared.Call.{Call}
use Rattle.record.specs.Step.{state_engine}
use Rattle.tables.proofs.Made.{moves, stays, table_refused, table_ran, walk_begins, walk_goes_on, walk_ends}
use Rattle.table_entry.proofs.enter_table.Goals as goal
use Rattle.table_entry.proofs.enter_table.Goals.{then-changes, else-changes}

-- What is read outside a table, which no turn does.
abbrev no_call : Call
no_call = record { number = 0; caller = 0; locked = false; disabled = false; object = 0; value = 0; tmout = pos 0; attribute = 0 }

pub loop-i-init : goal.loop-i-init
loop-i-init c = walk_begins c.test.ensures c.in_default.is

pub judge-decision-requires : goal.judge-decision-requires
judge-decision-requires c = c.loop-i.invariant.sound

pub bounds-answers-i : goal.bounds-answers-i
bounds-answers-i c = let enough = c.loop-i.invariant.enough_cells in let more = c.loop-i-test.true in omega arith

pub apply-stepped-requires : goal.apply-stepped-requires
apply-stepped-requires c = c.judge-decision.ensures.appliable

pub loop-i-preserved : goal.loop-i-preserved
loop-i-preserved c =
    let S = c.loop-i.invariant.sound in
    let j = c.judge-decision.ensures in
    walk_goes_on c.loop-i.invariant no_call c.loop-i-test.true (elim c.if-changes.branch [
      | then-changes b ↦ moves (λ c. c) (λ x. x) S j b.apply-stepped.ensures b.state-is b.answers-is
      | else-changes b ↦ stays (λ c. c) (λ x. x) S j b.if-changes.ensures b.state-is b.answers-is b.said.ensures
    ])

pub returns-in-Err : goal.returns-in-Err
returns-in-Err c = table_refused state_engine (λ c. c) (λ x. x) (λ code. code) _ _ (λ S. S) (λ S. S) _ _ c.test.ensures c.in-Err.is refl

pub returns : goal.returns
returns c = table_ran state_engine (λ c. c) (λ x. x) (λ code. code) _ _ (λ S. S) (λ S. S) _ _ c.test.ensures c.in_default.is refl (walk_ends c.loop-i.invariant c.loop-i-test.false)
