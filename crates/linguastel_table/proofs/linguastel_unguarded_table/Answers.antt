-- A turn makes one call more; behind the loop all are made, and the record is written back.
use Rattle.std.proofs.Common.{rules, ◌≡◌, subst, sym, pos, to_z, of_z, w32, arith, ◌∙◌}
use Rattle.model.specs.Codes.{number}
use Rattle.model.specs.Tables.{in_table}
use Rattle.host_calls.specs.Calls.{call_of, answer_of}
use Rattle.host_calls.specs.declared.HostCall.{HostCall}
use Rattle.record.specs.Sound.{Sound}
use Rattle.tables.proofs.Made.{moves, stays, runs, table_refused, table_ran, walk_begins, walk_goes_on, walk_ends}
use Rattle.host_record.specs.Record.{host_engine}
use Rattle.host_record.proofs.Tables.{record_ran}
use Rattle.linguastel_table.proofs.linguastel_unguarded_table.Goals as goal
use Rattle.linguastel_table.proofs.linguastel_unguarded_table.Goals.{then-changes, else-changes}

-- What is read outside a table, which no turn does.
abbrev no_call : HostCall
no_call = record { number = 0; caller = 0; locked = 0; disabled = 0; object = 0; value = 0; tmout = pos 0; attribute = 0 }

pub loop-i-init : goal.loop-i-init
loop-i-init c = walk_begins c.test.ensures c.in_default.is

pub judge-decision-requires : goal.judge-decision-requires
judge-decision-requires c = c.loop-i.invariant.sound

pub bounds-answers-i : goal.bounds-answers-i
bounds-answers-i c = let enough = c.loop-i.invariant.enough_cells in let more = c.loop-i-test.true in omega arith

pub apply-stepped-requires : goal.apply-stepped-requires
apply-stepped-requires c = c.judge-decision.ensures.appliable

pub loop-i-preserved : goal.loop-i-preserved
loop-i-preserved c =
    let S = c.loop-i.invariant.sound in
    let j = rw c.from.ensures at c.judge-decision.ensures in
    walk_goes_on c.loop-i.invariant no_call c.loop-i-test.true (elim c.if-changes.branch [
      | then-changes b ↦ moves call_of answer_of S j b.apply-stepped.ensures b.state-is (b.answers-is ∙ b.from-then-changes.ensures)
      | else-changes b ↦ stays call_of answer_of S j b.if-changes.ensures b.state-is b.answers-is b.said.ensures
    ])

pub returns-in-Err : goal.returns-in-Err
returns-in-Err c =
    let e = c.state_of-state.ensures in
    let code_is : to_z w32 (of_z w32 c.number_of.result) ≡ c.number_of.result = let t = c.number_of.type_inv in search rules in
    rw code_is (table_refused host_engine call_of answer_of number c.args.lent.now c.state_of-state.result (subst Sound (sym e)) (subst Sound e) _ _ c.test.ensures c.in-Err.is c.number_of.ensures)

pub returns : goal.returns
returns c =
    let e = c.state_of-state.ensures in
    let code_is : to_z w32 (of_z w32 c.number_of-2.result) ≡ c.number_of-2.result = let t = c.number_of-2.type_inv in search rules in
    rw code_is (table_ran host_engine call_of answer_of number c.args.lent.now c.state_of-state.result (subst Sound (sym e)) (subst Sound e) _ _ c.test.ensures c.in_default.is c.number_of-2.ensures
    (record_ran (λ c. in_table (call_of c)) answer_of c.args.lent.now e (runs c.test.ensures c.in_default.is).0 c.restored.ensures (walk_ends c.loop-i.invariant c.loop-i-test.false)))
