-- `end_all` ends the waits from the head on. The loop keeps what has been done and what is left; the chain gets shorter.
use Rattle.chain.proofs.Laws.{only_links}
use Rattle.waits.proofs.Clearing.{clearing_done, popped_fits, clearing_on, clearing_ends}
use Rattle.waits.proofs.end_all.Goals as goal

pub bounds-state-t : goal.bounds-state-t
bounds-state-t c = popped_fits c.loop-state.invariant c.first.ensures c.loop-state-test.true c.pop-t.ensures.popped

pub bounds-state-t-in-loop-state : goal.bounds-state-t-in-loop-state
bounds-state-t-in-loop-state c = popped_fits c.loop-state.invariant c.first.ensures c.loop-state-test.true c.pop-t.ensures.popped

pub loop-state-smaller : goal.loop-state-smaller
loop-state-smaller c =
    rw (only_links c.pop-t.new.self c.pop-t.ensures.keys)
    (clearing_ends c.loop-state.invariant c.first.ensures c.loop-state-test.true c.pop-t.ensures.popped c.ended.ensures)

pub loop-state-preserved : goal.loop-state-preserved
loop-state-preserved c =
    rw (only_links c.pop-t.new.self c.pop-t.ensures.keys)
    (clearing_on c.loop-state.invariant c.first.ensures c.loop-state-test.true c.pop-t.ensures.popped c.ended.ensures)

pub returns : goal.returns
returns c = clearing_done c.loop-state.invariant c.first.ensures c.loop-state-test.false
