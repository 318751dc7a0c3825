-- The calls before i have had their turns, and there are as many cells as before.
use Rattle.std.proofs.Common.{length, take, ◌≡◌}
use Rattle.thin.specs.Turns.{OneTurn, Rest}
use Rattle.thin.proofs.table.enter_table.Given as goal

abbrev pub invariant-loop-i : goal.invariant-loop-i
invariant-loop-i g l = record {
  cells : length l.answers ≡ length l.fn.answers;
  made : Rest (OneTurn (goal.Judge-post g l.judge) (goal.Say-post g l.say) (goal.Apply-post g l.apply) (goal.Tell-post g l.tell)) 0 l.initial.state (take l.i l.calls) l.fn.answers l.state l.answers;
}
