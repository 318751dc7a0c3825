-- Document 01, "The calls, by number": a call from its number to its answer; number 0 is the tick.
use Rattle.std.specs.Prelude.{cond, List, [], ◌∷◌, get_or}
use Rattle.rows.specs.Program.{Result, run_first, step_of, ◌>>=◌, ◌>>◌}
use Rattle.model.specs.Rows.{same_key, Environment, Model, Effect}
use Rattle.model.specs.Codes.{E_PAR, refuse}
use Rattle.model.specs.Calls.{Call, is_tick, View, see_caller, see_named}
use Rattle.model.specs.Errors.{rows_to_step_4, rows_from_step_5, unless_refused}
use Rattle.model.specs.DataQueues.{cre_dtq, del_dtq, snd_dtq, psnd_dtq, tsnd_dtq, fsnd_dtq, rcv_dtq, prcv_dtq, trcv_dtq, ref_dtq}
use Rattle.model.specs.Mailboxes.{cre_mbx, del_mbx, snd_mbx, rcv_mbx, prcv_mbx, trcv_mbx, ref_mbx}
use Rattle.model.specs.Tasks.{define_task, rel_wai, sus_tsk, rsm_tsk, look, fetch, tick}
use Rattle.model.specs.declared.Answer.{Answer}

-- Number 0 is the tick, which has no context and never comes here (`step`); of any other number that isn't listed step 0 says that it is unknown.
abbrev pub no_call : Environment → View → Call → Effect
no_call e v c = refuse E_PAR

-- The calls, by number.
unfoldable pub effects : List (Environment → View → Call → Effect)
effects =
    no_call  -- 0
    ∷ define_task  -- 1
    ∷ cre_dtq ∷ del_dtq  -- 2, 3
    ∷ snd_dtq ∷ psnd_dtq ∷ tsnd_dtq ∷ fsnd_dtq  -- 4, 5, 6, 7
    ∷ rcv_dtq ∷ prcv_dtq ∷ trcv_dtq ∷ ref_dtq  -- 8, 9, 10, 11
    ∷ cre_mbx ∷ del_mbx  -- 12, 13
    ∷ snd_mbx  -- 14
    ∷ rcv_mbx ∷ prcv_mbx ∷ trcv_mbx ∷ ref_mbx  -- 15, 16, 17, 18
    ∷ rel_wai ∷ sus_tsk ∷ rsm_tsk  -- 19, 20, 21
    ∷ look ∷ fetch  -- 22, 23
    ∷ []

unfoldable pub effect : Environment → View → Call → Effect
effect e v c = get_or effects c.number no_call e v c

-- A call looks at its caller and is refused by steps 0 to 4, or it looks at what it names and is refused by steps 5 to 7, or it has its effect.
unfoldable pub program : Environment → Call → Effect
program e c = do
  caller ← run_first (see_caller e c)
  unless_refused (rows_to_step_4 caller c)
  v ← run_first (see_named e c caller)
  unless_refused (rows_from_step_5 v c)
  effect e v c

unfoldable pub call : Model → Call → Result Model Answer
call m c = step_of same_key program m c

-- One call, or the tick.
unfoldable pub step : Model → Call → Result Model Answer
step m c = cond (is_tick c) (tick m) (call m c)
