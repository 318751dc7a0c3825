-- Document 01, "Task states and ticks": calls 1 and 19 to 23, where no row of the error table applies, and the tick.
use Rattle.std.specs.Prelude.{Bool, true, false, cond, List, [], ◌∷◌, ℕ, suc, ◌+◌, ◌%◌}
use Rattle.lists.specs.Lists.{ascending}
use Rattle.rows.specs.Program.{Result, return, get, put, provided◌then◌else◌, run, ◌>>=◌, ◌>>◌}
use Rattle.model.specs.Sizes.{task_limit, counter_span}
use Rattle.model.specs.Rows.{task, suspension, same_key, Environment, Model, Effect}
use Rattle.model.specs.Codes.{E_OK, E_RLWAI, E_TMOUT, finished, done, gives}
use Rattle.model.specs.Calls.{Call, View, task_priority_of}
use Rattle.model.specs.Waits.{NoWait, wait_number, wait_object, wait_end, due}
use Rattle.model.specs.WaitQueues.{end_wait}
use Rattle.model.specs.declared.Answer.{Answer}

-- A new task: the whole row is written, and the suspension.
abbrev pub define : ℕ → ℕ → Effect
define t priority = do
  put (task t) (record { defined = true; priority = priority; wait = NoWait; code = E_OK; word = 0 })
  put (suspension t) false
  done

-- No wait is touched.
abbrev pub set_suspension : ℕ → Bool → Effect
set_suspension t suspended = do
  put (suspension t) suspended
  done

module _ (e : Environment) (v : View) (c : Call) where
  -- 1
  abbrev pub define_task : Effect
  define_task = define c.object (task_priority_of c)

  -- 19
  abbrev pub rel_wai : Effect
  rel_wai = do
    end_wait c.object E_RLWAI
    done

  -- 20, 21
  abbrev pub sus_tsk : Effect
  sus_tsk = set_suspension c.object true

  abbrev pub rsm_tsk : Effect
  rsm_tsk = set_suspension c.object false

  -- 22: "look" is document 01's word for reading a task's wait and suspension.
  abbrev pub look : Effect
  look = return (finished E_OK (wait_number v.the_task.wait) (wait_object v.the_task.wait) (cond v.suspended 1 0))

  -- 23: "fetch" is document 01's word for reading the stored pair.
  abbrev pub fetch : Effect
  fetch = return (finished v.the_task.code v.the_task.word 0 0)

-- Ends the wait of each of these tasks whose end tick is the counter, in the list's order; a is how many, counting on from n.
unfoldable pub expire : ℕ → List ℕ → ℕ → Effect
expire counter [] n = gives n
expire counter (t ∷ ts) n = do
  x ← get (task t)
  provided due counter (wait_end x.wait) then end_wait t E_TMOUT (expire counter ts (suc n)) else expire counter ts n

-- 0: all tasks, from the smallest number on.
unfoldable pub tick : Model → Result Model Answer
tick m =
    let counter = (m.environment.counter + 1) % counter_span in
    let o = run same_key (expire counter (ascending 1 task_limit) 0) m.rows in
    record { state = record { environment = record { counter = counter }; rows = o.state }; answer = o.answer }
