-- The numbers of a sound host's record say something: part by part, since each part of the state that it holds is sound.
use mathlib.Core.Path.{subst}
use lib.Dec.{T}
use lib.ListN.{get_or}
use Rattle.model.specs.WellFormed.{TaskWellFormed}
use Rattle.parts.specs.Tasks.{task_row}
use Rattle.parts.specs.declared.Task.{Task}
use Rattle.host_tasks.proofs.Numbers.{task_numbers}
use Rattle.record.proofs.Parts.{sound_parts}
use Rattle.host_record.specs.Record.{state_of}
use Rattle.host_record.specs.Written.{zero_numbers}
use Rattle.host_record.specs.Numbers.{SoundInRange}
use Rattle.host_record.proofs.Record.{task_read}

pub sound_in_range : SoundInRange
unfolding state_of
sound_in_range r S =
    let s = state_of r in
    let parts = sound_parts s S in
    record {
      tasks = λ t v.
          task_numbers (get_or r.tasks t zero_numbers) (get_or s.waiting.key t 0)
          (subst (λ (x : Task). T x.suspended → T x.defined) (task_read r t) (parts.tasks t v).suspension)
          (subst (λ (x : Task). TaskWellFormed (task_row x (get_or s.waiting.key t 0))) (task_read r t) (parts.tasks t v).row);
      queues = λ q v. (parts.queues q v).readable.flag;
      mailboxes = λ b v. (parts.mailboxes b v).flag;
    }
