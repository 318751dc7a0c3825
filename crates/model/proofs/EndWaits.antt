-- The waits of a whole wait queue, ended one by one, leave it empty, the rows well-formed and the other wait queues and the messages as they were: by
-- induction on the wait queue.
use mathlib.Core.Path.{◌≡◌, refl, ◌∙◌, ap}
use mathlib.Core.List.Memᴰ.{head as here}
use mathlib.Core.List.{List, [], ◌∷◌, head_d}
use mathlib.Core.Logic.{◌≢◌}
use mathlib.Core.Option.{some}
use Prim.Native.Nat.{ℕ}
use lib.Dec.{T}
use Rattle.lists.specs.Lists.{empty, without}
use Rattle.lists.proofs.Stands.{without_head}
use Rattle.rows.specs.Program as Program
use Rattle.rows.specs.Program.{update}
use Rattle.rows.proofs.Update.{update_same, update_other}
use Rattle.model.specs.Rows.{task, mailbox, same_key, Row, Effect}
use Rattle.model.specs.Codes.{Code}
use Rattle.model.specs.Waits.{ended, WaitQueue, wait_queue}
use Rattle.model.specs.WaitQueues.{end_waits, standing_in, set_standing}
use Rattle.model.specs.WellFormed.{ends_a_wait, WellFormedRows}
use Rattle.model.specs.declared.Answer.{Answer}
use Rattle.model.proofs.Standing.{same_queue, changed, set_standing_is}
use Rattle.model.proofs.WaitMoves.{standing_moved, leave}
use Rattle.model.proofs.After.{After, after_end_wait}

-- Rows n are rows m with wait queue c emptied: what is read of them.
pub record Emptied (c : WaitQueue) (m n : Program.Rows Row) : Type 0 where
  pub no_one : standing_in n c ≡ []
  pub other_lists : (d : WaitQueue) → d ≢ c → standing_in n d ≡ standing_in m d
  pub messages : (b : ℕ) → (n (mailbox b)).messages ≡ (m (mailbox b)).messages

module _ (code : Code) where
  -- The rows after one wait has ended.
  module _ (m : Program.Rows Row) (c : WaitQueue) (l : List ℕ) (t : ℕ) where
    abbrev pub left : Program.Rows Row
    left = update same_key (task t) (ended code 0 (m (task t))) (set_standing c l m)

    pub standing_left : (d : WaitQueue) → standing_in left d ≡ changed same_queue c l (standing_in m) d
    standing_left d = rw (set_standing_is c l m) (standing_moved m c l t (ended code 0 (m (task t))) d)

    pub messages_left : (b : ℕ) → (left (mailbox b)).messages ≡ (m (mailbox b)).messages
    unfolding same_key update
    messages_left b = rw (set_standing_is c l m)

  pub after_end_waits : {Q : Program.Rows Row → Answer → Type 0} → T (ends_a_wait code) →
      (c : WaitQueue) (l : List ℕ) (p : Effect) (m : Program.Rows Row)
      → WellFormedRows m → standing_in m c ≡ l
      → ((n : Program.Rows Row) → WellFormedRows n → Emptied c m n → After Q p n) → After Q (end_waits l code p) m
  unfolding end_waits head_d empty
  after_end_waits ends c [] p m w e h = h m w (record { no_one = e; other_lists = λ d n. refl; messages = λ b. refl })
  after_end_waits ends c (t ∷ ts) p m w e h =
      after_end_wait t code c _ m at_c (after_end_waits ends c ts p (left m c rest t) (leave w t c code 0 ends at_c)
      (standing_left m c rest t c ∙ (update_same same_queue c rest (standing_in m) ∙ (ap (without t) e ∙ without_head (t ∷ ts) tt)))
      (λ n v k. h n v (record {
        no_one = k.no_one;
        other_lists = λ d o. k.other_lists d o ∙ (standing_left m c rest t d ∙ update_other same_queue c rest (standing_in m) d o);
        messages = λ b. k.messages b ∙ messages_left m c rest t b;
      })))
    where
      rest : List ℕ
      rest = without t (standing_in m c)

      at_c : wait_queue (m (task t)).wait ≡ some c
      at_c = w.waiting.no_other t c (rw e (here refl))
