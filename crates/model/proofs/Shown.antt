-- What a call has in view is a row of the state, where its number is valid, or else the row of what is undefined: by cases of the test.
use mathlib.Core.Path.{◌≡◌, sym, ◌∙◌, ap, subst}
use mathlib.Core.Bool.{Bool, true, false, cond}
use Prim.Native.Nat.{ℕ}
use lib.Dec.{T}
use Rattle.model.specs.Rows.{task, suspension, queue, mailbox, message, valid, Model, QueueRow, MailboxRow, no_task, no_queue, no_mailbox, free}
use Rattle.model.specs.Calls.{Call, names_task, reads_suspension, names_queue, names_mailbox, names_message, message_of, queue_named, mailbox_named, View, view_of}
use Rattle.model.proofs.Choices.{cond_yes}
use Rattle.model.proofs.Step.{rows_seen, view_is}

named_row : {X : Type 0} (ok : ℕ → Bool) (f : ℕ → X) (d : X) (is_named : Bool) (n : ℕ) → T is_named → T (ok n) → cond (ok (cond is_named n 0)) (f (cond is_named n 0)) d ≡ f n
named_row ok f d true n t h = cond_yes (ok n) (f n) d h
named_row ok f d false n t h = absurd t

either_row : {X : Type 0} (P : X → Type 0) (b : Bool) (x d : X) → P x → P d → P (cond b x d)
either_row P true x d p q = p
either_row P false x d p q = q

module _ (m : Model) (c : Call) where
  seen : view_of m c ≡ rows_seen m.rows c
  seen = view_is m c

  pub shown_caller : T (valid (task c.caller)) → (view_of m c).caller.row ≡ m.rows (task c.caller)
  shown_caller h = ap (λ (v : View). v.caller.row) seen ∙ cond_yes (valid (task c.caller)) (m.rows (task c.caller)) no_task h

  pub shown_task : T (names_task c) → T (valid (task c.object)) → (view_of m c).the_task ≡ m.rows (task c.object)
  shown_task t h = ap (λ (v : View). v.the_task) seen ∙ named_row (λ n. valid (task n)) (λ n. m.rows (task n)) no_task (names_task c) c.object t h

  pub shown_suspension : T (reads_suspension c) → T (valid (task c.object)) → (view_of m c).suspended ≡ m.rows (suspension c.object)
  shown_suspension t h = ap (λ (v : View). v.suspended) seen ∙ named_row (λ n. valid (suspension n)) (λ n. m.rows (suspension n)) false (reads_suspension c) c.object t h

  pub shown_queue : T (names_queue c) → T (valid (queue c.object)) → (view_of m c).the_queue ≡ m.rows (queue c.object)
  shown_queue t h = ap (λ (v : View). v.the_queue) seen ∙ named_row (λ n. valid (queue n)) (λ n. m.rows (queue n)) no_queue (names_queue c) c.object t h

  pub shown_mailbox : T (names_mailbox c) → T (valid (mailbox c.object)) → (view_of m c).the_mailbox ≡ m.rows (mailbox c.object)
  shown_mailbox t h = ap (λ (v : View). v.the_mailbox) seen ∙ named_row (λ n. valid (mailbox n)) (λ n. m.rows (mailbox n)) no_mailbox (names_mailbox c) c.object t h

  pub shown_message : T (names_message c) → T (valid (message (message_of c))) → (view_of m c).the_message ≡ m.rows (message (message_of c))
  shown_message t h = ap (λ (v : View). v.the_message) seen ∙ named_row (λ n. valid (message n)) (λ n. m.rows (message n)) free (names_message c) (message_of c) t h

  -- What holds of every object, and of what is undefined, holds of the object in view.
  pub some_queue_shown : (P : QueueRow → Type 0) → ((q : ℕ) → P (m.rows (queue q))) → P no_queue → P (view_of m c).the_queue
  some_queue_shown P h d = let k = queue (queue_named c) in subst (λ (v : View). P v.the_queue) (sym seen) (either_row P (valid k) (m.rows k) no_queue (h (queue_named c)) d)

  pub some_mailbox_shown : (P : MailboxRow → Type 0) → ((b : ℕ) → P (m.rows (mailbox b))) → P no_mailbox → P (view_of m c).the_mailbox
  some_mailbox_shown P h d = let k = mailbox (mailbox_named c) in subst (λ (v : View). P v.the_mailbox) (sym seen) (either_row P (valid k) (m.rows k) no_mailbox (h (mailbox_named c)) d)
