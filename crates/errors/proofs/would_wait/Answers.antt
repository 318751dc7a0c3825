-- `would_wait` is the definition's test: a queue has no words where their count is 0.
use Rattle.std.proofs.Common.{◌≡◌, arith}
use Rattle.std.proofs.lemmas.Grind.{common_steps}
use Rattle.model.specs.Sizes.{within}
use Rattle.model.specs.Errors.{would_wait}
use Rattle.errors.proofs.Tests.{count_zero}
use Rattle.errors.proofs.would_wait.Goals as goal

pub returns : goal.returns
unfolding would_wait
returns c v shows =
    let sends : c.contains.result ≡ within 4 6 c.args.call.number = grind (arith, common_steps) in
    let receives_word : c.contains-2.result ≡ within 8 10 c.args.call.number = grind (arith, common_steps) in
    let receives_message : c.contains-3.result ≡ within 15 17 c.args.call.number = grind (arith, common_steps) in
    simp (
      sends,
      receives_word,
      receives_message,
      shows.queue.count,
      count_zero,
      shows.queue.capacity,
      shows.queue.no_receiver,
      shows.queue.no_sender,
      shows.mailbox.no_message,
    )
