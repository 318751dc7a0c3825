-- How many bytes the record takes in a host's memory, part by part, as C lays its structs out: each number at a multiple of its own size. No byte is left over:
-- where a struct would be filled up, it has a field of its own for that.
use Rattle.std.specs.Prelude.{ℕ, ◌+◌, ◌*◌}

-- Three words, four bytes, and the flags, a word.
abbrev pub task_size : ℕ
task_size = 3 * 4 + 4 + 4

-- The ring: sixteen words, three bytes and a spare one; then two bytes and two spare ones.
abbrev pub queue_size : ℕ
queue_size = 16 * 4 + 3 + 1 + 2 + 2

abbrev pub mailbox_size : ℕ
mailbox_size = 3

-- The links and the keys.
abbrev pub chains_size : ℕ
chains_size = 81 + 65

-- The counter; 33 tasks, 17 data queues, the two tables of chains, 17 mailboxes, a spare byte.
abbrev pub record_size : ℕ
record_size = 4 + 33 * task_size + 17 * queue_size + 2 * chains_size + 17 * mailbox_size + 1

abbrev pub record_align : ℕ
record_align = 4
