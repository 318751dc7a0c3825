-- Document 01, "The kernel part we mean": the sizes.
use Rattle.std.specs.Prelude.{Bool, ◌&&◌, ℕ, leb}

-- Calls 1 to 23; number 0 is the tick.
abbrev pub call_limit : ℕ
call_limit = 23

-- The largest number of each kind; the smallest is 1.
abbrev pub task_limit : ℕ
task_limit = 32

abbrev pub queue_limit : ℕ
queue_limit = 16

abbrev pub mailbox_limit : ℕ
mailbox_limit = 16

abbrev pub message_limit : ℕ
message_limit = 64

-- The most words that a data queue stores.
abbrev pub capacity_limit : ℕ
capacity_limit = 16

-- The largest priority, of tasks and of messages; the smallest is 1.
abbrev pub priority_limit : ℕ
priority_limit = 16

-- The largest tmout.
abbrev pub tmout_limit : ℕ
tmout_limit = 2147483646

-- The latest end tick of a sound record, in ticks from now: that of the largest tmout (document 02, item 1).
abbrev pub end_limit : ℕ
end_limit = 2147483647

-- The tick counter counts modulo this number.
abbrev pub counter_span : ℕ
counter_span = 4294967296

-- The most calls in a table (document 02, item 2).
abbrev pub table_limit : ℕ
table_limit = 64

-- n is from low to high.
abbrev pub within : ℕ → ℕ → ℕ → Bool
within low high n = leb low n && leb n high
