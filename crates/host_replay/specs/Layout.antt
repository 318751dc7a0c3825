-- How many bytes a replay takes in a host's memory, part by part, as C lays its structs out. No byte is left over.
use Rattle.std.specs.Prelude.{ℕ, ◌+◌, ◌*◌}
use Rattle.host_record.specs.Layout.{record_size}

-- Four numbers of eight bytes; the record of the kernel's state; the part of a record.
abbrev pub replay_size : ℕ
replay_size = 4 * 8 + record_size + 32

abbrev pub replay_align : ℕ
replay_align = 8
