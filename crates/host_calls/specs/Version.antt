-- The version of what hosts get, as one number: 10,000 times the first part, 100 times the second, and the third. The second part goes up where the layout of a
-- record or the meaning of a function changes, the third where neither does.
use Rattle.std.specs.Prelude.{ℕ, ◌+◌, ◌*◌}

abbrev pub version : ℕ
version = 0 * 10000 + 15 * 100 + 0
