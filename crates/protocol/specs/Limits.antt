-- The machine's limits, each stated once.
use Rattle.std.specs.Prelude.{ℕ}

-- The number of lines that a book has: a line's number is below this.
abbrev pub line_limit : ℕ
line_limit = 4096

-- The maximum number of warps: a warp's number is below this.
abbrev pub warp_limit : ℕ
warp_limit = 32

-- The maximum number of stores in a log.
abbrev pub log_limit : ℕ
log_limit = 32

-- The maximum number of requests that wait for one line.
abbrev pub line_room : ℕ
line_room = 4

-- The maximum number of lines that requests wait for at once.
abbrev pub queue_room : ℕ
queue_room = 4

-- The last stamp of the clock: no transaction begins at a later one.
abbrev pub last_stamp : ℕ
last_stamp = 1000000000
