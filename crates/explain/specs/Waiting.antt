-- The waiting requests.
use Rattle.std.specs.Prelude.{List}
use Rattle.std.specs.List.{filter_map, range_with_len}
use Rattle.protocol.specs.Limits.{warp_limit}
use Rattle.book.specs.Meaning.{Kind}
use Rattle.rules.specs.declared.state.Request.{Request}
use Rattle.rules.specs.Queue.{request_of}
use Rattle.rules.specs.State.{MachineState}

-- The requests of a queue, in the order of their warps' numbers.
unfoldable pub waiting_in : List Request → List Request
waiting_in queue = filter_map (request_of queue) (range_with_len 0 warp_limit)

abbrev pub all_waiting : {k : Kind} → MachineState k → List Request
all_waiting m = waiting_in m.queue
