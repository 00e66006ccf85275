-- The state of a machine in the rules.
use Rattle.std.specs.Prelude.{ℕ, List}
use Rattle.memory.specs.Lines.{Lines}
use Rattle.book.specs.Meaning.{Kind}
use Rattle.rules.specs.State.{MachineState as State}
use Rattle.rules.specs.Queue.{Policy, product_policy}
use Rattle.machine.specs.Warps.{warp_rows, queue_of}
use Rattle.machine.specs.declared.warps.Warps.{Warps}
use Rattle.machine.specs.declared.machine.Machine.{Machine}

-- Its state in the rules: the meanings of its memory and its book, a row for each warp, and the
-- requests that wait.
abbrev pub state : {M B : Type 0} → (M → Lines) → (k : Kind) → (B → k.State) → Machine M B → State k
state at k model m =
    record {
      lines = at m.memory;
      book = model m.book;
      warp_rows = warp_rows m.warps;
      queue
          = queue_of m.warps;
    }

-- Its policy: the order of retries and the limits of the queue. Every machine has the product's.
abbrev pub policy_of : {M B : Type 0} → (k : Kind) → Machine M B → Policy k
policy_of k m = product_policy k

-- What its memory borrows: the slices, and what they hold besides its lines.
abbrev pub loan : {M B : Type 0} → (M → List ℕ) → (M → List ℕ) → Machine M B → List ℕ × List ℕ
loan lent spare m = (lent m.memory, spare m.memory)

-- The parts that it lends.
abbrev pub memory_of : {M B : Type 0} → Machine M B → M
memory_of m = m.memory

abbrev pub book_of : {M B : Type 0} → Machine M B → B
book_of m = m.book

abbrev pub warps_of : {M B : Type 0} → Machine M B → Warps
warps_of m = m.warps
