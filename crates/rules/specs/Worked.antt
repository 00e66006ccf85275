-- Worked runs over the exact book: each call with its answer, and the values of the lines at the
-- end.
use Rattle.std.specs.Prelude.{◌≡◌, ℕ, List, [], ◌∷◌, ◌++◌, map, length, Ok, Err, Result, Some}
use Rattle.std.specs.Prelude.{Option}
use Rattle.protocol.specs.Faults.{fault_in_call}
use Rattle.protocol.specs.Limits.{last_stamp}
use Rattle.protocol.specs.declared.answer.Answer.{Answer}
use Rattle.protocol.specs.declared.answer.Answer.TheVariants.{Done, Val, Wait, Gone}
use Rattle.protocol.specs.declared.answer.Cause.TheVariants.{WrittenLater, ReadLater, QueueFull}
use Rattle.protocol.specs.declared.call.Call.{Call}
use Rattle.protocol.specs.declared.call.Op.TheVariants.{Begin, Load, Store, Commit, Fetch}
use Rattle.protocol.specs.declared.fault.Fault.{Fault}
use Rattle.protocol.specs.declared.fault.Refusal.TheVariants.{WarpIdle, ClockSpent}
use Rattle.memory.specs.Lines.{word_lines}
use Rattle.book.specs.Exact.{exact, exact_new}
use Rattle.rules.specs.Lists.{numbers_below}
use Rattle.rules.specs.Queue.{product_policy}
use Rattle.rules.specs.Making.{new_machine}
use Rattle.rules.specs.Runs.{Event, Run, run}

-- The calls of a warp.
abbrev pub begin_by : ℕ → Call
begin_by w = record { warp = w; op = Begin }

abbrev pub load_by : ℕ → ℕ → Call
load_by w line = record { warp = w; op = Load line }

abbrev pub store_by : ℕ → ℕ → ℕ → Call
store_by w line value = record { warp = w; op = Store line value }

abbrev pub commit_by : ℕ → Call
commit_by w = record { warp = w; op = Commit }

abbrev pub fetch_by : ℕ → Call
fetch_by w = record { warp = w; op = Fetch }

-- A run of the product's machine over the exact book.
abbrev pub exact_run : List ℕ → List ℕ → List Call → Run exact
exact_run stamps values calls =
    run (product_policy exact) (new_machine exact (word_lines values) exact_new stamps) calls

-- A call, and its answer or its refusal.
pub record WorkedCall : Type 0 where
  pub call : Call
  pub reply : Result Answer Fault

-- A call that is answered.
abbrev pub answered_row : Call → Answer → WorkedCall
answered_row call answer = record { call = call; reply = Ok answer }

-- A call that is refused.
abbrev pub refused_row : Call → Fault → WorkedCall
refused_row call fault = record { call = call; reply = Err fault }

-- A worked run: the first stamps and line values, each call with its answer, and the line values at
-- the end.
pub record WorkedRun : Type 0 where
  pub stamps : List ℕ
  pub first_values : List ℕ
  pub rows : List WorkedCall
  pub last_values : List ℕ

-- A load of a line that is written later aborts. Begun again after the writer's commit, the
-- transaction reads the committed value. At the end a warp without a transaction is refused a load.
abbrev pub reads_after_commit : WorkedRun
reads_after_commit =
    record {
      stamps = 0 ∷ 0 ∷ [];
      first_values = 7 ∷ [];
      rows =
          answered_row (begin_by 0) Done
          ∷ answered_row (begin_by 1) Done
          ∷ answered_row (store_by 0 0 9) Done
          ∷ answered_row (load_by 1 0) (Gone WrittenLater 2)
          ∷ answered_row (commit_by 0) Done
          ∷ answered_row (begin_by 1) Done
          ∷ answered_row (load_by 1 0) (Val 9)
          ∷ refused_row (load_by 0 0) (fault_in_call WarpIdle 0)
          ∷ [];
      last_values = 9 ∷ [];
    }

-- A load aborts at a line that a transaction with a larger stamp has stored to.
abbrev pub older_reader : WorkedRun
older_reader =
    record {
      stamps = 20 ∷ 10 ∷ [];
      first_values = 100 ∷ 50 ∷ [];
      rows =
          answered_row (begin_by 0) Done
          ∷ answered_row (begin_by 1) Done
          ∷ answered_row (load_by 0 0) (Val 100)
          ∷ answered_row (store_by 0 0 90) Done
          ∷ answered_row (load_by 1 1) (Val 50)
          ∷ answered_row (store_by 1 1 40) Done
          ∷ answered_row (load_by 1 0) (Gone WrittenLater 22)
          ∷ [];
      last_values = 100 ∷ 50 ∷ [];
    }

-- The same run goes on: warp 0 stores to line 1 too, and a load of that line by warp 1, which has
-- begun again, waits until warp 0 commits.
abbrev pub waits_for_commit : WorkedRun
waits_for_commit =
    record {
      stamps = 20 ∷ 10 ∷ [];
      first_values = 100 ∷ 50 ∷ [];
      rows =
          older_reader.rows
          ++ (answered_row (load_by 0 1) (Val 50)
          ∷ answered_row (store_by 0 1 60) Done
          ∷ answered_row (begin_by 1) Done
          ∷ answered_row (load_by 1 1) Wait
          ∷ answered_row (commit_by 0) Done
          ∷ answered_row (fetch_by 1) (Val 60)
          ∷ []);
      last_values = 90 ∷ 60 ∷ [];
    }

-- A warp loads a line that its own last transaction wrote, at the same stamp, and aborts.
abbrev pub own_last_commit : WorkedRun
own_last_commit =
    record {
      stamps = 5 ∷ [];
      first_values = 7 ∷ [];
      rows =
          answered_row (begin_by 0) Done
          ∷ answered_row (store_by 0 0 8) Done
          ∷ answered_row (commit_by 0) Done
          ∷ answered_row (begin_by 0) Done
          ∷ answered_row (load_by 0 0) (Gone WrittenLater 7)
          ∷ [];
      last_values = 8 ∷ [];
    }

-- Two warps have the same stamp: the warp number in the read mark decides.
abbrev pub two_at_one_stamp : WorkedRun
two_at_one_stamp =
    record {
      stamps = 0 ∷ 0 ∷ [];
      first_values = 1 ∷ 2 ∷ [];
      rows =
          answered_row (begin_by 0) Done
          ∷ answered_row (begin_by 1) Done
          ∷ answered_row (load_by 0 0) (Val 1)
          ∷ answered_row (load_by 1 1) (Val 2)
          ∷ answered_row (store_by 0 1 3) (Gone ReadLater 1)
          ∷ answered_row (store_by 1 0 4) Done
          ∷ [];
      last_values = 1 ∷ 2 ∷ [];
    }

-- Four requests fill the queue of a line, and the fifth aborts.
abbrev pub line_is_full : WorkedRun
line_is_full =
    record {
      stamps = 0 ∷ 1 ∷ 1 ∷ 1 ∷ 1 ∷ 1 ∷ [];
      first_values = 7 ∷ [];
      rows =
          answered_row (begin_by 0) Done
          ∷ answered_row (begin_by 1) Done
          ∷ answered_row (begin_by 2) Done
          ∷ answered_row (begin_by 3) Done
          ∷ answered_row (begin_by 4) Done
          ∷ answered_row (begin_by 5) Done
          ∷ answered_row (store_by 0 0 8) Done
          ∷ answered_row (load_by 1 0) Wait
          ∷ answered_row (load_by 2 0) Wait
          ∷ answered_row (load_by 3 0) Wait
          ∷ answered_row (load_by 4 0) Wait
          ∷ answered_row (load_by 5 0) (Gone QueueFull 1)
          ∷ [];
      last_values = 7 ∷ [];
    }

-- Of requests with equal stamps, the first to arrive is retried first.
abbrev pub first_to_arrive : WorkedRun
first_to_arrive =
    record {
      stamps = 0 ∷ 3 ∷ 3 ∷ [];
      first_values = 7 ∷ [];
      rows =
          answered_row (begin_by 0) Done
          ∷ answered_row (begin_by 1) Done
          ∷ answered_row (begin_by 2) Done
          ∷ answered_row (store_by 0 0 8) Done
          ∷ answered_row (store_by 2 0 9) Wait
          ∷ answered_row (load_by 1 0) Wait
          ∷ answered_row (commit_by 0) Done
          ∷ answered_row (fetch_by 2) Done
          ∷ answered_row (fetch_by 1) (Gone WrittenLater 5)
          ∷ [];
      last_values = 8 ∷ [];
    }

-- At the end of the clock an abort gives a next stamp past it, and the warp's next begin is
-- refused.
abbrev pub end_of_clock : WorkedRun
end_of_clock =
    record {
      stamps = last_stamp ∷ last_stamp ∷ [];
      first_values = 7 ∷ [];
      rows =
          answered_row (begin_by 0) Done
          ∷ answered_row (begin_by 1) Done
          ∷ answered_row (store_by 0 0 8) Done
          ∷ answered_row (load_by 1 0) (Gone WrittenLater 1000000002)
          ∷ refused_row (begin_by 1) (fault_in_call ClockSpent 1000000002)
          ∷ [];
      last_values = 7 ∷ [];
    }

-- All worked runs.
abbrev pub worked_runs : List WorkedRun
worked_runs =
    reads_after_commit
    ∷ older_reader
    ∷ waits_for_commit
    ∷ own_last_commit
    ∷ two_at_one_stamp
    ∷ line_is_full
    ∷ first_to_arrive
    ∷ end_of_clock
    ∷ []

-- The answers to the calls and the line values at the end, as the rules give them.
abbrev pub run_result : WorkedRun → List (Result Answer Fault) × List (Option ℕ)
run_result r =
    let after = exact_run r.stamps r.first_values (map (λ (row : WorkedCall). row.call) r.rows) in
    let lines = numbers_below (length r.first_values) in
    (map (λ (e : Event). e.answer) after.events, map after.machine.lines lines)

-- The same, as the worked run states them.
abbrev pub stated_result : WorkedRun → List (Result Answer Fault) × List (Option ℕ)
stated_result r = (map (λ (row : WorkedCall). row.reply) r.rows, map Some r.last_values)

-- The rules give what each worked run states.
abbrev pub WorkedRunsStand : Type 0
WorkedRunsStand = map run_result worked_runs ≡ map stated_result worked_runs
