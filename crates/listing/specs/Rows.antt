-- The rows of a listing, byte for byte. A row ends with a line feed.
use Rattle.std.specs.Prelude.{ℕ, List, ◌∷◌, ◌++◌, Result, codes, decimal}
use Rattle.protocol.specs.Answers.{reply_text}
use Rattle.protocol.specs.Calls.{op_letter}
use Rattle.protocol.specs.Faults.{refusal_number}
use Rattle.protocol.specs.declared.answer.Answer.{Answer}
use Rattle.protocol.specs.declared.call.Call.{Call}
use Rattle.protocol.specs.declared.fault.Fault.{Fault}

-- A row of a word and two numbers.
abbrev pub pair_row : List ℕ → ℕ → ℕ → List ℕ
pair_row word first second =
    word ++ (decimal first ++ (codes " " ++ (decimal second ++ codes "\n")))

-- A line's number and its value at the end of a run.
abbrev pub mem_row : ℕ → ℕ → List ℕ
mem_row line value = pair_row (codes "mem ") line value

-- What is wrong with a calls file: the refusal's number and the place of the byte.
abbrev pub bad_row : Fault → List ℕ
bad_row fault = pair_row (codes "bad ") (refusal_number fault.refusal) fault.number

-- The end of a call's row: its answer, or its refusal.
abbrev pub reply_row : Result Answer Fault → List ℕ
reply_row reply = reply_text reply ++ codes "\n"

-- A call's row: its place in the run, counted from 1, its letter, its warp, and its answer or its
-- refusal.
abbrev pub call_row : ℕ → Call → Result Answer Fault → List ℕ
call_row place call reply =
    decimal place
    ++ ((codes " " ++ (op_letter call.op ∷ codes " "))
    ++ (decimal call.warp ++ (codes " " ++ reply_row reply)))
