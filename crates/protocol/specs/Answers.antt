-- The numbers of the causes, and the texts of answers and refusals.
use Rattle.std.specs.Prelude.{ℕ, List, [], ◌∷◌, ◌++◌, Ok, Err, Result, fold, codes, decimal}
use Rattle.protocol.specs.Faults.{refusal_number}
use Rattle.protocol.specs.declared.fault.Fault.{Fault}
use Rattle.protocol.specs.declared.answer.Cause.{Cause}
use Rattle.protocol.specs.declared.answer.Cause.TheVariants.{WrittenLater, ReadLater, QueueFull}
use Rattle.protocol.specs.declared.answer.Cause.TheVariants.{NoSlot}
use Rattle.protocol.specs.declared.answer.Outcome.{Outcome}
use Rattle.protocol.specs.declared.answer.Outcome.TheVariants.{Value, Stored, Gone as OutcomeGone}
use Rattle.protocol.specs.declared.answer.Answer.{Answer}
use Rattle.protocol.specs.declared.answer.Answer.TheVariants.{Done, Val, Wait, Gone}

-- The number that listings print for a cause.
abbrev pub cause_number : Cause → ℕ
cause_number WrittenLater = 1
cause_number ReadLater = 2
cause_number QueueFull = 3
cause_number NoSlot = 4

-- The word that listings print for an answer.
abbrev pub answer_word : Answer → List ℕ
answer_word Done = codes "ok"
answer_word (Val value) = codes "val"
answer_word Wait = codes "wait"
answer_word (Gone cause next) = codes "gone"

-- The numbers that listings print after the word.
abbrev pub answer_numbers : Answer → List ℕ
answer_numbers Done = []
answer_numbers (Val value) = value ∷ []
answer_numbers Wait = []
answer_numbers (Gone cause next) = cause_number cause ∷ next ∷ []

-- A text, then a blank and a number.
abbrev pub with_number : List ℕ → ℕ → List ℕ
with_number text number = text ++ (codes " " ++ decimal number)

-- An answer as listings print it: its word, then its numbers.
abbrev pub answer_text : Answer → List ℕ
answer_text answer = fold with_number (answer_word answer) (answer_numbers answer)

-- A refusal as listings print it: the word `no` and the refusal's number.
abbrev pub refusal_text : Fault → List ℕ
refusal_text fault = with_number (codes "no") (refusal_number fault.refusal)

-- The reply to a call as listings print it: its answer or its refusal.
abbrev pub reply_text : Result Answer Fault → List ℕ
reply_text (Ok answer) = answer_text answer
reply_text (Err fault) = refusal_text fault

-- The answer that reports an outcome.
abbrev pub answer_of : Outcome → Answer
answer_of (Value value) = Val value
answer_of Stored = Done
answer_of (OutcomeGone cause next) = Gone cause next
