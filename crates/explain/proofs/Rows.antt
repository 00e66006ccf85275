-- The rows of a listing are kept.
use Rattle.std.proofs.Common.{ℕ, List, ◌∷◌, ◌++◌, Ok, Err, Result, codes, decimal, refl}
use Rattle.protocol.specs.Answers.{answer_text, cause_number, reply_text}
use Rattle.protocol.specs.Calls.{op_letter}
use Rattle.protocol.specs.Faults.{refusal_number}
use Rattle.protocol.specs.declared.answer.Answer.{Answer}
use Rattle.protocol.specs.declared.answer.Answer.TheVariants.{Done, Val, Wait, Gone}
use Rattle.protocol.specs.declared.call.Call.{Call}
use Rattle.protocol.specs.declared.call.Op.{Op}
use Rattle.protocol.specs.declared.call.Op.TheVariants.{Begin, Load, Store, Commit, Drop, Fetch}
use Rattle.protocol.specs.declared.fault.Fault.{Fault}
use Rattle.listing.specs.Rows.{bad_row, call_row, mem_row, pair_row, reply_row}
use Rattle.explain.specs.Notes.{at_start, in_row, kept_from}
use Rattle.explain.proofs.Digits.{decimal_kept}
use Rattle.explain.proofs.Scan.{Keeps, gives_append}

-- Parts that stand one after another within a row.
in_turn : (a b : List ℕ) → Keeps in_row a in_row → Keeps in_row b in_row
    → Keeps in_row (a ++ b) in_row
in_turn a b first second = gives_append in_row in_row in_row a b a b first second

to_end : (a b : List ℕ) → Keeps in_row a in_row → Keeps in_row b at_start
    → Keeps in_row (a ++ b) at_start
to_end a b first second = gives_append in_row in_row at_start a b a b first second

blank : Keeps in_row (codes " ") in_row
unfolding kept_from
blank rest = refl

row_ends : Keeps in_row (codes "\n") at_start
unfolding kept_from
row_ends rest = refl

number : (n : ℕ) → Keeps in_row (codes " " ++ decimal n) in_row
number n = in_turn (codes " ") (decimal n) blank (decimal_kept n).further

-- A row of a word and two numbers.
pair_kept :
    (word : List ℕ) (first second : ℕ) → Keeps at_start word in_row
    → Keeps at_start (pair_row word first second) at_start
pair_kept word first second kept =
    let last : Keeps in_row (decimal second ++ codes "\n") at_start =
    to_end (decimal second) (codes "\n") (decimal_kept second).further row_ends in
    let then : Keeps in_row (codes " " ++ (decimal second ++ codes "\n")) at_start =
    to_end (codes " ") (decimal second ++ codes "\n") blank last in
    let both = to_end (decimal first) (codes " " ++ (decimal second ++ codes "\n"))
    (decimal_kept first).further then in
    gives_append at_start in_row at_start word _ word _ kept both

mem_word : Keeps at_start (codes "mem ") in_row
unfolding kept_from
mem_word rest = refl

bad_word : Keeps at_start (codes "bad ") in_row
unfolding kept_from
bad_word rest = refl

pub mem_row_kept : (line value : ℕ) → Keeps at_start (mem_row line value) at_start
mem_row_kept line value = pair_kept (codes "mem ") line value mem_word

pub bad_row_kept : (fault : Fault) → Keeps at_start (bad_row fault) at_start
bad_row_kept fault = pair_kept (codes "bad ") (refusal_number fault.refusal) fault.number bad_word

-- An answer and a letter.
answer_kept : (answer : Answer) → Keeps in_row (answer_text answer) in_row
unfolding kept_from
answer_kept Done rest = refl
answer_kept (Val value) rest =
    in_turn (codes "val") (codes " " ++ decimal value) (λ rest. refl) (number value) rest
answer_kept Wait rest = refl
answer_kept (Gone cause next) rest =
    in_turn (codes "gone" ++ (codes " " ++ decimal (cause_number cause)))
    (codes " " ++ decimal next)
    (in_turn (codes "gone") (codes " " ++ decimal (cause_number cause)) (λ rest. refl)
    (number (cause_number cause)))
    (number next) rest

reply_kept : (reply : Result Answer Fault) → Keeps in_row (reply_text reply) in_row
unfolding kept_from
reply_kept (Ok answer) rest = answer_kept answer rest
reply_kept (Err fault) rest =
    in_turn (codes "no") (codes " " ++ decimal (refusal_number fault.refusal)) (λ rest. refl)
    (number (refusal_number fault.refusal)) rest

letter_kept : (op : Op) → Keeps in_row (codes " " ++ (op_letter op ∷ codes " ")) in_row
unfolding kept_from
letter_kept Begin rest = refl
letter_kept (Load line) rest = refl
letter_kept (Store line value) rest = refl
letter_kept Commit rest = refl
letter_kept Drop rest = refl
letter_kept Fetch rest = refl

pub call_row_kept :
    (place : ℕ) (call : Call) (reply : Result Answer Fault)
    → Keeps at_start (call_row place call reply) at_start
call_row_kept place call reply =
    let last = to_end (reply_text reply) (codes "\n") (reply_kept reply) row_ends in
    let then = to_end (codes " ") (reply_row reply) blank last in
    let both = to_end (decimal call.warp) (codes " " ++ reply_row reply)
    (decimal_kept call.warp).further then in
    let all = to_end (codes " " ++ (op_letter call.op ∷ codes " ")) _ (letter_kept call.op) both in
    gives_append at_start in_row at_start (decimal place) _ (decimal place) _
    (decimal_kept place).first all
