-- The access steps: what happens to a load or a store at its line. The first step that applies
-- decides. Each step is defined after the steps that follow it, so read this file from its end.
use Rattle.std.specs.Prelude.{ℕ, ◌+◌, max, Bool, false, cond, Some, None, Option, ◌==◌, nat_lt}
use Rattle.protocol.specs.declared.answer.Cause.TheVariants.{WrittenLater, ReadLater, QueueFull}
use Rattle.protocol.specs.declared.answer.Cause.TheVariants.{NoSlot}
use Rattle.book.specs.Meaning.{Kind}
use Rattle.book.specs.Time.{Time, earlier}
use Rattle.book.specs.declared.book.LineState.{LineState}
use Rattle.rules.specs.declared.state.Access.{Access}
use Rattle.rules.specs.declared.state.Access.TheVariants.{Read, Write}
use Rattle.rules.specs.declared.verdict.Verdict.{Verdict}
use Rattle.rules.specs.declared.verdict.Verdict.TheVariants.{OwnLine, Gone as VerdictGone, MustWait}
use Rattle.rules.specs.declared.verdict.Verdict.TheVariants.{GoOn}

-- What the book says of a line, in any state of the book. A transaction whose stamp is below the
-- write stamp may no longer use the line. A transaction earlier than the read mark, a stamp and a
-- warp, may not store to it. The owner is the warp that has the line reserved. A line without a
-- slot cannot be reserved now.
abbrev pub line_state : (k : Kind) → k.State → ℕ → LineState
line_state k s line =
    record {
      write_stamp = k.write_stamp s line;
      read_mark = k.read_mark s line;
      owner = k.owner s line;
      has_slot = k.has_slot s line;
    }

-- The next stamp of a transaction that is aborted by a later write or read: past the line's write
-- stamp, and for a store past its read mark too.
abbrev pub stamp_past : Access → LineState → ℕ
stamp_past Read t = t.write_stamp + 1
stamp_past (Write value) t = max t.write_stamp t.read_mark.0 + 1

-- Fifth step, nobody has the line reserved: a load goes on, and so does a store if the line has a
-- slot. Without a slot the store aborts and keeps its stamp.
abbrev pub verdict_on_free_line : Access → LineState → Time → Verdict
verdict_on_free_line Read t time = GoOn
verdict_on_free_line (Write value) t time = cond t.has_slot GoOn (VerdictGone NoSlot time.0)

-- Fourth step: if another warp has the line reserved, the request must wait.
abbrev pub verdict_by_owner : Option ℕ → Access → LineState → Time → Verdict
verdict_by_owner None access t time = verdict_on_free_line access t time
verdict_by_owner (Some v) access t time = MustWait

-- Third step: a store aborts if a logically later transaction has read the line.
abbrev pub verdict_by_read_mark : Access → LineState → Time → Verdict
verdict_by_read_mark Read t time = verdict_by_owner t.owner Read t time
verdict_by_read_mark (Write value) t time =
    cond (earlier time t.read_mark) (VerdictGone ReadLater (stamp_past (Write value) t))
    (verdict_by_owner t.owner (Write value) t time)

-- Second step: a load or a store aborts if a logically later transaction has written the line. A
-- waiting request is retried from this step on.
abbrev pub retry_verdict : Access → LineState → Time → Verdict
retry_verdict access t time =
    cond (nat_lt time.0 t.write_stamp) (VerdictGone WrittenLater (stamp_past access t))
    (verdict_by_read_mark access t time)

-- The warp has the line reserved.
abbrev pub is_owner : Option ℕ → ℕ → Bool
is_owner None w = false
is_owner (Some v) w = v == w

-- First step: if the warp has the line reserved itself, the request goes on. This is the decision
-- by all steps, in their order.
abbrev pub access_verdict : Access → LineState → Time → Verdict
access_verdict access t time = cond (is_owner t.owner time.1) OwnLine (retry_verdict access t time)

-- Only a request that must wait needs room in the queue. Without room its transaction is aborted,
-- and keeps its stamp.
abbrev pub verdict_with_room : Bool → ℕ → Verdict → Verdict
verdict_with_room full stamp OwnLine = OwnLine
verdict_with_room full stamp (VerdictGone cause next) = VerdictGone cause next
verdict_with_room full stamp MustWait = cond full (VerdictGone QueueFull stamp) MustWait
verdict_with_room full stamp GoOn = GoOn
