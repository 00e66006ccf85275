-- The four bytes that are written are the line's, no other line's and none of the odd bytes at the
-- end.
use Rattle.std.proofs.Common.{arith, rules}
use Rattle.memory.proofs.FourBytes.{line_written, odd_bytes_stay}
use Rattle.memory.proofs.byte.ByteMemoryMemory.write.Goals as goal

pub returns : goal.returns
returns c =
    record {
      answer = search rules;
      after = line_written _ _ _ c.if-place-self.false (omega arith) _ c.to_le_bytes.ensures;
      lender = search rules;
      untouched = odd_bytes_stay _ _ c.if-place-self.false _ _ _ _;
    }
