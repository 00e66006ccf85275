-- The longest header and all its rows lie in so many bytes, with one to spare.
use Rattle.std.proofs.Common.{arith}
use Rattle.calls.proofs.FrontReads.{front_suffices}
use Rattle.calls.proofs.reader.enough_bytes.Goals as goal

pub returns-clause-tells : goal.returns-clause-tells
returns-clause-tells c = front_suffices _ (omega (arith, c.longest_file.ensures))
