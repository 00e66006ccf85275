-- Each four bytes are a number.
use Rattle.std.proofs.Common.{◌/◌, length, rules}
use Rattle.std.proofs.iter.runs.Made.{chains}
use Rattle.calls.proofs.NumberSteps.{numbers_by_fours}
use Rattle.calls.proofs.header.read_numbers.Goals as goal

pub returns : goal.returns
returns c =
    let bytes = c.args.bytes.now in
    rw (← (numbers_by_fours (length bytes / 4) bytes)) (search (rules, chains))
