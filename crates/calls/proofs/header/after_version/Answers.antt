-- Where the pattern fails, the first check of the header does; a byte that is missing is no mark.
use Rattle.std.proofs.Common.{◌≡◌, false, arith}
use Rattle.std.proofs.lemmas.List.{get_or_past}
use Rattle.std.proofs.lemmas.Bool.Decides.{nat_tests}
use Rattle.calls.specs.Format.{has_marks}
use Rattle.calls.proofs.HeaderChecks.{wrong_mark}
use Rattle.calls.proofs.header.after_version.Goals as goal

pub returns-in_default : goal.returns-in_default
returns-in_default c =
    let bytes = c.args.bytes.now in
    let m : has_marks bytes ≡ false = grind (arith, nat_tests, get_or_past bytes 2 0) in
    rw c.in_file-in_default.ensures (wrong_mark bytes m)
