-- A number of 64 bits has at most twenty digits, all of them ASCII.
use Rattle.std.proofs.Common.{arith, rules}
use Rattle.std.proofs.lemmas.Grind.{common_steps}
use Rattle.std.proofs.lemmas.Fmt.{length-decimal-le, IsAscii-decimal}
use Rattle.std.proofs.lemmas.Str.{IsUtf8-from_ascii}
use Rattle.listing.proofs.Tails.{text_before}
use Rattle.listing.proofs.row.Tail.prepend_number.Goals as goal

pub write_digits-self-requires : goal.write_digits-self-requires
write_digits-self-requires c = search (rules, length-decimal-le 20)

pub invariant_of-self : goal.invariant_of-self
invariant_of-self c =
    record {
      size = grind (arith, common_steps);
      within = omega arith;
      utf8 =
          text_before _ _ _ (IsUtf8-from_ascii _ (IsAscii-decimal _ c.ranges.number.fits))
          c.write_digits-self.ensures.written
          c.args.self.now.utf8;
    }

pub returns-clause-start : goal.returns-clause-start
returns-clause-start c = search (rules, length-decimal-le 20)
