-- An ASCII byte is UTF-8.
use Rattle.std.proofs.Common.{arith}
use Rattle.std.proofs.lemmas.Grind.{common_steps}
use Rattle.listing.proofs.Tails.{ascii_byte, text_before}
use Rattle.listing.proofs.row.Tail.prepend_byte.Goals as goal

pub invariant_of-self : goal.invariant_of-self
invariant_of-self c =
    record {
      size = grind (arith, common_steps);
      within = omega arith;
      utf8 =
          text_before _ _ _ (ascii_byte c.args.byte c.requires.ascii)
          (grind (arith, common_steps)) c.args.self.now.utf8;
    }
