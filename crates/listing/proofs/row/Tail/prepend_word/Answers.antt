-- A word is UTF-8 by its type.
use Rattle.std.proofs.Common.{arith}
use Rattle.std.proofs.lemmas.Grind.{common_steps}
use Rattle.listing.proofs.Tails.{text_before}
use Rattle.listing.proofs.row.Tail.prepend_word.Goals as goal

pub invariant_of-self : goal.invariant_of-self
invariant_of-self c =
    record {
      size = grind (arith, common_steps);
      within = omega arith;
      utf8 = text_before _ _ _ c.utf8.word (grind (arith, common_steps)) c.args.self.now.utf8;
    }
