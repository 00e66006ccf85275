-- Behind the last byte nothing stands.
use Rattle.std.proofs.Common.{arith}
use Rattle.listing.proofs.Tails.{none_left, text_of_none}
use Rattle.listing.proofs.row.Tail.clear.Goals as goal

pub returns-clause-text : goal.returns-clause-text
returns-clause-text c = none_left c.args.self.now.bytes c.args.self.now.size

pub invariant_of-self : goal.invariant_of-self
invariant_of-self c =
    record {
      size = c.args.self.now.size;
      within = omega arith;
      utf8 = text_of_none _ (none_left c.args.self.now.bytes c.args.self.now.size);
    }
