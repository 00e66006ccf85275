use Rattle.rules.proofs.Examples.{two_writers_apart, writer_reader_apart, reader_writer_apart}
use Rattle.rules.proofs.Examples.{same_stamp_apart}
use Rattle.rules.proofs.Examples.{settled_load_found, chain_of_three, stamp_kept, stamp_taken_early}
use Rattle.rules.proofs.Examples.{lost_update_unexplained}
use Rattle.rules.proofs.examples_stand.Goals as goal

pub returns : goal.returns
returns c =
    record {
      writers = two_writers_apart;
      reader = writer_reader_apart;
      writer = reader_writer_apart;
      stamps = same_stamp_apart;
      settled = settled_load_found;
      chain = chain_of_three;
      kept = stamp_kept;
      early = stamp_taken_early;
      lost = lost_update_unexplained;
    }
