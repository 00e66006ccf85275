-- The example of shared entries, computed.
use Rattle.std.proofs.Common.{refl}
use Rattle.condensed.specs.Filter.{index_by, filter_stamps, filter_raised_to}
use Rattle.condensed.specs.Condensed.{slot_of}
use Rattle.condensed.specs.SharedEntries.{SharedMark}

pub shared_mark : SharedMark
unfolding index_by filter_stamps filter_raised_to slot_of
shared_mark = record { exactly = refl; condensed_to = refl }
