-- The filter's stamps are no later than the latest stamp.
use Rattle.std.proofs.Common.{sym, subst}
use Rattle.condensed.specs.Condensed.{IsBounded}
use Rattle.condensed.specs.Lemmas.Filters.{filter_stamps_write_bound, filter_stamps_read_bound}
use Rattle.condensed.proofs.condensed_book.CondensedBook.entry_by_slot.Goals as goal

pub returns-in-None-clause-bound : goal.returns-in-None-clause-bound
returns-in-None-clause-bound c =
    let b = c.args.self.now in
    subst (λ x. IsBounded x b.latest) (sym c.stamps.ensures) (
      filter_stamps_write_bound b.filter c.indices.result b.latest b.sound.filter_written,
      filter_stamps_read_bound b.filter c.indices.result b.latest b.sound.filter_read,
    )
