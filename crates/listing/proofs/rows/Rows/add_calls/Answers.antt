-- The rows end with the calls or with the answers.
use Rattle.std.proofs.Common.{inl, inr, ⊎_elim}
use Rattle.listing.proofs.CallRows.{all_listed}
use Rattle.listing.proofs.rows.Rows.add_calls.Goals as goal

pub returns : goal.returns
returns c =
    let over =
    ⊎_elim (λ calls. inl calls.1.0) (λ answers. inr answers.1.0) c.in-None.ensures.steps.0 in
    all_listed _ _ _ over _ _ c.loop-i.invariant
