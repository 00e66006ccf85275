-- Each step keeps the invariant, and at the end no number is left.
use Rattle.std.proofs.Common.{◌<◌, sym, subst, refl, ap, ◌∙◌, arith}
use Rattle.std.proofs.lemmas.Grind.{common_steps}
use Rattle.condensed.specs.Filter.{index_by}
use Rattle.condensed.specs.Lemmas.Indices.{index_next, index_none, index_below}
use Rattle.condensed.proofs.filter.index.Goals as goal

pub loop-bit-init : goal.loop-bit-init
loop-bit-init c = ap (index_by c.args.numbers.now) (omega arith)

pub loop-bit-preserved : goal.loop-bit-preserved
loop-bit-preserved c =
    index_next c.args.numbers.now c.loop-bit.bit _ c.loop-bit.index c.args.line _ (omega arith) refl
    (grind (arith, common_steps)) ∙ c.loop-bit.invariant

pub returns : goal.returns
returns c =
    let value = sym (index_none c.args.numbers.now c.loop-bit.bit c.loop-bit.index _ (omega arith))
    ∙ c.loop-bit.invariant in
    record {
      value = value;
      inside = λ within. subst (λ n. n < 64) (sym value)
          (index_below c.args.numbers.now within c.args.line);
    }
