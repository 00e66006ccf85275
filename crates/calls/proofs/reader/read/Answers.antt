-- The parts are read where the sizes say that they stand, and the checks come in their order.
use Rattle.std.proofs.Common.{◌≡◌, Some, None, sym, ap, ◌∙◌, arith, rules, vec_items}
use Rattle.std.specs.Prelude.{nat_lt}
use Rattle.std.specs.List.{position}
use Rattle.protocol.specs.Limits.{last_stamp}
use Rattle.calls.specs.Format.{rows_from}
use Rattle.calls.proofs.Parts.{place_is, stamps_are, stamps_many, stamps_checked, values_are}
use Rattle.calls.proofs.Parts.{values_many}
use Rattle.calls.proofs.reader.read.Goals as goal

pub returns-in-Some : goal.returns-in-Some
returns-in-Some c =
    let bytes = c.args.bytes.now in
    let shaped = c.in_ok-shape.ensures in
    let items = vec_items c.in_ok-stamps.stamps in
    let late : Some c.in-Some.late ≡ position (λ stamp. nat_lt last_stamp stamp) items =
    sym c.in-Some.is ∙ c.find_late.ensures.first
    ∙ ap (position (λ stamp. nat_lt last_stamp stamp)) c.as_slice.ensures.value in
    rw c.in_file-in-Some.ensures
    (stamps_checked bytes _ shaped c.if-bytes-rows_place.false items c.in_ok-stamps.ensures _ late)

pub invariant_of-result : goal.invariant_of-result
invariant_of-result c =
    let bytes = c.args.bytes.now in
    let shaped = c.in_ok-shape.ensures in
    let long = c.if-bytes-rows_place.false in
    let stamps = c.in_ok-stamps.stamps in
    let values = c.in_ok-values.values in
    let few = stamps_many bytes _ shaped long (vec_items stamps) c.in_ok-stamps.ensures in
    let some = values_many bytes _ shaped long (vec_items values) c.in_ok-values.ensures in
    record { warps = omega (arith, stamps.ok.0); lines = omega (arith, values.ok.0) }

pub returns : goal.returns
returns c =
    let bytes = c.args.bytes.now in
    let shaped = c.in_ok-shape.ensures in
    let long = c.if-bytes-rows_place.false in
    let items = vec_items c.in_ok-stamps.stamps in
    let found : c.find_late.result ≡ None = search rules in
    let rows = ap (rows_from bytes 4096) (place_is bytes _ shaped) in
    let late : None ≡ position (λ stamp. nat_lt last_stamp stamp) items =
    sym found ∙ c.find_late.ensures.first
    ∙ ap (position (λ stamp. nat_lt last_stamp stamp)) c.as_slice.ensures.value in (
      stamps_checked bytes _ shaped long items c.in_ok-stamps.ensures _ late,
      record {
        book = shaped.book;
        stamps = stamps_are bytes _ shaped long items c.in_ok-stamps.ensures;
        values = values_are bytes _ shaped long _ c.in_ok-values.ensures;
        calls = c.in_ok-rows.ensures.calls ∙ ap (λ r. r.calls) rows;
        fault = c.in_ok-rows.ensures.fault ∙ ap (λ r. r.fault) rows;
      },
    )
