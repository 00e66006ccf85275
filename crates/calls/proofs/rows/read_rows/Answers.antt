-- Each turn reads one row; a fault ends the reading, and so does the last whole row that may come
-- or that the file has.
use Rattle.std.proofs.Common.{◌≡◌, ◌+◌, ◌-◌, ◌*◌, length, take, add-zero, refl, sym, ap, ◌∙◌, arith}
use Rattle.calls.specs.Format.{rows_from}
use Rattle.calls.proofs.RowSteps.{standing, calls_before, rest_is, whole_rows_are, rows_many}
use Rattle.calls.proofs.RowSteps.{these_stand}
use Rattle.calls.proofs.RowSteps.{row_fits, file_ends, one_more, at_fault, at_last}
use Rattle.calls.proofs.rows.read_rows.Goals as goal

pub loop-row-init : goal.loop-row-init
loop-row-init c =
    let bytes = c.args.bytes.now in
    let start = c.args.start in
    let rest = ap (λ r. r.now) c.unwrap_or-rest.ensures
    ∙ rest_is (λ r. r.now) bytes start _ refl c.get.result (c.get.ensures.lookup.0) in
    let rows = c.as_chunks.ensures in
    let calls = c.in_ok-calls.ensures in
    record {
      number = calls.len;
      rows = whole_rows_are bytes start _ rest _ rows.front rows.front_len _ c.min.ensures;
      room = calls.capacity;
      whole = simp add-zero (ap (λ xs. calls_before xs (rows_from bytes 4096 start)) calls.items);
    }

pub returns-in-Err : goal.returns-in-Err
returns-in-Err c =
    let bytes = c.args.bytes.now in
    let start = c.args.start in
    let h = c.loop-row.invariant in
    let i = c.loop-row.row-index in
    let fits = row_fits bytes start _ h.rows i c.loop-row-test.true in
    let stands = these_stand bytes start _ h.rows i c.loop-row-test.true _
    (c.len.ensures ∙ h.number) in
    let is = ap standing (sym c.in-Err.is ∙ c.read_row.ensures) ∙ stands in
    let p = at_fault bytes (start + 8 * i) (4096 - i) _ _ h.whole (4095 - i)
    (omega (arith, fits.0)) _ is in
    record { calls = p.0; fault = p.1 }

pub loop-row-preserved : goal.loop-row-preserved
loop-row-preserved c =
    let bytes = c.args.bytes.now in
    let start = c.args.start in
    let h = c.loop-row.invariant in
    let i = c.loop-row.row-index in
    let fits = row_fits bytes start _ h.rows i c.loop-row-test.true in
    let stands = these_stand bytes start _ h.rows i c.loop-row-test.true _
    (c.len.ensures ∙ h.number) in
    let is = ap standing (sym c.in-Ok.is ∙ c.read_row.ensures) ∙ stands in
    let calls = c.push_reserved.ensures in
    record {
      number = calls.len ∙ ap (λ n. n + 1) h.number;
      rows = h.rows;
      room = rw calls.capacity h.room;
      whole = simp calls.items
          (one_more bytes (start + 8 * i) (4096 - i) _ _ h.whole (4096 - (i + 1))
          (start + 8 * (i + 1))
          (omega (arith, fits.0)) (omega arith) _ is);
    }

pub returns : goal.returns
returns c =
    let bytes = c.args.bytes.now in
    let start = c.args.start in
    let rows = take c.min.result c.as_chunks.result.0.now in
    let h = c.loop-row.invariant in
    let i = c.loop-row.row-index in
    let all : i ≡ length rows =
    omega (arith, c.loop-row.auto.row-index-end, c.loop-row-test.false) in
    let ends = file_ends bytes start rows h.rows in
    let p = at_last bytes (start + 8 * i) (4096 - i) _ _ h.whole (length rows)
    (start + 8 * length rows)
    (omega (arith, rows_many bytes start rows h.rows)) (ap (λ n. start + 8 * n) all)
    (λ some. ends (omega arith)) in
    record { calls = p.0; fault = c.after_rows-fault.ensures ∙ p.1 }
