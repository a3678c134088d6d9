use Rattle.std.proofs.Common.{◌≡◌, ◌∙◌, sym, arith, rules, true}
use Rattle.std.specs.Result.{is_ok}
use Rattle.df_csv.proofs.TextFields.{texts_next}
use Rattle.df_csv.proofs.BufferFacts.{more_fields, more_records, on_ok}
use Rattle.df_csv.proofs.RowFacts.{none_more, unlike_next, too_many}
use Rattle.df_csv.proofs.rows.read_rows.Goals as goal

pub returns-in-End : goal.returns-in-End
returns-in-End g c =
    let h = c.in-End.ensures in
    rw c.from_fields.ensures (none_more _ _ _ _ _ _ c.records.invariant.so_far h)

pub returns-then-len-width : goal.returns-then-len-width
returns-then-len-width g c _ =
    let h = c.in-Row.ensures in
    unlike_next _ _ _ _ _ _ _ _ c.records.invariant.so_far h.1 (λ e. c.if-len-width.true (c.len.ensures ∙ e))

pub pick-requires : goal.pick-requires
pick-requires g c =
    let h = c.in-Row.ensures in
    (texts_next _ _ _ h.1 c.records.invariant.texts).0

pub returns-then-count-eq-MOST_ROWS_OF_FRAME : goal.returns-then-count-eq-MOST_ROWS_OF_FRAME
returns-then-count-eq-MOST_ROWS_OF_FRAME g c _ =
    let h = c.in-Row.ensures in
    let w = sym c.if-len-width.false ∙ c.len.ensures in
    too_many _ _ _ _ _ _ _ _ c.records.invariant.so_far h.1 w (omega (arith, c.if-count-eq-MOST_ROWS_OF_FRAME.true))

pub records-preserved : goal.records-preserved
records-preserved g c =
    let h = c.in-Row.ensures in
    let w = sym c.if-len-width.false ∙ c.len.ensures in
    let good : is_ok c.pick.result ≡ true = search rules in
    let picked = on_ok c.pick.result c.pick.ensures good in
    record {
      plain = h.0;
      below = omega (arith, c.records.invariant.below, c.if-count-eq-MOST_ROWS_OF_FRAME.false);
      texts = (texts_next _ _ _ h.1 c.records.invariant.texts).1;
      even = more_fields _ _ _ _ _ c.records.invariant.even picked;
      so_far = more_records _ _ _ _ _ _ _ _ _ c.records.invariant.so_far h.1 w (omega (arith, c.records.invariant.below, c.if-count-eq-MOST_ROWS_OF_FRAME.false)) c.records.invariant.even picked;
    }
