use Rattle.std.proofs.Common.{◌≡◌, ◌-◌, ◌+◌, ◌∙◌, Some, ap, arith, subst, sym}
use Rattle.std.specs.Prelude.{slice_get}
use Rattle.std.specs.FinMap as finite
use Rattle.df_value.specs.declared.cell.Cell.TheVariants as cell
use Rattle.df_ops.specs.declared.places.Origin.TheVariants as origin
use Rattle.df_nodes.specs.Sums.{sum_to}
use Rattle.df_nodes.proofs.SumStarts.{at_sum, if_some, past_null}
use Rattle.df_nodes.proofs.sum.LiveSum.sum_before.Goals as goal

pub loop-at-preserved : goal.loop-at-preserved
loop-at-preserved c =
    let n = c.args.self.now in
    let u = c.args.input.now.rows in
    let len = finite.len-entries u in
    let le = c.requires in
    let within = c.loop-at.invariant.within in
    let some = c.loop-at-test.true in
    let place = subst (λ places. slice_get places c.in-Some.place ≡ Some (record { origin = origin.Added; index = 0 })) c.as_slice.ensures c.in-Some.ensures in
    let back : (c.loop-at.at - 1) + 1 ≡ c.loop-at.at = omega (arith, some) in
    record {
      within = omega (arith, within);
      same = λ first front has.
          past_null n.places n.index n.output.rows u first c.args.start (omega (arith, len, le)) front has c.in-Some.place place
          (c.loop-at.at - 1) c.tag.result c.in_ok-cell.cell (omega (arith, within, some)) c.tag.ensures c.in_ok-cell.ensures (c.is_null.ensures c.if-not-is_null.false)
          ∙ ap (sum_to n.index u) back
          ∙ c.loop-at.invariant.same first front has;
    }

pub returns-then-not-is_null : goal.returns-then-not-is_null
returns-then-not-is_null c first front has =
    let n = c.args.self.now in
    let u = c.args.input.now.rows in
    let len = finite.len-entries u in
    let le = c.requires in
    let within = c.loop-at.invariant.within in
    let some = c.loop-at-test.true in
    let place = subst (λ places. slice_get places c.in-Some.place ≡ Some (record { origin = origin.Added; index = 0 })) c.as_slice.ensures c.in-Some.ensures in
    let back : (c.loop-at.at - 1) + 1 ≡ c.loop-at.at = omega (arith, some) in
    if_some c.sum_in.result (λ s. c.in_ok-cell.cell ≡ cell.Wide s) (λ s. s ≡ sum_to n.index u c.args.start) c.sum_in.ensures (λ s is.
    sym
    (sym (c.loop-at.invariant.same first front has)
    ∙ ap (sum_to n.index u) (sym back)
    ∙ at_sum n.places n.index n.output.rows u first c.args.start (omega (arith, len, le)) front has c.in-Some.place place
    (c.loop-at.at - 1) c.tag.result c.in_ok-cell.cell s (omega (arith, within, some)) c.tag.ensures c.in_ok-cell.ensures is))
