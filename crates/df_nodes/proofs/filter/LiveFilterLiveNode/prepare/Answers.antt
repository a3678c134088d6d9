use Rattle.std.proofs.Common.{◌*◌, ℕ, subst}
use Rattle.df_delta.specs.Work.{evaluations, plus, IsWithin}
use Rattle.df_delta.proofs.SameRows.{len-diff}
use Rattle.df_nodes.specs.RowOperators.{evaluations_of}
use Rattle.df_nodes.proofs.filter.LiveFilterLiveNode.prepare.Goals as goal

pub returns-in_err-changes-clause-meter : goal.returns-in_err-changes-clause-meter
returns-in_err-changes-clause-meter c t h =
    subst (λ (n : ℕ). IsWithin c.row_wise_changes.new.meter (plus c.args.meter.now (evaluations (2 * n * evaluations_of c.args.self.now.operator))))
    (len-diff t c.args.delta.now h.lean h.fits) c.row_wise_changes.ensures.meter

pub returns-clause-meter : goal.returns-clause-meter
returns-clause-meter c t h =
    subst (λ (n : ℕ). IsWithin c.row_wise_changes.new.meter (plus c.args.meter.now (evaluations (2 * n * evaluations_of c.args.self.now.operator))))
    (len-diff t c.args.delta.now h.lean h.fits) c.row_wise_changes.ensures.meter
