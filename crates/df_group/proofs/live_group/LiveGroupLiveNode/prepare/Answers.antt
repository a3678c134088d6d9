use Rattle.std.proofs.Common.{◌*◌, ℕ, ap, subst}
use Rattle.df_delta.specs.Work.{IsWithin, plus}
use Rattle.df_delta.proofs.SameRows.{len-diff}
use Rattle.df_group.specs.GroupIndex.{output_of}
use Rattle.df_group.specs.Work.{finishes}
use Rattle.df_group.proofs.live_group.LiveGroupLiveNode.prepare.Goals as goal

pub returns-clause-meter : goal.returns-clause-meter
returns-clause-meter c t h =
    subst (λ (n : ℕ). IsWithin c.staged.new.meter (plus c.args.meter.now (finishes (2 * n))))
    (len-diff t c.args.delta.now h.lean h.fits) c.staged.ensures.meter

pub returns-clause-operator : goal.returns-clause-operator
returns-clause-operator c t = ap (λ g. output_of g t) c.staged.ensures.grouping
