use Rattle.std.proofs.Common.{add-one, append_assoc, arith, sym}
use Rattle.df_document.proofs.PlaceFacts.{paired-drop}
use Rattle.df_app.proofs.loading.headings.Goals as goal

pub loop-i-preserved : goal.loop-i-preserved
loop-i-preserved c =
    let next = paired-drop c.args.views.now c.args.plans.now c.loop-i.i c.index-views-i.result c.index-plans-i.result (omega arith) (omega arith) c.index-views-i.is c.index-plans-i.is in
    rw (add-one, c.in_ok-push.ensures.items, append_assoc, c.in_ok-name.ensures, c.in_ok-plan.ensures, sym c.index-views-i.is) (rw next at c.loop-i.invariant)
