use Rattle.std.proofs.Common.{subst}
use Rattle.df_catalogue.specs.KeptChanges.{AreForgotten}
use Rattle.df_catalogue.proofs.forgetting.add_view.Goals as goal

pub returns : goal.returns
returns c = subst (λ vs. AreForgotten vs c.forget_all.new.views.items) c.push_reserved.ensures.items c.forget_all.ensures
