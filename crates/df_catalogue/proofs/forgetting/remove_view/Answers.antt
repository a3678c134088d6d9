use Rattle.std.proofs.Common.{subst}
use Rattle.df_catalogue.specs.KeptChanges.{AreForgotten}
use Rattle.df_catalogue.proofs.forgetting.remove_view.Goals as goal

pub returns : goal.returns
returns c = subst (λ vs. AreForgotten vs c.forget_all.new.views.items) c.remove.ensures.items c.forget_all.ensures
