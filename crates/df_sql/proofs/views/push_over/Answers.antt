use Rattle.std.proofs.Common.{◌≡◌}
use Rattle.df_sql.specs.Parts.{HasColumns}
use Rattle.df_sql.proofs.PartFacts.{of_checked}
use Rattle.df_sql.proofs.views.push_over.Goals as goal

pub push_steps-requires : goal.push_steps-requires
push_steps-requires c =
    rw (c.requires, c.plan.ensures.value) (of_checked c.args.plan.now.plan c.args.plan.now.frames _ c.plan.ensures.sound)
