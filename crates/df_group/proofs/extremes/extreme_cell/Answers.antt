use Rattle.std.proofs.Common.{◌∙◌}
use Rattle.std.specs.FinMap as finite
use Rattle.std.proofs.lemmas.Result.{IfOk-weaker}
use Rattle.df_group.proofs.extremes.extreme_cell.Goals as goal

pub returns-in-Some : goal.returns-in-Some
returns-in-Some c =
    let rows = finite.values c.args.members.now.rows in
    IfOk-weaker c.copy_or_null.result _ _
    (λ x e known. e ∙ c.in-Some.ensures rows known)
    c.copy_or_null.ensures
