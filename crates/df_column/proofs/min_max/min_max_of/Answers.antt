use Rattle.std.proofs.Common.{◌++◌, ◌∷◌, [], sym, subst, arith}
use Rattle.df_column.specs.BlockMinMax.{AreMinMax}
use Rattle.df_column.proofs.BlockMinMax.{columns_more, min_max_last}
use Rattle.df_column.proofs.min_max.min_max_of.Goals as goal

pub loop-at-preserved : goal.loop-at-preserved
loop-at-preserved c =
    let columns = c.args.columns.now in
    let more = columns_more columns c.loop-at.at c.index-columns-at.result (omega arith) c.index-columns-at.is in
    rw c.in_ok-push.ensures.items (subst (λ cs. AreMinMax cs (c.loop-at.out.items ++ c.min_max_from.result ∷ [])) (sym more) (min_max_last _ _ _ _ c.loop-at.invariant c.min_max_from.ensures))
