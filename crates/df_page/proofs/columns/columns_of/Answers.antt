use Rattle.std.proofs.Common.{◌∷◌, [], ◌++◌, ◌∙◌, ap, sym}
use Rattle.df_page.specs.Bars.{column_at}
use Rattle.df_page.proofs.ColumnFacts.{placed_all, placed_more}
use Rattle.df_page.proofs.columns.columns_of.Goals as goal

pub loop-at-preserved : goal.loop-at-preserved
loop-at-preserved c =
    placed_more (λ p. column_at p.0 p.1.1 c.args.rows.now) c.args.schema.now c.index-schema-at.result c.loop-at.at c.loop-at.columns.items _ c.loop-at-test.true c.index-schema-at.is
    c.loop-at.invariant (c.in_ok-push.ensures.items ∙ ap (λ x. c.loop-at.columns.items ++ x ∷ []) (c.column_at.ensures ∙ ap (λ s. column_at c.loop-at.at s.1 c.args.rows.now) (sym c.index-schema-at.is)))

pub returns : goal.returns
returns c = record { value = placed_all (λ p. column_at p.0 p.1.1 c.args.rows.now) c.args.schema.now c.loop-at.at c.loop-at.columns.items c.loop-at-test.false c.loop-at.invariant }
