use Rattle.std.specs.Prelude.{IsTrue}
use Rattle.std.proofs.Common.{◌∙◌, true, false, refl, sym, arith}
use Rattle.df_column.specs.declared.tag.Tag.{Tag}
use Rattle.df_column.proofs.MergeLemmas.{no_rest, rest_at, tie_same, tie_other}
use Rattle.df_column.proofs.merge.index_after.Goals as goal

abbrev none : Tag
none = record { first = 0; second = 0; third = 0 }

pub returns-then-at-len-clause-rest : goal.returns-then-at-len-clause-rest
returns-then-at-len-clause-rest c = λ columns. no_rest c.args.tags.now columns c.args.tag c.args.at (c.if-at-len.true ∙ c.len.ensures)

pub returns-then-same-clause-rest : goal.returns-then-same-clause-rest
returns-then-same-clause-rest c = λ columns.
    rest_at c.args.tags.now columns c.args.tag c.args.at true none (omega (arith, c.requires, c.if-at-len.false, c.len.ensures)) (tie_same _ _ (sym (c.get.ensures none) ∙ c.if-same.ensures.0 refl))

not_true : IsTrue false → ⊥
not_true h = cc

pub returns-else-same-clause-rest : goal.returns-else-same-clause-rest
returns-else-same-clause-rest c = λ columns.
    rest_at c.args.tags.now columns c.args.tag c.args.at false none (omega (arith, c.requires, c.if-at-len.false, c.len.ensures)) (tie_other _ _ (λ e. not_true (c.if-same.ensures.1 (c.get.ensures none ∙ e))))
