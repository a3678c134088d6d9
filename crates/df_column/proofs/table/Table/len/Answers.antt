use Rattle.std.proofs.Common.{ap, sym, ◌∙◌, length, refl}
use Rattle.std.specs.FinMap as finite
use Rattle.df_column.proofs.ReadLemmas.{entries_are}
use Rattle.df_column.proofs.table.Table.len.Goals as goal

pub returns-clause-value : goal.returns-clause-value
returns-clause-value c =
    c.rows.ensures.value ∙ ap length (entries_are _ _ _ refl c.self.invariant.sorted (ap (λ t. t.rows) c.self.view_is)) ∙ sym (finite.len-entries c.args.self.now.rows)
