use Rattle.std.proofs.Common.{ap, sym, ◌∙◌, length, arith, get_or, refl}
use Rattle.std.specs.FinMap as finite
use Rattle.df_value.specs.Rows.{row_eq}
use Rattle.df_column.proofs.ReadLemmas.{entries_are}
use Rattle.df_column.proofs.table.Table.is_row.Goals as goal

pub is_row_at-requires : goal.is_row_at-requires
is_row_at-requires c =
    let l = ap length (entries_are _ _ _ refl c.self.invariant.sorted (ap (λ t. t.rows) c.self.view_is)) ∙ sym (finite.len-entries c.args.self.now.rows) in
    omega (arith, l, c.requires)

pub returns : goal.returns
returns c = λ d.
    c.is_row_at.ensures d ∙ ap (λ es. row_eq (get_or es c.args.at d).1 c.args.row.now) (entries_are _ _ _ refl c.self.invariant.sorted (ap (λ t. t.rows) c.self.view_is))
