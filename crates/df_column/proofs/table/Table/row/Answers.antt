use Rattle.std.proofs.Common.{ap, sym, ◌∙◌, length, arith, get_or, refl}
use Rattle.std.specs.FinMap as finite
use Rattle.df_column.proofs.ReadLemmas.{entries_are}
use Rattle.df_column.proofs.table.Table.row.Goals as goal

pub row_at-requires : goal.row_at-requires
row_at-requires c =
    let l = ap length (entries_are _ _ _ refl c.self.invariant.sorted (ap (λ t. t.rows) c.self.view_is)) ∙ sym (finite.len-entries c.args.self.now.rows) in
    omega (arith, l, c.requires)

pub returns : goal.returns
returns c = λ d.
    c.in_ok-row.ensures d ∙ ap (λ es. (get_or es c.args.at d).1) (entries_are _ _ _ refl c.self.invariant.sorted (ap (λ t. t.rows) c.self.view_is))
