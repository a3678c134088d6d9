use Rattle.std.proofs.Common.{ap, sym, ◌∙◌, length, arith, get_or, refl}
use Rattle.std.specs.FinMap as finite
use Rattle.df_column.proofs.ReadLemmas.{entries_are}
use Rattle.df_column.proofs.table.Table.tag.Goals as goal

pub tag_at-requires : goal.tag_at-requires
tag_at-requires c =
    let l = ap length (entries_are _ _ _ refl c.self.invariant.sorted (ap (λ t. t.rows) c.self.view_is)) ∙ sym (finite.len-entries c.args.self.now.rows) in
    omega (arith, l, c.requires)

pub returns : goal.returns
returns c = λ d.
    c.tag_at.ensures d ∙ ap (λ es. (get_or es c.args.at d).0) (entries_are _ _ _ refl c.self.invariant.sorted (ap (λ t. t.rows) c.self.view_is))
