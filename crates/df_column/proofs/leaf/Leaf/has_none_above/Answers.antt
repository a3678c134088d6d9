use Rattle.std.proofs.Common.{◌≡◌, ◌∙◌, None, Some, map, subst, sym}
use Rattle.std.proofs.lemmas.Bool.{ltb-true}
use Rattle.std.proofs.lemmas.List.{get_or_default}
use Rattle.df_column.specs.BlockLists.{AreMinMaxCells, min_or_max_cell}
use Rattle.df_column.specs.Blocks.{rows_of_blocks}
use Rattle.df_column.specs.MinMaxCells.{cells_at}
use Rattle.df_column.specs.declared.min_max.MinMax.TheVariants as min_max
use Rattle.df_column.proofs.SkippingLemmas.{none_above}
use Rattle.df_column.proofs.leaf.Leaf.has_none_above.Goals as goal

pub returns-in-Some : goal.returns-in-Some
returns-in-Some c = λ h.
    let rows = rows_of_blocks c.args.self.now in
    let there = ltb-true _ _ (sym c.in-Some.ensures.lookup.0) in
    let kept = subst (λ cells. AreMinMaxCells min_max.Max c.args.self.now cells) (sym c.deref.ensures.value) (subst (λ bs. AreMinMaxCells min_max.Max bs c.self.inside.greatest.items) c.self.view_is c.self.invariant.greatest) in
    let is : c.in-Some.greatest.now ≡ min_or_max_cell min_max.Max c.args.self.now c.args.index =
    c.in-Some.ensures.lookup.1 ∙ get_or_default c.deref.result.now c.args.index c.in-Some.greatest.now None there ∙ kept c.args.index there in
    none_above (Some c.args.index) c.args.value.now rows (c.is_none_above.ensures (cells_at (Some c.args.index) (map (λ r. r.1) rows)) is h)
