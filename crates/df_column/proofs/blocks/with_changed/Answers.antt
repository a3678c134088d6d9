use Rattle.std.proofs.Common.{map, sym, subst, refl, None, ◌∙◌}
use Rattle.std.specs.Prelude.{T}
use Rattle.std.specs.Arc.{arc_value}
use Rattle.df_column.specs.Columns.{column_cells}
use Rattle.df_column.specs.declared.entry.Entry.{Entry}
use Rattle.df_column.specs.declared.tag.Tag.{Tag}
use Rattle.df_column.proofs.BehindLemmas.{rows_behind}
use Rattle.df_column.proofs.BlockRowLemmas.{adds_same}
use Rattle.df_column.proofs.blocks.with_changed.Goals as goal

pub returns-then-is_behind : goal.returns-then-is_behind
returns-then-is_behind c =
    let block = arc_value c.args.block.now in
    let t : Tag = record { first = 0; second = 0; third = 0 } in
    let e : Entry = record { tag = t; old = None; new = None } in
    let behind = rw (c.tags.ensures.tags, c.deref.ensures) at (sym (c.is_behind.ensures t e) ∙ c.if-is_behind.true) in
    let some = rw c.deref.ensures at c.tags.ensures.some in
    adds_same _ _ _ _ _ _ refl (rows_behind block.tags (map column_cells block.columns) c.args.entries.now t e c.requires.rows c.requires.entries some (subst T (sym behind) tt)) c.in_ok-made.ensures
