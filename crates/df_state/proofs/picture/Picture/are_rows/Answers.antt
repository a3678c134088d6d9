use Rattle.std.proofs.Common.{◌≡◌, ◌∙◌, Some, ap, length, subst, sym}
use Rattle.std.specs.Prelude.{option_map, slice_get}
use Rattle.std.specs.FinMap as finite
use Rattle.std.specs.Option.{IfSome, option_copied}
use Rattle.df_column.specs.RowRuns.{StandFrom}
use Rattle.df_column.specs.declared.tag.Tag.{Tag}
use Rattle.df_frame.specs.FrameTables.{IsNumberedTable, numbered_rows}
use Rattle.df_state.specs.Pictures.{numbered_rows_in}
use Rattle.df_state.proofs.StandingRows.{rows-found, rows-stand, table-reached, table-reaches}
use Rattle.df_state.proofs.picture.Picture.are_rows.Goals as goal

pub returns-in-Some : goal.returns-in-Some
returns-in-Some c =
    let p = c.args.self.now in
    let frame = c.args.frame in
    let place = c.args.place in
    let n = c.args.number in
    let rows = c.args.rows.now in
    let t = c.in-Some.table.now.rows in
    let is : slice_get p.frames frame ≡ Some (numbered_rows t) =
    sym c.frame_table.ensures.rows ∙ ap (λ o. option_map numbered_rows_in (option_copied o)) c.in-Some.is in
    let numbered = subst (λ o. IfSome (option_copied o) (λ t. IsNumberedTable t.rows)) c.in-Some.is c.frame_table.ensures.numbered in
    let first = ap (λ (q : Tag). q.first) c.row_tag.ensures in (
      λ h. (
        table-reaches p frame t is place (length rows) (c.are_rows.ensures.within h),
        rows-stand p frame t is place n rows (c.are_rows.ensures.within h) (subst (λ m. StandFrom (finite.entries t) place m rows) first (c.are_rows.ensures.rows h)),
      ),
      λ both.
          let within = table-reached p frame t is place (length rows) both.0 in
          c.are_rows.ensures.alike within
          (subst (λ m. StandFrom (finite.entries t) place m rows) (sym first) (rows-found p frame t is numbered.tags place n rows within both.1)),
    )
