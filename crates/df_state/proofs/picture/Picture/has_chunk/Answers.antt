use Rattle.std.proofs.Common.{◌≡◌, ◌∙◌, Some, ap, length, subst, sym}
use Rattle.std.specs.Prelude.{option_map, slice_get}
use Rattle.std.specs.Option.{IfSome, option_copied}
use Rattle.df_frame.specs.FrameTables.{IsNumberedTable, numbered_rows}
use Rattle.df_state.specs.Pictures.{numbered_rows_in}
use Rattle.df_state.proofs.StandingRows.{rows-found, rows-stand, table-reached, table-reaches}
use Rattle.df_state.proofs.picture.Picture.has_chunk.Goals as goal

pub stands_in-requires : goal.stands_in-requires
stands_in-requires c = subst (λ o. IfSome (option_copied o) (λ t. IsNumberedTable t.rows)) c.in-Some.is c.frame_table.ensures.numbered

pub returns-in-Some : goal.returns-in-Some
returns-in-Some c =
    let p = c.args.self.now in
    let frame = c.args.frame in
    let place = c.args.place in
    let chunk = c.args.chunk.now in
    let t = c.in-Some.table.now.rows in
    let is : slice_get p.frames frame ≡ Some (numbered_rows t) =
    sym c.frame_table.ensures.rows ∙ ap (λ o. option_map numbered_rows_in (option_copied o)) c.in-Some.is in
    let numbered = subst (λ o. IfSome (option_copied o) (λ t. IsNumberedTable t.rows)) c.in-Some.is c.frame_table.ensures.numbered in (
      λ h. (
        table-reaches p frame t is place (length chunk.rows) (c.stands_in.ensures.within h),
        rows-stand p frame t is place chunk.first chunk.rows (c.stands_in.ensures.within h) (c.stands_in.ensures.rows h),
      ),
      λ both.
          let within = table-reached p frame t is place (length chunk.rows) both.0 in
          c.stands_in.ensures.alike within (rows-found p frame t is numbered.tags place chunk.first chunk.rows within both.1),
    )
