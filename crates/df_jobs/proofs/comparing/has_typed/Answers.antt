use Rattle.std.proofs.Common.{◌≡◌, ◌∙◌, ap, length, subst, sym}
use Rattle.df_state.specs.Pictures.{AreRowsIn, ReachesIn}
use Rattle.df_jobs.proofs.RowFacts.{chunk-found, chunk-stands, length-enumerate}
use Rattle.df_jobs.proofs.comparing.has_typed.Goals as goal

pub returns : goal.returns
returns c =
    let p = c.args.picture.now in
    let frame = c.args.frame in
    let place = c.args.place in
    let chunk = c.args.chunk.now in
    let rows : c.as_slice.result.now ≡ chunk.rows = c.as_slice.ensures ∙ c.rows.ensures.value in
    let many = length-enumerate chunk.first chunk.rows in (
      λ h.
          let there = c.are_rows.ensures.0 h in
          record {
            reach = subst (ReachesIn p frame place) (ap length rows ∙ sym many) there.0;
            has =
                chunk-stands p frame place chunk
                (subst (AreRowsIn p frame place chunk.first) rows (subst (λ n. AreRowsIn p frame place n c.as_slice.result.now) c.first.ensures there.1));
          },
      λ stand. c.are_rows.ensures.1 (
        subst (ReachesIn p frame place) (sym (ap length rows ∙ sym many)) stand.reach,
        subst (λ n. AreRowsIn p frame place n c.as_slice.result.now) (sym c.first.ensures)
            (subst (AreRowsIn p frame place chunk.first) (sym rows) (chunk-found p frame place chunk stand.has)),
      ),
    )
