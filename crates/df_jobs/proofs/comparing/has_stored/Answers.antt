use Rattle.std.proofs.Common.{subst, sym}
use Rattle.df_state.specs.Pictures.{ReachesIn}
use Rattle.df_jobs.proofs.RowFacts.{chunk-found, chunk-stands, length-enumerate}
use Rattle.df_jobs.proofs.comparing.has_stored.Goals as goal

pub returns : goal.returns
returns c =
    let p = c.args.picture.now in
    let frame = c.args.frame in
    let place = c.args.place in
    let chunk = c.args.chunk.now in
    let many = length-enumerate chunk.first chunk.rows in (
      λ h.
          let there = c.has_chunk.ensures.0 h in
          record { reach = subst (ReachesIn p frame place) (sym many) there.0; has = chunk-stands p frame place chunk there.1 },
      λ stand. c.has_chunk.ensures.1 (subst (ReachesIn p frame place) many stand.reach, chunk-found p frame place chunk stand.has),
    )
