use Rattle.std.proofs.Common.{◌≡◌, ◌∙◌, ◌+◌, ℕ, List, ap, get_or, length, sym, arith}
use Rattle.df_value.specs.Chunks.{ChunkParts}
use Rattle.df_state.specs.Desks.{DeskParts, desk_after, having_accepted}
use Rattle.df_state.specs.declared.change.Change.TheVariants.{Append}
use Rattle.df_store.specs.Incoming.{chunk_of}
use Rattle.df_jobs.specs.Counted.{without_accepted}
use Rattle.df_jobs.proofs.CountFacts.{one-committed}
use Rattle.df_jobs.proofs.WorkerFacts.{keys-set}
use Rattle.df_store.proofs.entering.enter_chunk.Goals as goal

-- a chunk brings as many rows into a desk's share of those that were accepted, and none into that of the deleted ones
appended : (d : DeskParts) (frame : ℕ) (chunk : ChunkParts) → desk_after d (Append frame chunk) ≡ having_accepted (length chunk.rows) d
appended d frame chunk = let none : d.deleted + 0 ≡ d.deleted = omega arith in ap (λ n. record (having_accepted (length chunk.rows) d) { deleted = n }) none

pub returns-in-Ok : goal.returns-in-Ok
returns-in-Ok g c =
    let at = c.in-Some.at in
    let desks = c.args.desks.now.items in
    let was = c.index_mut.result.now in
    let now = c.append.new.desk in
    let rows = length (chunk_of c.args.chunk).rows in
    let lent = c.as_slice.ensures.value in
    let within = c.in-Some.ensures.within in
    let as_long = ap length lent in
    let share : now ≡ having_accepted rows was = c.in-Ok.ensures.desk ∙ appended was was.frame (chunk_of c.args.chunk) in
    let of_frame = ap (λ (ds : List DeskParts). (get_or ds at was).frame) (sym lent) ∙ c.in-Some.ensures.found was in record {
      desks = keys-set without_accepted desks at now was (omega (arith, within, as_long)) (ap without_accepted share ∙ ap without_accepted c.index_mut.ensures.value);
      accepted = one-committed desks at was now c.args.frame rows (omega (arith, within, as_long)) of_frame (share ∙ ap (having_accepted rows) c.index_mut.ensures.value);
      refused = tt;
    }
