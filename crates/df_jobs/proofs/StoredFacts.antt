-- Outcomes whose rows were taken out, and stand one after another among those of a run.
use Rattle.std.proofs.Common.{◌≡◌, ℕ, ◌+◌, ◌<◌, ◌≤◌, ◌∙◌, List, [], ◌∷◌, ◌++◌, length, length-append, map, take, drop, drop-drop, get_or, refl, ap, subst, sym, arith}
use Rattle.std.proofs.Math.Seq.{drop-append_seam, take-append_seam}
use Rattle.df_value.specs.Chunks.{ChunkParts}
use Rattle.df_value.specs.Limits as limits
use Rattle.df_value.specs.declared.cell.Cell.{Cell}
use Rattle.df_value.specs.declared.cell.CellType.{CellType}
use Rattle.df_value.specs.declared.chunk.Piece.{Piece}
use Rattle.df_value.specs.declared.chunk.Piece.TheVariants.{Bad, Good}
use Rattle.df_jobs.specs.declared.jobs.Outcome.{Outcome}
use Rattle.df_jobs.specs.declared.joining.Part.{Part}
use Rattle.df_jobs.specs.Joined.{FollowFrom, IsGoodAt, StandIn, all_rows, outcome_in, outcomes_in, part_of}
use Rattle.df_jobs.specs.Loaded.{made_rows}
use Rattle.df_jobs.specs.Made.{number_in, rows_in}
use Rattle.df_jobs.proofs.RowFacts.{length-enumerate}

-- a piece gives as many rows to its frame as it has
pub many-given : (p : Piece) → length (made_rows p) ≡ length (rows_in p)
many-given (Good c) = length-enumerate c.first c.rows
many-given (Bad b) = refl

module _ (frame : ℕ) (schema : List (List ℕ × CellType)) (run : ChunkParts) where
  -- what is left of outcomes that follow one another stands in a run that begins as they do
  pub parts-stand :
      (n low : ℕ) (os : List Outcome) → FollowFrom frame schema n os → n ≡ run.first + low → low + length (all_rows os) ≤ length run.rows → StandIn run low (map part_of os)
  parts-stand n low [] follow number within = tt
  parts-stand n low (o ∷ os) follow number within =
      let part = follow.0 in
      let many = length-append (rows_in o.made) (all_rows os) in
      let own : length (rows_in o.made) ≡ length part.chunk.rows = ap (λ p. length (rows_in p)) part.good in
      let short = part.sound.short in (
        omega (arith, within, many),
        omega (arith, own, short),
        ap number_in part.good ∙ (part.of_number ∙ number),
        parts-stand (n + length (rows_in o.made)) (low + length (rows_in o.made)) os follow.1 (omega (arith, number)) (omega (arith, within, many)),
      )

  -- and the outcomes are those that stand there
  outcome-again : (n low : ℕ) (o : Outcome) (later : List (List Cell)) → IsGoodAt frame schema n o → run.schema ≡ schema → drop low run.rows ≡ rows_in o.made ++ later → outcome_in run low (part_of o) ≡ o
  outcome-again n low o later part columns rows =
      let all = ap (take (length (rows_in o.made))) rows ∙ (take-append_seam (rows_in o.made) later ∙ ap rows_in part.good) in
      let same = columns ∙ sym part.of_schema in
      let number = ap number_in part.good in
      let made : (outcome_in run low (part_of o)).made ≡ o.made = (λ i. Good (record { schema = same i; first = number i; rows = all i })) ∙ sym part.good in
      λ i. record { job = o.job; frame = o.frame; first = o.first; made = made i }

  pub outcomes-again :
      (n low : ℕ) (os : List Outcome) → FollowFrom frame schema n os → run.schema ≡ schema → drop low run.rows ≡ all_rows os → outcomes_in run low (map part_of os) ≡ os
  outcomes-again n low [] follow columns rows = refl
  outcomes-again n low (o ∷ os) follow columns rows =
      let len = length (rows_in o.made) in
      let rest : drop (low + len) run.rows ≡ all_rows os =
      sym (drop-drop len low run.rows) ∙ (ap (drop len) rows ∙ drop-append_seam (rows_in o.made) (all_rows os)) in
      ap (λ p. p ∷ outcomes_in run (low + len) (map part_of os)) (outcome-again n low o (all_rows os) follow.0 columns rows)
      ∙ ap (λ ps. o ∷ ps) (outcomes-again (n + len) (low + len) os follow.1 columns rest)

-- a run that is made of the rows that were taken out of outcomes, and the outcomes that are made again of the parts that are left
module _
    (frame : ℕ) (schema : List (List ℕ × CellType)) (first : ℕ) (os : List Outcome) (run : ChunkParts) (rows : List (List Cell)) (parts : List Part)
    (follow : FollowFrom frame schema first os) (rows-are : rows ≡ all_rows os) (parts-are : parts ≡ map part_of os)
    (run-is : run ≡ record { schema = schema; first = first; rows = rows }) where
  all-in : run.rows ≡ all_rows os
  all-in = ap (λ (x : ChunkParts). x.rows) run-is ∙ rows-are

  pub run-stands : StandIn run 0 parts
  run-stands =
      let number : first ≡ run.first + 0 = let e = ap (λ (x : ChunkParts). x.first) run-is in omega (arith, e) in
      let many = ap length all-in in
      subst (StandIn run 0) (sym parts-are) (parts-stand frame schema run first 0 os follow number (omega (arith, many)))

  pub same-outcomes : (made : List Outcome) → made ≡ outcomes_in run 0 parts → made ≡ os
  same-outcomes made is =
      is ∙ (ap (outcomes_in run 0) parts-are ∙ outcomes-again frame schema run first 0 os follow (ap (λ (x : ChunkParts). x.schema) run-is) all-in)

  pub run-follows : (made : List Outcome) → made ≡ outcomes_in run 0 parts → FollowFrom frame run.schema run.first made × (run.rows ≡ all_rows made)
  run-follows made is =
      let same = same-outcomes made is in (
        subst (FollowFrom frame run.schema run.first) (sym same) (subst (λ (x : ChunkParts). FollowFrom frame x.schema x.first os) (sym run-is) follow),
        all-in ∙ ap all_rows (sym same),
      )
