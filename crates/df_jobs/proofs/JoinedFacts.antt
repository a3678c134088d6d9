-- Outcomes whose chunks follow one another.
use Rattle.std.proofs.Common.{◌≡◌, true, false, Bool, ℕ, zero, suc, ◌+◌, ◌≤◌, ◌∙◌, List, [], ◌∷◌, ◌++◌, length, length-append, take, get_or, ◌<◌, refl, ap, sym, subst, arith, sum_by}
use Rattle.std.specs.Prelude.{◌==◌, All, IsTrue, if◌then◌else◌}
use Rattle.std.specs.List.{enumerate_from}
use Rattle.std.proofs.lemmas.Bool.{and_from}
use Rattle.std.proofs.lemmas.Grind.{flat_map-append}
use Rattle.std.proofs.lemmas.List.Elements.{All-cons, All-nil}
use Rattle.std.proofs.lemmas.List.Folds.{list_all-append}
use Rattle.std.proofs.lemmas.List.Sums.{sum_by-append, sum_by-cons}
use Rattle.df_state.specs.Desks.{DeskParts}
use Rattle.df_state.proofs.ListFacts.{take-more}
use Rattle.df_value.specs.Chunks.{ChunkParts, IsChunk}
use Rattle.df_value.specs.Limits as limits
use Rattle.df_value.specs.Rows.{row_fits, rows_fit}
use Rattle.df_value.specs.declared.cell.Cell.{Cell}
use Rattle.df_value.specs.declared.cell.CellType.{CellType}
use Rattle.df_value.specs.declared.chunk.Piece.{Piece}
use Rattle.df_value.specs.declared.chunk.Piece.TheVariants.{Bad, Good}
use Rattle.df_jobs.specs.declared.jobs.Outcome.{Outcome}
use Rattle.df_jobs.specs.declared.joining.Joined.{Joined}
use Rattle.df_jobs.specs.Jobs.{job_of}
use Rattle.df_jobs.specs.Joined.{FollowFrom, IsGoodAt, IsJoined, all_rows}
use Rattle.df_frame.specs.Runs.{GoesOn, IsRun, run_of_both}
use Rattle.df_frame.proofs.FrameFacts.{enumerated-both}
use Rattle.df_jobs.specs.Loaded.{chunk_rows, job_rows, made_rows}
use Rattle.df_jobs.specs.Made.{rows_in}
use Rattle.df_jobs.specs.Counted.{AreCounted, HaveAccepted, entered_at, rows_of}
use Rattle.df_jobs.specs.Expected.{rows_at}
use Rattle.df_jobs.proofs.JoinedRows.{rows-of-own}
use Rattle.df_jobs.proofs.RowFacts.{flat-more, length-enumerate}

many-made : (p : Piece) → length (made_rows p) ≡ rows_of p
many-made (Good c) = length-enumerate c.first c.rows
many-made (Bad b) = refl

taken-more : (os : List Outcome) (i : ℕ) (o : Outcome) → i < length os → o ≡ get_or os i o → take (i + 1) os ≡ take i os ++ o ∷ []
taken-more os i o low is = take-more os i o low ∙ ap (λ d. take i os ++ d ∷ []) (sym is)

-- how many rows there are with those of one more outcome
pub count-more :
    (os : List Outcome) (i : ℕ) (o : Outcome) → i < length os → o ≡ get_or os i o →
    length (all_rows (take (i + 1) os)) ≡ length (all_rows (take i os)) + length (rows_in o.made)
count-more os i o low is =
    ap (λ l. length (all_rows l)) (taken-more os i o low is)
    ∙ (ap length (flat-more (λ (x : Outcome). rows_in x.made) (take i os) o) ∙ length-append (all_rows (take i os)) (rows_in o.made))

module _ (frame : ℕ) (schema : List (List ℕ × CellType)) where
  -- outcomes that follow others
  pub follow-append :
      (n : ℕ) (os ps : List Outcome) → FollowFrom frame schema n os → FollowFrom frame schema (n + length (all_rows os)) ps → FollowFrom frame schema n (os ++ ps)
  follow-append n [] ps one more = let e : n + 0 ≡ n = omega arith in subst (λ k. FollowFrom frame schema k ps) e more
  follow-append n (o ∷ os) ps one more =
      let many = length-append (rows_in o.made) (all_rows os) in
      let e : n + length (all_rows (o ∷ os)) ≡ (n + length (rows_in o.made)) + length (all_rows os) = omega (arith, many) in
      (one.0, follow-append (n + length (rows_in o.made)) os ps one.1 (subst (λ k. FollowFrom frame schema k ps) e more))

  -- one more
  pub follow-more : (n : ℕ) (os : List Outcome) (o : Outcome) → FollowFrom frame schema n os → IsGoodAt frame schema (n + length (all_rows os)) o → FollowFrom frame schema n (os ++ o ∷ [])
  follow-more n os o one part = follow-append n os (o ∷ []) one (part, tt)

  pub followed-more :
      (n : ℕ) (os : List Outcome) (i : ℕ) (o : Outcome) → i < length os → o ≡ get_or os i o → FollowFrom frame schema n (take i os) →
      IsGoodAt frame schema (n + length (all_rows (take i os))) o → FollowFrom frame schema n (take (i + 1) os)
  followed-more n os i o low is one part =
      subst (FollowFrom frame schema n) (sym (taken-more os i o low is)) (follow-more n (take i os) o one part)

  follow-numbered : (n : ℕ) (os : List Outcome) → FollowFrom frame schema n os → n ≤ limits.row_numbers → n + length (all_rows os) ≤ limits.row_numbers
  follow-numbered n [] follow low = omega (arith, low)
  follow-numbered n (o ∷ os) follow low =
      let part = follow.0 in
      let many = length-append (rows_in o.made) (all_rows os) in
      let own : length (rows_in o.made) ≡ length part.chunk.rows = ap (λ p. length (rows_in p)) part.good in
      let number = part.of_number in
      let below = part.sound.numbered in
      let rest = follow-numbered (n + length (rows_in o.made)) os follow.1 (omega (arith, own, number, below)) in
      omega (arith, many, rest)

  follow-fits : (n : ℕ) (os : List Outcome) → FollowFrom frame schema n os → IsTrue (rows_fit schema (all_rows os))
  follow-fits n [] follow = refl
  follow-fits n (o ∷ os) follow =
      let part = follow.0 in
      let own : rows_in o.made ≡ part.chunk.rows = ap rows_in part.good in
      let here : IsTrue (rows_fit schema (rows_in o.made)) =
      subst (λ rows. IsTrue (rows_fit schema rows)) (sym own) (subst (λ s. IsTrue (rows_fit s part.chunk.rows)) part.of_schema part.sound.fitting) in
      list_all-append (row_fits schema) (rows_in o.made) (all_rows os)
      ∙ and_from (rows_fit schema (rows_in o.made)) (rows_fit schema (all_rows os)) here (follow-fits (n + length (rows_in o.made)) os follow.1)

  -- the rows of outcomes that follow one another are a run
  pub follow-run :
      (n : ℕ) (os : List Outcome) → FollowFrom frame schema n os → n ≤ limits.row_numbers → length (all_rows os) ≤ limits.most_rows_of_frame → IsRun schema n (all_rows os)
  follow-run n os follow low few = record { few = few; numbered = follow-numbered n os follow low; fitting = follow-fits n os follow }

  -- numbered in turn they are what the frame gets of them
  pub follow-rows : (n : ℕ) (os : List Outcome) → FollowFrom frame schema n os → enumerate_from n (all_rows os) ≡ rows_at frame os
  follow-rows n [] follow = refl
  follow-rows n (o ∷ os) follow =
      let part = follow.0 in
      let given : job_rows frame (job_of o) ≡ chunk_rows part.chunk = rows-of-own frame o part.of_frame ∙ ap made_rows part.good in
      let here : enumerate_from n (rows_in o.made) ≡ job_rows frame (job_of o) =
      ap (enumerate_from n) (ap rows_in part.good) ∙ (ap (λ k. enumerate_from k part.chunk.rows) (sym part.of_number) ∙ sym given) in
      enumerated-both n (rows_in o.made) (all_rows os)
      ∙ (ap (λ rs. rs ++ enumerate_from (n + length (rows_in o.made)) (all_rows os)) here
      ∙ ap (λ rs. job_rows frame (job_of o) ++ rs) (follow-rows (n + length (rows_in o.made)) os follow.1))

  pub follow-frame : (n : ℕ) (os : List Outcome) → FollowFrom frame schema n os → All (λ o. o.frame ≡ frame) os
  follow-frame n [] follow = All-nil (λ o. o.frame ≡ frame)
  follow-frame n (o ∷ os) follow = All-cons (λ p. p.frame ≡ frame) o os follow.0.of_frame (follow-frame (n + length (rows_in o.made)) os follow.1)

-- outcomes of one frame bring into a frame all their rows, if it is theirs
entered-by :
    (b : Bool) (frame at : ℕ) (os : List Outcome) → (frame == at) ≡ b → All (λ o. o.frame ≡ frame) os →
    entered_at at os ≡ (if b then length (rows_at frame os) else 0)
entered-by true frame at [] e are = refl
entered-by false frame at [] e are = refl
entered-by true frame at (o ∷ os) e are =
    let one = sum_by-cons (λ (x : Outcome). if x.frame == at then rows_of x.made else 0) o os in
    let same = are zero o (omega arith) in
    let rest = entered-by true frame at os e (λ k d h. are (suc k) d (omega (arith, h))) in
    let here = ap (λ b. if b then rows_of o.made else 0) (ap (λ n. n == at) same ∙ e) in
    let rows = ap length (rows-of-own frame o same) ∙ many-made o.made in
    let both = length-append (job_rows frame (job_of o)) (rows_at frame os) in
    omega (arith, one, rest, here, rows, both)
entered-by false frame at (o ∷ os) e are =
    let one = sum_by-cons (λ (x : Outcome). if x.frame == at then rows_of x.made else 0) o os in
    let same = are zero o (omega arith) in
    let rest = entered-by false frame at os e (λ k d h. are (suc k) d (omega (arith, h))) in
    let here = ap (λ b. if b then rows_of o.made else 0) (ap (λ n. n == at) same ∙ e) in
    omega (arith, one, rest, here)

-- the outcomes of a joined run are of its frame
pub joined-frame : (j : Joined) → IsJoined j → All (λ o. o.frame ≡ j.frame) j.outcomes.items
joined-frame j is = follow-frame j.frame j.run.schema j.run.first j.outcomes.items is.follow

-- which gets the rows of the run of them
pub joined-rows : (j : Joined) → IsJoined j → chunk_rows j.run ≡ rows_at j.frame j.outcomes.items
joined-rows j is = ap (enumerate_from j.run.first) is.rows ∙ follow-rows j.frame j.run.schema j.run.first j.outcomes.items is.follow

-- the run brings as many rows into each frame as its outcomes
joined-entered : (j : Joined) → IsJoined j → (at : ℕ) → entered_at at j.outcomes.items ≡ (if j.frame == at then length j.run.rows else 0)
joined-entered j is at =
    let b = j.frame == at in
    let many = sym (ap length (joined-rows j is)) ∙ length-enumerate j.run.first j.run.rows in
    entered-by b j.frame at j.outcomes.items refl (joined-frame j is) ∙ ap (λ n. if b then n else 0) many

-- outcomes whose run was accepted, behind those that were there
pub joined-counted :
    (desks now : List DeskParts) (done kept : List Outcome) (j : Joined) → IsJoined j → HaveAccepted j.frame (length j.run.rows) desks now → kept ≡ done ++ j.outcomes.items →
    AreCounted desks done now kept
joined-counted desks now done kept j is more kept-is = record {
  same = λ at.
      let h : Outcome → ℕ = λ x. if x.frame == at then rows_of x.made else 0 in
      let accepted = more.same at in
      let all = ap (sum_by h) kept-is in
      let both = sum_by-append h done j.outcomes.items in
      let entered = joined-entered j is at in
      omega (arith, accepted, all, both, entered);
}

-- two runs, of which the second goes on behind the first, as one
pub joined-both :
    (a b c : Joined) → b.frame ≡ a.frame → GoesOn a.run b.run → c.frame ≡ a.frame → c.run ≡ run_of_both a.run b.run → c.outcomes.items ≡ a.outcomes.items ++ b.outcomes.items →
    IsJoined a → IsJoined b → IsJoined c
joined-both a b c same goes of-a made kept x y =
    let os = a.outcomes.items in
    let ps = b.outcomes.items in
    let number : b.run.first ≡ a.run.first + length (all_rows os) = goes.of_first ∙ ap (λ (rows : List (List Cell)). a.run.first + length rows) x.rows in
    let behind : FollowFrom a.frame a.run.schema (a.run.first + length (all_rows os)) ps =
    subst (λ k. FollowFrom a.frame a.run.schema k ps) number
    (subst (λ s. FollowFrom a.frame s b.run.first ps) goes.of_schema (subst (λ f. FollowFrom f b.run.schema b.run.first ps) same y.follow)) in
    let both = follow-append a.frame a.run.schema a.run.first os ps x.follow behind in record {
      follow =
          subst (FollowFrom c.frame c.run.schema c.run.first) (sym kept)
          (subst (λ (r : ChunkParts). FollowFrom c.frame r.schema r.first (os ++ ps)) (sym made)
          (subst (λ f. FollowFrom f a.run.schema a.run.first (os ++ ps)) (sym of-a) both));
      rows =
          ap (λ (r : ChunkParts). r.rows) made
          ∙ (ap (λ rows. rows ++ b.run.rows) x.rows
          ∙ (ap (λ rows. all_rows os ++ rows) y.rows
          ∙ (sym (flat_map-append (λ (o : Outcome). rows_in o.made) os ps)
          ∙ ap all_rows (sym kept))));
    }
