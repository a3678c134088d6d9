use Rattle.std.proofs.Common.{◌≡◌, ℕ, suc, ◌+◌, ◌-◌, ◌<◌, ◌≤◌, ◌∙◌, List, ◌∷◌, drop, length, get_or, ap, sym, subst, arith}
use Rattle.std.specs.Prelude.{Option, slice_get, option_map}
use Rattle.std.proofs.Math.Seq.{drop-cons}
use Rattle.df_value.specs.declared.chunk.Piece.{Piece}
use Rattle.df_state.proofs.ListFacts.{same-default}
use Rattle.df_jobs.specs.Jobs.{chunks_of, jobs_from, jobs_of, IsPlace}
use Rattle.df_jobs.proofs.JobFacts.{job-here, job-later}
use Rattle.df_jobs.proofs.jobs.place_of.Goals as goal

-- the sources from a frame on begin with that of the frame
begins :
    {S : Type 0} (made : S → List Piece) (start : S → ℕ → ℕ) (sources : List S) (frame left : ℕ) (source : S) → frame < length sources →
    source ≡ get_or sources frame source →
    slice_get (jobs_from frame (chunks_of made start (drop frame sources))) left
    ≡ slice_get (jobs_from frame (chunks_of made start (source ∷ drop (suc frame) sources))) left
begins made start sources frame left source h e =
    ap (λ ss. slice_get (jobs_from frame (chunks_of made start ss)) left) (drop-cons sources frame source h)
    ∙ ap (λ s. slice_get (jobs_from frame (chunks_of made start (s ∷ drop (suc frame) sources))) left) (sym e)

later :
    {S : Type 0} (made : S → List Piece) (start : S → ℕ → ℕ) (sources : List S) (frame left chunks : ℕ) (source : S) (found : Option (ℕ × (ℕ × Piece))) → frame < length sources →
    source ≡ get_or sources frame source → chunks ≡ length (made source) → chunks ≤ left →
    found ≡ slice_get (jobs_from frame (chunks_of made start (drop frame sources))) left →
    found ≡ slice_get (jobs_from (frame + 1) (chunks_of made start (drop (frame + 1) sources))) (left - chunks)
later made start sources frame left chunks source found h e n far was =
    let next : suc frame ≡ frame + 1 = omega arith in
    was
    ∙ (begins made start sources frame left source h e
    ∙ (job-later frame (start source) (made source) (chunks_of made start (drop (suc frame) sources)) left (omega (arith, n, far))
    ∙ (ap (λ k. slice_get (jobs_from (frame + 1) (chunks_of made start (drop k sources))) (left - length (made source))) next
    ∙ ap (λ k. slice_get (jobs_from (frame + 1) (chunks_of made start (drop (frame + 1) sources))) (left - k)) (sym n))))

here :
    {S : Type 0} (made : S → List Piece) (start : S → ℕ → ℕ) (sources : List S) (frame left : ℕ) (source : S) (found : Option (ℕ × (ℕ × Piece))) → frame < length sources →
    source ≡ get_or sources frame source → left < length (made source) →
    found ≡ slice_get (jobs_from frame (chunks_of made start (drop frame sources))) left →
    found ≡ option_map (λ m. (frame, (start source left, m))) (slice_get (made source) left)
here made start sources frame left source found h e near was =
    was
    ∙ (begins made start sources frame left source h e
    ∙ job-here frame (start source) (made source) (chunks_of made start (drop (suc frame) sources)) left near)

at-place :
    {S : Type 0} (made : S → List Piece) (start : S → ℕ → ℕ) (sources : List S) (job frame left chunks : ℕ) (source : S) → frame < length sources →
    source ≡ get_or sources frame source → chunks ≡ length (made source) → left < chunks →
    slice_get (jobs_of (chunks_of made start sources)) job ≡ slice_get (jobs_from frame (chunks_of made start (drop frame sources))) left →
    IsPlace made start sources job frame left
at-place made start sources job frame left chunks source h e n low was =
    let near : left < length (made source) = omega (arith, n, low) in
    let there : (d : _) → source ≡ get_or sources frame d = λ d. e ∙ same-default sources frame source d h in record {
      within = h;
      inside = λ d. subst (λ s. left < length (made s)) (there d) near;
      is = λ d. subst (λ s. slice_get (jobs_of (chunks_of made start sources)) job ≡ option_map (λ m. (frame, (start s left, m))) (slice_get (made s) left)) (there d)
          (here made start sources frame left source (slice_get (jobs_of (chunks_of made start sources)) job) h e near was);
    }

pub loop-frame-preserved : goal.loop-frame-preserved
loop-frame-preserved g c =
    later g.S.Source.made g.S.Source.start_of c.args.sources.now c.loop-frame.frame c.loop-frame.left c.chunks-chunks.result c.index-sources-frame.result
    (slice_get (jobs_of (chunks_of g.S.Source.made g.S.Source.start_of c.args.sources.now)) c.args.job)
    c.loop-frame-test.true c.index-sources-frame.is c.chunks-chunks.ensures c.if-left-chunks.false c.loop-frame.invariant

pub returns-then-left-chunks : goal.returns-then-left-chunks
returns-then-left-chunks g c =
    at-place g.S.Source.made g.S.Source.start_of c.args.sources.now c.args.job c.loop-frame.frame c.loop-frame.left c.chunks-chunks.result c.index-sources-frame.result
    c.loop-frame-test.true c.index-sources-frame.is c.chunks-chunks.ensures c.if-left-chunks.true c.loop-frame.invariant
