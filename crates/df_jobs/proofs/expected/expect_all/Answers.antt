use Rattle.std.proofs.Common.{◌≡◌, ◌∙◌, ◌++◌, ◌∷◌, [], ap, length, subst, sym}
use Rattle.df_jobs.specs.Expected.{AreExpected}
use Rattle.df_jobs.proofs.ExpectedFacts.{expected-more}
use Rattle.df_state.proofs.ListFacts.{put-back}
use Rattle.df_jobs.proofs.expected.expect_all.Goals as goal

pub loop-outcome-preserved : goal.loop-outcome-preserved
loop-outcome-preserved c =
    let was = c.loop-outcome.counts in
    let lent = c.as_mut_slice.result.now in
    let now = c.add_rows-place.new.counts in
    let os = c.loop-outcome.yielded in
    let o = c.in-Some.outcome in
    let value : lent ≡ was.items = c.as_mut_slice.ensures.value in
    let before = subst (λ xs. AreExpected c.args.frames os c.loop-outcome.all.items xs) (sym value) c.loop-outcome.invariant in
    let many = c.add_rows-place.ensures.count in
    let after = expected-more c.args.frames os c.loop-outcome.all.items lent now c.add_rows-place.result o before many c.add_rows-place.ensures.place c.add_rows-place.ensures.added in
    subst (λ xs. AreExpected c.args.frames (os ++ o ∷ []) c.push.new.self.items xs) (sym (put-back was.len now was.items (many ∙ (ap length value ∙ sym was.ok.0)) (sym was.ok.0)))
    (subst (λ es. AreExpected c.args.frames (os ++ o ∷ []) es now) (sym c.in_ok-push.ensures.items) after)
