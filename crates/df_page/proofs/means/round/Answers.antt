use Rattle.std.proofs.Common.{◌≡◌, ◌*◌, ◌<◌, ◌∙◌, ap, rules, subst, sym}
use Rattle.df_page.specs.Means.{IsNearest, nearest}
use Rattle.df_page.proofs.MeanFacts.{nearest_is, rounded_is}
use Rattle.std.specs.Prelude.{unsigned_abs}
use Rattle.df_page.proofs.means.round.Goals as goal

pub returns-clause-value : goal.returns-clause-value
returns-clause-value c =
    let mean = c.args.mean.now in
    let size : c.unsigned_abs-size.result ≡ unsigned_abs mean.0 = search rules in
    rounded_is _ _ _ c.count_of-count.ensures.counted c.nearest-thousandths.ensures.value
    ∙ (ap (λ n. nearest (1000 * n) c.count_of-count.result) size
    ∙ ap (λ n. nearest (1000 * unsigned_abs mean.0) n) c.count_of-count.ensures.value)

pub returns-clause-nearest : goal.returns-clause-nearest
returns-clause-nearest c =
    let mean = c.args.mean.now in
    let counted : 0 < unsigned_abs mean.1 = subst (λ n. 0 < n) c.count_of-count.ensures.value c.count_of-count.ensures.counted in
    subst (IsNearest (1000 * unsigned_abs mean.0) (unsigned_abs mean.1)) (sym (returns-clause-value c)) (nearest_is (1000 * unsigned_abs mean.0) (unsigned_abs mean.1) counted)
