use Rattle.std.proofs.Common.{◌∙◌, ◌++◌, ap, map}
use Rattle.df_ranks.proofs.OutputSteps.{tags_of}
use Rattle.df_ranks.proofs.reach.delta_tags.Goals as goal

pub loop-entry-init : goal.loop-entry-init
loop-entry-init c =
    ap (λ ts. ts ++ map (λ e. e.tag) c.entries-entries.result.now) c.in_ok-tags.ensures.items
    ∙ tags_of c.entries-entries.result.now ∙ ap (map (λ e. e.0)) c.entries-entries.ensures.all
