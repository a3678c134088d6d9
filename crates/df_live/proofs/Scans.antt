-- A scan's delta, at the changed frame and at others.
use Rattle.std.proofs.Common.{◌≢◌, ℕ, List, refl, sym, subst}
use Rattle.std.proofs.lemmas.List.{get_or-set_other}
use Rattle.std.specs.FinMap as finite
use Rattle.df_column.specs.Changes.{applied}
use Rattle.df_column.specs.Tables.{TaggedRows}
use Rattle.df_column.specs.TagOrder.{tag_total, tag_same}
use Rattle.df_column.specs.Tags.{tag_cmp}
use Rattle.df_delta.specs.Deltas.{Changes}
use Rattle.df_delta.specs.Differences.{IsDiff}
use Rattle.df_delta.proofs.Changes.{IsChange, diff_from_changes}
use Rattle.df_live.specs.Frames.{changed, frame_at}

no_change : (t : TaggedRows) → IsDiff t t finite.empty
no_change t =
    diff_from_changes tag_total tag_same t t finite.empty (λ q.
    subst (λ c. IsChange c (finite.get t q) (finite.get t q)) (sym (finite.get-empty tag_cmp q)) refl)

pub other_scan :
    (frames : List TaggedRows) (g f : ℕ) (d : Changes) → g ≢ f →
    IsDiff (frame_at frames g) (frame_at (changed frames f d) g) finite.empty
other_scan frames g f d other =
    subst (λ u. IsDiff (frame_at frames g) u finite.empty)
    (sym (get_or-set_other frames f g (applied (frame_at frames f) d) finite.empty other)) (no_change (frame_at frames g))
