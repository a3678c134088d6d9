use Rattle.std.proofs.Common.{◌≡◌, ap, refl, ◌∙◌}
use Rattle.std.specs.FinMap as finite
use Rattle.df_ops.specs.Joins.{join_indices_of}
use Rattle.df_ops.specs.declared.join_columns.JoinIndices.{JoinIndices}
use Rattle.df_delta.proofs.FitRows.{fits_as}
use Rattle.df_join.specs.RowNotes.{joined_by_key}
use Rattle.df_join.specs.Sides.{is_one}
use Rattle.df_join.proofs.JoinRows.{values-join_table, joined_tags}
use Rattle.df_join.proofs.join.LiveJoin.new.Goals as goal

indices_are : (c : goal.In_ok-new-2) → c.in_ok-indices.indices ≡ join_indices_of c.args.left.now c.args.right.now c.args.keys.now c.args.nulls_equal
indices_are c =
    c.in_ok-indices.ensures
    ∙ (λ i. join_indices_of ((c.as_slice.ensures ∙ c.columns.ensures.value) i) ((c.as_slice-2.ensures ∙ c.columns-2.ensures.value) i) c.args.keys.now c.args.nulls_equal)

pub returns-clause-output : goal.returns-clause-output
returns-clause-output c l r = ap (λ (indices : JoinIndices). joined_by_key (is_one c.args.left_scans) (record { how = c.args.how; indices = indices }) l r) (indices_are c)

pub returns-clause-rows : goal.returns-clause-rows
returns-clause-rows c l r left right =
    ap (λ t. finite.values t) (returns-clause-output c l r)
    ∙ values-join_table c.args.left_scans c.args.right_scans c.requires c.args.how c.args.keys.now c.args.nulls_equal c.args.left.now c.args.right.now l r left right

pub returns-clause-tags : goal.returns-clause-tags
returns-clause-tags c l r left right = joined_tags (record { how = c.args.how; indices = c.in_ok-indices.indices }) c.args.left_scans c.args.right_scans c.requires l r left right

pub returns-clause-over : goal.returns-clause-over
returns-clause-over c = record { scans = c.requires; left = c.in_ok-new.ensures.over c.in_ok-indices.indices.left; right = c.in_ok-new-2.ensures.over c.in_ok-indices.indices.right }

pub returns-clause-takes : goal.returns-clause-takes
returns-clause-takes c l r f g h k = record {
  left_fits = fits_as _ _ l l c.in_ok-new.ensures.schema refl f;
  right_fits = fits_as _ _ r r c.in_ok-new-2.ensures.schema refl g;
  left_tags = h;
  right_tags = k;
}
