use Rattle.std.proofs.Common.{◌≡◌, ◌≢◌, true, false, List, Option, Some, None, refl, ap, subst}
use Rattle.std.specs.FinMap as finite
use Rattle.df_value.specs.declared.cell.Cell.{Cell}
use Rattle.df_value.specs.CellEq.{cell_eq-Decides}
use Rattle.df_value.specs.Exactly.{list_decides}
use Rattle.df_column.specs.Tables.{TaggedRows}
use Rattle.df_delta.specs.Deltas.{Changes}
use Rattle.df_column.specs.Changes.{applied}
use Rattle.df_delta.specs.Differences.{Fits, IsLean}
use Rattle.df_delta.specs.Diff.{diff}
use Rattle.df_column.specs.TagOrder.{tag_total, tag_same}
use Rattle.df_delta.proofs.Changes.{diff_of_applied}
use Rattle.df_delta.proofs.Diff.{diff_is}
use Rattle.df_delta.specs.SameRows.{same_row}

pub same_row_yes : (a b : Option (List Cell)) → same_row a b ≡ true → a ≡ b
same_row_yes None None e = refl
same_row_yes None (Some b) e = cc e
same_row_yes (Some a) None e = cc e
same_row_yes (Some a) (Some b) e = ap (λ r. Some r) ((list_decides cell_eq-Decides a b).0 e)

itself : (a : Option (List Cell)) → same_row a a ≡ true
itself None = refl
itself (Some a) = (list_decides cell_eq-Decides a a).1 refl

pub same_row_no : (a b : Option (List Cell)) → same_row a b ≡ false → a ≢ b
same_row_no a b e p = let t : same_row a b ≡ true = subst (λ x. same_row a x ≡ true) p (itself a) in cc (t, e)

-- a lean delta that fits has as many entries as the two tables have differences
pub len-diff : (t : TaggedRows) (d : Changes) → IsLean d → Fits t d → finite.len d ≡ finite.len (diff same_row t (applied t d))
len-diff t d lean fits = ap finite.len (diff_is tag_total tag_same same_row same_row_yes same_row_no t (applied t d) d (diff_of_applied tag_total tag_same t d lean fits))
