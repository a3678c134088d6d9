-- The tags of what operators give, and what they give of no rows.
use Rattle.std.proofs.Common.{◌≡◌, List, [], length, map, Bool, Option, Some, None, sym, ap, subst, ◌∙◌}
use Rattle.std.specs.Option.{IfSome, option_and_then}
use Rattle.std.specs.FinMap as finite
use Rattle.df_value.specs.declared.cell.Cell.{Cell}
use Rattle.df_column.specs.TagOrder.{tag_same}
use Rattle.df_column.specs.Tables.{TaggedRows}
use Rattle.df_column.specs.Tags.{tag_cmp}
use Rattle.df_column.specs.declared.tag.Tag.{Tag}
use Rattle.df_delta.specs.Collected.{collected, collected_list}
use Rattle.df_delta.proofs.Collected.{entries-collected, get-collected}
use Rattle.df_join.specs.RowNotes.{joined_by_key}
use Rattle.df_join.specs.Spread.{HasKeys, spread_list}
use Rattle.df_join.specs.Joined.{beside, right_rows}
use Rattle.df_join.specs.Rules.{by_key}
use Rattle.df_join.specs.declared.rule.JoinRule.{JoinRule}
use Rattle.df_join.proofs.Joined.{entries-empty}

abbrev Row : Type 0
Row = List Cell

stays : (P : Type 0) (f : Row → Option Row) (x : Option Row) → IfSome x (λ _. P) → IfSome (option_and_then f x) (λ _. P)
stays P f None h = tt
stays P f (Some x) h = elim (f x) as (λ y. IfSome y (λ _. P)) [ Some y ↦ h | None ↦ tt ]

-- what is made row by row stands at tags of the rows
pub keys_collected : (P : Tag → Type 0) (g : Tag → Row → Option Row) (t : TaggedRows) → HasKeys P t → HasKeys P (collected {R = tag_cmp} g t)
keys_collected P g t h = record {
  at = λ q. subst (λ y. IfSome y (λ _. P q)) (sym (get-collected tag_cmp g tag_same t q)) (stays (P q) (g q) (finite.get t q) (h.at q));
}

-- a table without entries is the empty one
no_rows : (t : TaggedRows) → finite.entries t ≡ [] → t ≡ finite.empty
no_rows t none = finite.empty_of_len t (finite.len-entries t ∙ ap length none)

pub collected_none : (g : Tag → Row → Option Row) → collected {R = tag_cmp} g finite.empty ≡ finite.empty
collected_none g =
    no_rows (collected {R = tag_cmp} g finite.empty) (entries-collected tag_cmp g finite.empty ∙ ap (collected_list g) entries-empty)

pub joined_none : (one : Bool) (rule : JoinRule) → joined_by_key one rule finite.empty finite.empty ≡ finite.empty
joined_none one rule =
    ap (λ es. finite.from_sorted (spread_list one (λ x. beside (by_key rule) x (right_rows (by_key rule) ((by_key rule).left_key x) finite.empty)) es)) entries-empty
    ∙ no_rows (finite.from_sorted []) (finite.entries-from_sorted tag_cmp [] tt)

pub values_none : finite.values (finite.empty {X = Row} {R = tag_cmp}) ≡ []
values_none = ap (map (λ e. e.1)) entries-empty
