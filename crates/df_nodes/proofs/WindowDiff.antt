-- The changes of a rolling column at all that a delta reaches are its delta.
use Rattle.std.proofs.Common.{◌≡◌, ℕ, ◌+◌, ◌<◌, ◌≤◌, List, ◌++◌, length, map, take, drop, get_or, sym, ap, subst, ◌∙◌, append_assoc, append-nil}
use Rattle.std.specs.Prelude.{T}
use Rattle.std.specs.List.{list_all}
use Rattle.std.specs.FinMap as finite
use Rattle.std.proofs.lemmas.List.{drop_all, drop_more}
use Rattle.df_value.specs.declared.cell.Cell.{Cell}
use Rattle.df_column.specs.Changes.{Change, applied}
use Rattle.df_column.specs.TagOrder.{tag_total, tag_same}
use Rattle.df_column.specs.Tables.{TaggedRows, entry_change}
use Rattle.df_column.specs.Tags.{tag_cmp}
use Rattle.df_column.specs.declared.entry.Entry.{Entry}
use Rattle.df_column.specs.declared.tag.Tag.{Tag}
use Rattle.df_delta.specs.Deltas.{Changes, IsDelta, has_row}
use Rattle.df_delta.specs.Differences.{IsDiff}
use Rattle.df_delta.specs.Reached.{changes_at}
use Rattle.df_delta.proofs.Changes.{after_change, get-applied}
use Rattle.df_delta.proofs.Reached.{reached_diff, sorted_changes}
use Rattle.df_nodes.specs.Rolling.{reached, reached_by, rolling_output, rows_before}
use Rattle.df_nodes.specs.declared.rolling.Rolling.{Rolling}
use Rattle.df_nodes.proofs.RisingReach.{rising_reached}
use Rattle.df_nodes.proofs.UnreachedWindows.{same_windows}
use Rattle.df_nodes.proofs.WindowValues.{changes_append}

abbrev Notes : Type 0
Notes = List (Tag × Change (List Cell))

-- the changes at all that these entries reach
abbrev pub changes_of_entries : TaggedRows → TaggedRows → ℕ → List (Tag × List Cell) → List Entry → Notes
changes_of_entries t u w rows es = changes_at t u (reached w rows (map entry_change es))

-- the changes of one more entry
pub next_entry : (t u : TaggedRows) (w : ℕ) (rows : List (Tag × List Cell)) (es : List Entry) (at stop : ℕ) (x : Entry) (made old whole : Notes) → at < length es
    → take stop rows ≡ rows_before (map entry_change (drop (at + 1) es)) rows → made ≡ old ++ changes_at t u (reached_by w (get_or es at x).tag (take stop rows))
    → old ++ changes_at t u (reached w rows (map entry_change (drop at es))) ≡ whole → made ++ changes_at t u (reached w rows (map entry_change (drop (at + 1) es))) ≡ whole
next_entry t u w rows es at stop x made old whole lt before added done =
    let rest = reached w rows (map entry_change (drop (at + 1) es)) in
    ap (λ l. l ++ changes_at t u rest) added
    ∙ append_assoc old (changes_at t u (reached_by w (get_or es at x).tag (take stop rows))) (changes_at t u rest)
    ∙ ap (λ l. old ++ l)
    (sym (changes_append t u (reached_by w (get_or es at x).tag (take stop rows)) rest)
    ∙ ap (λ l. changes_at t u (reached_by w (get_or es at x).tag l ++ rest)) before
    ∙ ap (λ l. changes_at t u (reached w rows (map entry_change l))) (sym (drop_more es at x lt)))
    ∙ done

pub last_entry : (t u : TaggedRows) (w : ℕ) (rows : List (Tag × List Cell)) (es : List Entry) (at : ℕ) (made whole : Notes) → length es ≤ at
    → made ++ changes_at t u (reached w rows (map entry_change (drop at es))) ≡ whole → made ≡ whole
last_entry t u w rows es at made whole past done =
    sym (append-nil made) ∙ ap (λ l. made ++ changes_at t u (reached w rows (map entry_change l))) (sym (drop_all at es past)) ∙ done

-- the entries are those of a delta
pub reached_delta : (t u : TaggedRows) (w : ℕ) (rows : TaggedRows) (d : Changes) (es changes : List Entry) → map entry_change changes ≡ finite.entries d
    → map entry_change es ≡ changes_at t u (reached w (finite.entries rows) (map entry_change changes)) → T (list_all has_row es) → IsDelta es
reached_delta t u w rows d es changes whole is some = record {
  rising = subst (λ l. T (finite.is_sorted tag_cmp l)) (sym is)
      (sorted_changes t u (reached w (finite.entries rows) (map entry_change changes))
      (rising_reached w (finite.entries rows) (map entry_change changes) (finite.entries_sorted rows) (subst (λ l. T (finite.is_sorted tag_cmp l)) (sym whole) (finite.entries_sorted d))));
  rows = some;
}

module _ (r : Rolling) (t : TaggedRows) (d : Changes) where
  -- the changes at all tags that are reached lead from the one output to the other
  leads : IsDiff (rolling_output r t) (rolling_output r (applied t d))
      (finite.from_sorted (changes_at (rolling_output r t) (rolling_output r (applied t d)) (reached r.w (finite.entries (applied t d)) (finite.entries d))))
  leads =
      let u = applied t d in
      let notes = finite.entries d in
      reached_diff (rolling_output r t) (rolling_output r u) (reached r.w (finite.entries u) notes)
      (rising_reached r.w (finite.entries u) notes (finite.entries_sorted u) (finite.entries_sorted d))
      (same_windows r t u notes (finite.entries_sorted d)
      (λ x none. sym (get-applied tag_total tag_same t d x ∙ ap (λ c. after_change c (finite.get t x)) (finite.get-entries d x ∙ none))))

  pub window_diff : (old u : TaggedRows) (notes : Notes) → notes ≡ finite.entries d → old ≡ rolling_output r t → u ≡ applied t d
      → IsDiff (rolling_output r t) (rolling_output r (applied t d)) (finite.from_sorted (changes_at old (rolling_output r u) (reached r.w (finite.entries u) notes)))
  window_diff old u notes e f g =
      let Leads = IsDiff (rolling_output r t) (rolling_output r (applied t d)) in
      subst (λ l. Leads (finite.from_sorted (changes_at old (rolling_output r u) (reached r.w (finite.entries u) l)))) (sym e)
      (subst (λ o. Leads (finite.from_sorted (changes_at o (rolling_output r u) (reached r.w (finite.entries u) (finite.entries d))))) (sym f)
      (subst (λ m. Leads (finite.from_sorted (changes_at (rolling_output r t) (rolling_output r m) (reached r.w (finite.entries m) (finite.entries d))))) (sym g) leads))
