-- Rows below a tag, up to it and behind it, by their indexes.
use Rattle.std.proofs.Common.{◌≡◌, ℕ, ◌+◌, ◌-◌, ◌<◌, ◌≤◌, min, Bool, true, false, not, List, [], ◌∷◌, length, map, take, drop, get_or, filter, sym, ap, ◌∙◌}
use Rattle.std.specs.Prelude.{T}
use Rattle.std.specs.List.{list_all}
use Rattle.std.proofs.lemmas.List.{drop_all, drop_more, take_all}
use Rattle.df_value.specs.declared.cell.Cell.{Cell}
use Rattle.df_column.specs.Bounds.{IsLowerBound, IsUpperBound, is_below}
use Rattle.df_column.specs.Tables.{entry_change}
use Rattle.df_column.specs.declared.entry.Entry.{Entry}
use Rattle.df_column.specs.declared.tag.Tag.{Tag}
use Rattle.df_delta.proofs.Collected.{T-first, T-second, T-both}
use Rattle.df_nodes.specs.Prefixes.{rows_up_to}
use Rattle.df_nodes.specs.Rolling.{reached_by, rows_before}
use Rattle.df_nodes.proofs.Filters.{back_of_take, filter_back, filter_front, front_of_take, take_between}
use Rattle.df_nodes.proofs.UpTo.{Rows}

not_not : (p : Tag × List Cell → Bool) (rows : Rows) → T (list_all p rows) → T (list_all (λ r. not (not (p r))) rows)
not_not p [] h = tt
not_not p (r ∷ rows) h = T-both (not (not (p r))) _ (twice (p r) (T-first (p r) _ h)) (not_not p rows (T-second (p r) _ h))
  where
    twice : (b : Bool) → T b → T (not (not b))
    twice true h = tt
    twice false h = h

pub up_to_bound : (q : Tag) (rows : Rows) (n : ℕ) → IsUpperBound q rows n → rows_up_to q rows ≡ take n rows
up_to_bound q rows n h = filter_front (λ r. not (is_below q r.0)) rows n h.before (not_not (λ r. is_below q r.0) (drop n rows) h.after)

pub below_bound : (q : Tag) (rows : Rows) (n : ℕ) → IsLowerBound q rows n → filter (λ r. is_below r.0 q) rows ≡ take n rows
below_bound q rows n h = filter_front (λ r. is_below r.0 q) rows n h.before h.after

-- the rows before an entry
pub before_entry : (rows : Rows) (entries : List Entry) (at n : ℕ) (e : Entry) → at < length entries → IsLowerBound (get_or entries at e).tag rows n
    → take n rows ≡ rows_before (map entry_change (drop at entries)) rows
before_entry rows entries at n e lt h =
    sym (below_bound (get_or entries at e).tag rows n h)
    ∙ ap (λ es. rows_before (map entry_change es) rows) (sym (drop_more entries at e lt))

pub before_no_entry : (rows : Rows) (entries : List Entry) (at n : ℕ) → length entries ≤ at → length rows ≤ n → take n rows ≡ rows_before (map entry_change (drop at entries)) rows
before_no_entry rows entries at n past all =
    take_all n rows all ∙ ap (λ es. rows_before (map entry_change es) rows) (sym (drop_all at entries past))

-- the tags that a change reaches, by indexes
pub reached_run : (w : ℕ) (q : Tag) (rows : Rows) (from stop : ℕ) → IsUpperBound q rows from
    → reached_by w q (take stop rows) ≡ q ∷ map (λ r. r.0) (drop from (take (from + min (stop - from) (w - 1)) rows))
reached_run w q rows from stop h =
    ap (λ l. q ∷ map (λ r. r.0) (take (w - 1) l))
    (filter_back (λ r. is_below q r.0) (take stop rows) from
    (front_of_take (λ r. not (is_below q r.0)) rows from stop h.before)
    (back_of_take (λ r. is_below q r.0) rows from stop h.after))
    ∙ ap (λ l. q ∷ map (λ r. r.0) l) (take_between (w - 1) from stop rows)
