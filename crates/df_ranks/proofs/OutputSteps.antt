-- The steps of the loops that gather the tags of a delta and changes.
use Rattle.std.proofs.Common.{◌≡◌, ℕ, ◌+◌, ◌<◌, ◌≤◌, List, [], ◌∷◌, ◌++◌, Option, Some, None, length, map, drop, get_or, refl, sym, ap, ◌∙◌, append_assoc, append-nil}
use Rattle.std.specs.List.{cons_option}
use Rattle.std.specs.Option.{option_map}
use Rattle.std.specs.FinMap as finite
use Rattle.df_value.specs.declared.cell.Cell.{Cell}
use Rattle.df_column.specs.Changes.{Change}
use Rattle.df_column.specs.Tables.{TaggedRows, entry_change}
use Rattle.df_column.specs.declared.entry.Entry.{Entry}
use Rattle.df_column.specs.declared.tag.Tag.{Tag}
use Rattle.df_column.proofs.MergeLemmas.{drop_at, drop_past}
use Rattle.df_delta.specs.ChangeOf.{change_of}
use Rattle.df_delta.specs.Reached.{changes_at}
use Rattle.df_delta.specs.SameRows.{same_row, with_change}

-- the tags of entries
pub tags_of : (es : List Entry) → map (λ e. e.tag) es ≡ map (λ e. e.0) (map entry_change es)
tags_of [] = refl
tags_of (e ∷ es) = ap (λ ts. e.tag ∷ ts) (tags_of es)

one_or_none : {X : Type 0} (o : Option X) (out rest : List X) → (out ++ cons_option o []) ++ rest ≡ out ++ cons_option o rest
one_or_none None out rest = append_assoc out [] rest
one_or_none (Some x) out rest = append_assoc out (x ∷ []) rest

-- the change at one tag more
pub change_step : (t u : TaggedRows) (tags : List Tag) (i : ℕ) (q : Tag) (d : Tag) (es after all : List (Tag × Change (List Cell))) (a b : Option (List Cell)) → i < length tags → q ≡ get_or tags i d
    → a ≡ finite.get t q → b ≡ finite.get u q → after ≡ with_change es q a b → es ++ changes_at t u (drop i tags) ≡ all → after ++ changes_at t u (drop (i + 1) tags) ≡ all
change_step t u tags i q d es after all a b lt is old new made done =
    let cut : drop i tags ≡ q ∷ drop (i + 1) tags = drop_at tags i d lt ∙ ap (λ z. z ∷ drop (i + 1) tags) (sym is) in
    let change : change_of same_row a b ≡ change_of same_row (finite.get t q) (finite.get u q) = λ i. change_of same_row (old i) (new i) in
    ap (λ r. r ++ changes_at t u (drop (i + 1) tags)) made
    ∙ one_or_none (option_map (λ c. (q, c)) (change_of same_row a b)) es (changes_at t u (drop (i + 1) tags))
    ∙ ap (λ c. es ++ cons_option (option_map (λ c. (q, c)) c) (changes_at t u (drop (i + 1) tags))) change
    ∙ ap (λ ts. es ++ changes_at t u ts) (sym cut)
    ∙ done

pub change_end : (t u : TaggedRows) (tags : List Tag) (i : ℕ) (es all : List (Tag × Change (List Cell))) → length tags ≤ i → es ++ changes_at t u (drop i tags) ≡ all → es ≡ all
change_end t u tags i es all h done = sym (append-nil es) ∙ ap (λ ts. es ++ changes_at t u ts) (sym (drop_past tags i h)) ∙ done
