-- The changes at one tag and at those of the run behind it.
use Rattle.std.proofs.Common.{◌≡◌, List, ◌∷◌, [], ◌++◌, Option, sym, ap, ◌∙◌, append_assoc}
use Rattle.std.specs.FinMap as finite
use Rattle.df_value.specs.declared.cell.Cell.{Cell}
use Rattle.df_column.specs.Changes.{Change}
use Rattle.df_column.specs.Tables.{TaggedRows}
use Rattle.df_column.specs.declared.tag.Tag.{Tag}
use Rattle.df_delta.specs.Reached.{changes_at}
use Rattle.df_delta.specs.SameRows.{with_change}
use Rattle.df_nodes.proofs.WindowValues.{changes_append}

abbrev Notes : Type 0
Notes = List (Tag × Change (List Cell))

-- a change and the run behind it
pub all_reached : (t u : TaggedRows) (made mid old : Notes) (q : Tag) (ps qs : List Tag) (new : Option (List Cell)) → mid ≡ with_change old q (finite.get t q) new → new ≡ finite.get u q
    → made ≡ mid ++ changes_at t u ps → qs ≡ q ∷ ps → made ≡ old ++ changes_at t u qs
all_reached t u made mid old q ps qs new first same rest more =
    rest
    ∙ ap (λ l. l ++ changes_at t u ps) (first ∙ ap (with_change old q (finite.get t q)) same)
    ∙ append_assoc old (changes_at t u (q ∷ [])) (changes_at t u ps)
    ∙ ap (λ l. old ++ l) (sym (changes_append t u (q ∷ []) ps) ∙ ap (changes_at t u) (sym more))
