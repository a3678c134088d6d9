-- The aggregates of a view's `group_by`: each is an array of an output's name, a word and, but for `len`, a column. The
-- word comes first, then the number of items, then the output's name, then the column.
use Rattle.std.specs.Prelude.{ℕ, ◌+◌, List, [], length, codes, Result, Ok, Err, if◌then◌else◌}
use Rattle.std.specs.Str.{bytes_eq}
use Rattle.toml.specs.Data.{Data}
use Rattle.df_ops.specs.declared.agg.Agg.{Agg}
use Rattle.df_ops.specs.declared.agg.Agg.TheVariants as agg
use Rattle.df_text.specs.declared.aggregates.AggWord.{AggWord}
use Rattle.df_text.specs.declared.aggregates.AggWord.TheVariants as agg_word
use Rattle.df_text.specs.declared.aggregates.ColumnWord.{ColumnWord}
use Rattle.df_text.specs.declared.aggregates.ColumnWord.TheVariants as column_word
use Rattle.df_text.specs.declared.document.Location.{Location}
use Rattle.df_text.specs.declared.fault.ViewsFault.{ViewsFault}
use Rattle.df_text.specs.declared.fault.ViewsFault.TheVariants as fault
use Rattle.df_value.specs.Outcomes.{then_next}
use Rattle.df_text.specs.Locations.{item_at}
use Rattle.df_text.specs.Reading.{read_after}
use Rattle.df_text.specs.Tree.{text_in, array_in, first_in, only_in, none_in}

-- the aggregate that a word names
abbrev pub agg_of_word : Location → List ℕ → Result AggWord ViewsFault
agg_of_word at w =
    if bytes_eq w (codes "len") then Ok agg_word.Len
    else if bytes_eq w (codes "count") then Ok (agg_word.Column column_word.Count)
    else if bytes_eq w (codes "sum") then Ok (agg_word.Column column_word.Sum)
    else if bytes_eq w (codes "min") then Ok (agg_word.Column column_word.Min)
    else if bytes_eq w (codes "max") then Ok (agg_word.Column column_word.Max)
    else if bytes_eq w (codes "first") then Ok (agg_word.Column column_word.First)
    else if bytes_eq w (codes "last") then Ok (agg_word.Column column_word.Last)
    else if bytes_eq w (codes "n_unique") then Ok (agg_word.Column column_word.NUnique)
    else if bytes_eq w (codes "mean") then Ok (agg_word.Column column_word.Mean)
    else Err (fault.Word at)

-- the aggregate of a column
abbrev pub column_agg : ColumnWord → List ℕ → Agg
column_agg column_word.Count column = agg.Count column
column_agg column_word.Sum column = agg.Sum column
column_agg column_word.Min column = agg.Min column
column_agg column_word.Max column = agg.Max column
column_agg column_word.First column = agg.First column
column_agg column_word.Last column = agg.Last column
column_agg column_word.NUnique column = agg.NUnique column
column_agg column_word.Mean column = agg.Mean column

-- an aggregate under its output's name, where these items stand after the word
abbrev pub output_and_aggregate_of : Location → AggWord → Data → List Data → Result (List ℕ × Agg) ViewsFault
output_and_aggregate_of at agg_word.Len output rest =
    then_next (none_in at rest) (λ _. then_next (text_in at output) (λ name. Ok (name, agg.Len)))
output_and_aggregate_of at (agg_word.Column word) output rest =
    then_next (only_in at rest) (λ c. then_next (text_in at output) (λ name.
    then_next (text_in at c) (λ column. Ok (name, column_agg word column))))

-- an array of an output's name, the word of an aggregate, and its column if the aggregate takes one
abbrev pub aggregate_item_of : Location → Data → Result (List ℕ × Agg) ViewsFault
aggregate_item_of at d =
    then_next (array_in at d) (λ ds. then_next (first_in at ds) (λ o. then_next (first_in at o.1) (λ w.
    then_next (text_in at w.0) (λ word. then_next (agg_of_word at word) (λ a. output_and_aggregate_of at a o.0 w.1)))))

-- an aggregate behind those that were read, as the items of a step behind its word and its keys
abbrev pub next_aggregate_of : Location → List (List ℕ × Agg) → Data → Result (List ℕ × Agg) ViewsFault
next_aggregate_of at before d = aggregate_item_of (item_at at (length before + 2)) d

-- any number of aggregates
abbrev pub aggregates_in : Location → List Data → Result (List (List ℕ × Agg)) ViewsFault
aggregates_in at ds = read_after (next_aggregate_of at) [] ds
