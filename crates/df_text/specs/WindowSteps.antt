-- How a rolling window, `cum_sum` and `rank` are read from the items after the step's word: first how many there are, then
-- each from left to right.
use Rattle.std.specs.Prelude.{ℕ, ℤ, List, [], ◌∷◌, codes, Option, Some, None, Result, Ok, Err, if◌then◌else◌}
use Rattle.std.specs.Str.{bytes_eq}
use Rattle.toml.specs.Data.{Data, integer}
use Rattle.df_plan.specs.declared.plan.Plan.{Plan}
use Rattle.df_plan.specs.declared.plan.Plan.TheVariants as plan
use Rattle.df_ops.specs.declared.ranks.RankKind.{RankKind}
use Rattle.df_ops.specs.declared.ranks.RankKind.TheVariants as rank
use Rattle.df_ops.specs.declared.windows.RollKind.{RollKind}
use Rattle.df_text.specs.declared.document.Location.{Location}
use Rattle.df_text.specs.declared.fault.ViewsFault.{ViewsFault}
use Rattle.df_text.specs.declared.fault.ViewsFault.TheVariants as fault
use Rattle.df_value.specs.Outcomes.{then_next}
use Rattle.df_text.specs.Locations.{item_at}
use Rattle.df_text.specs.Tree.{text_in, pair_in, triple_in}

-- the whole number that a value is; a float is none
abbrev pub int_in : Location → Data → Result ℤ ViewsFault
int_in at (integer n) = Ok n
int_in at _ = Err (fault.Shape at)

-- an output's name and a column's
abbrev pub names_in : Location → Data → Data → Result (List ℕ × List ℕ) ViewsFault
names_in at output column =
    then_next (text_in (item_at at 1) output) (λ o. then_next (text_in (item_at at 2) column) (λ c. Ok (o, c)))

-- an output, a column, w (the window's rows) and, if it stands there, m (how many cells that are not null a result wants)
abbrev pub window_items : Location → List Data → Result (Data × Data × Data × Option Data) ViewsFault
window_items at (output ∷ column ∷ rows ∷ []) = Ok (output, column, rows, None)
window_items at (output ∷ column ∷ rows ∷ least ∷ []) = Ok (output, column, rows, Some least)
window_items at _ = Err (fault.Shape at)

-- w and m of a rolling window; without m, m is w
abbrev pub window_numbers : Location → Data → Option Data → Result (ℤ × ℤ) ViewsFault
window_numbers at rows None = then_next (int_in (item_at at 3) rows) (λ r. Ok (r, r))
window_numbers at rows (Some least) = then_next (int_in (item_at at 3) rows) (λ r. then_next (int_in (item_at at 4) least) (λ l. Ok (r, l)))

-- the output, the column, w and m of a rolling window
abbrev pub window_parts : Location → List Data → Result ((List ℕ × List ℕ) × (ℤ × ℤ)) ViewsFault
window_parts at ds =
    then_next (window_items at ds) (λ w. then_next (names_in at w.0 w.1) (λ n. then_next (window_numbers at w.2 w.3) (λ r. Ok (n, r))))

-- a rolling window over a plan
abbrev pub rolling_of : Location → RollKind → Plan → List Data → Result Plan ViewsFault
rolling_of at kind input ds =
    then_next (window_parts at ds) (λ w. Ok (plan.Rolling input w.0.0 kind w.0.1 w.1.0 w.1.1))

-- a cumulative sum over a plan, of an output and a column
abbrev pub cum_sum_of : Location → Plan → List Data → Result Plan ViewsFault
cum_sum_of at input ds =
    then_next (pair_in at ds) (λ p. then_next (names_in at p.0 p.1) (λ n. Ok (plan.CumSum input n.0 n.1)))

-- the kind of rank that a word names
abbrev pub rank_of_word : Location → List ℕ → Result RankKind ViewsFault
rank_of_word at w =
    if bytes_eq w (codes "dense") then Ok rank.Dense else
    if bytes_eq w (codes "min") then Ok rank.Min else
    Err (fault.Word at)

-- an output, the kind of rank, and a column, read in this order: an unknown kind comes before a column that is no text
abbrev pub rank_parts : Location → List Data → Result (List ℕ × RankKind × List ℕ) ViewsFault
rank_parts at ds =
    then_next (triple_in at ds) (λ t. then_next (text_in (item_at at 1) t.0) (λ output.
    then_next (text_in (item_at at 2) t.1) (λ w. then_next (rank_of_word (item_at at 2) w) (λ kind.
    then_next (text_in (item_at at 3) t.2) (λ column. Ok (output, kind, column))))))

-- a rank over a plan
abbrev pub rank_of : Location → Plan → List Data → Result Plan ViewsFault
rank_of at input ds = then_next (rank_parts at ds) (λ r. Ok (plan.Rank input r.0 r.1 r.2))
