-- Lines, one for each item of a list.
use Rattle.std.proofs.Common.{◌≡◌, ◌++◌, ◌∷◌, [], ◌+◌, ◌<◌, ◌∙◌, ℕ, List, All, refl, subst, length, take, get_or, flat_map, ap, sym, append_assoc, append-nil}
use Rattle.std.proofs.lemmas.List.{take_more}
use Rattle.std.proofs.lemmas.List.Elements.{All-more}
use Rattle.std.proofs.lemmas.Grind.{flat_map-append}
use Rattle.df_value.specs.declared.cell.Cell.{Cell}
use Rattle.df_value.specs.Schemas.{Columns}
use Rattle.df_export.specs.CsvTables.{csv_line, csv_of, header_cells}

-- one line more
pub lines_more :
    {X : Type 0} (line : X → List ℕ) (xs : List X) (x : X) (i : ℕ) (out new : List ℕ) → i < length xs → x ≡ get_or xs i x →
    out ≡ flat_map line (take i xs) → new ≡ out ++ line x → new ≡ flat_map line (take (i + 1) xs)
lines_more line xs x i out new h here inv n =
    let more = take_more xs i x h in
    rw (n, inv, more, flat_map-append, append-nil, ← here) refl

pub all_more : {X : Type 0} (P : X → Type 0) (xs : List X) (x : X) (i : ℕ) → i < length xs → x ≡ get_or xs i x → All P (take i xs) → P x → All P (take (i + 1) xs)
all_more P xs x i h here inv p = All-more P xs i x h inv (subst P here p)

-- of the lines of the items to come, one more is there
pub lines_turn :
    {X : Type 0} (line : X → List ℕ) (xs rest : List X) (x : X) (out new all : List ℕ) → xs ≡ x ∷ rest → new ≡ out ++ line x →
    out ++ flat_map line xs ≡ all → new ++ flat_map line rest ≡ all
lines_turn line xs rest x out new all e n inv = rw (n, append_assoc) (ap (λ l. out ++ flat_map line l) (sym e) ∙ inv)

-- no item is to come
pub lines_over : {X : Type 0} (line : X → List ℕ) (xs : List X) (out all : List ℕ) → xs ≡ [] → out ++ flat_map line xs ≡ all → out ≡ all
lines_over line xs out all e inv = sym (append-nil out) ∙ (ap (λ l. out ++ flat_map line l) (sym e) ∙ inv)

-- a table is the line of its names and the lines of its rows
pub table_whole :
    (columns : Columns) (rows : List (List Cell)) (start head out : List ℕ) → start ≡ [] → head ≡ start ++ csv_line (header_cells columns) →
    out ≡ head ++ flat_map csv_line rows → out ≡ csv_of columns rows
table_whole columns rows start head out s h o = rw (o, h, s) refl
