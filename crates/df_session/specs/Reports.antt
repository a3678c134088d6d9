-- Pages of views in files: which views a page has, what the store gives of each, and what is told of a page that is written.
use Rattle.std.specs.Prelude.{◌≡◌, ◌⊎◌, ◌++◌, ℕ, Bool, List, [], ◌∷◌, Result, Ok, Err, codes, decimal, length}
use Rattle.df_session.specs.Greetings.{plural_end}
use Rattle.df_session.specs.Marks.{page_of_tables}
use Rattle.df_session.specs.declared.refusal.Refusal.{Refusal}
use Rattle.df_session.specs.declared.refusal.Refusal.TheVariants as refusal
use Rattle.df_session.specs.declared.refusal.WriteFault.{WriteFault}
use Rattle.df_session.specs.declared.view_table.ViewTable.{ViewTable}

-- what is told of a page of so many views that is written
abbrev pub reported_text : ℕ → List ℕ
reported_text views = codes "ok " ++ (decimal views ++ (codes " view" ++ (plural_end views ++ codes "\n")))

-- by what a store gives where the table of the view of a name is asked for
module _ {S : Type 0} (Tables : S → S → List ℕ → Result ViewTable Refusal → Type 0) where
  -- the tables of these views, for which it is asked one after another
  abbrev pub AreTables : List (List ℕ) → S → S → List ViewTable → Type 0
  AreTables [] old new tables = (new ≡ old) × (tables ≡ [])
  AreTables (name ∷ names) old new tables =
      (mid : S) × (first : ViewTable) × (rest : List ViewTable) × Tables old mid name (Ok first) × AreTables names mid new rest × (tables ≡ first ∷ rest)

  -- behind these tables those of these views were appended
  abbrev pub HasTables : List (List ℕ) → S → S → List ViewTable → List ViewTable → Type 0
  HasTables names old new before after = (tables : List ViewTable) × AreTables names old new tables × (after ≡ before ++ tables)

  -- Why not all of these tables are given: the refusal of the first that is not, or that memory was refused.
  abbrev pub IsRefusalOfTables : List (List ℕ) → S → S → Refusal → Type 0
  IsRefusalOfTables [] old new r = (r ≡ refusal.Memory) × (new ≡ old)
  IsRefusalOfTables (name ∷ names) old new r =
      ((r ≡ refusal.Memory) × (new ≡ old))
      ⊎ (Tables old new name (Err r)
      ⊎ ((mid : S) × (first : ViewTable) × Tables old mid name (Ok first) × IsRefusalOfTables names mid new r))

-- why a page of tables is not written: memory was refused, and no file is touched; or why its file is not written
abbrev pub IsUnwrittenPage : {F : Type 0} → F → F → Refusal → Type 0
IsUnwrittenPage before after r = ((r ≡ refusal.Memory) × (after ≡ before)) ⊎ ((f : WriteFault) × (r ≡ refusal.Write f))

-- by what a store gives where the table of a view is asked for, the names of its views and the number of its last change, and how files are
-- written
module _ {S F : Type 0}
    (Tables : S → S → List ℕ → Result ViewTable Refusal → Type 0)
    (Names : S → S → Result (List (List ℕ)) Refusal → Type 0)
    (Numbers : S → ℕ → Type 0)
    (Writes : F → F → List ℕ → List ℕ → Type 0)
  where
    -- The page of these views' tables stands under the path, marked against the tables that stood there before, and how many views they are
    -- is told.
    abbrev pub IsWritten :
        List ℕ → Bool → List ℕ → List (List ℕ) → List ViewTable → S → S → List ViewTable → F → F → List ℕ → Type 0
    IsWritten title reload path names stood old new tables before after text =
        (number : ℕ) × Numbers old number × AreTables Tables names old new tables
        × Writes before after path (page_of_tables title number reload stood tables) × (text ≡ reported_text (length names))

    -- The page of the views that are named, or where none is, of all.
    abbrev pub IsReport :
        List ℕ → Bool → List ℕ → List (List ℕ) → List ViewTable → S → S → List ViewTable → F → F → List ℕ → Type 0
    IsReport title reload path [] stood old new tables before after text =
        (mid : S) × (names : List (List ℕ)) × Names old mid (Ok names) × IsWritten title reload path names stood mid new tables before after text
    IsReport title reload path (name ∷ names) stood old new tables before after text =
        IsWritten title reload path (name ∷ names) stood old new tables before after text

    -- A refusal of a page of these views: there is none, and no file is touched; or why its file is not written.
    abbrev pub IsUnwritten : List (List ℕ) → S → S → F → F → Refusal → Type 0
    IsUnwritten names old new before after r =
        (IsRefusalOfTables Tables names old new r × (after ≡ before)) ⊎ ((f : WriteFault) × (r ≡ refusal.Write f))

    -- A refusal of a page of the views that are named, or where none is, of all.
    abbrev pub IsRefusalOfReport : List (List ℕ) → S → S → F → F → Refusal → Type 0
    IsRefusalOfReport [] old new before after r =
        (Names old new (Err r) × (after ≡ before))
        ⊎ ((mid : S) × (names : List (List ℕ)) × Names old mid (Ok names) × IsUnwritten names mid new before after r)
    IsRefusalOfReport (name ∷ names) old new before after r = IsUnwritten (name ∷ names) old new before after r
