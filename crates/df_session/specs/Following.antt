-- Pages that follow the store: when they are written anew behind a command, and what is told of one that is not written.
use Rattle.std.specs.Prelude.{◌≡◌, ◌⊎◌, ◌==◌, ◌||◌, ◌&&◌, ◌++◌, ◌+◌, ◌<◌, ◌≤◌, ℕ, Bool, true, false, not, List, [], ◌∷◌, Option, Some, None, Result, bytes_eq, codes, decimal, filter, find, length, nat_lt, refl, if◌then◌else◌}
use Rattle.std.specs.Coded.{Coded, code_by, coded×, coded_list, coded_ℕ}
use Rattle.std.specs.Io.KnownBytes.{Appends}
use Rattle.df_column.specs.Tables.{TableParts, table_code}
use Rattle.df_print.specs.Printed.{escaped_text}
use Rattle.df_value.specs.Schemas.{Columns}
use Rattle.df_value.specs.contracts.cell.CellType as dtype_type
use Rattle.df_session.specs.Reports.{IsRefusalOfReport, IsReport}
use Rattle.df_session.specs.Texts.{text_of}
use Rattle.df_session.specs.declared.followed.Moment.{Moment}
use Rattle.df_session.specs.declared.refusal.Refusal.{Refusal}
use Rattle.df_session.specs.declared.refusal.Refusal.TheVariants as refusal
use Rattle.df_session.specs.declared.view_table.ViewTable.{ViewTable}

-- so many milliseconds are a second
abbrev pub second : ℕ
second = 1000

-- Whether pages that were written at the first time may be written at the second, in milliseconds of one clock: once a second is over,
-- and where the clock ran back. A clock that cannot be read holds nothing back.
abbrev pub is_due : Option ℕ → Option ℕ → Bool
is_due (Some last) (Some now) = nat_lt now last || not (nat_lt now (last + second))
is_due (Some last) None = true
is_due None now = true

-- a time is within the second behind another
abbrev pub IsSoonBehind : Option ℕ → Option ℕ → Type 0
IsSoonBehind (Some last) (Some now) = (last ≤ now) × (now < last + second)
IsSoonBehind last now = ⊥

-- Whether pages that were last written at the change of the first number are to be written behind a command, where the last change has
-- the second one: if there was a change since, and the command was none or they are due.
abbrev pub must_write : ℕ → Option ℕ → ℕ → Moment → Bool
must_write written at number moment = not (number == written) && (not moment.is_change || is_due at moment.now)

-- a page: the path of its file, the names of its views, where no name stands for all, and the tables that it shows
pub record PageParts : Type 0 where
  pub path : List ℕ
  pub views : List (List ℕ)
  pub tables : List ViewTable

-- a view's table is stored as the tuple of its parts, and a page too
abbrev pub view_table_code : Coded ViewTable
view_table_code =
    code_by (List ℕ × (Columns × TableParts)) (coded× (coded_list coded_ℕ) (coded× (coded_list (coded× (coded_list coded_ℕ) dtype_type.the_row.coded)) table_code))
    (λ v. (v.name, (v.schema, v.table))) (λ p. record { name = p.0; schema = p.1.0; table = p.1.1 }) (λ _. refl)

abbrev pub page_code : Coded PageParts
page_code =
    code_by (List ℕ × (List (List ℕ) × List ViewTable)) (coded× (coded_list coded_ℕ) (coded× (coded_list (coded_list coded_ℕ)) (coded_list view_table_code)))
    (λ g. (g.path, (g.views, g.tables))) (λ p. record { path = p.0; views = p.1.0; tables = p.1.1 }) (λ _. refl)

-- the pages that follow a store, the number of the change at which they were last written, and when that was
pub record FollowedParts : Type 0 where
  pub pages : List PageParts
  pub number : ℕ
  pub at : Option ℕ

abbrev pub parts : List PageParts → ℕ → Option ℕ → FollowedParts
parts pages number at = record { pages = pages; number = number; at = at }

-- the page of this path
abbrev pub page_at : List ℕ → List PageParts → Option PageParts
page_at path pages = find (λ p. bytes_eq p.path path) pages

-- the pages without that of this path
abbrev pub without_path : List ℕ → List PageParts → List PageParts
without_path path pages = filter (λ p. not (bytes_eq p.path path)) pages

-- The pages with one more, in the place of that of its path. The first one was written at the change of this number. Beside others, which
-- may still be to be written, it is written again with them.
abbrev pub begun : PageParts → ℕ → Option ℕ → FollowedParts → FollowedParts
begun page number now followed = record {
  pages = without_path page.path followed.pages ++ page ∷ [];
  number = if length followed.pages == 0 then number else followed.number;
  at = now;
}

-- what is told of a page that is not written, up to the number of the last change
abbrev pub unwritten_begin : List ℕ → List ℕ
unwritten_begin path = codes "unwritten " ++ (escaped_text path ++ codes " ")

-- what is told of it: a line with the path, that number and how many lines follow, and the line that says why
abbrev pub unwritten_lines : List ℕ → ℕ → List ℕ → List ℕ
unwritten_lines path number reason = unwritten_begin path ++ (decimal number ++ (codes " 1\n" ++ (reason ++ codes "\n")))

-- the text of a refusal, or where there is no memory for it, that
abbrev pub IsReason : Refusal → List ℕ → Type 0
IsReason r reason = (reason ≡ text_of [] r) ⊎ (reason ≡ codes "memory")

-- by what a store gives where the table of a view is asked for, the names of its views and the number of its last change, and how files are
-- written; and by what stands above the pages
module _ {S F : Type 0}
    (Tables : S → S → List ℕ → Result ViewTable Refusal → Type 0)
    (Names : S → S → Result (List (List ℕ)) Refusal → Type 0)
    (Numbers : S → ℕ → Type 0)
    (Writes : F → F → List ℕ → List ℕ → Type 0)
    (title : List ℕ)
  where
    -- A page is written as a report of what changed since the tables that it showed, which a browser loads again, if it is to, and nothing is
    -- told. Or it is refused as one, and why is told behind the output, with the number of the last change; then it shows what it did.
    abbrev pub IsPageBehind :
        Bool → PageParts → List ViewTable → ℕ → S → S → F → F → Option (List ℕ) → Option (List ℕ) → Type 0
    IsPageBehind reload page tables number old new before after out end =
        ((text : List ℕ) × IsReport Tables Names Numbers Writes title reload page.path page.views page.tables old new tables before after text × (end ≡ out))
        ⊎ ((r : Refusal) × (reason : List ℕ) × IsRefusalOfReport Tables Names Numbers Writes page.views old new before after r
        × IsReason r reason × Appends out end (unwritten_lines page.path number reason) × (tables ≡ page.tables))

    -- the pages, one after another, which a browser loads again; and what they are then
    abbrev pub ArePagesBehind :
        List PageParts → List PageParts → ℕ → S → S → F → F → Option (List ℕ) → Option (List ℕ) → Type 0
    ArePagesBehind [] left number old new before after out end = (left ≡ []) × (new ≡ old) × (after ≡ before) × (end ≡ out)
    ArePagesBehind (page ∷ pages) left number old new before after out end =
        (mid : S) × (middle : F) × (between : Option (List ℕ)) × (tables : List ViewTable) × (rest : List PageParts)
        × IsPageBehind true page tables number old mid before middle out between × ArePagesBehind pages rest number mid new middle after between end
        × (left ≡ record page { tables = tables } ∷ rest)

    -- where they are to be written, they are, at the number of the last change; else nothing is done
    abbrev pub AreWrittenIf : Bool → FollowedParts → FollowedParts → Option ℕ → ℕ → S → S → F → F → Option (List ℕ) → Option (List ℕ) → Type 0
    AreWrittenIf true followed left now number old new before after out end =
        (pages : List PageParts) × ArePagesBehind followed.pages pages number old new before after out end × (left ≡ parts pages number now)
    AreWrittenIf false followed left now number old new before after out end =
        (left ≡ followed) × (new ≡ old) × (after ≡ before) × (end ≡ out)

    -- What is done behind a command: where the pages are to be written, they are.
    abbrev pub IsFollowedUp : Moment → FollowedParts → FollowedParts → S → S → F → F → Option (List ℕ) → Option (List ℕ) → Type 0
    IsFollowedUp moment followed left old new before after out end =
        (number : ℕ) × Numbers old number
        × AreWrittenIf (must_write followed.number followed.at number moment) followed left moment.now number old new before after out end

    -- A page is written a last time, at the last change, and a browser loads it no longer; or why it is not is told.
    abbrev pub IsLastPage : PageParts → S → S → F → F → Option (List ℕ) → Option (List ℕ) → Type 0
    IsLastPage page old new before after out end =
        (number : ℕ) × (tables : List ViewTable) × Numbers old number × IsPageBehind false page tables number old new before after out end

    -- A refusal of a page that is to follow the store: that of a report, or memory was refused, and nothing was done.
    abbrev pub IsRefusalOfFollow : List (List ℕ) → S → S → F → F → Refusal → Type 0
    IsRefusalOfFollow views old new before after r =
        ((r ≡ refusal.Memory) × (new ≡ old) × (after ≡ before)) ⊎ IsRefusalOfReport Tables Names Numbers Writes views old new before after r

    -- A page of these views under a path is written, and it follows the store from now on.
    abbrev pub IsFollowBegun : PageParts → Option ℕ → FollowedParts → FollowedParts → S → S → F → F → List ℕ → Type 0
    IsFollowBegun page now followed left old new before after text =
        (number : ℕ) × (tables : List ViewTable) × Numbers old number
        × IsReport Tables Names Numbers Writes title true page.path page.views page.tables old new tables before after text
        × (left ≡ begun (record page { tables = tables }) number now followed)
