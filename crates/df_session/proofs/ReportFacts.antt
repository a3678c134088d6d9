-- The tables of pages, one more of them, and why there are none.
use Rattle.std.proofs.Common.{◌≡◌, ◌∙◌, ◌<◌, ◌+◌, ◌++◌, ℕ, List, [], ◌∷◌, ap, append_assoc, drop, get_or, inl, inr, length, refl, subst, sym, take}
use Rattle.std.specs.Prelude.{IfErr, Result, Ok, Err}
use Rattle.std.proofs.lemmas.List.{take-append-drop, take_more}
use Rattle.df_session.specs.Reports.{AreTables, HasTables, IsRefusalOfReport, IsRefusalOfTables, IsUnwritten, IsUnwrittenPage}
use Rattle.df_session.specs.declared.refusal.Refusal.{Refusal}
use Rattle.df_session.specs.declared.refusal.Refusal.TheVariants as refusal
use Rattle.df_session.specs.declared.view_table.ViewTable.{ViewTable}

-- the names before one, it, and those behind it
split-at : (names : List (List ℕ)) (i : ℕ) (name : List ℕ) → i < length names → take i names ++ (get_or names i name ∷ drop (i + 1) names) ≡ names
split-at names i name lt =
    sym (append_assoc (take i names) (get_or names i name ∷ []) (drop (i + 1) names))
    ∙ (ap (λ ns. ns ++ drop (i + 1) names) (sym (take_more names i name lt)) ∙ take-append-drop (i + 1) names)

module _ {S : Type 0} (Tables : S → S → List ℕ → Result ViewTable Refusal → Type 0) where
  -- the table of one view more
  tables-more :
      (names : List (List ℕ)) (s m n : S) (tables : List ViewTable) (name : List ℕ) (last : ViewTable) →
      AreTables Tables names s m tables → Tables m n name (Ok last) → AreTables Tables (names ++ name ∷ []) s n (tables ++ last ∷ [])
  tables-more [] s m n tables name last (same, none) one =
      (n, last, [], subst (λ t. Tables t n name (Ok last)) same one, (refl, refl), ap (λ ts. ts ++ last ∷ []) none)
  tables-more (x ∷ names) s m n tables name last (mid, first, rest, head, tail, is) one =
      (mid, first, rest ++ last ∷ [], head, tables-more names mid m n rest name last tail one, ap (λ ts. ts ++ last ∷ []) is)

  pub has-more :
      (names : List (List ℕ)) (i : ℕ) (name : List ℕ) (s m n : S) (before mid after : List ViewTable) (last : ViewTable) → i < length names →
      HasTables Tables (take i names) s m before mid → Tables m n (get_or names i name) (Ok last) → after ≡ mid ++ last ∷ [] →
      HasTables Tables (take (i + 1) names) s n before after
  has-more names i name s m n before mid after last lt (tables, are, is) one more = (
    tables ++ last ∷ [],
    subst (λ ns. AreTables Tables ns s n (tables ++ last ∷ [])) (sym (take_more names i name lt))
        (tables-more (take i names) s m n tables (get_or names i name) last are one),
    more ∙ (ap (λ t. t ++ last ∷ []) is ∙ append_assoc before tables (last ∷ [])),
  )

  -- the tables that stand behind none
  pub has-only :
      (names : List (List ℕ)) (s n : S) (before after : List ViewTable) → before ≡ [] → HasTables Tables names s n before after →
      AreTables Tables names s n after
  has-only names s n before after none (tables, are, is) =
      subst (AreTables Tables names s n) (sym (is ∙ ap (λ b. b ++ tables) none)) are

  -- memory that is refused before all tables
  pub refused-memory : (names : List (List ℕ)) (s n : S) (r : Refusal) → r ≡ refusal.Memory → n ≡ s → IsRefusalOfTables Tables names s n r
  refused-memory [] s n r is same = (is, same)
  refused-memory (x ∷ names) s n r is same = inl (is, same)

  -- memory that is refused behind all of them
  pub refused-end :
      (names : List (List ℕ)) (s n : S) (tables : List ViewTable) (r : Refusal) → r ≡ refusal.Memory → AreTables Tables names s n tables →
      IsRefusalOfTables Tables names s n r
  refused-end [] s n tables r is (same, none) = (is, same)
  refused-end (x ∷ names) s n tables r is (mid, first, rest, head, tail, all) =
      inr (inr (mid, first, head, refused-end names mid n rest r is tail))

  -- a refusal of one table, where others come behind it
  refused-first :
      (name : List ℕ) (names : List (List ℕ)) (s n : S) (r : Refusal) →
      IsRefusalOfTables Tables (name ∷ []) s n r → IsRefusalOfTables Tables (name ∷ names) s n r
  refused-first name names s n r (inl memory) = inl memory
  refused-first name names s n r (inr (inl here)) = inr (inl here)
  refused-first name names s n r (inr (inr (mid, first, head, last))) =
      inr (inr (mid, first, head, refused-memory names mid n r last.0 last.1))

  -- a refusal behind tables
  refused-behind :
      (before names : List (List ℕ)) (s m n : S) (tables : List ViewTable) (r : Refusal) →
      AreTables Tables before s m tables → IsRefusalOfTables Tables names m n r → IsRefusalOfTables Tables (before ++ names) s n r
  refused-behind [] names s m n tables r (same, none) h = subst (λ t. IsRefusalOfTables Tables names t n r) same h
  refused-behind (x ∷ before) names s m n tables r (mid, first, rest, head, tail, is) h =
      inr (inr (mid, first, head, refused-behind before names mid m n rest r tail h))

  -- a refusal of the table at an index
  pub refused-at :
      (names : List (List ℕ)) (i : ℕ) (name : List ℕ) (s m n : S) (before mid : List ViewTable) (r : Refusal) → i < length names →
      HasTables Tables (take i names) s m before mid → IsRefusalOfTables Tables (get_or names i name ∷ []) m n r →
      IsRefusalOfTables Tables names s n r
  refused-at names i name s m n before mid r lt (tables, are, is) h =
      subst (λ ns. IsRefusalOfTables Tables ns s n r) (split-at names i name lt)
      (refused-behind (take i names) (get_or names i name ∷ drop (i + 1) names) s m n tables r are
      (refused-first (get_or names i name) (drop (i + 1) names) m n r h))

module _ {S F : Type 0}
    (Tables : S → S → List ℕ → Result ViewTable Refusal → Type 0)
    (Names : S → S → Result (List (List ℕ)) Refusal → Type 0)
    (Numbers : S → ℕ → Type 0)
    (Writes : F → F → List ℕ → List ℕ → Type 0)
  where
    -- all views
    pub all-refusal :
        {T : Type 0} (r : Result T Refusal) (names views : List (List ℕ)) (s m n : S) (f g : F) → Names s m (Ok names) → views ≡ names →
        IfErr r (IsUnwritten Tables Names Numbers Writes views m n f g) → IfErr r (IsRefusalOfReport Tables Names Numbers Writes [] s n f g)
    all-refusal (Ok t) names views s m n f g are same h = tt
    all-refusal (Err e) names views s m n f g are same h =
        inr (m, names, are, subst (λ vs. IsUnwritten Tables Names Numbers Writes vs m n f g e) same h)

    -- a page of these tables that is not written
    pub unwritten-behind :
        (names : List (List ℕ)) (s n : S) (tables : List ViewTable) (f g : F) (r : Refusal) → AreTables Tables names s n tables → IsUnwrittenPage f g r →
        IsUnwritten Tables Names Numbers Writes names s n f g r
    unwritten-behind names s n tables f g r are (inl (memory, same)) = inl (refused-end Tables names s n tables r memory are, same)
    unwritten-behind names s n tables f g r are (inr fault) = inr fault
