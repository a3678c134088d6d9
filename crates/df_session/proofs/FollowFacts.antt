-- The pages that follow a store, once they were written.
use Rattle.std.proofs.Common.{◌≡◌, ℕ, List, [], ◌∷◌, Option, ap, arith, length, refl, subst, sym, true}
use Rattle.std.specs.Prelude.{Result}
use Rattle.df_session.specs.Following.{ArePagesBehind, IsPageBehind, PageParts, parts}
use Rattle.df_session.specs.declared.refusal.Refusal.{Refusal}
use Rattle.df_session.specs.declared.view_table.ViewTable.{ViewTable}

module _ {S F : Type 0}
    (Tables : S → S → List ℕ → Result ViewTable Refusal → Type 0)
    (Names : S → S → Result (List (List ℕ)) Refusal → Type 0)
    (Numbers : S → ℕ → Type 0)
    (Writes : F → F → List ℕ → List ℕ → Type 0)
    (title : List ℕ)
  where
    -- no page
    pub none-behind :
        (pages : List PageParts) (number : ℕ) (s : S) (f : F) (a : Option (List ℕ)) → length pages ≡ 0 →
        ArePagesBehind Tables Names Numbers Writes title pages pages number s s f f a a
    none-behind [] number s f a none = (refl, refl, refl, refl)
    none-behind (page ∷ pages) number s f a none = absurd (omega (arith, none))

    -- a page, and those behind it
    pub one-behind :
        (all : List PageParts) (page left : PageParts) (pages rest : List PageParts) (number : ℕ) (s m n : S) (f g h : F) (a b c : Option (List ℕ)) →
        all ≡ page ∷ pages →
        ((tables : List ViewTable) × IsPageBehind Tables Names Numbers Writes title true page tables number s m f g a b × (left ≡ record page { tables = tables })) →
        ArePagesBehind Tables Names Numbers Writes title pages rest number m n g h b c →
        ArePagesBehind Tables Names Numbers Writes title all (left ∷ rest) number s n f h a c
    one-behind all page left pages rest number s m n f g h a b c is (tables, first, same) others =
        subst (λ ps. ArePagesBehind Tables Names Numbers Writes title ps (left ∷ rest) number s n f h a c) (sym is)
        (m, g, b, tables, rest, first, others, ap (λ p. p ∷ rest) same)

-- what is left where the pages were written
pub noted :
    (pages left : List PageParts) (number now : ℕ) (at then : Option ℕ) → left ≡ pages → now ≡ number → then ≡ at →
    parts left now then ≡ parts pages number at
noted pages left number now at then p q r = rw (p, q, r) refl
