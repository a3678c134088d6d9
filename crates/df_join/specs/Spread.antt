-- Tags made of a left and a right part, and tables under such tags.
use Rattle.std.specs.Prelude.{◌≡◌, ℕ, ◌≤◌, Bool, true, false, List, [], ◌∷◌, map, Option, Some, None}
use Rattle.std.specs.List.{flat_map}
use Rattle.std.specs.Option.{IfSome}
use Rattle.std.specs.FinMap.{FinMap, get, entries, from_sorted}
use Rattle.df_column.specs.declared.tag.Tag.{Tag}
use Rattle.df_column.specs.Tags.{tag_cmp}

abbrev pub no_tag : Tag
no_tag = record { first = 0; second = 0; third = 0 }

-- the part of the left side, which has one number, or else two
abbrev pub tag_left : Bool → Tag → Tag
tag_left true q = record { first = q.first; second = 0; third = 0 }
tag_left false q = record { first = q.first; second = q.second; third = 0 }

abbrev pub tag_right : Bool → Tag → Tag
tag_right true q = record { first = q.second; second = q.third; third = 0 }
tag_right false q = record { first = q.third; second = 0; third = 0 }

-- the left tag's numbers, then the right tag's
abbrev pub combine : Bool → Tag → Tag → Tag
combine true p s = record { first = p.first; second = s.first; third = s.second }
combine false p s = record { first = p.first; second = p.second; third = s.first }

-- what the left and the right tags of a join are to be
abbrev pub IsLeftTag : Bool → Tag → Type 0
IsLeftTag one p = tag_left one p ≡ p

abbrev pub IsRightTag : Bool → Tag → Type 0
IsRightTag one s = tag_right one (combine one no_tag s) ≡ s

-- a tag over n scans is zero past the first n numbers
pub record IsZeroPast (n : ℕ) (q : Tag) : Type 0 where
  pub first : n ≤ 0 → q.first ≡ 0
  pub second : n ≤ 1 → q.second ≡ 0
  pub third : n ≤ 2 → q.third ≡ 0

-- and a row's tag begins with a number of at least 1
pub record IsTagOver (n : ℕ) (q : Tag) : Type 0 where
  pub begins : 1 ≤ q.first
  pub ends : IsZeroPast n q

module _ {X : Type 0} where
  -- each key has the property
  pub record HasKeys (P : Tag → Type 0) (t : FinMap tag_cmp X) : Type 0 where
    pub at : (q : Tag) → IfSome (get t q) (λ _. P q)

  abbrev pub AllKeys : (Tag → Type 0) → List (Tag × X) → Type 0
  AllKeys P [] = Unit {0}
  AllKeys P (e ∷ es) = P e.0 × AllKeys P es

  abbrev pub rekeyed : Bool → Tag → List (Tag × X) → List (Tag × X)
  rekeyed one p es = map (λ f. (combine one p f.0, f.1)) es

module _ {X Y : Type 0} where
  abbrev pub spread_list : Bool → (X → FinMap tag_cmp Y) → List (Tag × X) → List (Tag × Y)
  spread_list one g es = flat_map (λ e. rekeyed one e.0 (entries (g e.1))) es

  -- the rows that g makes of each row, under both tags
  abbrev pub spread : Bool → (X → FinMap tag_cmp Y) → FinMap tag_cmp X → FinMap tag_cmp Y
  spread one g t = from_sorted (spread_list one g (entries t))

-- the first, or where there is none the second
abbrev pub first_some : {Y : Type 0} → Option Y → Option Y → Option Y
first_some (Some y) b = Some y
first_some None b = b
