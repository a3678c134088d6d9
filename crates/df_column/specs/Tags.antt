-- The order of tags: by the first number, then the second, then the third.
use Rattle.std.specs.Prelude.{ℕ, refl}
use Rattle.std.specs.Coded.{Coded, code_by, coded×, coded_ℕ}
use Rattle.std.specs.Ordering.{nat_cmp, ordering_then}
use Rattle.std.specs.declared.cmp.Ordering.{Ordering}
use Rattle.df_column.specs.declared.tag.Tag.{Tag}

-- how two tags compare
abbrev pub tag_cmp : Tag → Tag → Ordering
tag_cmp a b =
    ordering_then (nat_cmp a.first b.first)
    (ordering_then (nat_cmp a.second b.second) (nat_cmp a.third b.third))

-- a tag is stored as its three numbers
abbrev pub tag_code : Coded Tag
tag_code =
    code_by (ℕ × (ℕ × ℕ)) (coded× coded_ℕ (coded× coded_ℕ coded_ℕ)) (λ t. (t.first, (t.second, t.third)))
    (λ p. record { first = p.0; second = p.1.0; third = p.1.1 }) (λ _. refl)
