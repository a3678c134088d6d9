-- The order of tags is total, and only equal tags tie.
use Rattle.std.proofs.Common.{◌≡◌, refl}
use Rattle.std.specs.Ordering.{nat_cmp, ordering_then}
use Rattle.std.specs.Cmp.{IsTotalOrder, then_total, on_total, nat_cmp_total}
use Rattle.std.specs.FinMap.{IsAntisymmetric, nat_cmp-IsAntisymmetric}
use Rattle.std.specs.declared.cmp.Ordering.{Ordering}
use Rattle.std.specs.declared.cmp.Ordering.TheVariants.{Less, Equal, Greater}
use Rattle.df_column.specs.Tags.{tag_cmp}

pub tag_total : IsTotalOrder tag_cmp
tag_total = then_total (on_total (λ t. t.first) nat_cmp_total) (then_total (on_total (λ t. t.second) nat_cmp_total) (on_total (λ t. t.third) nat_cmp_total))

then_first : (r s : Ordering) → ordering_then r s ≡ Equal → r ≡ Equal
then_first Less s e = cc e
then_first Equal s e = refl
then_first Greater s e = cc e

then_second : (r s : Ordering) → ordering_then r s ≡ Equal → s ≡ Equal
then_second Less s e = cc e
then_second Equal s e = e
then_second Greater s e = cc e

pub tag_same : IsAntisymmetric tag_cmp
tag_same x y e =
    let bc = then_second (nat_cmp x.first y.first) _ e in
    let a : x.first ≡ y.first = nat_cmp-IsAntisymmetric x.first y.first (then_first (nat_cmp x.first y.first) _ e) in
    let b : x.second ≡ y.second = nat_cmp-IsAntisymmetric x.second y.second (then_first (nat_cmp x.second y.second) _ bc) in
    let c : x.third ≡ y.third = nat_cmp-IsAntisymmetric x.third y.third (then_second (nat_cmp x.second y.second) _ bc) in
    λ i. record { first = a i; second = b i; third = c i }
