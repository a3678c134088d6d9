-- What a join of two trees counts, and may count.
use Rattle.std.proofs.Common.{◌≡◌, ap, sym, subst, ◌∙◌, arith}
use Rattle.df_expr.specs.declared.meter.Meter.{Meter}
use Rattle.df_column.specs.Changes.{applied}
use Rattle.df_column.specs.Tables.{TaggedRows}
use Rattle.df_delta.specs.Deltas.{Changes}
use Rattle.df_delta.specs.Differences.{IsDiff}
use Rattle.df_delta.specs.Inputs.{MayFollowBoth}
use Rattle.df_delta.specs.Work.{IsWithin, plus}

three_within :
    (m0 m1 m2 m3 a b c : Meter) → IsWithin m1 (plus m0 a) → IsWithin m2 (plus m1 b) → IsWithin m3 (plus m2 c) →
    IsWithin m3 (plus m0 (plus a (plus b c)))
three_within m0 m1 m2 m3 a b c f g h =
    (omega (arith, f.0, g.0, h.0), omega (arith, f.1, g.1, h.1), omega (arith, f.2, g.2, h.2), omega (arith, f.3, g.3, h.3))

pub both_follow :
    (IsOver Takes : TaggedRows → TaggedRows → Type 0) (l m r s : TaggedRows) (d e : Changes) → IsOver l r → Takes l r → Takes m s →
    IsDiff l m d → IsDiff r s e → MayFollowBoth IsOver Takes l d r e
both_follow IsOver Takes l m r s d e over before after left right = record {
  over = over;
  before = before;
  after = subst (λ x. Takes x (applied r e)) (sym left.gives) (subst (λ y. Takes m y) (sym right.gives) after);
  lean_left = left.lean;
  fits_left = left.fits;
  lean_right = right.lean;
  fits_right = right.fits;
}

-- what holds of the inputs as the deltas make them holds of the inputs as they will be
pub after_both :
    (IsOver Takes P : TaggedRows → TaggedRows → Type 0) (l m r s : TaggedRows) (d e : Changes) → IsDiff l m d → IsDiff r s e → IsOver l r → Takes l r → Takes m s →
    (MayFollowBoth IsOver Takes l d r e → P (applied l d) (applied r e)) → P m s
after_both IsOver Takes P l m r s d e left right over before after h =
    subst (λ x. P x s) left.gives (subst (λ y. P (applied l d) y) right.gives (h (both_follow IsOver Takes l m r s d e over before after left right)))

pub join_within :
    (IsOver Takes : TaggedRows → TaggedRows → Type 0) (may : TaggedRows → TaggedRows → TaggedRows → TaggedRows → Meter)
    (m0 m1 m2 m3 a b : Meter) (l m r s : TaggedRows) (d e : Changes) →
    IsWithin m1 (plus m0 a) → IsWithin m2 (plus m1 b) → IsDiff l m d → IsDiff r s e → IsOver l r → Takes l r → Takes m s →
    ((l r : TaggedRows) → MayFollowBoth IsOver Takes l d r e → IsWithin m3 (plus m2 (may l (applied l d) r (applied r e)))) →
    IsWithin m3 (plus m0 (plus a (plus b (may l m r s))))
join_within IsOver Takes may m0 m1 m2 m3 a b l m r s d e f g left right over before after h =
    three_within m0 m1 m2 m3 a b (may l m r s) f g
    (subst (λ x. IsWithin m3 (plus m2 (may l x r s))) left.gives
    (subst (λ y. IsWithin m3 (plus m2 (may l (applied l d) r y))) right.gives
    (h l r (both_follow IsOver Takes l m r s d e over before after left right))))

pub join_bound :
    (a a' b b' : Meter) (f g : TaggedRows → TaggedRows → TaggedRows → TaggedRows → Meter) (l l' m m' r r' s s' : TaggedRows) →
    a ≡ a' → b ≡ b' → l ≡ l' → m ≡ m' → r ≡ r' → s ≡ s' → ((l m r s : TaggedRows) → f l m r s ≡ g l m r s) →
    plus a (plus b (f l m r s)) ≡ plus a' (plus b' (g l' m' r' s'))
join_bound a a' b b' f g l l' m m' r r' s s' ea eb el em er es h =
    (λ i. plus (ea i) (plus (eb i) (f (el i) (em i) (er i) (es i)))) ∙ ap (λ x. plus a' (plus b' x)) (h l' m' r' s')
