-- Tests that hold both, and the answers of comparisons.
use Rattle.std.proofs.Common.{◌≡◌, Bool, true, false, not, refl, sym, subst}
use Rattle.std.specs.Prelude.{T, ◌&&◌}
use Rattle.std.specs.Ordering.{is_eq, is_lt}
use Rattle.std.specs.declared.cmp.Ordering.{Ordering}
use Rattle.std.specs.declared.cmp.Ordering.TheVariants.{Less, Equal, Greater}

pub T-first : (a b : Bool) → T (a && b) → T a
T-first true b p = tt
T-first false b p = p

pub T-second : (a b : Bool) → T (a && b) → T b
T-second true b p = p
T-second false b p = absurd p

pub T-both : (a b : Bool) → T a → T b → T (a && b)
T-both true b p q = q
T-both false b p q = p

pub true_from_T : (b : Bool) → T b → b ≡ true
true_from_T true p = refl
true_from_T false p = absurd p

pub false_from_T : (b : Bool) → T (not b) → b ≡ false
false_from_T true h = absurd h
false_from_T false h = refl

pub less_from_is_lt : (r : Ordering) → T (is_lt r) → r ≡ Less
less_from_is_lt Less p = refl
less_from_is_lt Equal p = absurd p
less_from_is_lt Greater p = absurd p

pub is_lt_from_less : (r : Ordering) → r ≡ Less → T (is_lt r)
is_lt_from_less r e = subst (λ r. T (is_lt r)) (sym e) tt

pub not_less : (r : Ordering) → (r ≡ Less → ⊥) → T (not (is_lt r))
not_less Less f = f refl
not_less Equal f = tt
not_less Greater f = tt

pub equal_from_is_eq : (r : Ordering) → T (is_eq r) → r ≡ Equal
equal_from_is_eq Less p = absurd p
equal_from_is_eq Equal p = refl
equal_from_is_eq Greater p = absurd p
