use Rattle.std.proofs.Common.{◌≡◌, ◌≢◌, Bool, true, false, Option, Some, None, sym, subst}
use Rattle.std.specs.Option.{option_and_then}
use Rattle.std.specs.declared.cmp.Ordering.{Ordering}
use Rattle.std.specs.Cmp.{IsTotalOrder}
use Rattle.std.specs.FinMap.{FinMap, get, IsAntisymmetric}
use Rattle.df_column.specs.Changes.{Change}
use Rattle.df_delta.specs.Differences.{IsDiff}
use Rattle.df_delta.specs.ChangeOf.{change_of}
use Rattle.df_delta.specs.Notes.{IsNote, leaned}
use Rattle.df_delta.proofs.Changes.{IsChange, diff_from_changes}
use Rattle.df_delta.proofs.Collected.{get-collected}
use Rattle.df_delta.proofs.ChangeOf.{change_of_leads}

module _ {K Y : Type 0} {R : K → K → Ordering} (o : IsTotalOrder R) (same : IsAntisymmetric R) (test : Option Y → Option Y → Bool) (yes : (a b : Option Y) → test a b ≡ true → a ≡ b) (no : (a b : Option Y) → test a b ≡ false → a ≢ b) where
  lean_from_note : (c : Option (Change Y)) (a b : Option Y) → IsNote c a b → IsChange (option_and_then (λ c. change_of test c.old c.new) c) a b
  lean_from_note None a b h = h
  lean_from_note (Some c) a b h = subst (λ x. IsChange (change_of test c.old c.new) x b) h.0 (subst (λ x. IsChange (change_of test c.old c.new) c.old x) h.1 (change_of_leads test yes no c.old c.new))

  -- where each tag at which the outputs differ was noted, with both sides, the lean part is the diff
  pub diff_of_notes : (t u : FinMap R Y) (notes : FinMap R (Change Y)) → ((q : K) → IsNote (get notes q) (get t q) (get u q)) → IsDiff t u (leaned test notes)
  diff_of_notes t u notes are_notes = diff_from_changes o same t u _ (λ q.
      subst (λ c. IsChange c (get t q) (get u q)) (sym (get-collected R (λ _ c. change_of test c.old c.new) same notes q)) (lean_from_note (get notes q) _ _ (are_notes q)))
