use Rattle.std.proofs.Common.{◌≡◌, List, [], ◌∷◌, length, map, Err, refl, arith}
use Rattle.std.specs.Prelude.{◌≢◌}
use Rattle.toml.specs.View.{view}
use Rattle.toml.specs.declared.value.Value.{Value}
use Rattle.df_text.specs.declared.document.Location.{Location}
use Rattle.df_text.specs.declared.fault.ViewsFault.TheVariants as fault
use Rattle.df_text.specs.WindowSteps.{window_items}
use Rattle.df_text.proofs.window_steps.window_items.Goals as goal
use Rattle.df_text.proofs.window_steps.window_items.Goals.{in_default-via-then-items-lt3, in_default-via-else-items-lt3+else-items-lt4+else-items-lt5}

-- a window has three items or four
other_count :
    (at : Location) (vs : List Value) → length vs ≢ 3 → length vs ≢ 4 →
    window_items at (map view vs) ≡ Err (fault.Shape at)
other_count at [] h k = refl
other_count at (a ∷ []) h k = refl
other_count at (a ∷ b ∷ []) h k = refl
other_count at (a ∷ b ∷ c ∷ []) h k = absurd (h refl)
other_count at (a ∷ b ∷ c ∷ d ∷ []) h k = absurd (k refl)
other_count at (a ∷ b ∷ c ∷ d ∷ e ∷ vs) h k = refl

pub returns-in_default : goal.returns-in_default
returns-in_default c =
    other_count c.args.location c.args.items.now (λ n.
    elim c.in_default.branch [
      | in_default-via-then-items-lt3 w ↦ grind arith
      | in_default-via-else-items-lt3+else-items-lt4+else-items-lt5 w ↦ grind arith
    ]) (λ n.
    elim c.in_default.branch [
      | in_default-via-then-items-lt3 w ↦ grind arith
      | in_default-via-else-items-lt3+else-items-lt4+else-items-lt5 w ↦ grind arith
    ])
