-- The flags of a command line.
use Rattle.std.proofs.Common.{◌≡◌, ℕ, Bool, true, false, List, refl, codes}
use Rattle.std.specs.Prelude.{Option, Some, None}
use Rattle.clap.specs.Words.{is_simple, is_simple_and_free}
use Rattle.clap.proofs.OnLiterals.{clap_on_literals}
use Rattle.df_words.specs.SessionLine.{IsFlagOf, command_line}

-- what is told of a flag's text
pub flag_of :
    (text : Option (List ℕ)) (stands : Bool) → (text ≡ None → stands ≡ false) → (text ≡ Some (codes "true") → stands ≡ true)
    → (text ≡ Some (codes "false") → stands ≡ false) → IsFlagOf text stands
flag_of None stands none on off = none refl
flag_of (Some text) stands none on off = (λ e. on (rw e refl), λ e. off (rw e refl))

-- the command line is one of which clap's own words give the matches
pub is_exact : is_simple command_line ≡ true
unfolding clap_on_literals command_line
is_exact = refl

-- and the faults
pub is_free : is_simple_and_free command_line ≡ true
unfolding clap_on_literals command_line
is_free = refl
