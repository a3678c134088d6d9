-- Lists of changes that were all made, where less is said of each.
use Rattle.std.proofs.Common.{List, [], ◌∷◌}
use Rattle.df_state.specs.declared.change.Change.{Change}
use Rattle.df_session.specs.Filling.{AreMade}

pub all-weaker :
    {S : Type 0} (P Q : S → S → Change → Type 0) → ((a b : S) (c : Change) → P a b c → Q a b c) → (s n : S) (cs : List Change) →
    AreMade P s n cs → AreMade Q s n cs
all-weaker P Q f s n [] h = h
all-weaker P Q f s n (c ∷ cs) h = (h.0, f s h.0 c h.1, all-weaker P Q f h.0 n cs h.2)
