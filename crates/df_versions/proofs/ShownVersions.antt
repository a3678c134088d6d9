-- What a published version shows.
use Rattle.std.proofs.Common.{◌≡◌, ℕ, ◌+◌, List, [], ◌∷◌, length, refl, sym}
use Rattle.std.specs.Prelude.{Some, option_map}
use Rattle.df_state.specs.Pictures.{PictureParts, picture_of}
use Rattle.df_state.specs.declared.state.State.{State}
use Rattle.df_versions.specs.Histories.{IsHistory, last_of, last_state}
use Rattle.df_versions.specs.Shown.{Shows}
use Rattle.df_versions.proofs.Histories.{ends-legal}

pub shows : (h : List State) (v : ℕ × PictureParts) → IsHistory h → option_map picture_of (last_state h) ≡ Some v.1 → length h ≡ v.0 + 1 → Shows h v
shows [] v lawful ends number = absurd cc
shows (o ∷ later) v lawful ends number =
    let is : picture_of (last_of o later) ≡ v.1 = cc in record {
      lawful = lawful;
      state = last_of o later;
      ends = refl;
      legal = ends-legal (o ∷ later) (last_of o later) lawful refl;
      picture = sym is;
      number = number;
    }
