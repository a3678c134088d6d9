use Rattle.std.proofs.Common.{◌≡◌, ◌<◌, map, sym, subst, length}
use Rattle.std.specs.Prelude.{bytes_eq, IfSome}
use Rattle.std.proofs.lemmas.List.{length-map}
use Rattle.df_catalogue.specs.LiveViews.{view_state}
use Rattle.df_catalogue.proofs.PartFacts.{views-position}
use Rattle.df_state.proofs.StateFacts.{state-of}
use Rattle.df_catalogue.proofs.catalogue.Catalogue.view_index.Goals as goal

pub returns-clause-value : goal.returns-clause-value
returns-clause-value g c =
    rw (c.view_index.ensures.value, c.as_slice.ensures.value, ← (state-of c.self.view_is)) (sym (views-position (λ n. bytes_eq n c.args.name.now) _))

pub returns-clause-within : goal.returns-clause-within
returns-clause-within g c =
    let long : length (map view_state c.self.inside.views.items) ≡ length c.as_slice.result.now =
    rw c.as_slice.ensures.value (length-map c.self.inside.views.items view_state) in
    rw (← (state-of c.self.view_is)) (subst (λ n. IfSome c.view_index.result (λ at. at < n)) (sym long) c.view_index.ensures.within)
