use Rattle.std.proofs.Common.{◌≡◌, ◌∙◌, ap, rules}
use Rattle.std.proofs.lemmas.Fn.{filter_same}
use Rattle.df_session.specs.Watching.{WatchParts, without_name}
use Rattle.df_session.proofs.watches.Watches.end.Goals as goal

pub returns : goal.returns
returns c =
    let kept : c.retain.new.self.items ≡ without_name c.args.name.now c.self.inside.views.items =
    filter_same _ _ _ (λ x b f' k. search rules) _ _ c.retain.ensures.filtered in
    ap (λ ns. record { names = ns; told = c.self.inside.told.items; is_missing = c.self.inside.is_missing }) kept
    ∙ ap (λ (w : WatchParts). record w { names = without_name c.args.name.now w.names }) c.self.view_is
