use Rattle.std.proofs.Common.{◌∙◌, ◌++◌, ◌∷◌, [], ap, append-nil, flat_map, sym, take}
use Rattle.std.proofs.lemmas.List.{flat_map_more, take_all, take_more}
use Rattle.std.proofs.lemmas.List.Folds.{flat_map-map}
use Rattle.df_session.specs.Marks.{section_behind}
use Rattle.df_session.proofs.sections.push_sections.Goals as goal

pub loop-shown-init : goal.loop-shown-init
loop-shown-init c = sym (append-nil c.args.page.now.items)

pub loop-shown-preserved : goal.loop-shown-preserved
loop-shown-preserved c =
    let ts = c.args.tables.now in
    let at = c.loop-shown.shown-index in
    let section = section_behind c.args.before.now in
    let page = c.args.page.now.items in
    let more = take_more ts at c.shown-item.result c.loop-shown-test.true ∙ ap (λ t. take at ts ++ t ∷ []) (sym c.shown-item.is) in
    c.in_ok-push_section.ensures
    ∙ (ap (λ o. o ++ section c.shown-item.result) c.loop-shown.invariant
    ∙ (flat_map_more section page (take at ts) c.shown-item.result ∙ ap (λ l. page ++ flat_map section l) (sym more)))

pub returns : goal.returns
returns c =
    let section = section_behind c.args.before.now in
    let page = c.args.page.now.items in
    c.loop-shown.invariant
    ∙ (ap (λ ts. page ++ flat_map section ts) (take_all c.loop-shown.shown-index c.args.tables.now c.loop-shown-test.false)
    ∙ ap (λ l. page ++ l) (sym (flat_map-map (λ s. s) section c.args.tables.now)))
