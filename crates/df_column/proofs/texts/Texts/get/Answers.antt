use Rattle.std.proofs.Common.{◌≡◌, ℕ, List, ap, ◌∙◌, sym, length, [], Some, None, Option, arith, map, ◌<◌, get_or}
use Rattle.std.proofs.lemmas.List.{length-map}
use Rattle.df_column.specs.Texts.{pool_text}
use Rattle.df_column.proofs.TextPlaces.{place_below, text_at_place}
use Rattle.df_column.proofs.texts.Texts.get.Goals as goal

at_place : (v : List (Option (List ℕ))) (ts : List (List ℕ)) (places : List (Option ℕ)) (i : ℕ) → map (pool_text ts) places ≡ v → i < length v → i < length places
at_place v ts places i e lt =
    let f : length (map (pool_text ts) places) ≡ length places = length-map places (pool_text ts) in
    let g = ap length e in
    omega (arith, f, g)

pub get-requires-in-Some : goal.get-requires-in-Some
get-requires-in-Some c =
    let lt = at_place c.args.self.now c.self.inside.pool c.self.inside.places c.args.at c.self.view_is c.requires in
    place_below (length c.self.inside.pool) c.self.inside.places c.args.at c.in-Some.place c.self.invariant.below lt (sym (c.get.ensures None) ∙ c.in-Some.is)

pub returns-in-Some : goal.returns-in-Some
returns-in-Some c = λ d.
    let lt = at_place c.args.self.now c.self.inside.pool c.self.inside.places c.args.at c.self.view_is c.requires in
    ap Some (c.get-in-Some.ensures [])
    ∙ ap (pool_text c.self.inside.pool) (sym (sym (c.get.ensures None) ∙ c.in-Some.is))
    ∙ sym (text_at_place c.self.inside.pool c.self.inside.places c.args.at d lt)
    ∙ ap (λ v. get_or v c.args.at d) c.self.view_is

pub returns-in-None : goal.returns-in-None
returns-in-None c = λ d.
    let lt = at_place c.args.self.now c.self.inside.pool c.self.inside.places c.args.at c.self.view_is c.requires in
    ap (pool_text c.self.inside.pool) (sym (sym (c.get.ensures None) ∙ c.in-None.is))
    ∙ sym (text_at_place c.self.inside.pool c.self.inside.places c.args.at d lt)
    ∙ ap (λ v. get_or v c.args.at d) c.self.view_is
