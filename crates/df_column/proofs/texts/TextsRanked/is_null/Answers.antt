use Rattle.std.proofs.Common.{◌≡◌, ◌<◌, ◌∙◌, ℕ, List, Option, None, ap, arith, get_or, length, map, sym}
use Rattle.std.proofs.lemmas.List.{length-map}
use Rattle.df_column.specs.MinMaxCells.{is_null}
use Rattle.df_column.specs.Texts.{pool_text}
use Rattle.df_column.specs.ValueCells.{text_cell}
use Rattle.df_column.proofs.CellTests.{null_place}
use Rattle.df_column.proofs.Places.{mapped_at, mapped_length}
use Rattle.df_column.proofs.TextPlaces.{text_at_place}
use Rattle.df_column.proofs.texts.TextsRanked.is_null.Goals as goal

at_place : (v : List (Option (List ℕ))) (ts : List (List ℕ)) (places : List (Option ℕ)) (i : ℕ) → map (pool_text ts) places ≡ v → i < length (map text_cell v) → i < length places
at_place v ts places i e lt =
    let f : length (map (pool_text ts) places) ≡ length places = length-map places (pool_text ts) in
    let g = ap length e in
    let l = mapped_length text_cell v in
    omega (arith, f, g, l)

pub get-requires : goal.get-requires
get-requires c = at_place c.args.self.now c.self.inside.pool c.self.inside.places c.args.at c.self.view_is c.requires

pub returns : goal.returns
returns c = λ d.
    let lt = at_place c.args.self.now c.self.inside.pool c.self.inside.places c.args.at c.self.view_is c.requires in
    let l = mapped_length text_cell c.args.self.now in
    let there = mapped_at text_cell c.args.self.now c.args.at d None (omega (arith, l, c.requires)) in
    null_place c.self.inside.pool c.get.result c.is_none.result c.is_none.ensures
    ∙ ap (λ p. is_null (text_cell (pool_text c.self.inside.pool p))) (c.get.ensures None)
    ∙ ap (λ t. is_null (text_cell t)) (sym (text_at_place c.self.inside.pool c.self.inside.places c.args.at None lt) ∙ ap (λ v. get_or v c.args.at None) c.self.view_is)
    ∙ ap is_null (sym there)
