use Rattle.std.proofs.Common.{◌≡◌, ℕ, Some, None, ap, ◌∙◌, sym, length, arith, ◌<◌, get_or}
use Rattle.std.proofs.lemmas.Bool.{eqb-true}
use Rattle.std.proofs.lemmas.List.{length-map}
use Rattle.df_column.specs.Texts.{pool_text}
use Rattle.df_column.proofs.TextPlaces.{text_at_place}
use Rattle.df_column.proofs.texts.Texts.are_known_same.Goals as goal

pub returns-in-Some-Some : goal.returns-in-Some-Some
returns-in-Some-Some c = λ h d.
    let now = c.args.self.now in
    let pool = c.self.inside.pool in
    let places = c.self.inside.places in
    let long = length-map places (pool_text pool) in
    let seen = ap length c.self.view_is in
    let read : (i : ℕ) → i < length now → pool_text pool (get_or places i None) ≡ get_or now i d =
    λ i low. sym (text_at_place pool places i d (omega (arith, long, seen, low))) ∙ ap (λ v. get_or v i d) c.self.view_is in
    let first : get_or places c.args.a None ≡ Some c.in-Some-Some.a = sym (c.get.ensures None) ∙ c.in-Some-Some.is-0 in
    let second : get_or places c.args.b None ≡ Some c.in-Some-Some.b = sym (c.get-2.ensures None) ∙ c.in-Some-Some.is-1 in
    let same = eqb-true c.in-Some-Some.a c.in-Some-Some.b h in
    sym (read c.args.a c.requires.first)
    ∙ (ap (pool_text pool) (first ∙ (ap Some same ∙ sym second))
    ∙ read c.args.b c.requires.second)
