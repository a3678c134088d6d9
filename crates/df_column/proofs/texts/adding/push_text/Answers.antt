use Rattle.std.proofs.Common.{ap, ◌∙◌, sym, ◌++◌, ◌∷◌, [], arith, map}
use Rattle.df_column.specs.Texts.{pool_text, text_now}
use Rattle.df_column.proofs.TextPlaces.{places_put, place_small}
use Rattle.df_column.proofs.texts.adding.push_text.Goals as goal

pub overflow_cast-place : goal.overflow_cast-place
overflow_cast-place c =
    let small = place_small c.args.pool.now c.in-Some.text.now (omega (arith, c.requires.sound.few, c.requires.few)) in
    let is = c.in_ok-place-in-Some.ensures.place in
    omega (arith, small, is)

pub returns-in_ok-push-in-Some-clause-sound : goal.returns-in_ok-push-in-Some-clause-sound
returns-in_ok-push-in-Some-clause-sound c =
    rw (c.in_ok-push-in-Some.ensures, c.in_ok-place-in-Some.ensures.place, c.in_ok-place-in-Some.ensures.texts)
    (places_put c.args.pool.now c.in-Some.text.now c.args.places.now c.requires.sound).sound

pub returns-in_ok-push-in-Some-clause-texts : goal.returns-in_ok-push-in-Some-clause-texts
returns-in_ok-push-in-Some-clause-texts c =
    rw (c.in_ok-push-in-Some.ensures, c.in_ok-place-in-Some.ensures.place, c.in_ok-place-in-Some.ensures.texts)
    ((places_put c.args.pool.now c.in-Some.text.now c.args.places.now c.requires.sound).texts ∙ ap (λ o. map (pool_text c.args.pool.now) c.args.places.now ++ text_now o ∷ []) (sym c.in-Some.is))
