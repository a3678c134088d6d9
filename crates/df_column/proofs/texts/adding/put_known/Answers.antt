use Rattle.std.proofs.Common.{◌∙◌, ap, refl, sym}
use Rattle.df_column.specs.Pools.{place_of, place_or_end, with_text}
use Rattle.df_column.proofs.KnownLemmas.{known_new, known_place, known_there, not_false, not_true}
use Rattle.df_column.proofs.texts.adding.put_known.Goals as goal

pub returns-then-not-is_new-clause-place : goal.returns-then-not-is_new-clause-place
returns-then-not-is_new-clause-place c =
    c.in_ok-place.ensures.index ∙ known_place _ (λ a b. refl) c.args.text c.args.known.now.keys
    ∙ ap (λ ts. place_or_end (place_of c.args.text.now ts) ts) c.requires.known

pub returns-then-not-is_new-clause-texts : goal.returns-then-not-is_new-clause-texts
returns-then-not-is_new-clause-texts c =
    known_there _ (λ a b. refl) c.args.text c.args.known.now.keys c.args.pool.now c.requires.known (not_false _ c.in_ok-place.is_new c.in_ok-place.ensures.added c.if-not-is_new.true)

pub returns-clause-place : goal.returns-clause-place
returns-clause-place c =
    let none = known_new _ (λ a b. refl) c.args.text c.args.known.now.keys c.args.pool.now c.requires.known (not_true _ c.in_ok-place.is_new c.in_ok-place.ensures.added c.if-not-is_new.false) in
    c.in_ok-place-2.ensures.place ∙ ap (λ o. place_or_end o c.args.pool.now) (sym none)

pub returns-clause-texts : goal.returns-clause-texts
returns-clause-texts c =
    let none = known_new _ (λ a b. refl) c.args.text c.args.known.now.keys c.args.pool.now c.requires.known (not_true _ c.in_ok-place.is_new c.in_ok-place.ensures.added c.if-not-is_new.false) in
    c.in_ok-place-2.ensures.texts ∙ ap (λ o. with_text o c.args.pool.now c.args.text.now) (sym none)
