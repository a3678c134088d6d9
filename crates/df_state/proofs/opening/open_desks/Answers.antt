use Rattle.std.proofs.Common.{◌≡◌, ℕ, ◌+◌, ◌∙◌, List, [], ◌∷◌, ◌++◌, ap, sym, arith}
use Rattle.std.proofs.lemmas.List.FromFn.{map-range_with_len_more}
use Rattle.df_state.specs.Desks.{DeskParts, first_desk, first_desks}
use Rattle.df_state.proofs.opening.open_desks.Goals as goal

-- the first desks with that of one more frame
desks-more : (n : ℕ) → first_desks (n + 1) ≡ first_desks n ++ first_desk n ∷ []
desks-more n = map-range_with_len_more first_desk 0 n n (omega arith)

one-more :
    (all before : List DeskParts) (last : DeskParts) (n : ℕ) → all ≡ before ++ last ∷ [] → last ≡ first_desk n → before ≡ first_desks n → all ≡ first_desks (n + 1)
one-more all before last n pushed first was =
    pushed ∙ (ap (λ d. before ++ d ∷ []) first ∙ (ap (λ ds. ds ++ first_desk n ∷ []) was ∙ sym (desks-more n)))

pub loop-frame-preserved : goal.loop-frame-preserved
loop-frame-preserved g c =
    let was = c.loop-frame.invariant in
    let now = c.first.ensures in record {
      desks = one-more c.push.new.self.items c.loop-frame.desks.items c.first.result c.loop-frame.frame c.in_ok-push.ensures.items now.desk was.desks;
      accepted_parts = omega (arith, was.accepted_parts, now.accepted_parts);
      accepted_amount = now.accepted_amount;
      deleted_parts = omega (arith, was.deleted_parts, now.deleted_parts);
      deleted_amount = now.deleted_amount;
    }
