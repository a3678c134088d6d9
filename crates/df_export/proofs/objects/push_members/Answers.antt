use Rattle.std.proofs.Common.{◌≡◌, ◌∙◌, ◌++◌, ◌∷◌, [], ℕ, List, ap, sym, refl, subst, length, append_assoc}
use Rattle.std.proofs.lemmas.Slice.Zip.{zip_end, zip_turn}
use Rattle.std.proofs.lemmas.List.{length_push}
use Rattle.std.proofs.lemmas.Result.{on_ok_weaker}
use Rattle.json.specs.Json.{Json, Members, no_members, member}
use Rattle.json.specs.Token.{Token, key}
use Rattle.json.specs.Tree.{HasNumbers, MembersHaveNumbers, json_tokens, members_tokens}
use Rattle.df_export.specs.JsonLines.{members_of}
use Rattle.df_export.proofs.Pairs.{at_end, at_next}
use Rattle.df_export.proofs.objects.push_members.Goals as goal

-- a member's name and value, before those of the others
turn :
    (v : Json) (ms rest : Members) (k : List ℕ) (ts us vs all : List Token) → ms ≡ member k v rest → us ≡ ts ++ key k ∷ [] → vs ≡ us ++ json_tokens v →
    ts ++ members_tokens ms ≡ all → vs ++ members_tokens rest ≡ all
turn v ms rest k ts us vs all e n m inv =
    rw (m, n, append_assoc, append_assoc) (ap (λ (x : Members). ts ++ members_tokens x) (sym e) ∙ inv)

counted : (v : Json) (ms rest : Members) (k : List ℕ) (P : Type 0) → ms ≡ member k v rest → HasNumbers v → (MembersHaveNumbers ms → P) → MembersHaveNumbers rest → P
counted v ms rest k P e h inv more = inv (subst MembersHaveNumbers (sym e) (h, more))

pub loop-column-preserved : goal.loop-column-preserved
loop-column-preserved c =
    let columns = c.args.columns.now in
    let row = c.args.row.now in
    let next =
    zip_turn columns row c.loop-column.yielded c.into_iter-column-iterator.result c.loop-column.column-iterator c.next.new.self c.next.result
    (cc) (cc) c.loop-column.yielded_by _ c.in-Some.is c.next.ensures.steps in
    let more = at_next members_of columns row (length c.loop-column.yielded) _ _ _ next.0 next.1 next.2 next.3 (length_push c.loop-column.yielded (c.in-Some.column, c.in-Some.cell)) in
    record {
      before = c.in_ok-push_value.ensures.before ∙ (c.in_ok-key.ensures.room.0 ∙ c.loop-column.invariant.before);
      value = turn _ _ _ _ c.loop-column.writer.tokens _ _ _ more (rw c.as_str.ensures at c.in_ok-key.ensures.ok) c.in_ok-push_value.ensures.value c.loop-column.invariant.value;
      numbers = counted _ _ _ _ _ more c.in_ok-push_value.ensures.numbers c.loop-column.invariant.numbers;
    }

pub returns-clause-value : goal.returns-clause-value
returns-clause-value c =
    let columns = c.args.columns.now in
    let row = c.args.row.now in
    let n =
    zip_end columns row c.loop-column.yielded c.into_iter-column-iterator.result c.loop-column.column-iterator c.next.new.self c.next.result
    (cc) (cc) c.loop-column.yielded_by c.in-None.is c.next.ensures.steps in
    let none = at_end members_of no_members (λ _. refl) (λ _ _. refl) columns row (length c.loop-column.yielded) n in
    on_ok_weaker c.end_object.result (λ e. e ∙ (ap (λ ms. c.loop-column.writer.tokens ++ members_tokens ms) (sym none) ∙ c.loop-column.invariant.value)) c.end_object.ensures.ok

pub returns-clause-numbers : goal.returns-clause-numbers
returns-clause-numbers c =
    let columns = c.args.columns.now in
    let row = c.args.row.now in
    let n =
    zip_end columns row c.loop-column.yielded c.into_iter-column-iterator.result c.loop-column.column-iterator c.next.new.self c.next.result
    (cc) (cc) c.loop-column.yielded_by c.in-None.is c.next.ensures.steps in
    let none = at_end members_of no_members (λ _. refl) (λ _ _. refl) columns row (length c.loop-column.yielded) n in
    on_ok_weaker c.end_object.result (λ _. c.loop-column.invariant.numbers (subst MembersHaveNumbers (sym none) tt)) c.end_object.ensures.ok
