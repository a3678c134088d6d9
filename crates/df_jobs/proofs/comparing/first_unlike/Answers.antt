use Rattle.std.proofs.Common.{◌≡◌, ◌∙◌, ℕ, ap, arith, get_or, length, subst, sym}
use Rattle.std.specs.Prelude.{IfNone, IfSome, None, Option, Some}
use Rattle.df_jobs.specs.Expected.{AreExpected, HasAll}
use Rattle.df_jobs.proofs.ExpectedFacts.{all-found, frame-found}
use Rattle.df_state.proofs.ListFacts.{put-back}
use Rattle.df_jobs.proofs.UnlikeFacts.{frame-unlike}
use Rattle.df_jobs.proofs.comparing.first_unlike.Goals as goal

where-none : {X Y : Type 0} (o : Option ℕ) → IfNone o X → (X → Y) → IfNone o Y
where-none None x f = f x
where-none (Some n) x f = tt

where-some : {A B C D : ℕ → Type 0} (o : Option ℕ) → IfSome o A → IfSome o B → IfSome o C → ((n : ℕ) → A n → B n → C n → D n) → IfSome o D
where-some None a b c f = tt
where-some (Some n) a b c f = f n a b c

pub returns-clause-loaded : goal.returns-clause-loaded
returns-clause-loaded g c =
    let all = c.in_ok-all.all in
    let lent = c.as_mut_slice.result.now in
    let now = c.find_all.new.all in
    let counts = c.as_slice-2.result.now in
    let os = c.by_first-outcomes.result.items in
    let value : lent ≡ all.items = c.as_mut_slice.ensures.value in
    let expected = subst (λ es. AreExpected c.args.frames os es counts) (sym value) (subst (AreExpected c.args.frames os all.items) (sym c.as_slice-2.ensures.value) c.in_ok-all.ensures) in
    let many = c.find_all.ensures.count in
    let back : c.as_slice.result.now ≡ now = c.as_slice.ensures.value ∙ put-back all.len now all.items (many ∙ (ap length value ∙ sym all.ok.0)) (sym all.ok.0) in
    where-none c.first_not_found.result c.first_not_found.ensures.none (λ has.
    all-found c.args.picture.now c.args.frames c.args.outcomes.items os lent now counts expected many c.find_all.ensures.each c.requires.frames c.by_first-outcomes.ensures.same
    (λ frame low. subst (λ es. HasAll c.args.picture.now frame es (get_or counts frame 0)) back (has frame low)))

pub returns-clause-unlike : goal.returns-clause-unlike
returns-clause-unlike g c =
    let p = c.args.picture.now in
    let before = c.args.outcomes.items in
    let all = c.in_ok-all.all in
    let lent = c.as_mut_slice.result.now in
    let now = c.find_all.new.all in
    let counts = c.as_slice-2.result.now in
    let os = c.by_first-outcomes.result.items in
    let value : lent ≡ all.items = c.as_mut_slice.ensures.value in
    let expected = subst (λ es. AreExpected c.args.frames os es counts) (sym value) (subst (AreExpected c.args.frames os all.items) (sym c.as_slice-2.ensures.value) c.in_ok-all.ensures) in
    let many = c.find_all.ensures.count in
    let back : c.as_slice.result.now ≡ now = c.as_slice.ensures.value ∙ put-back all.len now all.items (many ∙ (ap length value ∙ sym all.ok.0)) (sym all.ok.0) in
    let not_found = c.first_not_found.ensures in
    where-some c.first_not_found.result not_found.within not_found.some not_found.before (λ frame low missing has. record {
      within = omega (arith, low, expected.many, c.requires.frames);
      unlike =
          frame-unlike p c.args.frames before os lent now counts expected many c.find_all.ensures.each c.requires.frames c.by_first-outcomes.ensures.same
          c.requires.legal c.requires.begun c.by_first-outcomes.ensures.order frame
          (λ there. missing (subst (λ es. HasAll p frame es (get_or counts frame 0)) (sym back) there));
      before = λ k rows lt is.
          frame-found p c.args.frames before os lent now counts expected many c.find_all.ensures.each c.requires.frames c.by_first-outcomes.ensures.same k rows is
          (subst (λ es. HasAll p k es (get_or counts k 0)) back (has k lt));
    })
