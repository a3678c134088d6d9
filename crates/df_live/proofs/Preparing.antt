-- A prepare of a tree, from those of the trees below it and that of its node.
use Rattle.std.proofs.Common.{◌≡◌, ℕ, List, refl, ap, sym, subst, ◌∙◌, Box, Global, arith}
use Rattle.std.specs.Prelude.{IfOk, IsErr, IsOk, OnOk, Ok, Err}
use Rattle.std.proofs.lemmas.Result.{IfOk-from_err}
use Rattle.std.proofs.lemmas.Bool.{false≢true}
use Rattle.df_expr.specs.declared.meter.Meter.{Meter}
use Rattle.df_column.specs.Changes.{applied}
use Rattle.df_column.specs.Tables.{TaggedRows}
use Rattle.df_delta.specs.Deltas.{Changes}
use Rattle.df_delta.specs.Differences.{IsDiff}
use Rattle.df_delta.specs.Inputs.{MayFollow as MayFollowOne, MayFollowBoth}
use Rattle.df_delta.specs.Work.{IsBelow, IsWithin, plus}
use Rattle.df_join.specs.declared.join.StagedJoin.{StagedJoin}
use Rattle.df_live.specs.Frames.{changed}
use Rattle.df_live.specs.JoinOperators.{has_join_room, is_join_over, join_allowed, join_budget, join_gives, join_leads, join_takes}
use Rattle.df_live.specs.Operators.{has_operator_room, is_operator_over, operator_allowed, operator_budget, operator_leads, operator_output, operator_takes}
use Rattle.df_live.specs.Prepared.{IsMade, IsPrepared, Stays}
use Rattle.df_live.specs.Trees.{MayFollow, allowed, budget, output}
use Rattle.df_live.specs.declared.joined.JoinOperator.{JoinOperator}
use Rattle.df_live.specs.declared.operator.LiveOperator.{LiveOperator}
use Rattle.df_live.specs.declared.operator.StagedOperator.{StagedOperator}
use Rattle.df_live.specs.declared.tree.LiveTree.{LiveTree, Operator', Join'}
use Rattle.df_live.specs.declared.tree.StagedTree.{StagedTree}
use Rattle.df_live.specs.declared.tree.StagedTree.TheVariants as staged
use Rattle.df_live.proofs.JoinSteps.{after_both, join_bound, join_within}
use Rattle.df_live.proofs.MadeTrees.{Made, part}

-- where a tree in a box stands
abbrev Place : Type 0
Place = Box (Unit {0}) Global

more_within : (m n a b : Meter) → IsWithin n (plus m a) → IsWithin n (plus m (plus a b))
more_within m n a b h = (omega (arith, h.0), omega (arith, h.1), omega (arith, h.2), omega (arith, h.3))

two_within : (m n o a b : Meter) → IsWithin n (plus m a) → IsWithin o (plus n b) → IsWithin o (plus m (plus a b))
two_within m n o a b g h =
    (omega (arith, g.0, h.0), omega (arith, g.1, h.1), omega (arith, g.2, h.2), omega (arith, g.3, h.3))

-- after a step there is room for the next
pub room_left : (m n a b : Meter) (k : ℕ) → IsWithin n (plus m a) → IsBelow (plus m (plus a b)) k → IsBelow (plus n b) k
room_left m n a b k g h = (omega (arith, g.0, h.0), omega (arith, g.1, h.1), omega (arith, g.2, h.2), omega (arith, g.3, h.3))

grows_on : (m n o : Meter) → IsWithin m n → IsWithin n o → IsWithin m o
grows_on m n o g h = (omega (arith, g.0, h.0), omega (arith, g.1, h.1), omega (arith, g.2, h.2), omega (arith, g.3, h.3))

-- what a prepare of a node of one input leaves as it was
pub record OperatorStays (was now : LiveOperator) : Type 0 where
  pub contents : (t : TaggedRows) → is_operator_over was t → is_operator_over now t
  pub operator : (t : TaggedRows) → operator_output now t ≡ operator_output was t
  pub takes : (t : TaggedRows) → operator_takes was t → operator_takes now t
  pub same_budget : operator_budget now ≡ operator_budget was
  pub same_bound : (t u : TaggedRows) → operator_allowed now t u ≡ operator_allowed was t u

-- what it does, under a delta of its input
pub record IsOperatorPrepared (was now : LiveOperator) (d : Changes) (before after : Meter) (made : Made (StagedOperator × Changes)) : Type 0 where
  pub stays : OperatorStays was now
  pub grows : IsWithin before after
  pub within : IsWithin after (plus before (operator_budget was))
  pub meter : (t : TaggedRows) → MayFollowOne (is_operator_over was) (operator_takes was) t d → IsWithin after (plus before (operator_allowed was t (applied t d)))
  pub diff : IfOk made (λ m. (t : TaggedRows) → MayFollowOne (is_operator_over was) (operator_takes was) t d → IsDiff (operator_output was t) (operator_output was (applied t d)) m.1)
  pub staged : IfOk made (λ m. (t : TaggedRows) → MayFollowOne (is_operator_over was) (operator_takes was) t d → operator_leads now m.0 (applied t d))
  pub room : IfOk made (λ m. has_operator_room now m.0)

same_operator : (node : LiveOperator) → OperatorStays node node
same_operator node = record { contents = λ t h. h; operator = λ t. refl; takes = λ t h. h; same_budget = refl; same_bound = λ t u. refl }

stays_over :
    (p : Place) (input input' : LiveTree) (node node' : LiveOperator) → Stays input input' → OperatorStays node node' →
    Stays (Operator' p input node) (Operator' p input' node')
stays_over p input input' node node' i n = record {
  contents = λ frames h. (i.contents frames h.0, subst (λ t. is_operator_over node' t) (sym (i.operator frames)) (n.contents (output input frames) h.1));
  operator = λ frames. ap (λ t. operator_output node' t) (i.operator frames) ∙ n.operator (output input frames);
  takes = λ frames h. (i.takes frames h.0, subst (λ t. operator_takes node' t) (sym (i.operator frames)) (n.takes (output input frames) h.1));
  same_budget = λ k. plus (i.same_budget k) (n.same_budget k);
  same_bound = λ frames after.
      (λ k. plus (i.same_bound frames after k) (operator_allowed node' (i.operator frames k) (i.operator after k)))
      ∙ ap (plus (allowed input frames after)) (n.same_bound (output input frames) (output input after));
}

-- the input was prepared, and then memory was refused
pub refused_over :
    (p : Place) (input input' : LiveTree) (node : LiveOperator) (f : ℕ) (d : Changes) (m n : Meter) (below result : Made (StagedTree × Changes)) →
    IsPrepared input input' f d m n below → IsErr result → IsPrepared (Operator' p input node) (Operator' p input' node) f d m n result
refused_over p input input' node f d m n below result i refused = record {
  stays = stays_over p input input' node node i.stays (same_operator node);
  grows = i.grows;
  within = more_within m n (budget input) (operator_budget node) i.within;
  meter = λ frames h.
      more_within m n (allowed input frames (changed frames f d)) (operator_allowed node (output input frames) (output input (changed frames f d)))
      (i.meter frames (h.0.0, h.1.0, h.2.0, h.3, h.4, h.5));
  made = IfOk-from_err result (IsMade (Operator' p input node) (Operator' p input' node) f d) refused;
}

-- what was staged is put together from what the input and the node staged
made_over :
    (p q : Place) (input input' : LiveTree) (node node' : LiveOperator) (f : ℕ) (d between : Changes) (s : StagedTree) →
    IsMade input input' f d (s, between) → Stays input input' →
    ((frames : List TaggedRows) → MayFollow (Operator' p input node) frames f d → MayFollow input frames f d) →
    ((frames : List TaggedRows) → MayFollow (Operator' p input node) frames f d → MayFollowOne (is_operator_over node) (operator_takes node) (output input frames) between) →
    (made : Made (StagedOperator × Changes)) (result : Made (StagedTree × Changes)) →
    IfOk result (λ r. IfOk made (λ a. r ≡ (staged.Operator' q s a.0, a.1))) → OnOk result (IsOk made) →
    IfOk made (λ a. (t : TaggedRows) → MayFollowOne (is_operator_over node) (operator_takes node) t between →
    IsDiff (operator_output node t) (operator_output node (applied t between)) a.1) →
    IfOk made (λ a. (t : TaggedRows) → MayFollowOne (is_operator_over node) (operator_takes node) t between → operator_leads node' a.0 (applied t between)) →
    IfOk made (λ a. has_operator_room node' a.0) →
    IfOk result (IsMade (Operator' p input node) (Operator' p input' node') f d)
made_over p q input input' node node' f d between s given stays below here made (Err e) tree there diff leads room = tt
made_over p q input input' node node' f d between s given stays below here (Err e) (Ok r) tree there diff leads room = absurd (false≢true there)
made_over p q input input' node node' f d between s given stays below here (Ok a) (Ok r) tree there diff leads room =
    subst (IsMade (Operator' p input node) (Operator' p input' node') f d) (sym tree) (record {
      diff = λ frames h.
          subst (λ t. IsDiff (operator_output node (output input frames)) (operator_output node t) a.1) (given.diff frames (below frames h)).gives
          (diff (output input frames) (here frames h));
      staged = λ frames h. (
        given.staged frames (below frames h),
        subst (λ t. operator_leads node' a.0 t) ((given.diff frames (below frames h)).gives ∙ sym (stays.operator (changed frames f d)))
            (leads (output input frames) (here frames h)),
      );
      room = (given.room, room);
    })

pub prepared_over :
    (p q : Place) (input input' : LiveTree) (node node' : LiveOperator) (f : ℕ) (d between : Changes) (m n o : Meter) (below : Made (StagedTree × Changes)) (s : StagedTree)
    (made : Made (StagedOperator × Changes)) (result : Made (StagedTree × Changes)) →
    IsPrepared input input' f d m n below → below ≡ Ok (s, between) → IsOperatorPrepared node node' between n o made →
    IfOk result (λ r. IfOk made (λ a. r ≡ (staged.Operator' q s a.0, a.1))) → OnOk result (IsOk made) →
    IsPrepared (Operator' p input node) (Operator' p input' node') f d m o result
prepared_over p q input input' node node' f d between m n o below s made result i is k tree there =
    let given = part (IsMade input input' f d) below (s, between) i.made is in
    let follows : (frames : List TaggedRows) → MayFollow (Operator' p input node) frames f d → MayFollow input frames f d =
    λ frames h. (h.0.0, h.1.0, h.2.0, h.3, h.4, h.5) in
    let here : (frames : List TaggedRows) → MayFollow (Operator' p input node) frames f d →
    MayFollowOne (is_operator_over node) (operator_takes node) (output input frames) between =
    λ frames h. let is = given.diff frames (follows frames h) in record {
      over = h.0.1;
      before = h.1.1;
      after = subst (λ t. operator_takes node t) (sym is.gives) h.2.1;
      lean = is.lean;
      fits = is.fits;
    } in record {
      stays = stays_over p input input' node node' i.stays k.stays;
      grows = grows_on m n o i.grows k.grows;
      within = two_within m n o (budget input) (operator_budget node) i.within k.within;
      meter = λ frames h.
          two_within m n o (allowed input frames (changed frames f d)) (operator_allowed node (output input frames) (output input (changed frames f d)))
          (i.meter frames (follows frames h))
          (subst (λ t. IsWithin o (plus n (operator_allowed node (output input frames) t))) (given.diff frames (follows frames h)).gives
          (k.meter (output input frames) (here frames h)));
      made = made_over p q input input' node node' f d between s given i.stays follows here made result tree there k.diff k.staged k.room;
    }

-- what a prepare of a join leaves as it was
pub record JoinStays (was now : JoinOperator) : Type 0 where
  pub contents : (l r : TaggedRows) → is_join_over was l r → is_join_over now l r
  pub operator : (l r : TaggedRows) → join_gives now l r ≡ join_gives was l r
  pub takes : (l r : TaggedRows) → join_takes was l r → join_takes now l r
  pub same_budget : join_budget now ≡ join_budget was
  pub same_bound : (l m r s : TaggedRows) → join_allowed now l m r s ≡ join_allowed was l m r s

-- what it does, under a delta of each input
pub record IsJoinPrepared (was now : JoinOperator) (d e : Changes) (before after : Meter) (made : Made (StagedJoin × Changes)) : Type 0 where
  pub stays : JoinStays was now
  pub grows : IsWithin before after
  pub within : IsWithin after (plus before (join_budget was))
  pub meter : (l r : TaggedRows) → MayFollowBoth (is_join_over was) (join_takes was) l d r e → IsWithin after (plus before (join_allowed was l (applied l d) r (applied r e)))
  pub diff : IfOk made (λ m. (l r : TaggedRows) → MayFollowBoth (is_join_over was) (join_takes was) l d r e →
      IsDiff (join_gives was l r) (join_gives was (applied l d) (applied r e)) m.1)
  pub staged : IfOk made (λ m. (l r : TaggedRows) → MayFollowBoth (is_join_over was) (join_takes was) l d r e → join_leads now m.0 (applied l d) (applied r e))
  pub room : IfOk made (λ m. has_join_room now m.0)

same_join : (node : JoinOperator) → JoinStays node node
same_join node = record { contents = λ l r h. h; operator = λ l r. refl; takes = λ l r h. h; same_budget = refl; same_bound = λ l m r s. refl }

same_tree : (tree : LiveTree) → Stays tree tree
same_tree tree = record { contents = λ frames h. h; operator = λ frames. refl; takes = λ frames h. h; same_budget = refl; same_bound = λ frames after. refl }

stays_join :
    (p q : Place) (l l' r r' : LiveTree) (node node' : JoinOperator) → Stays l l' → Stays r r' → JoinStays node node' →
    Stays (Join' p l q r node) (Join' p l' q r' node')
stays_join p q l l' r r' node node' i j n = record {
  contents = λ frames h. (
    i.contents frames h.0,
    j.contents frames h.1,
    subst (λ t. is_join_over node' t (output r' frames)) (sym (i.operator frames))
        (subst (λ t. is_join_over node' (output l frames) t) (sym (j.operator frames)) (n.contents (output l frames) (output r frames) h.2)),
  );
  operator = λ frames. (λ k. join_gives node' (i.operator frames k) (j.operator frames k)) ∙ n.operator (output l frames) (output r frames);
  takes = λ frames h. (
    i.takes frames h.0,
    j.takes frames h.1,
    subst (λ t. join_takes node' t (output r' frames)) (sym (i.operator frames))
        (subst (λ t. join_takes node' (output l frames) t) (sym (j.operator frames)) (n.takes (output l frames) (output r frames) h.2)),
  );
  same_budget = λ k. plus (i.same_budget k) (plus (j.same_budget k) (n.same_budget k));
  same_bound = λ frames after.
      join_bound (allowed l' frames after) (allowed l frames after) (allowed r' frames after) (allowed r frames after) (join_allowed node') (join_allowed node)
      (output l' frames) (output l frames) (output l' after) (output l after) (output r' frames) (output r frames) (output r' after) (output r after)
      (i.same_bound frames after) (j.same_bound frames after) (i.operator frames) (i.operator after) (j.operator frames) (j.operator after) n.same_bound;
}

left_follows :
    (p q : Place) (l r : LiveTree) (node : JoinOperator) (f : ℕ) (d : Changes) (frames : List TaggedRows) →
    MayFollow (Join' p l q r node) frames f d → MayFollow l frames f d
left_follows p q l r node f d frames h = (h.0.0, h.1.0, h.2.0, h.3, h.4, h.5)

right_follows :
    (p q : Place) (l r : LiveTree) (node : JoinOperator) (f : ℕ) (d : Changes) (frames : List TaggedRows) →
    MayFollow (Join' p l q r node) frames f d → MayFollow r frames f d
right_follows p q l r node f d frames h = (h.0.1, h.1.1, h.2.1, h.3, h.4, h.5)

-- the left input was prepared, and then memory was refused
pub refused_left :
    (p q : Place) (l l' r : LiveTree) (node : JoinOperator) (f : ℕ) (d : Changes) (m n : Meter) (below result : Made (StagedTree × Changes)) →
    IsPrepared l l' f d m n below → IsErr result → IsPrepared (Join' p l q r node) (Join' p l' q r node) f d m n result
refused_left p q l l' r node f d m n below result i refused = record {
  stays = stays_join p q l l' r r node node i.stays (same_tree r) (same_join node);
  grows = i.grows;
  within = more_within m n (budget l) (plus (budget r) (join_budget node)) i.within;
  meter = λ frames h. more_within m n (allowed l frames (changed frames f d)) _ (i.meter frames (left_follows p q l r node f d frames h));
  made = IfOk-from_err result (IsMade (Join' p l q r node) (Join' p l' q r node) f d) refused;
}

-- both inputs were, and then memory was refused
pub refused_right :
    (p q : Place) (l l' r r' : LiveTree) (node : JoinOperator) (f : ℕ) (d : Changes) (m n o : Meter) (left right result : Made (StagedTree × Changes)) →
    IsPrepared l l' f d m n left → IsPrepared r r' f d n o right → IsErr result → IsPrepared (Join' p l q r node) (Join' p l' q r' node) f d m o result
refused_right p q l l' r r' node f d m n o left right result i j refused = record {
  stays = stays_join p q l l' r r' node node i.stays j.stays (same_join node);
  grows = grows_on m n o i.grows j.grows;
  within = two_within m n o (budget l) (plus (budget r) (join_budget node)) i.within (more_within n o (budget r) (join_budget node) j.within);
  meter = λ frames h.
      two_within m n o (allowed l frames (changed frames f d)) _ (i.meter frames (left_follows p q l r node f d frames h))
      (more_within n o (allowed r frames (changed frames f d)) _ (j.meter frames (right_follows p q l r node f d frames h)));
  made = IfOk-from_err result (IsMade (Join' p l q r node) (Join' p l' q r' node) f d) refused;
}

joined_made :
    (p q v w : Place) (l l' r r' : LiveTree) (node node' : JoinOperator) (f : ℕ) (d x y : Changes) (s t : StagedTree) →
    IsMade l l' f d (s, x) → IsMade r r' f d (t, y) → Stays l l' → Stays r r' → (made : Made (StagedJoin × Changes)) (result : Made (StagedTree × Changes)) →
    IfOk result (λ a. IfOk made (λ b. a ≡ (staged.Join' v s w t b.0, b.1))) → OnOk result (IsOk made) →
    IfOk made (λ b. (l r : TaggedRows) → MayFollowBoth (is_join_over node) (join_takes node) l x r y →
    IsDiff (join_gives node l r) (join_gives node (applied l x) (applied r y)) b.1) →
    IfOk made (λ b. (l r : TaggedRows) → MayFollowBoth (is_join_over node) (join_takes node) l x r y → join_leads node' b.0 (applied l x) (applied r y)) →
    IfOk made (λ b. has_join_room node' b.0) →
    IfOk result (IsMade (Join' p l q r node) (Join' p l' q r' node') f d)
joined_made p q v w l l' r r' node node' f d x y s t left right i j made (Err e) tree there diff leads room = tt
joined_made p q v w l l' r r' node node' f d x y s t left right i j (Err e) (Ok a) tree there diff leads room = absurd (false≢true there)
joined_made p q v w l l' r r' node node' f d x y s t left right i j (Ok b) (Ok a) tree there diff leads room =
    subst (IsMade (Join' p l q r node) (Join' p l' q r' node') f d) (sym tree) (record {
      diff = λ frames h.
          let after = changed frames f d in
          after_both (is_join_over node) (join_takes node) (λ u z. IsDiff (join_gives node (output l frames) (output r frames)) (join_gives node u z) b.1)
          (output l frames) (output l after) (output r frames) (output r after) x y (left.diff frames (left_follows p q l r node f d frames h))
          (right.diff frames (right_follows p q l r node f d frames h)) h.0.2 h.1.2 h.2.2 (diff (output l frames) (output r frames));
      staged = λ frames h.
          let after = changed frames f d in (
            left.staged frames (left_follows p q l r node f d frames h),
            right.staged frames (right_follows p q l r node f d frames h),
            subst (λ u. join_leads node' b.0 u (output r' after)) (sym (i.operator after))
                (subst (λ u. join_leads node' b.0 (output l after) u) (sym (j.operator after))
                (after_both (is_join_over node) (join_takes node) (join_leads node' b.0) (output l frames) (output l after) (output r frames) (output r after) x y
                (left.diff frames (left_follows p q l r node f d frames h)) (right.diff frames (right_follows p q l r node f d frames h)) h.0.2 h.1.2 h.2.2
                (leads (output l frames) (output r frames)))),
          );
      room = (left.room, right.room, room);
    })

pub prepared_join :
    (p q v w : Place) (l l' r r' : LiveTree) (node node' : JoinOperator) (f : ℕ) (d x y : Changes) (m n o u : Meter) (left right : Made (StagedTree × Changes))
    (s t : StagedTree) (made : Made (StagedJoin × Changes)) (result : Made (StagedTree × Changes)) →
    IsPrepared l l' f d m n left → left ≡ Ok (s, x) → IsPrepared r r' f d n o right → right ≡ Ok (t, y) → IsJoinPrepared node node' x y o u made →
    IfOk result (λ a. IfOk made (λ b. a ≡ (staged.Join' v s w t b.0, b.1))) → OnOk result (IsOk made) →
    IsPrepared (Join' p l q r node) (Join' p l' q r' node') f d m u result
prepared_join p q v w l l' r r' node node' f d x y m n o u left right s t made result i is j are k tree there =
    let on_left = part (IsMade l l' f d) left (s, x) i.made is in
    let on_right = part (IsMade r r' f d) right (t, y) j.made are in record {
      stays = stays_join p q l l' r r' node node' i.stays j.stays k.stays;
      grows = grows_on m o u (grows_on m n o i.grows j.grows) k.grows;
      within = two_within m n u (budget l) (plus (budget r) (join_budget node)) i.within (two_within n o u (budget r) (join_budget node) j.within k.within);
      meter = λ frames h.
          let after = changed frames f d in
          join_within (is_join_over node) (join_takes node) (join_allowed node) m n o u (allowed l frames after) (allowed r frames after) (output l frames) (output l after)
          (output r frames) (output r after) x y (i.meter frames (left_follows p q l r node f d frames h)) (j.meter frames (right_follows p q l r node f d frames h))
          (on_left.diff frames (left_follows p q l r node f d frames h)) (on_right.diff frames (right_follows p q l r node f d frames h)) h.0.2 h.1.2 h.2.2 k.meter;
      made = joined_made p q v w l l' r r' node node' f d x y s t on_left on_right i.stays j.stays made result tree there k.diff k.staged k.room;
    }
