use Rattle.std.proofs.Common.{◌≡◌, ℕ, ◌+◌, ◌<◌, ◌≤◌, ◌==◌, ◌^◌, Bool, true, false, List, take, length, get_or, ap, arith, sum_by}
use Rattle.std.specs.Prelude.{if◌then◌else◌}
use Rattle.std.proofs.lemmas.List.Sums.{sum_by_more_le_part}
use Rattle.df_state.specs.Desks.{DeskParts}
use Rattle.df_hall.proofs.closing.sums.Goals as goal

part : (b : Bool) (n : ℕ) → (if b then n else 0) ≤ n
part true n = omega arith
part false n = omega arith

fits :
    (h : DeskParts → ℕ) (frame : ℕ) (desks : List DeskParts) (i sum one : ℕ) (d : DeskParts) → i < length desks → d ≡ get_or desks i d →
    sum ≡ sum_by (λ d. if d.frame == frame then h d else 0) (take i desks) → one ≡ (if d.frame == frame then h d else 0) → sum_by h desks < 2 ^ 64 → sum + one < 2 ^ 64
fits h frame desks i sum one d low is so_far this few =
    let all = sum_by_more_le_part (λ d. if d.frame == frame then h d else 0) h desks i d low (λ d. part (d.frame == frame) (h d)) in
    let mine = part (d.frame == frame) (h d) in
    let same = ap h is in
    omega (arith, all, so_far, this, mine, same, few)

pub overflow_add-accepted : goal.overflow_add-accepted
overflow_add-accepted g c =
    let h =
    fits (λ d. d.accepted) c.args.frame c.args.desks.now c.loop-desk.desk-index c.loop-desk.accepted c.accepted_of-accepted.result c.desk-item.result
    c.loop-desk-test.true c.desk-item.is c.loop-desk.invariant.0 c.accepted_of-accepted.ensures c.requires.accepted in
    omega (arith, h)

pub overflow_add-deleted : goal.overflow_add-deleted
overflow_add-deleted g c =
    let h =
    fits (λ d. d.deleted) c.args.frame c.args.desks.now c.loop-desk.desk-index c.loop-desk.deleted c.deleted_of-deleted.result c.desk-item.result
    c.loop-desk-test.true c.desk-item.is c.loop-desk.invariant.1 c.deleted_of-deleted.ensures c.requires.deleted in
    omega (arith, h)
