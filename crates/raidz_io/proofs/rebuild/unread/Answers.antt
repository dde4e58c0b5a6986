use Rattle.std.proofs.Common.{ℕ, ◌≡◌, ◌<◌, inl, inr, List, [], ◌∷◌, ◌++◌, length, Contains, ap, subst, arith, length-append}
use Rattle.std.proofs.lemmas.List.{take_all}
use Rattle.std.proofs.lemmas.List.Elements.{All-push, Contains-append_left, Contains-append_right}
use Rattle.std.proofs.lemmas.Bool.{cases_lt}
use Rattle.raidz_io.proofs.Calls.{Contains-front}
use Rattle.raidz_io.proofs.rebuild.unread.Goals as goal

pub loop-column-2-init : goal.loop-column-2-init
loop-column-2-init c =
    let lost : List ℕ = c.args.read.now.lost.items in
    let all : c.loop-column.unread.items ≡ lost =
    rw (c.loop-column.invariant, c.as_slice-column-items.ensures.value) (take_all c.loop-column.column-index lost (omega (arith, c.loop-column-test.false, ap (length {A = ℕ}) c.as_slice-column-items.ensures.value))) in
    rw all (record {
      len = omega arith;
      lost = λ k held. held;
      unread = λ k from below. absurd (omega (arith, from, below));
      below = λ are. are;
    })

pub loop-column-2-preserved : goal.loop-column-2-preserved
loop-column-2-preserved c =
    let before = c.loop-column-2.invariant in
    let so_far : List ℕ = c.loop-column-2.unread.items in
    let column : ℕ = c.loop-column-2.column in
    rw c.push-in-loop-column-2.ensures.items (record {
      len = omega (arith, before.len, length-append so_far (column ∷ []));
      lost = λ k held. Contains-append_left so_far (column ∷ []) k (before.lost k held);
      unread = λ k from below. elim (cases_lt k column) [
        | inl earlier ↦ Contains-append_left so_far (column ∷ []) k (before.unread k from earlier)
        | inr here ↦
            let same : column ≡ k = omega arith in
            subst (λ (n : ℕ). Contains (so_far ++ column ∷ []) n) same (Contains-append_right so_far (column ∷ []) column (Contains-front column []))
      ];
      below = λ are. All-push (λ k. k < c.args.count) so_far column (before.below are) c.loop-column-2-test.true;
    })
