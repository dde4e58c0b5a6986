use Rattle.std.proofs.Common.{rules, ◌≡◌, ◌≤◌, ◌^◌, ℕ, Bool, false, List, length, sym, subst, ◌∙◌, arith}
use Rattle.std.specs.Prelude.{replicate}
use Rattle.block_store.specs.Store.{is_out}
use Rattle.block_store.proofs.Items.{none_out}
use Rattle.block_store.proofs.Making.{is_store, plans_nothing, stores_nothing}
use Rattle.block_store.proofs.store.BlockStore.new.Goals as goal

pub invariant_of-result : goal.invariant_of-result
invariant_of-result g c =
    let few : length c.args.vdevs.now ≤ 8 = omega arith in
    let starts : List (List ℕ) = c.new-disks.result.starts in
    let count : length starts ≤ 2 ^ 64 = omega (arith, c.len.ensures, c.len.type_inv) in
    is_store _ c.args.vdevs.now (rw c.in_ok-set.ensures.disks c.in_ok-spaces.ensures.ok) few (rw c.in_ok-set.ensures.disks count)

pub returns-clause-holds : goal.returns-clause-holds
returns-clause-holds g c = stores_nothing _

pub returns-clause-plans : goal.returns-clause-plans
returns-clause-plans g c = plans_nothing _ c.in_ok-set.ensures.due c.in_ok-spaces.ensures.empty

pub returns-clause-out : goal.returns-clause-out
returns-clause-out g c disk =
    let marks : c.in_ok-out.out.items ≡ replicate c.len.result false = search rules in
    subst (λ (them : List Bool). is_out them disk ≡ false) (sym (c.in_ok-set.ensures.out ∙ marks)) (none_out c.len.result disk)
