use Rattle.std.proofs.Common.{◌⊎◌, ℕ, ◌+◌, ◌<◌, [], inl, inr, arith, ◌≡◌, List, Some, sym, subst}
use Rattle.std.proofs.lemmas.Bool.{cases_order}
use Rattle.std.proofs.lemmas.Option.{slice_get_within}
use Rattle.std.specs.List.{slice_get}
use Rattle.block_store.proofs.Steps.{reads_on}
use Rattle.block_store.proofs.Causes.{caused_behind_reads}
use Rattle.block_store.specs.Spaces.{VdevSpace}
use Rattle.dnode_tree.proofs.Refusing.{passed_on}
use Rattle.meta_objset.specs.declared.space_maps.MetaslabPlace.{MetaslabPlace}
use Rattle.pool_maps.specs.Plans.{AreAll, AreIn}
use Rattle.pool_maps.proofs.Underway.{known_then, later_refused, none_yet, one_more, spaces_stay, underway_as}
use Rattle.pool_maps.proofs.Numbers.{lacks_numbers, none_before, one_more_vdev, vdev_there}
use Rattle.pool_maps.proofs.steps.MapPlan.plan_all.Goals as goal

-- the metaslabs of the first vdevs
abbrev before : ℕ → MetaslabPlace → Type 0
before vdev place = place.vdev < vdev

apart : (vdev : ℕ) (place : MetaslabPlace) → before vdev place → ¬ AreIn vdev place
apart vdev place less is = omega (arith, less, is)

into_more : (vdev : ℕ) (place : MetaslabPlace) → before vdev place ⊎ AreIn vdev place → before (vdev + 1) place
into_more vdev place (inl less) = omega (arith, less)
into_more vdev place (inr is) = omega (arith, is)

out_of_more : (vdev : ℕ) (place : MetaslabPlace) → before (vdev + 1) place → before vdev place ⊎ AreIn vdev place
out_of_more vdev place less =
    elim (cases_order place.vdev vdev) [
      | inl same ↦ inr same
      | inr (inl low) ↦ inl low
      | inr (inr high) ↦ absurd (omega (arith, less, high))
    ]

pub loop-vdev-init : goal.loop-vdev-init
loop-vdev-init g c = (
  underway_as c.args.store.now c.args.store.now c.args.set.now c.args.birth c.args.gone.now (λ place. ⊥) (before 0) c.args.self.now c.args.self.now
      (λ place none. absurd none) (λ place there less. omega (arith, less))
      (none_yet c.args.store.now c.args.set.now c.args.birth c.args.gone.now c.args.self.now c.requires.ordered),
  (let none = none_before c.args.store.now.spaces in omega (arith, none)),
)

pub loop-vdev-preserved : goal.loop-vdev-preserved
loop-vdev-preserved g c =
    let vdev = c.loop-vdev.vdev in
    let low = c.loop-vdev-test.true in
    let count = c.vdev_count-vdev-end.ensures.count in
    let there = vdev_there c.args.store.now.spaces vdev (omega (arith, low, count)) in
    let same = spaces_stay c.args.store.now c.loop-vdev.store [] c.loop-vdev.invariant.0.reads in (
      underway_as c.args.store.now c.plan_vdev.new.store c.args.set.now c.args.birth c.args.gone.now (λ place. before vdev place ⊎ AreIn vdev place)
          (before (vdev + 1)) c.args.self.now c.plan_vdev.new.self
          (into_more vdev) (λ place there is. out_of_more vdev place is)
          (one_more c.args.store.now c.loop-vdev.store c.plan_vdev.new.store c.args.set.now c.args.birth c.args.gone.now (before vdev) (AreIn vdev)
          c.args.self.now c.loop-vdev.self (apart vdev) c.loop-vdev.invariant.0 c.plan_vdev.new.self
          (record { reads = c.plan_vdev.ensures.reads; step = c.in_ok-plan_vdev.ensures.step; advances = c.in_ok-plan_vdev.ensures.advances })),
      one_more_vdev c.args.store.now.spaces vdev there.0 c.args.self.now.next c.loop-vdev.self.next c.plan_vdev.new.self.next there.1 c.loop-vdev.invariant.1
          (c.in_ok-plan_vdev.ensures.numbers there.0 (subst (λ (spaces : List VdevSpace). slice_get spaces vdev ≡ Some there.0) (sym same) there.1)),
    )

pub returns-in_err-plan_vdev-clause-reads : goal.returns-in_err-plan_vdev-clause-reads
returns-in_err-plan_vdev-clause-reads g c = reads_on c.args.store.now c.loop-vdev.store c.plan_vdev.new.store [] c.loop-vdev.invariant.0.reads c.plan_vdev.ensures.reads

pub returns-in_err-plan_vdev-clause-known : goal.returns-in_err-plan_vdev-clause-known
returns-in_err-plan_vdev-clause-known g c =
    let vdev = c.loop-vdev.vdev in
    passed_on _ _ _ c.from_residual.ensures.1
    (known_then c.args.store.now c.loop-vdev.store c.plan_vdev.new.store c.args.set.now c.args.birth c.args.gone.now (before vdev) (AreIn vdev)
    c.args.self.now c.loop-vdev.self (apart vdev) c.loop-vdev.invariant.0 AreAll c.in_err-plan_vdev.field-0.0 c.plan_vdev.ensures.reads
    (λ place is. tt) c.in_err-plan_vdev.ensures.known)

pub returns-in_err-plan_vdev-clause-refused : goal.returns-in_err-plan_vdev-clause-refused
returns-in_err-plan_vdev-clause-refused g c =
    passed_on _ _ _ c.from_residual.ensures.1
    (later_refused c.args.store.now c.loop-vdev.store c.plan_vdev.new.store c.args.set.now c.args.birth c.args.gone.now (before c.loop-vdev.vdev) c.args.self.now
    c.loop-vdev.self c.in_err-plan_vdev.field-0.0 c.loop-vdev.invariant.0 c.in_err-plan_vdev.ensures.refused)

pub returns-clause-advances : goal.returns-clause-advances
returns-clause-advances g c =
    (underway_as c.args.store.now c.loop-vdev.store c.args.set.now c.args.birth c.args.gone.now (before c.loop-vdev.vdev) AreAll c.args.self.now c.loop-vdev.self
    (λ place is. tt)
    (λ place there is. (let low = slice_get_within c.args.store.now.spaces place.vdev there.space there.found in let done = c.loop-vdev-test.false in let count = c.vdev_count-vdev-end.ensures.count in
    omega (arith, low, done, count)))
    c.loop-vdev.invariant.0).advances

pub returns-in_err-plan_vdev-clause-caused : goal.returns-in_err-plan_vdev-clause-caused
returns-in_err-plan_vdev-clause-caused g c =
    let old = c.args.store.now in
    let vdev = c.loop-vdev.vdev in
    passed_on _ _ _ c.from_residual.ensures.1 (elim c.in_err-plan_vdev.ensures.caused [
      | inl cause ↦ inl (caused_behind_reads _ _ _ _ _ c.loop-vdev.invariant.0.reads cause)
      | inr (space, few) ↦ inr (
        space,
        let low = c.loop-vdev-test.true in
            let count = c.vdev_count-vdev-end.ensures.count in
            let there = vdev_there old.spaces vdev (omega (arith, low, count)) in
            let same = spaces_stay old c.loop-vdev.store [] c.loop-vdev.invariant.0.reads in
            lacks_numbers old.spaces vdev there.0 c.args.self.now.next c.loop-vdev.self.next there.1 c.loop-vdev.invariant.1
            (few there.0 (subst (λ (spaces : List VdevSpace). slice_get spaces vdev ≡ Some there.0) (sym same) there.1)),
      )
    ])
