use Rattle.std.proofs.Common.{◌≡◌, ◌⊎◌, ℕ, ◌+◌, ◌<◌, List, [], inl, inr, sym, ap, subst, arith}
use Rattle.std.proofs.lemmas.Bool.{cases_order}
use Rattle.block_store.specs.Shapes.{first_meta}
use Rattle.block_store.specs.Spaces.{VdevSpace}
use Rattle.block_store.proofs.Steps.{reads_on}
use Rattle.block_store.proofs.Causes.{caused_behind_reads}
use Rattle.dnode_tree.proofs.Refusing.{passed_on}
use Rattle.meta_objset.specs.declared.space_maps.MetaslabPlace.{MetaslabPlace}
use Rattle.pool_maps.specs.Maps.{HasMapPlace}
use Rattle.pool_maps.specs.Plans.{AreIn, IsThat}
use Rattle.pool_maps.proofs.Underway.{before_at, known_then, none_yet, one_more, place_at, some_refused, spaces_stay, this_place, underway_as}
use Rattle.pool_maps.proofs.Numbers.{places_of}
use Rattle.pool_maps.proofs.steps.MapPlan.plan_vdev.Goals as goal

-- the first metaslabs of a vdev
abbrev before : ℕ → ℕ → MetaslabPlace → Type 0
before vdev index place = (place.vdev ≡ vdev) × (place.index < index)

abbrev here : ℕ → ℕ → MetaslabPlace
here vdev index = record { vdev = vdev; index = index }

apart : (vdev index : ℕ) (place : MetaslabPlace) → before vdev index place → ¬ IsThat (here vdev index) place
apart vdev index place (v, less) is = (let same = ap (λ (p : MetaslabPlace). p.index) is in omega (arith, less, same))

into_more : (vdev index : ℕ) (place : MetaslabPlace) → before vdev index place ⊎ IsThat (here vdev index) place → before vdev (index + 1) place
into_more vdev index place (inl (v, less)) = (v, omega (arith, less))
into_more vdev index place (inr is) = (ap (λ (p : MetaslabPlace). p.vdev) is, (let same = ap (λ (p : MetaslabPlace). p.index) is in omega (arith, same)))

out_of_more : (vdev index : ℕ) (place : MetaslabPlace) → before vdev (index + 1) place → before vdev index place ⊎ IsThat (here vdev index) place
out_of_more vdev index place (v, less) =
    elim (cases_order place.index index) [
      | inl same ↦ inr (this_place place vdev index v same)
      | inr (inl low) ↦ inl (v, low)
      | inr (inr high) ↦ absurd (omega (arith, less, high))
    ]

pub loop-index-init : goal.loop-index-init
loop-index-init g c = (
  underway_as c.args.store.now c.args.store.now c.args.set.now c.args.birth c.args.gone.now (λ place. ⊥) (before c.args.vdev 0) c.args.self.now c.args.self.now
      (λ place none. absurd none) (λ place there is. let less = is.1 in omega (arith, less))
      (none_yet c.args.store.now c.args.set.now c.args.birth c.args.gone.now c.args.self.now c.requires.ordered),
  omega arith,
)

pub plan_metaslab-requires-clause-place : goal.plan_metaslab-requires-clause-place
plan_metaslab-requires-clause-place g c =
    subst (λ (spaces : List VdevSpace). HasMapPlace spaces (here c.args.vdev c.loop-index.index)) (sym (spaces_stay c.args.store.now c.loop-index.store _ c.loop-index.invariant.0.reads))
    (place_at c.args.store.now.spaces c.args.vdev c.loop-index.index c.shape.result c.shape.ensures.shape (subst (λ n. c.loop-index.index < n) c.first_meta-count.ensures c.loop-index-test.true))

pub loop-index-preserved : goal.loop-index-preserved
loop-index-preserved g c =
    let index = c.loop-index.index in
    let so_far = c.loop-index.invariant.1 in
    let one = c.in_ok-plan_metaslab.ensures.numbers in (
      underway_as c.args.store.now c.plan_metaslab.new.store c.args.set.now c.args.birth c.args.gone.now (λ place. before c.args.vdev index place ⊎ IsThat (here c.args.vdev index) place)
          (before c.args.vdev (index + 1)) c.args.self.now c.plan_metaslab.new.self
          (into_more c.args.vdev index) (λ place there is. out_of_more c.args.vdev index place is)
          (one_more c.args.store.now c.loop-index.store c.plan_metaslab.new.store c.args.set.now c.args.birth c.args.gone.now (before c.args.vdev index) (IsThat (here c.args.vdev index))
          c.args.self.now c.loop-index.self (apart c.args.vdev index) c.loop-index.invariant.0 c.plan_metaslab.new.self
          (record { reads = c.plan_metaslab.ensures.reads; step = c.in_ok-plan_metaslab.ensures.step; advances = c.in_ok-plan_metaslab.ensures.advances })),
      omega (arith, so_far, one),
    )

-- the metaslab after the first ones is of the vdev
in_vdev : (vdev index : ℕ) (place : MetaslabPlace) → IsThat (here vdev index) place → AreIn vdev place
in_vdev vdev index place is = ap (λ (p : MetaslabPlace). p.vdev) is

pub returns-in_err-plan_metaslab-clause-reads : goal.returns-in_err-plan_metaslab-clause-reads
returns-in_err-plan_metaslab-clause-reads g c = reads_on c.args.store.now c.loop-index.store c.plan_metaslab.new.store [] c.loop-index.invariant.0.reads c.plan_metaslab.ensures.reads

pub returns-in_err-plan_metaslab-clause-known : goal.returns-in_err-plan_metaslab-clause-known
returns-in_err-plan_metaslab-clause-known g c =
    let index = c.loop-index.index in
    passed_on _ _ _ c.from_residual.ensures.1
    (known_then c.args.store.now c.loop-index.store c.plan_metaslab.new.store c.args.set.now c.args.birth c.args.gone.now (before c.args.vdev index) (IsThat (here c.args.vdev index))
    c.args.self.now c.loop-index.self (apart c.args.vdev index) c.loop-index.invariant.0 (AreIn c.args.vdev) c.in_err-plan_metaslab.field-0.0 c.plan_metaslab.ensures.reads
    (in_vdev c.args.vdev index) c.in_err-plan_metaslab.ensures.known)

pub returns-in_err-plan_metaslab-clause-refused : goal.returns-in_err-plan_metaslab-clause-refused
returns-in_err-plan_metaslab-clause-refused g c =
    passed_on _ _ _ c.from_residual.ensures.1
    (some_refused c.args.store.now c.loop-index.store c.plan_metaslab.new.store c.args.set.now c.args.birth c.args.gone.now (before c.args.vdev c.loop-index.index) c.args.self.now
    c.loop-index.self (here c.args.vdev c.loop-index.index) c.in_err-plan_metaslab.field-0.0 c.loop-index.invariant.0 c.in_err-plan_metaslab.ensures.refused)

pub returns-clause-advances : goal.returns-clause-advances
returns-clause-advances g c =
    let past : c.first_meta-count.result ≡ first_meta c.shape.result = c.first_meta-count.ensures in
    (underway_as c.args.store.now c.loop-index.store c.args.set.now c.args.birth c.args.gone.now (before c.args.vdev c.loop-index.index) (AreIn c.args.vdev) c.args.self.now c.loop-index.self
    (λ place is. is.0)
    (λ place there is. (is, (let less = before_at c.args.store.now.spaces c.args.vdev c.shape.result place c.shape.ensures.shape there is in let done = c.loop-index-test.false in omega (arith, less, done, past))))
    c.loop-index.invariant.0).advances

pub returns-in_err-plan_metaslab-clause-caused : goal.returns-in_err-plan_metaslab-clause-caused
returns-in_err-plan_metaslab-clause-caused g c =
    passed_on _ _ _ c.from_residual.ensures.1 (elim c.in_err-plan_metaslab.ensures.caused [
      | inl cause ↦ inl (caused_behind_reads _ _ _ _ _ c.loop-index.invariant.0.reads cause)
      | inr (space, past) ↦ inr (
        space,
        λ there found.
            let so_far = c.loop-index.invariant.1 in
            let low = c.loop-index-test.true in
            let count = c.first_meta-count.ensures in
            omega (arith, past, so_far, low, count, places_of c.args.store.now.spaces c.args.vdev c.shape.result there c.shape.ensures.shape found),
      )
    ])

pub returns-clause-numbers : goal.returns-clause-numbers
returns-clause-numbers g c = λ there found.
    let so_far = c.loop-index.invariant.1 in
    let end = c.loop-index.auto.index-end in
    let count = c.first_meta-count.ensures in
    omega (arith, so_far, end, count, places_of c.args.store.now.spaces c.args.vdev c.shape.result there c.shape.ensures.shape found)
