use Rattle.std.proofs.Common.{◌≡◌, ◌≤◌, ◌++◌, ◌+◌, ◌*◌, length, ℕ, false, List, [], ⊎_elim, inl, inr, sym, ap, subst, ◌∙◌, arith}
use Rattle.std.proofs.lemmas.List.{append_assoc}
use Rattle.std.specs.Prelude.{fold}
use Rattle.std.proofs.lemmas.Result.{IfErr-weaker, IfOk-weaker}
use Rattle.block_pointer.specs.declared.block.Block.{Block}
use Rattle.block_store.proofs.Steps.{steps_none, steps_on}
use Rattle.block_store.proofs.Telling.{tell_after, tell_before}
use Rattle.dataset_groups.specs.declared.datasets.GroupDatasets.{GroupDatasets}
use Rattle.dataset_groups.specs.Groups.{next_behind}
use Rattle.dataset_groups.specs.Leaving.{IsReachExchanged}
use Rattle.dataset_groups.specs.Names.{reach_by}
use Rattle.dataset_groups.specs.NewVolumes.{numbers_end}
use Rattle.dataset_groups.specs.declared.datasets.NumberBounds.{NumberBounds}
use Rattle.dnode.specs.ObjectSet.{FitsObjectSet}
use Rattle.dnode.specs.declared.object_set.ObjectSet.{ObjectSet}
use Rattle.dnode_tree.proofs.Refusing.{ok_both, passed_on}
use Rattle.meta_objset.specs.declared.directory.DirectoryRow.{DirectoryRow}
use Rattle.pool_model.specs.Pools.{PlainPool, all_destroyed, written}
use Rattle.pool_model.specs.Pools.{changed as pool_changed}
use Rattle.dataset_snapshots.specs.Demands.{are_renamed}
use Rattle.dataset_snapshots.specs.Groups.{HasNumbers}
use Rattle.dataset_snapshots.proofs.BelowNext.{not_misnumbered}
use Rattle.dataset_groups.proofs.Copied.{adds_on}
use Rattle.dataset_groups.proofs.Exchanges.{given_then}
use Rattle.dataset_snapshots.proofs.GoneFirst.{gone_first}
use Rattle.dataset_snapshots.proofs.GroupsLeft.{begun, left_by, objects_still}
use Rattle.dataset_snapshots.proofs.GroupsTouched.{actions_refused, datasets_refused, idle_rows, renamed_so, renamed_then, volumes_have}
use Rattle.dataset_snapshots.proofs.groups.changes_of.Given.{Over}
use Rattle.dataset_snapshots.proofs.groups.changes_of.Goals as goal
use Rattle.dataset_snapshots.proofs.groups.changes_of.Goals.{then-renamed, else-renamed}

-- names come where they went or some were made
renamed_is : (g : Over) (c : goal.After-drop-freed-2 g) → c.if-renamed.renamed ≡ are_renamed c.args.opened.renamed c.in_ok-act_all.ensures.places.made
renamed_is g c =
    let makes = c.in_ok-act_all.ensures.places in
    let next = makes.names.next ∙ ap (λ (n : ℕ). n + 2 * length makes.made) c.write_all.ensures.next in
    elim c.if-renamed.branch [
      | then-renamed w ↦ w.renamed-is ∙ w.if-renamed.true ∙ sym (renamed_then c.args.opened.renamed makes.made w.if-renamed.true)
      | else-renamed w ↦
          w.renamed-is ∙ renamed_so c.args.opened.renamed makes.made c.act_all.new.self.next c.args.opened.datasets.next w.if-renamed.false next
    ]

pub returns-in_err-append-clause-steps : goal.returns-in_err-append-clause-steps
returns-in_err-append-clause-steps g c = steps_none _ _

pub returns-in_err-write_all-clause-known : goal.returns-in_err-write_all-clause-known
returns-in_err-write_all-clause-known g c =
    passed_on _ _ _ c.from_residual-in_err-write_all.ensures.1
    (λ stored planned birth root pool writes plans is destroyed lt opens from tell good.
    let after : PlainPool = all_destroyed destroyed pool in
    let it = begun stored planned birth c.args.group.now.number root pool is destroyed writes c.args.opened (λ block bytes known. plans.kept block bytes known) opens from in
    c.in_err-write_all.ensures.known stored planned root.birth is.objects is.own is.blocks from.datasets is.readings after writes plans it.0 tell (omega (arith, lt)) it.1 it.2)

pub returns-in_err-write_all-clause-refused : goal.returns-in_err-write_all-clause-refused
returns-in_err-write_all-clause-refused g c = passed_on _ _ _ c.from_residual-in_err-write_all.ensures.1 (inr (inl c.in_err-write_all.ensures.refused))

pub returns-in_err-act_all-clause-steps : goal.returns-in_err-act_all-clause-steps
returns-in_err-act_all-clause-steps g c = steps_on _ _ _ _ c.write_all.ensures.steps c.act_all.ensures.steps

pub returns-in_err-act_all-clause-known : goal.returns-in_err-act_all-clause-known
returns-in_err-act_all-clause-known g c =
    passed_on _ _ _ c.from_residual-in_err-act_all.ensures.1
    (λ stored planned birth root pool writes plans is destroyed lt opens from tell good.
    let after : PlainPool = all_destroyed destroyed pool in
    let it = begun stored planned birth c.args.group.now.number root pool is destroyed writes c.args.opened (λ block bytes known. plans.kept block bytes known) opens from in
    let placed = c.in_ok-write_all.ensures.value stored planned root.birth is.objects is.own is.blocks from.datasets is.readings after writes plans it.0
    (tell_before c.args.store.now c.write_all.new.store c.act_all.new.store [] c.write_all.ensures.steps c.act_all.ensures.steps tell) (omega (arith, lt)) it.1 it.2 in
    c.in_err-act_all.ensures.known stored placed.0 is.objects is.own is.blocks placed.3 placed.4 (fold written after writes) good placed.1
    (objects_still stored c.args.opened.datasets.changes c.write_all.new.self.changes is.objects is.own is.blocks c.write_all.ensures.one_set it.0)
    (tell_after c.args.store.now c.write_all.new.store c.act_all.new.store [] c.write_all.ensures.steps c.act_all.ensures.steps tell) placed.5)

pub returns-in_err-act_all-clause-refused : goal.returns-in_err-act_all-clause-refused
returns-in_err-act_all-clause-refused g c =
    let opens = c.requires.opened.1 in
    let mid : GroupDatasets = c.write_all.new.self in
    passed_on _ _ _ c.from_residual-in_err-act_all.ensures.1
    (actions_refused c.args.store.now c.write_all.new.store c.act_all.new.store c.args.group.now.number c.args.opened c.args.actions.now mid c.act_all.new.self c.write_all.ensures.directory
    c.write_all.ensures.next c.write_all.ensures.bounds c.in_ok-write_all.ensures.touched c.in_ok-write_all.ensures.places _ c.write_all.ensures.steps c.in_err-act_all.ensures.refused)

pub returns-clause-steps : goal.returns-clause-steps
returns-clause-steps g c = steps_on _ _ _ _ c.write_all.ensures.steps c.act_all.ensures.steps

pub returns-clause-value : goal.returns-clause-value
returns-clause-value g c =
    let old : GroupDatasets = c.args.opened.datasets in
    let mid : GroupDatasets = c.write_all.new.self in
    let new : GroupDatasets = c.act_all.new.self in
    let group = c.args.group.now.number in
    let freed : List Block = c.args.opened.freed.items in
    IfOk-weaker c.with_directory.result _ _ (λ all both stored planned birth root pool writes plans is destroyed lt opens from tell.
    let after : PlainPool = all_destroyed destroyed pool in
    let it = begun stored planned birth group root pool is destroyed writes c.args.opened (λ block bytes known. plans.kept block bytes known) opens from in
    let placed = c.in_ok-write_all.ensures.value stored planned root.birth is.objects is.own is.blocks from.datasets is.readings after writes plans it.0
    (tell_before c.args.store.now c.write_all.new.store c.act_all.new.store [] c.write_all.ensures.steps c.act_all.ensures.steps tell) (omega (arith, lt)) it.1 it.2 in
    let made = c.in_ok-act_all.ensures.value stored placed.0 is.objects is.own is.blocks placed.3 placed.4 (fold written after writes) placed.1
    (objects_still stored old.changes mid.changes is.objects is.own is.blocks c.write_all.ensures.one_set it.0)
    (tell_after c.args.store.now c.write_all.new.store c.act_all.new.store [] c.write_all.ensures.steps c.act_all.ensures.steps tell) placed.5 in
    let makes = c.in_ok-act_all.ensures.places in
    let renamed : c.if-renamed.renamed ≡ are_renamed c.args.opened.renamed makes.made = renamed_is g c in
    let acted = made.3 in
    let rows_are : c.args.opened.renamed ≡ false → mid.directory ≡ is.rows = λ none. c.write_all.ensures.directory ∙ from.same none in
    let left = left_by made.0 group is.objects is.rows is.stale new acted.after acted.readings (fold (λ p a. pool_changed group p a.change) (fold written after writes) c.args.actions.now)
    c.if-renamed.renamed c.args.group.now.spans all.changes.items is.directory is.spans acted.spells
    (idle_rows c.write_all.new.store c.act_all.new.store group mid new c.args.actions.now c.args.opened.renamed c.if-renamed.renamed is.rows rows_are makes renamed) both.0 in
    let second = subst (λ (rows : List DirectoryRow). IsReachExchanged group placed.0 made.0 (reach_by placed.3 rows) (reach_by acted.after new.directory) []) c.write_all.ensures.directory acted.exchanged in
    let last = subst (λ (blocks : List Block). IsReachExchanged group placed.0 made.0 (reach_by placed.3 old.directory) blocks []) (sym left.2) second in
    let reached : List Block = reach_by left.0.datasets left.0.rows in
    let both_given = given_then group planned placed.0 made.0 (reach_by from.datasets old.directory) (reach_by placed.3 old.directory) reached placed.6 placed.2 made.2 placed.8 last in (
      made.0,
      made.1,
      λ block bytes known. made.2 block bytes (placed.2 block bytes known),
      left.0,
      freed ++ placed.6,
      placed.7 ∙ ap (λ (front : List Block). front ++ placed.6) c.in_ok-append.ensures.items ∙ append_assoc c.args.replaced.now.items freed placed.6,
      gone_first group stored planned made.0 (reach_by is.datasets is.rows) (reach_by from.datasets old.directory) reached freed placed.6 from.exchanged both_given,
      left.1 ∙ sym both.1,
      adds_on planned placed.0 made.0 placed.9 acted.adds,
      left.3,
    )) (ok_both c.with_directory.result _ _ c.with_directory.ensures.changes c.with_directory.ensures.directory)

pub returns-clause-known : goal.returns-clause-known
returns-clause-known g c =
    let old : GroupDatasets = c.args.opened.datasets in
    let mid : GroupDatasets = c.write_all.new.self in
    let new : GroupDatasets = c.act_all.new.self in
    let group = c.args.group.now.number in
    IfErr-weaker c.with_directory.result _ _ (λ refusal why stored planned birth root pool writes plans is destroyed lt opens from tell good.
    let after : PlainPool = all_destroyed destroyed pool in
    let it = begun stored planned birth group root pool is destroyed writes c.args.opened (λ block bytes known. plans.kept block bytes known) opens from in
    let placed = c.in_ok-write_all.ensures.value stored planned root.birth is.objects is.own is.blocks from.datasets is.readings after writes plans it.0
    (tell_before c.args.store.now c.write_all.new.store c.act_all.new.store [] c.write_all.ensures.steps c.act_all.ensures.steps tell) (omega (arith, lt)) it.1 it.2 in
    let made = c.in_ok-act_all.ensures.value stored placed.0 is.objects is.own is.blocks placed.3 placed.4 (fold written after writes) placed.1
    (objects_still stored old.changes mid.changes is.objects is.own is.blocks c.write_all.ensures.one_set it.0)
    (tell_after c.args.store.now c.write_all.new.store c.act_all.new.store [] c.write_all.ensures.steps c.act_all.ensures.steps tell) placed.5 in
    ⊎_elim (λ memory. inl (inl memory))
    (λ mis.
    absurd (not_misnumbered made.0 group is.objects new made.3.after made.3.readings (fold (λ p a. pool_changed group p a.change) (fold written after writes) c.args.actions.now) (next_behind new)
    (omega arith) (omega arith) made.3.spells mis.1))
    why) c.with_directory.ensures.refused

pub returns-clause-places : goal.returns-clause-places
returns-clause-places g c =
    let opens = c.requires.opened.1 in
    let mid : GroupDatasets = c.write_all.new.self in
    let new : GroupDatasets = c.act_all.new.self in
    let makes = c.in_ok-act_all.ensures.places in
    IfOk-weaker c.with_directory.result _ _
    (λ all both.
    volumes_have c.args.store.now c.write_all.new.store c.act_all.new.store c.args.group.now.number c.args.opened c.args.actions.now mid new c.write_all.ensures.directory
    c.write_all.ensures.next c.write_all.ensures.bounds c.in_ok-write_all.ensures.touched c.in_ok-write_all.ensures.places c.write_all.ensures.one_set c.act_all.ensures.one_set makes
    all.changes.items all.next c.if-renamed.renamed c.args.group.now.spans opens.numbers.behind both.1 c.write_all.ensures.steps.shapes (renamed_is g c) both.0)
    (ok_both c.with_directory.result _ _ c.with_directory.ensures.changes c.with_directory.ensures.next_is)

pub returns-clause-refused : goal.returns-clause-refused
returns-clause-refused g c =
    let opens = c.requires.opened.1 in
    let mid : GroupDatasets = c.write_all.new.self in
    let new : GroupDatasets = c.act_all.new.self in
    let makes = c.in_ok-act_all.ensures.places in
    IfErr-weaker c.with_directory.result _ _
    (λ refusal why.
    datasets_refused c.args.store.now c.write_all.new.store c.act_all.new.store c.args.group.now.number c.args.opened c.args.actions.now mid new c.write_all.ensures.directory
    c.write_all.ensures.next c.write_all.ensures.bounds c.in_ok-write_all.ensures.touched c.in_ok-write_all.ensures.places c.write_all.ensures.one_set c.act_all.ensures.one_set makes refusal opens.numbers.behind
    (steps_on c.args.store.now c.write_all.new.store c.act_all.new.store [] c.write_all.ensures.steps c.act_all.ensures.steps) why)
    c.with_directory.ensures.refused

numbers_end_is : (set : ObjectSet) (datasets : GroupDatasets) → FitsObjectSet set → HasNumbers set datasets → (datasets.next ≤ datasets.bounds.end) × (datasets.bounds.end ≤ numbers_end)
numbers_end_is set datasets fits has = elim has.which [
  | inl behind ↦ (
    let most = fits.1.within in let high = fits.0.0.highest in omega (arith, behind.next, behind.end, most, high),
    omega (arith, behind.end),
  )
  | inr before ↦ (before.0, let most = fits.1.within in let high = fits.0.0.highest in omega (arith, before.1, most, high))
]

pub act_all-requires-clause-behind : goal.act_all-requires-clause-behind
act_all-requires-clause-behind g c = let low = c.requires.opened.1.numbers.low in omega (arith, low, c.write_all.ensures.next)

pub act_all-requires-clause-end : goal.act_all-requires-clause-end
act_all-requires-clause-end g c =
    let opens = c.requires.opened.1 in
    let within = numbers_end_is c.args.opened.set c.args.opened.datasets opens.set opens.numbers in
    let same = ap (λ (b : NumberBounds). b.end) c.write_all.ensures.bounds in
    omega (arith, within.1, same)

pub with_directory-requires-clause-within : goal.with_directory-requires-clause-within
with_directory-requires-clause-within g c =
    let opens = c.requires.opened.1 in
    let within = numbers_end_is c.args.opened.set c.args.opened.datasets opens.set opens.numbers in
    let end = ap (λ (b : NumberBounds). b.end) c.write_all.ensures.bounds in
    let behind = ap (λ (b : NumberBounds). b.behind) (c.act_all.ensures.bounds ∙ c.write_all.ensures.bounds) in
    let first = opens.numbers.behind in
    let most = opens.set.1.within in
    let high = opens.set.0.0.highest in
    let last = c.act_all.ensures.within (omega (arith, within.0, end, c.write_all.ensures.next)) in
    omega (arith, last, within.1, end, behind, first, most, high)
