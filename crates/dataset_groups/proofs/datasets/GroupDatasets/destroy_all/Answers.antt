use Rattle.std.proofs.Common.{◌≡◌, ◌↔◌, [], ◌∷◌, ◌++◌, ◌+◌, ℕ, false, true, List, drop, refl, sym, subst, arith}
use Rattle.std.specs.Prelude.{IsTrue, take}
use Rattle.std.proofs.lemmas.List.{take_all}
use Rattle.block_store.proofs.Steps.{reads_none, reads_on}
use Rattle.block_store.proofs.Telling.{read_after, read_before}
use Rattle.dataset_destroys.proofs.ChainChained.{objects_on, one_set_on}
use Rattle.dnode_tree.proofs.Refusing.{passed_on}
use Rattle.pool_model.specs.Pools.{MayBeDestroyed, PlainPool, all_destroyed}
use Rattle.dataset_groups.specs.Destroys.{AreDestroyed, DestroysAll}
use Rattle.dataset_groups.proofs.DestroyedDatasets.{none_behind}
use Rattle.dataset_groups.proofs.DestroyedLists.{IsOneThere, behind_both, destroyed_none, destroyed_on, destroys_more, in_parts, last_destroyed, later_refused, may_first, may_rest, one_further, renamed_now, renamed_still, still_at_most}
use Rattle.dataset_groups.proofs.datasets.GroupDatasets.destroy_all.Goals as goal
use Rattle.block_store.proofs.Causes.{caused_behind_reads}
use Rattle.dataset_groups.proofs.datasets.GroupDatasets.destroy_all.Goals.{else-branch, then-branch}

pub loop-name-init : goal.loop-name-init
loop-name-init g c = record {
  reads = reads_none c.args.store.now [];
  one_set = (refl, refl);
  value = λ stored objects own blocks pool readings plain holds are tell spells may.
      destroyed_none c.args.self.now c.args.freed.now.items c.args.group stored objects pool readings plain spells;
  behind = ([], none_behind c.args.freed.now.items);
  renamed = (λ on. absurd (let clash : false ≡ true = on in cc), λ any. absurd (omega (arith, any.2)));
  which = refl;
}

-- ---- one is not destroyed

pub returns-in_err-destroy_one-clause-reads : goal.returns-in_err-destroy_one-clause-reads
returns-in_err-destroy_one-clause-reads g c = reads_on c.args.store.now c.loop-name.store c.destroy_one.new.store [] c.loop-name.invariant.reads c.destroy_one.ensures.reads

pub returns-in_err-destroy_one-clause-one_set : goal.returns-in_err-destroy_one-clause-one_set
returns-in_err-destroy_one-clause-one_set g c = one_set_on c.args.self.now.changes c.loop-name.self.changes c.destroy_one.new.self.changes c.loop-name.invariant.one_set c.destroy_one.ensures.one_set

pub returns-in_err-destroy_one-clause-known : goal.returns-in_err-destroy_one-clause-known
returns-in_err-destroy_one-clause-known g c =
    let so_far = c.loop-name.invariant in
    let i = c.loop-name.name-index in
    let names = c.args.names.now in
    let name = c.name-item.result in
    passed_on _ _ _ c.from_residual.ensures.1
    (λ stored objects own blocks pool readings plain holds are tell spells may at_most.
    let all = subst (λ (ns : List (List ℕ)). MayBeDestroyed ns plain) (in_parts names i name c.loop-name-test.true c.name-item.is) may in
    let rest = may_rest (take i names) (name ∷ drop (i + 1) names) plain all in
    let done = so_far.value stored objects own blocks pool readings plain holds are (read_before c.args.store.now c.loop-name.store c.destroy_one.new.store [] so_far.reads c.destroy_one.ensures.reads tell) spells
    (may_first (take i names) (name ∷ drop (i + 1) names) plain all) in
    c.in_err-destroy_one.ensures.known stored objects own blocks done.2.after readings (all_destroyed (take i names) plain) (so_far.reads.keeps stored holds)
    (objects_on stored objects own blocks c.args.self.now.changes c.loop-name.self.changes so_far.one_set are)
    (read_after c.args.store.now c.loop-name.store c.destroy_one.new.store [] so_far.reads c.destroy_one.ensures.reads tell) done.2.spells (rest.0, rest.1, tt)
    (still_at_most c.args.self.now c.loop-name.self c.args.group c.args.most objects stored pool readings (all_destroyed (take i names) plain) done.0 done.2 at_most))

pub returns-in_err-destroy_one-clause-refused : goal.returns-in_err-destroy_one-clause-refused
returns-in_err-destroy_one-clause-refused g c =
    let so_far = c.loop-name.invariant in
    let i = c.loop-name.name-index in
    let names = c.args.names.now in
    passed_on _ _ _ c.from_residual.ensures.1
    (later_refused c.args.store.now c.loop-name.store c.destroy_one.new.store c.args.self.now c.loop-name.self c.args.group c.args.most names (take i names) (drop (i + 1) names) c.name-item.result _
    (in_parts names i c.name-item.result c.loop-name-test.true c.name-item.is) so_far.reads so_far.which c.in_err-destroy_one.ensures.refused)

-- ---- one more is

pub loop-name-preserved : goal.loop-name-preserved
loop-name-preserved g c =
    let so_far = c.loop-name.invariant in
    let i = c.loop-name.name-index in
    let name = c.name-item.result in
    let done : List (List ℕ) = take i c.args.names.now in
    let further = one_further c.args.names.now i name c.loop-name-test.true c.name-item.is in
    let first = c.args.self.now in
    let mid = c.loop-name.self in
    let last = c.destroy_one.new.self in
    let one = c.in_ok-destroy_one.ensures in
    record {
      reads = reads_on c.args.store.now c.loop-name.store c.destroy_one.new.store [] so_far.reads c.destroy_one.ensures.reads;
      one_set = one_set_on first.changes mid.changes last.changes so_far.one_set c.destroy_one.ensures.one_set;
      value = λ stored objects own blocks pool readings plain holds are tell spells may.
          let all = subst (λ (ns : List (List ℕ)). MayBeDestroyed ns plain) further may in
          let before : PlainPool = all_destroyed done plain in
          let sooner = so_far.value stored objects own blocks pool readings plain holds are (read_before c.args.store.now c.loop-name.store c.destroy_one.new.store [] so_far.reads c.destroy_one.ensures.reads tell)
          spells (may_first done (name ∷ []) plain all) in
          let more = one.value stored objects own blocks sooner.2.after readings before (so_far.reads.keeps stored holds) (objects_on stored objects own blocks first.changes mid.changes so_far.one_set are)
          (read_after c.args.store.now c.loop-name.store c.destroy_one.new.store [] so_far.reads c.destroy_one.ensures.reads tell) sooner.2.spells (may_rest done (name ∷ []) plain all) in (
            sooner.0 ++ more.0,
            behind_both c.args.freed.now.items c.loop-name.freed.items c.destroy_one.new.freed.items sooner.0 more.0 sooner.1 more.1,
            subst (λ (ns : List (List ℕ)). AreDestroyed c.args.group objects stored first last pool readings (all_destroyed ns plain) (sooner.0 ++ more.0)) (sym further)
                (subst (λ (p : PlainPool). AreDestroyed c.args.group objects stored first last pool readings p (sooner.0 ++ more.0)) (last_destroyed done name plain)
                (destroyed_on first mid last name c.args.group objects stored pool readings before _ sooner.0 more.0 one.which sooner.2 more.2)),
          );
      behind = (
        so_far.behind.0 ++ one.behind.0,
        behind_both c.args.freed.now.items c.loop-name.freed.items c.destroy_one.new.freed.items so_far.behind.0 one.behind.0 so_far.behind.1 one.behind.1,
      );
      renamed = subst (λ (ns : List (List ℕ)). IsTrue c.if-branch.renamed ↔ IsOneThere first ns) (sym further) (elim c.if-branch.branch [
        | then-branch w ↦ renamed_now first mid done name so_far.which _ c.if-branch.renamed one.there w.if-branch.true w.renamed-is
        | else-branch w ↦ renamed_still first mid done name so_far.which _ c.loop-name.renamed c.if-branch.renamed one.there so_far.renamed w.if-branch.false w.renamed-is
      ]);
      which = subst (λ (ns : List (List ℕ)). DestroysAll first last ns) (sym further) (destroys_more first mid last done name so_far.which one.which);
    }

-- ---- all are

pub returns-clause-reads : goal.returns-clause-reads
returns-clause-reads g c = c.loop-name.invariant.reads

pub returns-clause-one_set : goal.returns-clause-one_set
returns-clause-one_set g c = c.loop-name.invariant.one_set

pub returns-clause-value : goal.returns-clause-value
returns-clause-value g c = λ stored objects own blocks pool readings plain holds are tell spells may.
    let all = take_all c.loop-name.name-index c.args.names.now c.loop-name-test.false in
    let done = c.loop-name.invariant.value stored objects own blocks pool readings plain holds are tell spells (subst (λ (ns : List (List ℕ)). MayBeDestroyed ns plain) (sym all) may) in (
      done.0,
      done.1,
      subst (λ (ns : List (List ℕ)). AreDestroyed c.args.group objects stored c.args.self.now c.loop-name.self pool readings (all_destroyed ns plain) done.0) all done.2,
    )

pub returns-clause-behind : goal.returns-clause-behind
returns-clause-behind g c = c.loop-name.invariant.behind

pub returns-clause-renamed : goal.returns-clause-renamed
returns-clause-renamed g c =
    subst (λ (ns : List (List ℕ)). IsTrue c.loop-name.renamed ↔ IsOneThere c.args.self.now ns) (take_all c.loop-name.name-index c.args.names.now c.loop-name-test.false) c.loop-name.invariant.renamed

pub returns-clause-which : goal.returns-clause-which
returns-clause-which g c =
    subst (λ (ns : List (List ℕ)). DestroysAll c.args.self.now c.loop-name.self ns) (take_all c.loop-name.name-index c.args.names.now c.loop-name-test.false) c.loop-name.invariant.which

pub returns-in_err-destroy_one-clause-caused : goal.returns-in_err-destroy_one-clause-caused
returns-in_err-destroy_one-clause-caused g c =
    passed_on _ _ _ c.from_residual.ensures.1
    (caused_behind_reads c.args.store.now c.loop-name.store c.destroy_one.new.store [] _ c.loop-name.invariant.reads c.in_err-destroy_one.ensures.caused)
