use Rattle.std.proofs.Common.{◌≡◌, ◌∙◌, ◌++◌, ◌∷◌, ◌≤◌, [], List, inl, inr, ⊎_elim, refl, sym, ap, subst, length, arith}
use Rattle.std.proofs.lemmas.List.{length-append}
use Rattle.std.proofs.lemmas.Result.{IfOk-weaker, IfErr-weaker}
use Rattle.block_pointer.specs.declared.block.Block.{Block}
use Rattle.block_store.proofs.Steps.{reads_on}
use Rattle.block_store.specs.Spaces.{VdevSpace}
use Rattle.block_store.specs.Store.{Store}
use Rattle.dnode.specs.declared.object_set.ObjectSet.{ObjectSet}
use Rattle.dnode_tree.proofs.FurtherReads.{told_before, told_after}
use Rattle.dnode_tree.proofs.Refusing.{passed_on}
use Rattle.dnode_tree.specs.Rewriting.{AreDistinct}
use Rattle.objset.specs.Within.{blocks_of_objects, blocks_of_set, reads_of, IsSetWalked}
use Rattle.dataset_snapshots.specs.Reach.{reach_of, volume_blocks_of}
use Rattle.dataset_snapshots.proofs.BlocksOnce.{back_once, front_once, set_once}
use Rattle.dataset_snapshots.proofs.ChainWalks.{rows_some}
use Rattle.dataset_snapshots.proofs.Datasets.{are_of_root}
use Rattle.dataset_snapshots.proofs.Reaching.{parts_are, reached_by, reads_few}
use Rattle.dataset_snapshots.proofs.WalkedRows.{set_few}
use Rattle.dataset_snapshots.proofs.walks.reach.Goals as goal

pub returns-in_err-set-clause-refused : goal.returns-in_err-set-clause-refused
returns-in_err-set-clause-refused g c = passed_on _ _ _ c.from_residual.ensures.1 (inr (inl c.in_err-set.ensures.refused))

pub returns-in_err-set-clause-known : goal.returns-in_err-set-clause-known
returns-in_err-set-clause-known g c =
    passed_on _ _ _ c.from_residual.ensures.1 (λ stored pool held is once long tell.
    c.in_err-set.ensures.known stored is.set held is.is_set is.kind (omega (arith, long)) tell)

pub returns-in_err-own-clause-reads : goal.returns-in_err-own-clause-reads
returns-in_err-own-clause-reads g c = reads_on _ _ _ _ c.in_ok-set.ensures.reads c.in_err-own.ensures.reads

pub returns-in_err-own-clause-refused : goal.returns-in_err-own-clause-refused
returns-in_err-own-clause-refused g c =
    passed_on _ _ _ c.from_residual-in_err-own.ensures.1 (inr (inr (inl (record {
      set = c.in_ok-set.set;
      meta = c.in_ok-set.ensures.found;
      left = c.count_meta.new.left;
      count = omega (arith, c.in_ok-set.ensures.count);
      mid = c.count_meta.new.store;
      first = c.in_ok-set.ensures.reads;
      why = c.in_err-own.ensures.refused;
    }))))

pub returns-in_err-own-clause-known : goal.returns-in_err-own-clause-known
returns-in_err-own-clause-known g c =
    let first = c.in_ok-set.ensures.reads in
    let rest = c.in_err-own.ensures.reads in
    passed_on _ _ _ c.from_residual-in_err-own.ensures.1 (λ stored pool held is once long tell.
    let same : c.in_ok-set.set ≡ is.set = c.in_ok-set.ensures.value stored is.set held is.is_set (told_before _ _ _ _ first rest tell) in
    let own : List Block = blocks_of_set is.set is.own is.blocks in
    let below : List Block = volume_blocks_of is in
    let each = set_once stored c.args.root.now.birth is.set is.objects is.own is.blocks is.are (front_once own below (back_once (c.args.root.now ∷ []) (own ++ below) once)) in
    let few = reads_few is.own (blocks_of_objects is.set is.blocks) in
    c.in_err-own.ensures.known stored is.objects is.own is.blocks (first.keeps stored held) (are_of_root stored _ _ pool _ is same) each
    (subst (λ (set : ObjectSet). reads_of is.own (blocks_of_objects set is.blocks) ≤ c.count_meta.new.left) (sym same)
    (omega (arith, few, length-append own below, c.in_ok-set.ensures.count, long)))
    (told_after _ _ _ _ first rest tell))

pub returns-in_err-below-clause-reads : goal.returns-in_err-below-clause-reads
returns-in_err-below-clause-reads g c =
    reads_on _ _ _ _ (reads_on _ _ _ _ c.in_ok-set.ensures.reads c.in_ok-own.ensures.reads) c.in_err-below.ensures.reads

pub returns-in_err-below-clause-refused : goal.returns-in_err-below-clause-refused
returns-in_err-below-clause-refused g c =
    passed_on _ _ _ c.from_residual-in_err-below.ensures.1 (inr (inr (inr (inl (record {
      set = c.in_ok-set.set;
      meta = c.in_ok-set.ensures.found;
      left = c.count_meta.new.left;
      count = omega (arith, c.in_ok-set.ensures.count);
      own = c.in_ok-own.own.items;
      rest = c.walk_within.new.left;
      walked = subst (λ (spaces : List VdevSpace). IsSetWalked spaces c.in_ok-set.set c.args.root.now.birth c.count_meta.new.left c.walk_within.new.left c.in_ok-own.own.items)
          (ap (λ (s : Store). s.spaces) c.in_ok-set.ensures.reads.rest) c.in_ok-own.ensures.count;
      mid = c.walk_within.new.store;
      first = reads_on _ _ _ _ c.in_ok-set.ensures.reads c.in_ok-own.ensures.reads;
      why = c.in_err-below.ensures.refused;
    })))))

pub returns-in_err-below-clause-known : goal.returns-in_err-below-clause-known
returns-in_err-below-clause-known g c =
    let first = c.in_ok-set.ensures.reads in
    let second = c.in_ok-own.ensures.reads in
    let both = reads_on _ _ _ _ first second in
    let third = c.in_err-below.ensures.reads in
    passed_on _ _ _ c.from_residual-in_err-below.ensures.1 (λ stored pool held is once long tell.
    let before = told_before _ _ _ _ both third tell in
    let same : c.in_ok-set.set ≡ is.set = c.in_ok-set.ensures.value stored is.set held is.is_set (told_before _ _ _ _ first second before) in
    let are = are_of_root stored _ _ pool _ is same in
    let own : List Block = blocks_of_set is.set is.own is.blocks in
    let below : List Block = volume_blocks_of is in
    let own_is : c.in_ok-own.own.items ≡ own =
    c.in_ok-own.ensures.blocks stored is.objects is.own is.blocks (first.keeps stored held) are (told_after _ _ _ _ first second before)
    ∙ ap (λ (set : ObjectSet). blocks_of_set set is.own is.blocks) same in
    let few = set_few _ _ _ _ _ _ c.in_ok-own.ensures.count in
    c.in_err-below.ensures.known stored is.objects is.own is.blocks is.datasets is.readings is.rows (both.keeps stored held) are is.directory is.chains
    (rows_some is.datasets is.readings is.rows pool.volumes is.names.volumes)
    (omega (arith, few, ap length own_is, length-append own below, c.in_ok-set.ensures.count, long))
    (told_after _ _ _ _ both third tell))

pub returns-in_err-found-clause-reads : goal.returns-in_err-found-clause-reads
returns-in_err-found-clause-reads g c =
    reads_on _ _ _ _ (reads_on _ _ _ _ c.in_ok-set.ensures.reads c.in_ok-own.ensures.reads) c.in_ok-below.ensures.reads

pub returns-in_err-found-clause-refused : goal.returns-in_err-found-clause-refused
returns-in_err-found-clause-refused g c = passed_on _ _ _ c.from_residual-in_err-found.ensures.1 (inl refl)

pub returns-in_err-found-clause-known : goal.returns-in_err-found-clause-known
returns-in_err-found-clause-known g c = passed_on _ _ _ c.from_residual-in_err-found.ensures.1 (λ stored pool held is once long tell. inl refl)

pub returns-clause-reads : goal.returns-clause-reads
returns-clause-reads g c =
    reads_on _ _ _ _ (reads_on _ _ _ _ c.in_ok-set.ensures.reads c.in_ok-own.ensures.reads) c.in_ok-below.ensures.reads

pub returns-clause-reach : goal.returns-clause-reach
returns-clause-reach g c =
    let first = c.in_ok-set.ensures.reads in
    let second = c.in_ok-own.ensures.reads in
    let both = reads_on _ _ _ _ first second in
    let third = c.in_ok-below.ensures.reads in
    IfOk-weaker c.whole.result _ _
    (λ found same_blocks stored pool held is tell.
    let before = told_before _ _ _ _ both third tell in
    let same : c.in_ok-set.set ≡ is.set = c.in_ok-set.ensures.value stored is.set held is.is_set (told_before _ _ _ _ first second before) in
    let are = are_of_root stored _ _ pool _ is same in
    same_blocks ∙ (c.in_ok-found.ensures
    ∙ parts_are c.args.root.now c.in_ok-own.own.items (blocks_of_set is.set is.own is.blocks) c.deref.result.now (volume_blocks_of is)
    (c.in_ok-own.ensures.blocks stored is.objects is.own is.blocks (first.keeps stored held) are (told_after _ _ _ _ first second before)
    ∙ ap (λ (set : ObjectSet). blocks_of_set set is.own is.blocks) same)
    (c.deref.ensures.value
    ∙ c.in_ok-below.ensures.blocks stored is.objects is.own is.blocks is.datasets is.readings is.rows (both.keeps stored held) are is.directory is.chains
    (rows_some is.datasets is.readings is.rows pool.volumes is.names.volumes) (told_after _ _ _ _ both third tell))))
    c.whole.ensures.same

pub returns-clause-count : goal.returns-clause-count
returns-clause-count g c =
    let first = c.in_ok-set.ensures.reads in
    let both = reads_on _ _ _ _ first c.in_ok-own.ensures.reads in
    IfOk-weaker c.whole.result _ _
    (λ found same_blocks. reached_by _ _ _ _ _ _ _ _ _ _ _ c.in_ok-own.own.items c.in_ok-below.below.items found.items c.in_ok-set.ensures.found c.in_ok-set.ensures.count first both
    c.in_ok-own.ensures.count c.in_ok-below.ensures.count
    (same_blocks ∙ c.in_ok-found.ensures ∙ ap (λ below. c.args.root.now ∷ c.in_ok-own.own.items ++ below) c.deref.ensures.value))
    c.whole.ensures.same

pub returns-clause-refused : goal.returns-clause-refused
returns-clause-refused g c =
    let first = c.in_ok-set.ensures.reads in
    let both = reads_on _ _ _ _ first c.in_ok-own.ensures.reads in
    IfErr-weaker c.whole.result _ _
    (λ refusal. ⊎_elim (λ memory. inl memory) (λ (bad, twice). inr (inr (inr (inr (
      bad,
      record {
        found = c.in_ok-found.found.items;
        reached = reached_by _ _ _ _ _ _ _ _ _ _ _ c.in_ok-own.own.items c.in_ok-below.below.items c.in_ok-found.found.items c.in_ok-set.ensures.found c.in_ok-set.ensures.count first both
            c.in_ok-own.ensures.count c.in_ok-below.ensures.count
            (c.in_ok-found.ensures ∙ ap (λ below. c.args.root.now ∷ c.in_ok-own.own.items ++ below) c.deref.ensures.value);
        twice = twice;
      },
    ))))))
    c.whole.ensures.refused

pub returns-clause-known : goal.returns-clause-known
returns-clause-known g c =
    let first = c.in_ok-set.ensures.reads in
    let second = c.in_ok-own.ensures.reads in
    let both = reads_on _ _ _ _ first second in
    let third = c.in_ok-below.ensures.reads in
    IfErr-weaker c.whole.result _ _
    (λ refusal why stored pool held is once long tell.
    let before = told_before _ _ _ _ both third tell in
    let same : c.in_ok-set.set ≡ is.set = c.in_ok-set.ensures.value stored is.set held is.is_set (told_before _ _ _ _ first second before) in
    let are = are_of_root stored _ _ pool _ is same in
    let found_is : c.in_ok-found.found.items ≡ reach_of is =
    c.in_ok-found.ensures ∙ parts_are c.args.root.now c.in_ok-own.own.items (blocks_of_set is.set is.own is.blocks) c.deref.result.now (volume_blocks_of is)
    (c.in_ok-own.ensures.blocks stored is.objects is.own is.blocks (first.keeps stored held) are (told_after _ _ _ _ first second before)
    ∙ ap (λ (set : ObjectSet). blocks_of_set set is.own is.blocks) same)
    (c.deref.ensures.value
    ∙ c.in_ok-below.ensures.blocks stored is.objects is.own is.blocks is.datasets is.readings is.rows (both.keeps stored held) are is.directory is.chains
    (rows_some is.datasets is.readings is.rows pool.volumes is.names.volumes) (told_after _ _ _ _ both third tell)) in
    ⊎_elim (λ memory. inl memory) (λ bad. absurd (bad.1 (subst (λ blocks. AreDistinct blocks) (sym found_is) once))) why)
    c.whole.ensures.refused
