use Rattle.std.proofs.Common.{◌≡◌, ◌≤◌, ◌∷◌, ◌∙◌, List, inl, inr, refl, sym, ap, subst, arith}
use Rattle.block_store.proofs.Steps.{reads_on}
use Rattle.block_store.specs.Spaces.{VdevSpace}
use Rattle.block_store.specs.Store.{Store}
use Rattle.dnode.specs.declared.object_set.ObjectSet.{ObjectSet}
use Rattle.dnode_tree.proofs.FurtherReads.{told_before, told_after}
use Rattle.objset.specs.Objects.{AreObjects}
use Rattle.objset.specs.Within.{blocks_of_objects, blocks_of_set, reads_of, IsSetWalked}
use Rattle.volume.proofs.Refusing.{passed_on}
use Rattle.block_store.proofs.Causes.{caused_behind_reads}
use Rattle.volume.proofs.volume.VolumeSet.walk_within.Goals as goal

pub returns-in_err-set-clause-refused : goal.returns-in_err-set-clause-refused
returns-in_err-set-clause-refused g c = passed_on _ _ _ c.from_residual.ensures.1 (inr (inl c.in_err-set.ensures.refused))

pub returns-in_err-set-clause-known : goal.returns-in_err-set-clause-known
returns-in_err-set-clause-known g c =
    passed_on _ _ _ c.from_residual.ensures.1 (λ stored bound array held is le once enough tell.
    c.in_err-set.ensures.known stored bound array held is le (omega (arith, enough)) tell)

pub returns-in_err-below-clause-reads : goal.returns-in_err-below-clause-reads
returns-in_err-below-clause-reads g c = reads_on _ _ _ _ c.in_ok-set.ensures.reads c.in_err-below.ensures.reads

pub returns-in_err-below-clause-refused : goal.returns-in_err-below-clause-refused
returns-in_err-below-clause-refused g c =
    passed_on _ _ _ c.from_residual-in_err-below.ensures.1 (inr (inr (record {
      set = c.in_ok-set.set;
      is_set = c.in_ok-set.ensures.found;
      left = c.count_set.new.left;
      count = omega (arith, c.in_ok-set.ensures.count);
      mid = c.count_set.new.store;
      first = c.in_ok-set.ensures.reads;
      why = c.in_err-below.ensures.refused;
    })))

pub returns-in_err-below-clause-known : goal.returns-in_err-below-clause-known
returns-in_err-below-clause-known g c =
    let first = c.in_ok-set.ensures.reads in
    let rest = c.in_err-below.ensures.reads in
    passed_on _ _ _ c.from_residual-in_err-below.ensures.1 (λ stored bound array held is le once enough tell.
    let same : c.in_ok-set.set ≡ is.set = c.in_ok-set.ensures.value stored bound array held is le (told_before _ _ _ _ first rest tell) in
    c.in_err-below.ensures.known stored is.has.objects is.has.own is.has.blocks (first.keeps stored held)
    (subst (λ (set : ObjectSet). AreObjects stored c.args.self.now.block.birth set is.has.objects is.has.own is.has.blocks) (sym same) is.has.are) once
    (subst (λ (set : ObjectSet). reads_of is.has.own (blocks_of_objects set is.has.blocks) ≤ c.count_set.new.left) (sym same) (omega (arith, enough, c.in_ok-set.ensures.count)))
    (told_after _ _ _ _ first rest tell))

pub returns-in_err-with_first-clause-reads : goal.returns-in_err-with_first-clause-reads
returns-in_err-with_first-clause-reads g c = reads_on _ _ _ _ c.in_ok-set.ensures.reads c.in_ok-below.ensures.reads

pub returns-in_err-with_first-clause-refused : goal.returns-in_err-with_first-clause-refused
returns-in_err-with_first-clause-refused g c = passed_on _ _ _ c.from_residual-in_err-with_first.ensures.1 (inl refl)

pub returns-in_err-with_first-clause-known : goal.returns-in_err-with_first-clause-known
returns-in_err-with_first-clause-known g c =
    passed_on _ _ _ c.from_residual-in_err-with_first.ensures.1 (λ stored bound array held is le once enough tell. inl refl)

pub returns-clause-reads : goal.returns-clause-reads
returns-clause-reads g c = reads_on _ _ _ _ c.in_ok-set.ensures.reads c.in_ok-below.ensures.reads

pub returns-clause-blocks : goal.returns-clause-blocks
returns-clause-blocks g c = λ stored bound array held is le tell.
    let first = c.in_ok-set.ensures.reads in
    let rest = c.in_ok-below.ensures.reads in
    let same : c.in_ok-set.set ≡ is.set = c.in_ok-set.ensures.value stored bound array held is le (told_before _ _ _ _ first rest tell) in
    c.in_ok-with_first.ensures
    ∙ ap (λ blocks. c.args.self.now.block ∷ blocks)
    (c.in_ok-below.ensures.blocks stored is.has.objects is.has.own is.has.blocks (first.keeps stored held)
    (subst (λ (set : ObjectSet). AreObjects stored c.args.self.now.block.birth set is.has.objects is.has.own is.has.blocks) (sym same) is.has.are)
    (told_after _ _ _ _ first rest tell)
    ∙ ap (λ (set : ObjectSet). blocks_of_set set is.has.own is.has.blocks) same)

pub returns-clause-count : goal.returns-clause-count
returns-clause-count g c = record {
  set = c.in_ok-set.set;
  is_set = c.in_ok-set.ensures.found;
  left = c.count_set.new.left;
  count = omega (arith, c.in_ok-set.ensures.count);
  below = c.in_ok-below.below.items;
  walked = subst (λ (spaces : List VdevSpace). IsSetWalked spaces c.in_ok-set.set c.args.self.now.block.birth c.count_set.new.left c.walk_within.new.left c.in_ok-below.below.items)
      (ap (λ (s : Store). s.spaces) c.in_ok-set.ensures.reads.rest) c.in_ok-below.ensures.count;
  once = c.in_ok-below.ensures.once;
  are = c.in_ok-with_first.ensures;
}

pub returns-in_err-set-clause-caused : goal.returns-in_err-set-clause-caused
returns-in_err-set-clause-caused g c = passed_on _ _ _ c.from_residual.ensures.1 c.in_err-set.ensures.caused

pub returns-in_err-below-clause-caused : goal.returns-in_err-below-clause-caused
returns-in_err-below-clause-caused g c = passed_on _ _ _ c.from_residual-in_err-below.ensures.1 (caused_behind_reads _ _ _ _ _ c.in_ok-set.ensures.reads c.in_err-below.ensures.caused)

pub returns-in_err-with_first-clause-caused : goal.returns-in_err-with_first-clause-caused
returns-in_err-with_first-clause-caused g c = passed_on _ _ _ c.from_residual-in_err-with_first.ensures.1 tt
