use Rattle.std.proofs.Common.{◌≡◌, ◌∙◌, ◌∷◌, ◌≤◌, [], List, inl, inr, ⊎_elim, refl, sym, ap, subst, arith}
use Rattle.std.proofs.lemmas.List.{append-nil}
use Rattle.block_pointer.specs.declared.block.Block.{Block}
use Rattle.block_store.proofs.Steps.{reads_on}
use Rattle.block_store.specs.Spaces.{VdevSpace}
use Rattle.dnode.specs.declared.object_set.ObjectSet.{ObjectSet}
use Rattle.dnode_tree.proofs.FurtherReads.{told_before, told_after}
use Rattle.dnode_tree.proofs.Refusing.{passed_on}
use Rattle.dnode_tree.specs.Rewriting.{AreDistinct}
use Rattle.object_table.proofs.Tables.{spaces_stay}
use Rattle.objset.specs.Within.{blocks_of_objects, blocks_of_set, reads_of, IsSetWalked}
use Rattle.dataset_snapshots.specs.Reach.{meta_blocks_of}
use Rattle.dataset_snapshots.proofs.BlocksOnce.{back_once, set_once}
use Rattle.dataset_snapshots.proofs.Datasets.{are_of_root}
use Rattle.dataset_snapshots.proofs.Reaching.{reads_few}
use Rattle.dataset_snapshots.proofs.walks.walk_meta.Goals as goal

pub returns-in_err-set-clause-refused : goal.returns-in_err-set-clause-refused
returns-in_err-set-clause-refused g c = passed_on _ _ _ c.from_residual.ensures.1 (inr (inl c.in_err-set.ensures.refused))

pub returns-in_err-set-clause-known : goal.returns-in_err-set-clause-known
returns-in_err-set-clause-known g c =
    passed_on _ _ _ c.from_residual.ensures.1 (λ stored pool held is once long tell.
    c.in_err-set.ensures.known stored is.set held is.is_set is.kind (omega (arith, long)) tell)

pub returns-in_err-own-clause-reads : goal.returns-in_err-own-clause-reads
returns-in_err-own-clause-reads g c = reads_on _ _ _ _ c.in_ok-set.ensures.reads c.in_err-own.ensures.reads

pub returns-in_err-own-clause-refused : goal.returns-in_err-own-clause-refused
returns-in_err-own-clause-refused g c =
    passed_on _ _ _ c.from_residual-in_err-own.ensures.1 (inr (inr (inl (record {
      set = c.in_ok-set.set;
      meta = c.in_ok-set.ensures.found;
      left = c.count_meta.new.left;
      count = omega (arith, c.in_ok-set.ensures.count);
      mid = c.count_meta.new.store;
      first = c.in_ok-set.ensures.reads;
      why = c.in_err-own.ensures.refused;
    }))))

pub returns-in_err-own-clause-known : goal.returns-in_err-own-clause-known
returns-in_err-own-clause-known g c =
    let first = c.in_ok-set.ensures.reads in
    let rest = c.in_err-own.ensures.reads in
    passed_on _ _ _ c.from_residual-in_err-own.ensures.1 (λ stored pool held is once long tell.
    let same : c.in_ok-set.set ≡ is.set = c.in_ok-set.ensures.value stored is.set held is.is_set (told_before _ _ _ _ first rest tell) in
    let own : List Block = blocks_of_set is.set is.own is.blocks in
    let each = set_once stored c.args.root.now.birth is.set is.objects is.own is.blocks is.are (back_once (c.args.root.now ∷ []) own once) in
    let few = reads_few is.own (blocks_of_objects is.set is.blocks) in
    c.in_err-own.ensures.known stored is.objects is.own is.blocks (first.keeps stored held) (are_of_root stored _ _ pool _ is same) each
    (subst (λ (set : ObjectSet). reads_of is.own (blocks_of_objects set is.blocks) ≤ c.count_meta.new.left) (sym same) (omega (arith, few, c.in_ok-set.ensures.count, long)))
    (told_after _ _ _ _ first rest tell))

pub returns-in_err-found-clause-reads : goal.returns-in_err-found-clause-reads
returns-in_err-found-clause-reads g c = reads_on _ _ _ _ c.in_ok-set.ensures.reads c.in_ok-own.ensures.reads

pub returns-in_err-found-clause-refused : goal.returns-in_err-found-clause-refused
returns-in_err-found-clause-refused g c = passed_on _ _ _ c.from_residual-in_err-found.ensures.1 (inl refl)

pub returns-in_err-found-clause-known : goal.returns-in_err-found-clause-known
returns-in_err-found-clause-known g c = passed_on _ _ _ c.from_residual-in_err-found.ensures.1 (λ stored pool held is once long tell. inl refl)

pub returns-in_err-blocks-clause-reads : goal.returns-in_err-blocks-clause-reads
returns-in_err-blocks-clause-reads g c = reads_on _ _ _ _ c.in_ok-set.ensures.reads c.in_ok-own.ensures.reads

pub returns-in_err-blocks-clause-refused : goal.returns-in_err-blocks-clause-refused
returns-in_err-blocks-clause-refused g c =
    let first = c.in_ok-set.ensures.reads in
    passed_on _ _ _ c.from_residual-in_err-blocks.ensures.1 (⊎_elim (λ memory. inl memory) (λ (bad, twice). inr (inr (inr (
      bad,
      record {
        set = c.in_ok-set.set;
        found = c.in_ok-found.found.items;
        walked = record {
          meta = c.in_ok-set.ensures.found;
          left = c.count_meta.new.left;
          count = omega (arith, c.in_ok-set.ensures.count);
          own = c.in_ok-own.own.items;
          walked = subst (λ (spaces : List VdevSpace). IsSetWalked spaces c.in_ok-set.set c.args.root.now.birth c.count_meta.new.left c.walk_within.new.left c.in_ok-own.own.items)
              (spaces_stay _ _ _ first) c.in_ok-own.ensures.count;
          are = c.in_ok-found.ensures ∙ ap (λ (bs : List Block). c.args.root.now ∷ bs) (append-nil c.in_ok-own.own.items);
        };
        twice = twice;
      },
    )))) c.in_err-blocks.ensures.refused)

pub returns-in_err-blocks-clause-known : goal.returns-in_err-blocks-clause-known
returns-in_err-blocks-clause-known g c =
    let first = c.in_ok-set.ensures.reads in
    let second = c.in_ok-own.ensures.reads in
    passed_on _ _ _ c.from_residual-in_err-blocks.ensures.1 (λ stored pool held is once long tell.
    let same : c.in_ok-set.set ≡ is.set = c.in_ok-set.ensures.value stored is.set held is.is_set (told_before _ _ _ _ first second tell) in
    let are = are_of_root stored _ _ pool _ is same in
    let found_is : c.in_ok-found.found.items ≡ meta_blocks_of is =
    c.in_ok-found.ensures ∙ ap (λ (bs : List Block). c.args.root.now ∷ bs) (append-nil c.in_ok-own.own.items
    ∙ (c.in_ok-own.ensures.blocks stored is.objects is.own is.blocks (first.keeps stored held) are (told_after _ _ _ _ first second tell)
    ∙ ap (λ (set : ObjectSet). blocks_of_set set is.own is.blocks) same)) in
    ⊎_elim (λ memory. inl memory) (λ bad. absurd (bad.1 (subst (λ blocks. AreDistinct blocks) (sym found_is) once))) c.in_err-blocks.ensures.refused)

pub returns-clause-reads : goal.returns-clause-reads
returns-clause-reads g c = reads_on _ _ _ _ c.in_ok-set.ensures.reads c.in_ok-own.ensures.reads

pub returns-clause-value : goal.returns-clause-value
returns-clause-value g c = λ stored pool held is tell.
    let first = c.in_ok-set.ensures.reads in
    let second = c.in_ok-own.ensures.reads in
    let same : c.in_ok-set.set ≡ is.set = c.in_ok-set.ensures.value stored is.set held is.is_set (told_before _ _ _ _ first second tell) in
    let are = are_of_root stored _ _ pool _ is same in (
      same,
      c.in_ok-blocks.ensures.same ∙ (c.in_ok-found.ensures ∙ ap (λ (bs : List Block). c.args.root.now ∷ bs) (append-nil c.in_ok-own.own.items
          ∙ (c.in_ok-own.ensures.blocks stored is.objects is.own is.blocks (first.keeps stored held) are (told_after _ _ _ _ first second tell)
          ∙ ap (λ (set : ObjectSet). blocks_of_set set is.own is.blocks) same))),
    )

pub returns-clause-walked : goal.returns-clause-walked
returns-clause-walked g c = record {
  meta = c.in_ok-set.ensures.found;
  left = c.count_meta.new.left;
  count = omega (arith, c.in_ok-set.ensures.count);
  own = c.in_ok-own.own.items;
  walked = subst (λ (spaces : List VdevSpace). IsSetWalked spaces c.in_ok-set.set c.args.root.now.birth c.count_meta.new.left c.walk_within.new.left c.in_ok-own.own.items)
      (spaces_stay _ _ _ c.in_ok-set.ensures.reads) c.in_ok-own.ensures.count;
  are = c.in_ok-blocks.ensures.same ∙ (c.in_ok-found.ensures ∙ ap (λ (bs : List Block). c.args.root.now ∷ bs) (append-nil c.in_ok-own.own.items));
}
