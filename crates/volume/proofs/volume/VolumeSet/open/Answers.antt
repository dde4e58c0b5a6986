use Rattle.std.proofs.Common.{◌≡◌, ◌∙◌, true, false, true≢false, List, inl, inr, refl, sym, ap, subst}
use Rattle.block_store.proofs.Steps.{reads_on}
use Rattle.block_store.specs.Spaces.{VdevSpace}
use Rattle.dnode.specs.declared.object_set.ObjectSet.{ObjectSet}
use Rattle.dnode_tree.proofs.FurtherReads.{told_before, told_after}
use Rattle.objset.specs.Objects.{AreObjects}
use Rattle.volume.specs.Reading.{IsObjectFound}
use Rattle.volume.proofs.Judging.{data_shape, judged}
use Rattle.volume.proofs.Putting.{set_later}
use Rattle.volume.proofs.Refusing.{passed_on}
use Rattle.block_store.proofs.Causes.{caused_behind_reads}
use Rattle.volume.proofs.volume.VolumeSet.open.Goals as goal

pub returns-in_err-set-clause-refused : goal.returns-in_err-set-clause-refused
returns-in_err-set-clause-refused g c = passed_on _ _ _ c.from_residual.ensures.1 (inl c.in_err-set.ensures.refused)

pub returns-in_err-set-clause-known : goal.returns-in_err-set-clause-known
returns-in_err-set-clause-known g c =
    passed_on _ _ _ c.from_residual.ensures.1 (λ stored bound array held is le tell.
    c.in_err-set.ensures.known stored is.set held (set_later stored bound c.args.birth c.args.self.now.block is.set le is.is_set) tell)

pub returns-then-not-is_of_volume-clause-refused : goal.returns-then-not-is_of_volume-clause-refused
returns-then-not-is_of_volume-clause-refused g c =
    inr (inl (
      refl,
      record {
        set = c.in_ok-set.set;
        is_set = c.in_ok-set.ensures.found;
        why = inl (λ same. let no : false ≡ true = c.if-not-is_of_volume.ensures.1 same in true≢false (sym no));
      },
    ))

pub returns-then-not-is_of_volume-clause-known : goal.returns-then-not-is_of_volume-clause-known
returns-then-not-is_of_volume-clause-known g c = λ stored bound array held is le tell.
    let same : c.in_ok-set.set ≡ is.set =
    c.in_ok-set.ensures.value stored is.set held (set_later stored bound c.args.birth c.args.self.now.block is.set le is.is_set) tell in
    let no : false ≡ true = c.if-not-is_of_volume.ensures.1 (ap (λ set. set.kind) same ∙ is.kind) in
    absurd (true≢false (sym no))

pub returns-in_err-found-clause-reads : goal.returns-in_err-found-clause-reads
returns-in_err-found-clause-reads g c = reads_on _ _ _ _ c.in_ok-set.ensures.reads c.in_err-found.ensures.reads

pub returns-in_err-found-clause-refused : goal.returns-in_err-found-clause-refused
returns-in_err-found-clause-refused g c =
    passed_on _ _ _ c.from_residual-in_err-found.ensures.1 (inr (inr (record {
      set = c.in_ok-set.set;
      is_set = c.in_ok-set.ensures.found;
      mid = c.read_set.new.store;
      before = c.in_ok-set.ensures.reads;
      why = c.in_err-found.ensures.refused;
    })))

pub returns-in_err-found-clause-known : goal.returns-in_err-found-clause-known
returns-in_err-found-clause-known g c =
    let first = c.in_ok-set.ensures.reads in
    let rest = c.in_err-found.ensures.reads in
    passed_on _ _ _ c.from_residual-in_err-found.ensures.1 (λ stored bound array held is le tell.
    let same : c.in_ok-set.set ≡ is.set =
    c.in_ok-set.ensures.value stored is.set held (set_later stored bound c.args.birth c.args.self.now.block is.set le is.is_set) (told_before _ _ _ _ first rest tell) in
    c.in_err-found.ensures.known stored is.has.objects is.has.own is.has.blocks (first.keeps stored held)
    (subst (λ (set : ObjectSet). AreObjects stored c.args.self.now.block.birth set is.has.objects is.has.own is.has.blocks) (sym same) is.has.are)
    (told_after _ _ _ _ first rest tell))

pub returns-then-not-has_shape-clause-reads : goal.returns-then-not-has_shape-clause-reads
returns-then-not-has_shape-clause-reads g c = reads_on _ _ _ _ c.in_ok-set.ensures.reads c.in_ok-found.ensures.reads

pub returns-then-not-has_shape-clause-refused : goal.returns-then-not-has_shape-clause-refused
returns-then-not-has_shape-clause-refused g c =
    inr (inl (
      refl,
      record {
        set = c.in_ok-set.set;
        is_set = c.in_ok-set.ensures.found;
        why = inr (
          c.in_ok-found.found,
          subst (λ (spaces : List VdevSpace). IsObjectFound spaces c.args.self.now c.in_ok-set.set c.in_ok-found.found)
              (ap (λ store. store.spaces) c.in_ok-set.ensures.reads.rest) c.in_ok-found.ensures.found,
          λ is. let no : false ≡ true = c.if-not-has_shape.ensures.1 is in true≢false (sym no),
        );
      },
    ))

pub returns-then-not-has_shape-clause-known : goal.returns-then-not-has_shape-clause-known
returns-then-not-has_shape-clause-known g c = λ stored bound array held is le tell.
    let first = c.in_ok-set.ensures.reads in
    let rest = c.in_ok-found.ensures.reads in
    let same : c.in_ok-set.set ≡ is.set =
    c.in_ok-set.ensures.value stored is.set held (set_later stored bound c.args.birth c.args.self.now.block is.set le is.is_set) (told_before _ _ _ _ first rest tell) in
    let shape = c.in_ok-found.ensures.value stored is.has.objects is.has.own is.has.blocks (first.keeps stored held)
    (subst (λ (set : ObjectSet). AreObjects stored c.args.self.now.block.birth set is.has.objects is.has.own is.has.blocks) (sym same) is.has.are)
    (told_after _ _ _ _ first rest tell) in
    let no : false ≡ true = c.if-not-has_shape.ensures.1 (data_shape c.args.self.now is.has.objects array c.in_ok-found.found is.has.data_is shape) in
    absurd (true≢false (sym no))

pub returns-clause-reads : goal.returns-clause-reads
returns-clause-reads g c = reads_on _ _ _ _ c.in_ok-set.ensures.reads c.in_ok-found.ensures.reads

pub returns-clause-value : goal.returns-clause-value
returns-clause-value g c = λ stored bound array held is le tell.
    c.in_ok-set.ensures.value stored is.set held (set_later stored bound c.args.birth c.args.self.now.block is.set le is.is_set)
    (told_before _ _ _ _ c.in_ok-set.ensures.reads c.in_ok-found.ensures.reads tell)

pub returns-clause-found : goal.returns-clause-found
returns-clause-found g c =
    judged c.args.store.now.spaces c.args.self.now c.args.birth c.in_ok-set.set c.in_ok-found.found c.in_ok-set.ensures.found
    (c.is_of_volume.ensures.0 c.if-not-is_of_volume.false)
    (subst (λ (spaces : List VdevSpace). IsObjectFound spaces c.args.self.now c.in_ok-set.set c.in_ok-found.found) (ap (λ store. store.spaces) c.in_ok-set.ensures.reads.rest) c.in_ok-found.ensures.found)
    (c.has_shape.ensures.0 c.if-not-has_shape.false)

pub returns-in_err-set-clause-caused : goal.returns-in_err-set-clause-caused
returns-in_err-set-clause-caused g c = passed_on _ _ _ c.from_residual.ensures.1 c.in_err-set.ensures.caused

pub returns-in_err-found-clause-caused : goal.returns-in_err-found-clause-caused
returns-in_err-found-clause-caused g c = passed_on _ _ _ c.from_residual-in_err-found.ensures.1 (caused_behind_reads _ _ _ _ _ c.in_ok-set.ensures.reads c.in_err-found.ensures.caused)
