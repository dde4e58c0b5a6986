use Rattle.std.proofs.Common.{◌≡◌, ◌∙◌, inl, inr, ⊎_elim, ℕ, List, Option, Contains, length, sym, ap, subst, arith}
use Rattle.std.specs.List.Sorted.{IsStrictlyIncreasing}
use Rattle.std.proofs.lemmas.Bool.Decides.{nat_tests}
use Rattle.std.proofs.lemmas.List.Elements.{All-weaker}
use Rattle.std.proofs.lemmas.Result.{IfOk-weaker, IfErr-weaker}
use Rattle.block_store.proofs.Steps.{reads_on}
use Rattle.block_store.specs.Spaces.{VdevSpace}
use Rattle.dnode.specs.declared.object_set.ObjectSet.{ObjectSet}
use Rattle.dnode_tree.proofs.FurtherReads.{told_before, told_after}
use Rattle.dnode_tree.proofs.Refusing.{ok_both}
use Rattle.dnode_tree.specs.declared.writes.BlockWrite.{BlockWrite}
use Rattle.volume.specs.Reading.{IsFound, IsWayRead}
use Rattle.volume.specs.Volume.{HasData}
use Rattle.volume.specs.Writing.{IsChanged, IsCovered}
use Rattle.volume.proofs.Ids.{are_blocks, same_ids, empty_ids, none_changed, items_below, after_is_with}
use Rattle.volume.proofs.Refusing.{passed_on}
use Rattle.block_store.proofs.Causes.{caused_behind_reads}
use Rattle.volume.proofs.volume.VolumeSet.changed_blocks.Goals as goal

pub returns-then-is_empty-clause-changed : goal.returns-then-is_empty-clause-changed
returns-then-is_empty-clause-changed g c =
    let none : length c.in_ok-ids.ids.items ≡ 0 = grind (arith, nat_tests, c.is_empty.ensures, c.if-is_empty.true) in
    same_ids c.new.result.items c.in_ok-ids.ids.items (IsChanged c.args.self.now c.args.changes.now.name.now c.args.changes.now.items.now.writes)
    (empty_ids c.new.result.items c.in_ok-ids.ids.items c.new.ensures.items none) c.in_ok-ids.ensures.ids

pub returns-then-is_empty-clause-value : goal.returns-then-is_empty-clause-value
returns-then-is_empty-clause-value g c = λ stored volume held named writable is tell.
    let none : length c.in_ok-ids.ids.items ≡ 0 = grind (arith, nat_tests, c.is_empty.ensures, c.if-is_empty.true) in
    after_is_with c.args.self.now volume c.args.changes.now.name.now c.args.changes.now.items.now.writes c.new.result.items named is.has.data_is.size_is
    (same_ids c.new.result.items c.in_ok-ids.ids.items (IsChanged c.args.self.now c.args.changes.now.name.now c.args.changes.now.items.now.writes)
    (empty_ids c.new.result.items c.in_ok-ids.ids.items c.new.ensures.items none) c.in_ok-ids.ensures.ids)
    (λ k d within. absurd (omega (arith, within, ap length c.new.ensures.items)))

pub returns-in_err-set-clause-idle : goal.returns-in_err-set-clause-idle
returns-in_err-set-clause-idle g c = λ none.
    let empty : length c.in_ok-ids.ids.items ≡ 0 = none_changed c.args.self.now c.args.changes.now.name.now c.args.changes.now.items.now.writes c.in_ok-ids.ids.items c.in_ok-ids.ensures.ids none in
    absurd (grind (arith, nat_tests, c.is_empty.ensures, c.if-is_empty.false, c.in_ok-ids.ids.ok.0, empty))

pub returns-in_err-set-clause-refused : goal.returns-in_err-set-clause-refused
returns-in_err-set-clause-refused g c = passed_on _ _ _ c.from_residual-in_err-set.ensures.1 (inr (inl c.in_err-set.ensures.refused))

pub returns-in_err-set-clause-known : goal.returns-in_err-set-clause-known
returns-in_err-set-clause-known g c =
    passed_on _ _ _ c.from_residual-in_err-set.ensures.1 (λ stored array held is tell. c.in_err-set.ensures.known stored _ array held is (omega arith) tell)

pub blocks_of-requires-clause-ids : goal.blocks_of-requires-clause-ids
blocks_of-requires-clause-ids g c =
    items_below c.args.self.now c.args.changes.now.name.now c.args.changes.now.items.now.writes c.in_ok-ids.ids.items c.deref.result.now c.deref.ensures.value c.in_ok-ids.ensures.ids

pub returns-clause-reads : goal.returns-clause-reads
returns-clause-reads g c = reads_on _ _ _ _ c.in_ok-set.ensures.reads c.blocks_of.ensures.reads

pub returns-clause-idle : goal.returns-clause-idle
returns-clause-idle g c = λ none.
    let empty : length c.in_ok-ids.ids.items ≡ 0 = none_changed c.args.self.now c.args.changes.now.name.now c.args.changes.now.items.now.writes c.in_ok-ids.ids.items c.in_ok-ids.ensures.ids none in
    absurd (grind (arith, nat_tests, c.is_empty.ensures, c.if-is_empty.false, c.in_ok-ids.ids.ok.0, empty))

pub returns-clause-blocks : goal.returns-clause-blocks
returns-clause-blocks g c =
    IfOk-weaker c.blocks_of.result _ _
    (λ blocks is. are_blocks c.args.self.now blocks.items c.deref.result.now is.0 (subst IsStrictlyIncreasing (sym c.deref.ensures.value) c.in_ok-ids.ensures.once)
    (items_below c.args.self.now c.args.changes.now.name.now c.args.changes.now.items.now.writes c.in_ok-ids.ids.items c.deref.result.now c.deref.ensures.value c.in_ok-ids.ensures.ids) is.1)
    (ok_both c.blocks_of.result _ _ c.blocks_of.ensures.ids c.blocks_of.ensures.whole)

pub returns-clause-changed : goal.returns-clause-changed
returns-clause-changed g c =
    IfOk-weaker c.blocks_of.result _ _
    (λ blocks is. same_ids blocks.items c.in_ok-ids.ids.items (IsChanged c.args.self.now c.args.changes.now.name.now c.args.changes.now.items.now.writes) (is ∙ c.deref.ensures.value) c.in_ok-ids.ensures.ids)
    c.blocks_of.ensures.ids

pub returns-clause-value : goal.returns-clause-value
returns-clause-value g c =
    let first = c.in_ok-set.ensures.reads in
    let rest = c.blocks_of.ensures.reads in
    IfOk-weaker c.blocks_of.result _ _
    (λ blocks both stored volume held named writable is tell.
    after_is_with c.args.self.now volume c.args.changes.now.name.now c.args.changes.now.items.now.writes blocks.items named is.has.data_is.size_is
    (same_ids blocks.items c.in_ok-ids.ids.items (IsChanged c.args.self.now c.args.changes.now.name.now c.args.changes.now.items.now.writes) (both.0 ∙ c.deref.ensures.value) c.in_ok-ids.ensures.ids)
    (both.1 stored volume (first.keeps stored held) named writable
    (subst (λ (set : ObjectSet). HasData stored _ set _ _ volume.bytes) (sym (c.in_ok-set.ensures.value stored _ _ held is (omega arith) (told_before _ _ _ _ first rest tell))) is.has)
    (told_after _ _ _ _ first rest tell)))
    (ok_both c.blocks_of.result _ _ c.blocks_of.ensures.ids c.blocks_of.ensures.value)

pub returns-clause-found : goal.returns-clause-found
returns-clause-found g c =
    IfOk-weaker c.blocks_of.result _ _
    (λ blocks found.
    All-weaker
    (λ (block : BlockWrite). ¬ IsCovered c.args.self.now c.args.changes.now.name.now c.args.changes.now.items.now.writes block.id
    → (found : Option (List ℕ)) × IsFound c.open.new.store.spaces c.args.self.now c.in_ok-set.set block.id found)
    (λ (block : BlockWrite). ¬ IsCovered c.args.self.now c.args.changes.now.name.now c.args.changes.now.items.now.writes block.id
    → IsWayRead c.args.store.now.spaces c.args.self.now c.args.birth block.id)
    (λ block is none. let way = is none in (
      c.in_ok-set.set,
      c.in_ok-set.ensures.found,
      way.0,
      subst (λ (spaces : List VdevSpace). IsFound spaces c.args.self.now c.in_ok-set.set block.id way.0) (ap (λ store. store.spaces) c.in_ok-set.ensures.reads.rest) way.1,
    )) blocks.items found)
    c.blocks_of.ensures.found

pub returns-clause-judged : goal.returns-clause-judged
returns-clause-judged g c = IfOk-weaker c.blocks_of.result _ _ (λ blocks ids some. (c.in_ok-set.set, c.in_ok-set.ensures.found)) c.blocks_of.ensures.ids

pub returns-clause-refused : goal.returns-clause-refused
returns-clause-refused g c =
    IfErr-weaker c.blocks_of.result _ _
    (λ refusal why. ⊎_elim (λ memory. inl memory)
    (λ unread. inr (inr (record {
      set = c.in_ok-set.set;
      is_set = c.in_ok-set.ensures.found;
      mid = c.open.new.store;
      before = c.in_ok-set.ensures.reads;
      unread = record {
        id = unread.id;
        is_wanted = ((c.in_ok-ids.ensures.ids unread.id).0 (subst (λ (xs : List ℕ). Contains xs unread.id) c.deref.ensures.value unread.is_wanted.0), unread.is_wanted.1);
        mid = unread.mid;
        before = unread.before;
        why = unread.why;
      };
    }))) why)
    c.blocks_of.ensures.refused

pub returns-clause-known : goal.returns-clause-known
returns-clause-known g c =
    let first = c.in_ok-set.ensures.reads in
    let rest = c.blocks_of.ensures.reads in
    IfErr-weaker c.blocks_of.result _ _
    (λ refusal known stored array held is tell.
    known stored array (first.keeps stored held)
    (subst (λ (set : ObjectSet). HasData stored _ set _ _ array) (sym (c.in_ok-set.ensures.value stored _ _ held is (omega arith) (told_before _ _ _ _ first rest tell))) is.has)
    (told_after _ _ _ _ first rest tell))
    c.blocks_of.ensures.known

pub returns-in_err-set-clause-caused : goal.returns-in_err-set-clause-caused
returns-in_err-set-clause-caused g c = passed_on _ _ _ c.from_residual-in_err-set.ensures.1 c.in_err-set.ensures.caused

pub returns-clause-caused : goal.returns-clause-caused
returns-clause-caused g c = IfErr-weaker c.blocks_of.result _ _ (λ refusal. caused_behind_reads _ _ _ _ refusal c.in_ok-set.ensures.reads) c.blocks_of.ensures.caused
