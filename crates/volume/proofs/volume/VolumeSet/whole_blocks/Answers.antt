use Rattle.std.proofs.Common.{◌≡◌, ◌<◌, ◌/◌, inl, inr, ⊎_elim, ℕ, List, Option, Vec, ◌∙◌, subst}
use Rattle.std.specs.declared.alloc.Global.{Global}
use Rattle.std.specs.Prelude.{IsSomeAnd}
use Rattle.std.proofs.lemmas.List.Elements.{All-contains}
use Rattle.std.proofs.lemmas.Result.{IfOk-weaker, IfErr-weaker}
use Rattle.block_store.proofs.Steps.{reads_none}
use Rattle.dnode_tree.proofs.Getting.{zip_weaker}
use Rattle.dnode_tree.specs.Ways.{bytes_of}
use Rattle.volume.specs.Reading.{IsFound}
use Rattle.volume.specs.Volume.{HasBytes, part}
use Rattle.volume.proofs.BlockData.{same_bytes, block_has, block_len, no_clash}
use Rattle.volume.proofs.Needed.{zip_through, zip_long, zip_left, zip_right}
use Rattle.dnode_tree.proofs.Refusing.{caused_by_memory, caused_by_pointer}
use Rattle.volume.proofs.Refusing.{passed_on}
use Rattle.volume.proofs.volume.VolumeSet.whole_blocks.Goals as goal

pub returns-in_err-found-clause-refused : goal.returns-in_err-found-clause-refused
returns-in_err-found-clause-refused g c =
    passed_on _ _ _ c.from_residual.ensures.1
    (⊎_elim (λ memory. inl memory) (λ why. inr (record {
      id = why.0;
      is_wanted = why.1;
      mid = c.args.store.now;
      before = reads_none c.args.store.now c.args.missing.now;
      why = inl why.2;
    })) c.in_err-found.ensures.refused)

pub returns-in_err-found-clause-known : goal.returns-in_err-found-clause-known
returns-in_err-found-clause-known g c =
    passed_on _ _ _ c.from_residual.ensures.1
    (λ stored array held has tell below.
    ⊎_elim (λ loss. loss) (λ none. no_clash (has.objects 1) has.data_is.there has.data_is.there_is none.1)
    (c.in_err-found.ensures.known stored has.objects has.own has.blocks held has.are tell))

pub returns-clause-count : goal.returns-clause-count
returns-clause-count g c =
    IfOk-weaker c.all_whole.result _ _
    (λ blocks are. zip_long _ c.in_ok-found.found.items blocks.items are ∙ zip_long _ c.args.ids.now c.in_ok-found.found.items c.in_ok-found.ensures.found)
    c.all_whole.ensures.value

pub returns-clause-value : goal.returns-clause-value
returns-clause-value g c =
    IfOk-weaker c.all_whole.result _ _
    (λ blocks are stored array held has tell below.
    zip_weaker (λ id. id < c.args.self.now.size / c.args.self.now.block_size) _ _ c.args.ids.now blocks.items
    (λ id bytes low is. is low) below
    (zip_through
    (λ id (block : Option (Vec ℕ Global)). IsSomeAnd (has.objects 1) (λ it. bytes_of block ≡ it.array id))
    (λ (block : Option (Vec ℕ Global)) (bytes : Vec ℕ Global). HasBytes c.args.self.now.block_size (bytes_of block) bytes.items)
    (λ id (bytes : Vec ℕ Global). id < c.args.self.now.size / c.args.self.now.block_size → bytes.items ≡ part array c.args.self.now.block_size id)
    c.args.ids.now c.in_ok-found.found.items blocks.items
    (λ id block bytes has_it is low. same_bytes c.args.self.now.block_size (bytes_of block) bytes.items _ is (block_has stored _ _ _ _ array has (bytes_of block) id has_it low))
    (c.in_ok-found.ensures.value stored has.objects has.own has.blocks held has.are tell) are))
    c.all_whole.ensures.value

pub returns-clause-found : goal.returns-clause-found
returns-clause-found g c =
    IfOk-weaker c.all_whole.result _ _
    (λ blocks are. zip_left _ (λ id. (found : Option (List ℕ)) × IsFound c.args.store.now.spaces c.args.self.now c.args.set.now id found) c.args.ids.now c.in_ok-found.found.items
    (λ id block found. (bytes_of block, found)) c.in_ok-found.ensures.found)
    c.all_whole.ensures.value

pub returns-clause-refused : goal.returns-clause-refused
returns-clause-refused g c =
    IfErr-weaker c.all_whole.result _ _
    (λ refusal why. ⊎_elim (λ memory. inl memory) (λ bad.
    let there = zip_right _ c.args.ids.now c.in_ok-found.found.items bad.1.0 bad.1.1 c.in_ok-found.ensures.found bad.1.2 bad.1.3 in
    inr (record {
      id = there.0;
      is_wanted = there.1;
      mid = c.args.store.now;
      before = reads_none c.args.store.now c.args.missing.now;
      why = inr (bad.0, (bad.1.4.0, subst (λ (found : Option (List ℕ)). IsFound c.args.store.now.spaces c.args.self.now c.args.set.now there.0 found) bad.1.4.1 there.2, bad.1.4.2));
    })) why)
    c.all_whole.ensures.refused

pub returns-clause-known : goal.returns-clause-known
returns-clause-known g c =
    IfErr-weaker c.all_whole.result _ _
    (λ refusal why stored array held has tell below.
    ⊎_elim (λ memory. inl memory)
    (λ bad.
    let there = zip_right _ c.args.ids.now c.in_ok-found.found.items bad.1.0 bad.1.1
    (c.in_ok-found.ensures.value stored has.objects has.own has.blocks held has.are tell) bad.1.2 bad.1.3 in
    absurd (bad.1.4.2 (block_len stored _ _ _ _ array bad.1.4.0 has (bytes_of bad.1.1) there.0 there.2
    (All-contains (λ id. id < c.args.self.now.size / c.args.self.now.block_size) c.args.ids.now there.0 below there.1) bad.1.4.1)))
    why)
    c.all_whole.ensures.refused

pub returns-in_err-found-clause-caused : goal.returns-in_err-found-clause-caused
returns-in_err-found-clause-caused g c = passed_on _ _ _ c.from_residual.ensures.1 c.in_err-found.ensures.caused

pub returns-clause-caused : goal.returns-clause-caused
returns-clause-caused g c = IfErr-weaker c.all_whole.result _ _ (λ refusal. ⊎_elim (caused_by_memory _ _ _ refusal) (λ bad. caused_by_pointer _ _ _ refusal bad.0)) c.all_whole.ensures.refused
