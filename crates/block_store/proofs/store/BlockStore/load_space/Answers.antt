use Rattle.std.proofs.Common.{◌≡◌, ◌<◌, List, length, Some, sym, ap, subst, ◌∙◌}
use Rattle.std.specs.Prelude.{slice_set, IsTrue}
use Rattle.std.specs.Bool.{OnTrue}
use Rattle.std.specs.List.{slice_get}
use Rattle.std.proofs.lemmas.Option.{slice_get_within}
use Rattle.metaslab.specs.Maps.{AreWhollyFreeOf}
use Rattle.block_store.specs.Maps.{HasMetaslab, HoldsIn, LoadsIn}
use Rattle.block_store.specs.Spaces.{VdevSpace}
use Rattle.block_store.specs.Store.{Store}
use Rattle.block_store.proofs.Choosing.{at_item}
use Rattle.block_store.proofs.Loading.{into_spaces, out_of_spaces, loads_in, on_false_weaker, set_same_item}
use Rattle.block_store.proofs.Taking.{laid_out_too, map-set_same}
use Rattle.block_store.proofs.store.BlockStore.load_space.Goals as goal

pub invariant_of-self : goal.invariant_of-self
invariant_of-self g c =
    let spaces = c.self.inside.spaces.items in
    let there : HasMetaslab spaces c.args.vdev c.args.metaslab = subst (λ (s : Store). HasMetaslab s.spaces c.args.vdev c.args.metaslab) (sym c.self.view_is) c.requires in
    let within : c.args.vdev < length spaces = slice_get_within spaces c.args.vdev there.space there.found in
    let at : slice_get spaces c.args.vdev ≡ Some c.index_mut.result.now = at_item spaces c.args.vdev c.index_mut.result.now within c.index_mut.ensures.value in
    record {
      laid_out = laid_out_too c.self.inside.set.disks.starts spaces _ (map-set_same (λ s. s.shape) spaces c.args.vdev c.index_mut.result.now _ at c.load.ensures.shape) c.self.invariant.laid_out;
    }

pub returns-clause-free : goal.returns-clause-free
returns-clause-free g c =
    let spaces = c.self.inside.spaces.items in
    let there : HasMetaslab spaces c.args.vdev c.args.metaslab = subst (λ (s : Store). HasMetaslab s.spaces c.args.vdev c.args.metaslab) (sym c.self.view_is) c.requires in
    let within : c.args.vdev < length spaces = slice_get_within spaces c.args.vdev there.space there.found in
    let at : slice_get spaces c.args.vdev ≡ Some c.index_mut.result.now = at_item spaces c.args.vdev c.index_mut.result.now within c.index_mut.ensures.value in
    let free = AreWhollyFreeOf c.args.free.sectors in
    subst (λ (s : Store). (IsTrue c.load.result → HoldsIn free s.spaces c.args.vdev c.args.metaslab) × (HoldsIn free s.spaces c.args.vdev c.args.metaslab → IsTrue c.load.result)) c.self.view_is (
      λ yes. into_spaces free spaces c.args.vdev c.args.metaslab c.index_mut.result.now at (c.load.ensures.free.0 yes),
      λ holds. c.load.ensures.free.1 (out_of_spaces free spaces c.args.vdev c.args.metaslab c.index_mut.result.now at holds),
    )

pub returns-clause-loaded : goal.returns-clause-loaded
returns-clause-loaded g c =
    let spaces = c.self.inside.spaces.items in
    let there : HasMetaslab spaces c.args.vdev c.args.metaslab = subst (λ (s : Store). HasMetaslab s.spaces c.args.vdev c.args.metaslab) (sym c.self.view_is) c.requires in
    let within : c.args.vdev < length spaces = slice_get_within spaces c.args.vdev there.space there.found in
    let at : slice_get spaces c.args.vdev ≡ Some c.index_mut.result.now = at_item spaces c.args.vdev c.index_mut.result.now within c.index_mut.ensures.value in
    let is = c.load.ensures in
    subst (λ (s : Store). OnTrue c.load.result (LoadsIn s.spaces c.args.vdev c.args.metaslab c.args.free (slice_set spaces c.args.vdev c.load.new.self))) c.self.view_is
    (loads_in spaces c.args.vdev c.args.metaslab c.args.free c.index_mut.result.now c.load.new.self c.load.result at is.free.0 is.size is.loaded is.shape)

pub returns-clause-left : goal.returns-clause-left
returns-clause-left g c =
    let spaces = c.self.inside.spaces.items in
    let there : HasMetaslab spaces c.args.vdev c.args.metaslab = subst (λ (s : Store). HasMetaslab s.spaces c.args.vdev c.args.metaslab) (sym c.self.view_is) c.requires in
    let within : c.args.vdev < length spaces = slice_get_within spaces c.args.vdev there.space there.found in
    let at : slice_get spaces c.args.vdev ≡ Some c.index_mut.result.now = at_item spaces c.args.vdev c.index_mut.result.now within c.index_mut.ensures.value in
    let store : List VdevSpace → Store = λ xs. record {
      disks = c.self.inside.set.disks;
      spaces = xs;
      out = c.self.inside.set.out;
      spans = c.self.inside.set.spans;
      due = c.self.inside.set.due;
      stray = c.self.inside.stray;
    } in
    let kept : (c.load.new.self ≡ c.index_mut.result.now) → store (slice_set spaces c.args.vdev c.load.new.self) ≡ c.args.self.now =
    λ same. ap (λ (x : VdevSpace). store (slice_set spaces c.args.vdev x)) same ∙ ap store (set_same_item spaces c.args.vdev c.index_mut.result.now at) ∙ c.self.view_is in
    on_false_weaker c.load.result kept c.load.ensures.left
