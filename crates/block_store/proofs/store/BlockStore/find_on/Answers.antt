use Rattle.std.proofs.Common.{◌≡◌, ◌<◌, Some, length, slice_get, ap, sym, subst, ◌∙◌, arith}
use Rattle.block_store.specs.Store.{Store}
use Rattle.block_store.proofs.Choosing.{at_item, none_of_one_more}
use Rattle.block_store.proofs.store.BlockStore.find_on.Goals as goal

pub returns-in-Some-clause-some : goal.returns-in-Some-clause-some
returns-in-Some-clause-some g c =
    let within : c.loop-vdev.vdev < length c.self.inside.spaces.items =
    subst (λ (s : Store). c.loop-vdev.vdev < length s.spaces) (sym c.self.view_is) (omega (arith, c.loop-vdev-test.true, c.requires.end)) in
    let at : slice_get c.args.self.now.spaces c.loop-vdev.vdev ≡ Some c.index.result.now =
    ap (λ (s : Store). slice_get s.spaces c.loop-vdev.vdev) (sym c.self.view_is)
    ∙ at_item c.self.inside.spaces.items c.loop-vdev.vdev c.index.result.now within c.index.ensures in
    record {
      there = record {
        room = record { space = c.index.result.now; found = at; is_there = c.in-Some.ensures.is_there; room = c.in-Some.ensures.room };
        region = c.in-Some.ensures.region;
      };
      may = c.in-Some.ensures.may;
    }

pub loop-vdev-preserved : goal.loop-vdev-preserved
loop-vdev-preserved g c =
    let within : c.loop-vdev.vdev < length c.self.inside.spaces.items =
    subst (λ (s : Store). c.loop-vdev.vdev < length s.spaces) (sym c.self.view_is) (omega (arith, c.loop-vdev-test.true, c.requires.end)) in
    let at : slice_get c.args.self.now.spaces c.loop-vdev.vdev ≡ Some c.index.result.now =
    ap (λ (s : Store). slice_get s.spaces c.loop-vdev.vdev) (sym c.self.view_is)
    ∙ at_item c.self.inside.spaces.items c.loop-vdev.vdev c.index.result.now within c.index.ensures in
    none_of_one_more c.args.self.now.spaces c.args.taken.now c.args.wanted c.args.first c.loop-vdev.vdev c.index.result.now
    c.loop-vdev.invariant at c.in_default.ensures.none

pub returns-clause-none : goal.returns-clause-none
returns-clause-none g c v metaslab from below there =
    c.loop-vdev.invariant v metaslab from (omega (arith, below, c.loop-vdev-test.false)) there
