use Rattle.std.proofs.Common.{◌≡◌, ◌<◌, length, Some, IfOk, sym, subst}
use Rattle.std.specs.List.{slice_get}
use Rattle.std.proofs.lemmas.Option.{slice_get_within}
use Rattle.std.proofs.lemmas.Result.{IfOk-weaker}
use Rattle.space_map.specs.FreeRuns.{FreeRuns}
use Rattle.block_store.specs.Maps.{HasMetaslab, LeavesUnused}
use Rattle.block_store.specs.Places.{planned}
use Rattle.block_store.specs.Store.{Store}
use Rattle.block_store.proofs.Choosing.{at_item}
use Rattle.block_store.proofs.Giving.{both_ok, unused_planned}
use Rattle.block_store.proofs.store.BlockStore.unused_planned.Goals as goal

pub returns : goal.returns
returns g c =
    let spaces = c.self.inside.spaces.items in
    let there : HasMetaslab spaces c.args.vdev c.args.metaslab = subst (λ (s : Store). HasMetaslab s.spaces c.args.vdev c.args.metaslab) (sym c.self.view_is) c.requires in
    let within : c.args.vdev < length spaces = slice_get_within spaces c.args.vdev there.space there.found in
    let at : slice_get spaces c.args.vdev ≡ Some c.index.result.now = at_item spaces c.args.vdev c.index.result.now within c.index.ensures in
    subst (λ (s : Store). IfOk c.unused.result (LeavesUnused s.spaces planned c.args.vdev c.args.metaslab)) c.self.view_is
    (IfOk-weaker c.unused.result _ (LeavesUnused spaces planned c.args.vdev c.args.metaslab)
    (λ (free : FreeRuns) both. unused_planned spaces c.args.vdev c.args.metaslab c.index.result.now free at both)
    (both_ok c.unused.result _ _ c.unused.ensures.unused c.unused.ensures.sectors))
