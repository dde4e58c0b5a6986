use Rattle.std.proofs.Common.{ap, ◌∙◌}
use Rattle.disk_set.specs.Set.{PoolDisks}
use Rattle.block_store.specs.Store.{Store, in_group}
use Rattle.block_store.proofs.Entering.{entered}
use Rattle.block_store.proofs.Planning.{stores_same}
use Rattle.block_store.proofs.store.BlockStore.enter.Goals as goal

pub returns-clause-keeps : goal.returns-clause-keeps
returns-clause-keeps g c =
    entered c.args.self.now _ c.args.group (ap (λ (s : PoolDisks). s.disks) c.enter.ensures ∙ ap (λ (s : Store). s.disks) c.self.view_is)
    (ap (λ (s : PoolDisks). s.out) c.enter.ensures ∙ ap (λ (s : Store). s.out) c.self.view_is) (ap (λ (s : Store). s.spaces) c.self.view_is)
    (ap (λ (s : PoolDisks). s.spans) c.enter.ensures ∙ ap (λ (s : Store). in_group s.spans c.args.group) c.self.view_is)

pub returns-clause-stores : goal.returns-clause-stores
returns-clause-stores g c = stores_same c.args.self.now _ (ap (λ (s : Store). s.spaces) c.self.view_is) (returns-clause-keeps g c)
