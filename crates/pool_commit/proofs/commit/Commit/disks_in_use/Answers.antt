use Rattle.std.proofs.Common.{◌++◌, ℕ, List, ap, sym, ◌∙◌, subst, take, length, inl, inr, Contains}
use Rattle.std.specs.Prelude.{filter, not}
use Rattle.std.proofs.lemmas.List.Elements.{Contains-append_cases}
use Rattle.block_store.specs.Store.{is_out}
use Rattle.pool_model.specs.View.{Vdev, counted, disks_of}
use Rattle.pool_commit.specs.Config.{shown, vdevs_of}
use Rattle.pool_commit.proofs.Disks.{in_use_more, kept_below, suc_is}
use Rattle.pool_commit.proofs.commit.Commit.disks_in_use.Goals as goal

pub loop-index-preserved : goal.loop-index-preserved
loop-index-preserved g c =
    let vdevs : List Vdev = vdevs_of c.args.self.now.store.spaces in
    let items = c.in_ok-add_in_use.ensures in (
      items ∙ ap (λ ds. ds ++ filter (λ disk. not (is_out c.args.self.now.store.out disk)) (counted c.vdev_at.result.first c.vdev_at.result.geometry.children)) c.loop-index.invariant.0
          ∙ sym (in_use_more vdevs c.loop-index.index (shown c.vdev_at.result) (λ disk. not (is_out c.args.self.now.store.out disk)) c.vdev_at.ensures.there)
          ∙ ap (λ n. filter (λ disk. not (is_out c.args.self.now.store.out disk)) (disks_of (take n vdevs))) (suc_is c.loop-index.index),
      λ disk held. elim (Contains-append_cases c.loop-index.disks.items (filter (λ disk. not (is_out c.args.self.now.store.out disk)) (counted c.vdev_at.result.first c.vdev_at.result.geometry.children)) disk
          (subst (λ (ds : List ℕ). Contains ds disk) items held)) [
            | inl before ↦ c.loop-index.invariant.1 disk before
            | inr here ↦ kept_below (λ disk. not (is_out c.args.self.now.store.out disk)) c.vdev_at.result.first c.vdev_at.result.geometry.children (length c.args.self.now.store.disks.starts) disk c.vdev_at.ensures.disks here
          ],
    )
