-- What is known of the disks of a root that was read.
use Rattle.std.specs.Prelude.{ℕ, ◌≡◌, Bool, List}
use Rattle.block_store.specs.Store.{is_stale}
use Rattle.stale_disks.specs.Rules.{AreSpansOpened, guids_in, stale_groups}
use Rattle.vdev_label.specs.Plain.{config_view}
use Rattle.pool_open.specs.declared.known.KnownRoot.{KnownRoot}

-- It follows from the root's table: its spans as the group is opened, and by them the groups that each disk missed.
pub record IsKnownBy (out : List Bool) (group : ℕ) (root : KnownRoot) : Type 0 where
  pub spans : AreSpansOpened (guids_in (config_view root.disks.config.value)) out group root.contents.spans root.disks.spans
  pub stale : (disk birth : ℕ) → is_stale root.stale.items disk birth
      ≡ is_stale (stale_groups root.disks.spans (guids_in (config_view root.disks.config.value))) disk birth
