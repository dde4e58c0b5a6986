-- Volumes that a group makes.
use Rattle.std.specs.Prelude.{ℕ, ◌≡◌, ◌*◌, ◌^◌, List, All, true}
use Rattle.block_pointer.specs.declared.block.Block.{Block}
use Rattle.meta_objset.specs.declared.record.DatasetKind.TheVariants as datasets
use Rattle.meta_objset.specs.declared.record.DatasetRecord.{DatasetRecord}
use Rattle.meta_objset.specs.Names.{IsNamed}
use Rattle.pool_model.specs.declared.item.Action.{Action}
use Rattle.volume_rules.specs.GoodChanges.{is_good_making}
use Rattle.dataset_groups.specs.declared.new_volume.NewVolume.{NewVolume}

-- object numbers are below this one
abbrev pub numbers_end : ℕ
numbers_end = 32 * 128 ^ 5

-- a volume of this name, here padded, and these sizes
abbrev pub IsNewVolume : List ℕ → ℕ → ℕ → NewVolume → Type 0
IsNewVolume name size block_size new =
    IsNamed new.name name × (new.size ≡ size) × (new.block_size ≡ block_size)

-- the record of a new volume: nothing comes before it or behind it, and it has no clones
abbrev pub new_record : NewVolume → ℕ → ℕ → Block → DatasetRecord
new_record new group dead_list object_set = record {
  kind = datasets.Volume;
  size = new.size;
  block_size = new.block_size;
  created = group;
  previous = 0;
  next = 0;
  clones = 0;
  dead_list = dead_list;
  object_set = object_set;
}

-- each of these actions makes something, which may be made so
abbrev pub AreGoodChanges : List Action → Type 0
AreGoodChanges actions = All (λ action. is_good_making action.change ≡ true) actions
