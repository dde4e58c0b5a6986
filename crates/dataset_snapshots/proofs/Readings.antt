-- A root spells one pool, and leads to one list of blocks.
use Rattle.pool_maps.specs.Reached.{AreMapsFor}
use Rattle.block_pointer.specs.Copies.{dvas}
use Rattle.std.proofs.Common.{◌≡◌, ℕ, ◌%◌, List, [], ◌∷◌, ◌++◌, Option, inl, inr, refl, sym, ap, subst, ◌∙◌, All, Contains, length, ◌≢◌}
use Rattle.std.specs.List.{AllZip, flat_map}
use Rattle.block_pointer.specs.declared.block.Block.{Block}
use Rattle.block_store.specs.Opened.{AreBlocksApart}
use Rattle.block_store.specs.Blocks.{Contents}
use Rattle.dataset_groups.proofs.ChainReadRecords.{one_kind as one_kind_of}
use Rattle.dataset_groups.specs.Chains.{Reading}
use Rattle.dataset_groups.specs.ChainStanding.{HasChains, StandsAt}
use Rattle.dataset_groups.proofs.KnownBlocks.{free_or_not}
use Rattle.dataset_groups.proofs.ListParts.{is_first, is_later}
use Rattle.dataset_groups.specs.Names.{NamesPool, objects_of_rows, reach_by}
use Rattle.dead_list.specs.Datasets.{Dataset, Free, Pool, Snapshot, group_before}
use Rattle.dead_list.specs.Reach.{born_after, own_of}
use Rattle.dnode.specs.declared.object_set.ObjectSet.{ObjectSet}
use Rattle.objset.proofs.NodeReadings.{set_block_once}
use Rattle.dnode_tree.specs.Rewriting.{AreDistinct}
use Rattle.meta_objset.proofs.Readings.{directory_once, name_once, record_once}
use Rattle.meta_objset.specs.declared.directory.DirectoryRow.{DirectoryRow}
use Rattle.meta_objset.specs.declared.record.DatasetKind.{DatasetKind}
use Rattle.meta_objset.specs.declared.record.DatasetKind.TheVariants as record_kinds
use Rattle.meta_objset.specs.declared.record.DatasetRecord.{DatasetRecord}
use Rattle.meta_objset.specs.Reading.{HasDirectory}
use Rattle.objset.proofs.Readings.{objects_are_one}
use Rattle.objset.specs.Objects.{Object, AreObjects}
use Rattle.objset.specs.Within.{blocks_of_set}
use Rattle.pool_model.specs.declared.volume.PlainVolume.{PlainVolume}
use Rattle.volume.proofs.Readings.{volumes_read_as_one}
use Rattle.volume.specs.Volume.{IsVolume}
use Rattle.volume.specs.Walking.{blocks_of_volume}
use Rattle.dataset_snapshots.specs.Laws.{RootsSpellOnePool}
use Rattle.dataset_snapshots.specs.Pools.{IsRecordKind, SpellsDataset}
use Rattle.dataset_snapshots.specs.Reach.{reach_of, volume_blocks_of}
use Rattle.dataset_snapshots.proofs.Chained.{one_kind, volumes_of}
use Rattle.dataset_groups.proofs.KeptVolumes.{volume_blocks}
use Rattle.dataset_snapshots.proofs.Origins.{BranchAlike, origin_once}

-- ---- datasets

-- what equal records lead to
volume_once : (stored : Contents) (birth : ℕ) (array other : List ℕ) (r s : DatasetRecord) → r ≡ s → r.size % r.block_size ≡ 0 → (one : IsVolume stored birth r.object_set r.size r.block_size array)
    → (two : IsVolume stored birth s.object_set s.size s.block_size other) → (array ≡ other) × (volume_blocks one ≡ volume_blocks two)
volume_once stored birth array other r s same whole one =
    subst (λ (also : DatasetRecord). (two : IsVolume stored birth also.object_set also.size also.block_size other) → (array ≡ other) × (volume_blocks one ≡ volume_blocks two)) same alike
  where
    alike : (two : IsVolume stored birth r.object_set r.size r.block_size other) → (array ≡ other) × (volume_blocks one ≡ volume_blocks two)
    alike two =
        let reads = volumes_read_as_one stored birth birth r.object_set r.size r.block_size array other whole one two in
        let set = reads.1 in
        let own = reads.2 in
        let blocks = reads.3 in
        (reads.0, λ i. blocks_of_volume r.object_set (set i) (own i) (blocks i))

-- volumes of one name have one origin
abbrev HaveOneOrigin : List PlainVolume → List PlainVolume → Type 0
HaveOneOrigin volumes others = (volume other : PlainVolume) → Contains volumes volume → Contains others other → volume.name ≡ other.name → volume.origin ≡ other.origin

dataset_once : (stored : Contents) (birth : ℕ) (objects : ℕ → Option Object) (row : DirectoryRow) (volume other : PlainVolume) → SpellsDataset stored birth objects row volume
    → SpellsDataset stored birth objects row other → (volume.name ≡ other.name → volume.origin ≡ other.origin) → volume ≡ other
dataset_once stored birth objects row volume other one two origins =
    let r = record_once (objects row.object) one.r two.r one.has two.has in
    let name = name_once row.name volume.name other.name one.name two.name in
    let origin = origins name in
    let bytes = (volume_once stored birth volume.bytes other.bytes one.r two.r r one.has.spelled.0.record_is.whole one.bytes two.bytes).0 in
    let block_size : volume.block_size ≡ other.block_size = sym one.is.block_size ∙ ap (λ (r : DatasetRecord). r.block_size) r ∙ two.is.block_size in
    let group : volume.group ≡ other.group = sym one.is.created ∙ ap (λ (r : DatasetRecord). r.created) r ∙ two.is.created in
    let kinds = ap (λ (r : DatasetRecord). r.kind) r in
    let kind : volume.kind ≡ other.kind = one_kind volume.kind other.kind two.r.kind (subst (λ (of : DatasetKind). IsRecordKind volume.kind of) kinds one.is.kind) two.is.kind in
    λ i. record { name = name i; bytes = bytes i; block_size = block_size i; group = group i; kind = kind i; origin = origin i }

datasets_once : (stored : Contents) (birth : ℕ) (objects : ℕ → Option Object) (rows : List DirectoryRow) (volumes others : List PlainVolume)
    → AllZip (SpellsDataset stored birth objects) rows volumes → AllZip (SpellsDataset stored birth objects) rows others → HaveOneOrigin volumes others → volumes ≡ others
datasets_once stored birth objects [] [] [] one two origins = refl
datasets_once stored birth objects [] [] (other ∷ others) one two origins = absurd two
datasets_once stored birth objects [] (volume ∷ volumes) others one two origins = absurd one
datasets_once stored birth objects (row ∷ rows) [] others one two origins = absurd one
datasets_once stored birth objects (row ∷ rows) (volume ∷ volumes) [] one two origins = absurd two
datasets_once stored birth objects (row ∷ rows) (volume ∷ volumes) (other ∷ others) one two origins =
    let first = dataset_once stored birth objects row volume other one.0 two.0 (origins volume other (is_first volume volumes) (is_first other others)) in
    let rest = datasets_once stored birth objects rows volumes others one.1 two.1
    (λ v o held there. origins v o (is_later volume v volumes held) (is_later other o others there)) in
    λ i. first i ∷ rest i

-- ---- what datasets reach

-- what two chains of the same objects have at a number: of one group, behind one snapshot, with the same blocks
record AreAlike (x y : Dataset) : Type 0 where
  pub group : x.group ≡ y.group
  pub before : x.before ≡ y.before
  pub blocks : x.blocks ≡ y.blocks

module _ (stored : Contents) (birth : ℕ) (objects : ℕ → Option Object) (pool other : Pool) (readings more : ℕ → Reading) (one : HasChains stored birth objects pool readings)
    (two : HasChains stored birth objects other more) where
  stand_alike : (m : ℕ) → StandsAt stored birth objects pool readings m → StandsAt stored birth objects other more m → AreAlike (pool.datasets m) (other.datasets m)
  stand_alike m this that =
      let r = record_once (objects m) this.r that.r this.has that.has in
      let blocks = (volume_once stored birth (readings m).array (more m).array this.r that.r r this.has.spelled.0.record_is.whole this.leads.bytes that.leads.bytes).1 in
      record {
        group = this.is.created ∙ (ap (λ (of : DatasetRecord). of.created) r ∙ sym that.is.created);
        before = this.is.previous ∙ (ap (λ (of : DatasetRecord). of.previous) r ∙ sym that.is.previous);
        blocks = sym this.leads.blocks_are ∙ (blocks ∙ that.leads.blocks_are);
      }

  none_alike : (m : ℕ) → pool.datasets m ≡ other.datasets m → AreAlike (pool.datasets m) (other.datasets m)
  none_alike m same = record { group = ap (λ (x : Dataset). x.group) same; before = ap (λ (x : Dataset). x.before) same; blocks = ap (λ (x : Dataset). x.blocks) same }

  alike : (m : ℕ) → AreAlike (pool.datasets m) (other.datasets m)
  alike m = elim (free_or_not (pool.datasets m).kind) [
    | inl free ↦ elim (free_or_not (other.datasets m).kind) [
      | inl also ↦ none_alike m ((one.none m free).is ∙ sym (two.none m also).is)
      | inr there ↦ let it = two.each m there in absurd ((one.none m free).none it.r it.has)
    ]
    | inr there ↦ elim (free_or_not (other.datasets m).kind) [
      | inl free ↦ let it = one.each m there in absurd ((two.none m free).none it.r it.has)
      | inr also ↦ stand_alike m (one.each m there) (two.each m also)
    ]
  ]

  own_once : (m : ℕ) → own_of pool.datasets m ≡ own_of other.datasets m
  own_once m =
      let same = alike m in
      let before : group_before pool.datasets m ≡ group_before other.datasets m = (alike (pool.datasets m).before).group ∙ ap (λ n. (other.datasets n).group) same.before in
      let blocks = same.blocks in
      λ i. born_after (before i) (blocks i)

  -- a snapshot has the same next to it
  next_once : (m : ℕ) → (pool.datasets m).kind ≡ Snapshot → pool.next m ≡ other.next m
  next_once m kind =
      let this = one.each m (λ free. let wrong : Snapshot ≡ Free = sym kind ∙ free in cc) in
      elim (free_or_not (other.datasets m).kind) [
        | inl free ↦ absurd ((two.none m free).none this.r this.has)
        | inr there ↦
            let that = two.each m there in
            let r = record_once (objects m) this.r that.r this.has that.has in
            let is_snapshot : this.r.kind ≡ record_kinds.Snapshot = one_kind_of this.r.kind record_kinds.Snapshot (sym this.is.kind ∙ kind) in
            this.is.next is_snapshot ∙ (ap (λ (of : DatasetRecord). of.next) r ∙ sym (that.is.next (sym (ap (λ (of : DatasetRecord). of.kind) r) ∙ is_snapshot)))
      ]

  -- the same branches off
  branch_alike : BranchAlike pool other
  branch_alike = record {
    before = λ m. (alike m).before;
    branches = λ m off.
        let before = (alike m).before in
        elim (one.sound.linked m) [
          | inl none ↦ absurd (off.0 none)
          | inr linked ↦ (
            λ none. off.0 (before ∙ none),
            λ next. off.1 (next_once (pool.datasets m).before linked.0 ∙ (ap other.next before ∙ next)),
          )
        ];
  }

  -- they reach the same
  reach_once : (rows : List DirectoryRow) → reach_by pool rows ≡ reach_by other rows
  reach_once rows = λ i. flat_map (λ m. own_once m i) (objects_of_rows rows)

-- ---- roots

pub roots_spell_one_pool : RootsSpellOnePool
roots_spell_one_pool stored birth later root pool other one two =
    let set = set_block_once stored birth later root one.set two.set one.is_set two.is_set in
    let are = subst (λ (s : ObjectSet). AreObjects stored root.birth s one.objects one.own one.blocks) set one.are in
    let same = objects_are_one stored root.birth root.birth two.set one.objects two.objects one.own two.own one.blocks two.blocks two.is_set.spelled.0.0.0.highest are two.are in
    let own = same.1 in
    let blocks = same.2 in
    let rows = directory_once (two.objects 1) one.rows two.rows (subst (λ objects. HasDirectory (objects 1) one.rows) same.0 one.directory) two.directory in
    let spelled = subst (λ objects. AllZip (SpellsDataset stored root.birth objects) two.rows pool.volumes) same.0
    (subst (λ (list : List DirectoryRow). AllZip (SpellsDataset stored root.birth one.objects) list pool.volumes) rows (volumes_of one)) in
    let chains = subst (λ objects. HasChains stored root.birth objects one.datasets one.readings) same.0 one.chains in
    let origins : HaveOneOrigin pool.volumes other.volumes =
    origin_once one.datasets two.datasets one.readings two.readings two.rows pool other two.directory.0.order
    (subst (λ (list : List DirectoryRow). NamesPool one.datasets one.readings list pool) rows one.names) two.names
    (branch_alike stored root.birth two.objects one.datasets two.datasets one.readings two.readings chains two.chains)
    (branch_alike stored root.birth two.objects two.datasets one.datasets two.readings one.readings two.chains chains) in
    let volumes = datasets_once stored root.birth two.objects two.rows pool.volumes other.volumes spelled (volumes_of two) origins in
    let below : volume_blocks_of one ≡ volume_blocks_of two =
    reach_once stored root.birth two.objects one.datasets two.datasets one.readings two.readings chains two.chains one.rows ∙ ap (reach_by two.datasets) rows in
    let reach : reach_of one ≡ reach_of two = λ i. root ∷ blocks_of_set (set i) (own i) (blocks i) ++ below i in (
      λ i. record { volumes = volumes i },
      reach,
      rows,
      λ spaces has. record {
        copied = record {
          meta = subst (λ (them : List Block). All (λ block. length (dvas block.copies) ≡ 3) them) (λ i. root ∷ blocks_of_set (set i) (own i) (blocks i)) has.copied.meta;
          others = subst (λ (them : List Block). All (λ block. length (dvas block.copies) ≢ 3) them) below has.copied.others;
        };
        once = subst AreDistinct reach has.once;
        apart = subst AreBlocksApart reach has.apart;
        maps = subst (λ objects. AreMapsFor objects spaces (reach_of two)) same.0 (subst (λ (them : List Block). AreMapsFor one.objects spaces them) reach has.maps);
      },
      same.0,
    )
