-- What a group is planned from, as it was read.
use Rattle.std.proofs.Common.{◌≡◌, ◌≢◌, ◌↔◌, ◌⊎◌, ℕ, ◌<◌, Bool, true, false, true≢false, List, [], ◌∷◌, map, Option, Some, None, All, AllPairs, Contains, inl, inr, refl, sym, ap, subst, ◌∙◌, arith}
use Rattle.std.specs.Prelude.{◌&&◌}
use Rattle.std.specs.List.Sorted.{IsStrictlyIncreasing}
use Rattle.std.proofs.lemmas.List.Elements.{All-cons, All-contains, All-head, All-nil, All-tail, All-weaker}
use Rattle.block_pointer.specs.declared.block.Block.{Block}
use Rattle.block_store.specs.Blocks.{Contents}
use Rattle.block_store.specs.declared.refusal.Refusal.{Refusal}
use Rattle.block_store.specs.declared.refusal.Refusal.TheVariants.{NoMemory}
use Rattle.block_store.specs.Spaces.{VdevSpace}
use Rattle.block_store.specs.Store.{Store}
use Rattle.dataset_groups.specs.Chains.{Reading}
use Rattle.dataset_groups.specs.declared.writing.WrittenHead.{WrittenHead}
use Rattle.dataset_groups.specs.Names.{IsOfKind, NamesVolume}
use Rattle.dataset_groups.specs.Writing.{AreWritten, IsAfterWrites, IsHeadRead, numbers_of}
use Rattle.dead_list.specs.Datasets.{Head, Kind, Pool, Snapshot as ASnapshot}
use Rattle.dead_list.specs.Operations.{IsHead, IsWritable}
use Rattle.dnode.specs.declared.object_set.ObjectSet.{ObjectSet}
use Rattle.objset.specs.declared.node_reading.FoundDnode.{FoundDnode}
use Rattle.meta_objset.specs.Found.{IsRecordThere}
use Rattle.meta_objset.specs.declared.directory.DirectoryRow.{DirectoryRow}
use Rattle.meta_objset.specs.Names.{IsNamed}
use Rattle.meta_objset.proofs.Edits.{pairs_head, pairs_tail}
use Rattle.meta_objset.proofs.Readings.{name_once}
use Rattle.objset.specs.Objects.{Object}
use Rattle.objset.specs.Shapes.{shape_of_dnode}
use Rattle.pool_model.specs.declared.item.Write.{Write}
use Rattle.pool_model.proofs.Letters.{volume_name}
use Rattle.pool_model.specs.declared.volume.PlainVolume.{PlainVolume}
use Rattle.pool_model.specs.declared.volume.VolumeKind.{VolumeKind}
use Rattle.pool_model.specs.declared.volume.VolumeKind.TheVariants as volumes
use Rattle.pool_model.specs.Names.{is_name, is_name_for, is_snapshot_name, volume_part}
use Rattle.pool_model.specs.Pools.{PlainPool, is_snapshot}
use Rattle.volume_rules.specs.Overlay.{after_writes}
use Rattle.volume.specs.declared.volume.VolumeSet.{VolumeSet}
use Rattle.volume.specs.Volume.{IsVolume, Spells, block_of, block_size_of, size_of}
use Rattle.volume.specs.Walking.{blocks_of_volume}
use Rattle.volume.specs.Writing.{IsArrayWith}
use Rattle.dataset_snapshots.specs.Finding.{IsRowOf}
use Rattle.dataset_snapshots.specs.Opening.{IsOneUnread, IsWrittenOf}
use Rattle.dataset_snapshots.specs.Pools.{SpellsDataset, SpellsPool}
use Rattle.dataset_snapshots.specs.Groups.{AreRowsLeft}
use Rattle.dataset_snapshots.specs.Writing.{IsReadFrom, IsVolumeIn, IsWrittenBut}
use Rattle.dataset_snapshots.proofs.Chained.{IsSpelled, apart_of, row_spelled}
use Rattle.dataset_snapshots.proofs.ChangedRows.{all_from, any_of, first_or_later, is_first, is_later, nothing_in, zip_has}

-- a record was found of an object of the set alone
within_set : (spaces : List VdevSpace) (set : ObjectSet) (birth number : ℕ) → IsRecordThere spaces set birth number → number < set.objects
within_set spaces set birth number (shape, (dnode, block_birth, inl none, is), fits) =
    let clash : Some shape ≡ None = is ∙ ap (λ (found : FoundDnode). shape_of_dnode found.dnode) none.1 in absurd cc
within_set spaces set birth number (shape, (dnode, block_birth, inr some, is), fits) = some.0

mapped_in : {X Y : Type 0} (f : X → Y) (xs : List X) (x : X) → Contains xs x → Contains (map f xs) (f x)
mapped_in f [] x held = absurd (nothing_in x held)
mapped_in f (first ∷ xs) x held = elim (first_or_later first x xs held) [
  | inl same ↦ subst (λ y. Contains (f first ∷ map f xs) (f y)) same (is_first (f first) (map f xs))
  | inr later ↦ is_later (f first) (f x) (map f xs) (mapped_in f xs x later)
]

and_second : (a b : Bool) → (a && b) ≡ true → b ≡ true
and_second true b both = both
and_second false b both = absurd (true≢false (sym both))

pub all_mapped : {X Y : Type 0} (f : X → Y) (P : Y → Type 0) (xs : List X) → All (λ x. P (f x)) xs → All P (map f xs)
all_mapped f P [] all = All-nil P
all_mapped f P (x ∷ xs) all = All-cons P (f x) (map f xs) (All-head (λ x. P (f x)) x xs all) (all_mapped f P xs (All-tail (λ x. P (f x)) x xs all))

pub numbers_within : (spaces : List VdevSpace) (set : ObjectSet) (birth : ℕ) (writes : List Write) (rows : List DirectoryRow) (heads : List WrittenHead)
    → All (IsWrittenOf spaces set birth writes rows) heads → All (λ number. number < set.objects) (numbers_of heads)
numbers_within spaces set birth writes rows heads found =
    all_mapped (λ (head : WrittenHead). head.number) (λ number. number < set.objects) heads
    (All-weaker (IsWrittenOf spaces set birth writes rows) (λ (head : WrittenHead). head.number < set.objects)
    (λ head it. let low = within_set spaces set birth it.0.object it.2.found.of_record.there in let same = it.2.number in omega (arith, low, same)) heads found)

-- rows with one object are one
one_row : (rows : List DirectoryRow) (row other : DirectoryRow) → AllPairs (λ (row later : DirectoryRow). row.object ≢ later.object) rows → Contains rows row → Contains rows other
    → row.object ≡ other.object → row ≡ other
one_row [] row other apart held also is = absurd (nothing_in row held)
one_row (first ∷ rows) row other apart held also is =
    let R : DirectoryRow → DirectoryRow → Type 0 = λ row later. row.object ≢ later.object in
    let behind = pairs_head R first rows apart in
    elim (first_or_later first row rows held) [
      | inl one ↦ elim (first_or_later first other rows also) [
        | inl both ↦ sym one ∙ both
        | inr later ↦ absurd (All-contains (R first) rows other behind later (ap (λ (r : DirectoryRow). r.object) one ∙ is))
      ]
      | inr later ↦ elim (first_or_later first other rows also) [
        | inl front ↦ absurd (All-contains (R first) rows row behind later (ap (λ (r : DirectoryRow). r.object) front ∙ sym is))
        | inr rest ↦ one_row rows row other (pairs_tail R first rows apart) later rest is
      ]
    ]

-- ---- volumes

-- what has the name of no snapshot is a volume
volume_by_name : (kind : VolumeKind) (name : List ℕ) → is_name_for kind name ≡ true → is_snapshot_name name ≡ false → kind ≡ volumes.Volume
volume_by_name volumes.Volume name good none = refl
volume_by_name volumes.Snapshot name good none =
    let at : is_snapshot_name name ≡ true = and_second (is_name (volume_part name)) (is_snapshot_name name) good in
    absurd (true≢false (sym at ∙ none))

-- and a volume has such a name
volumes_name : (kind : VolumeKind) (name : List ℕ) → is_name_for kind name ≡ true → is_snapshot kind ≡ false → is_snapshot_name name ≡ false
volumes_name volumes.Volume name good is = volume_name name good
volumes_name volumes.Snapshot name good is = absurd (true≢false is)

-- a volume's dataset is a head
head_of : (kind : VolumeKind) (it : Kind) → IsOfKind kind it → kind ≡ volumes.Volume → it ≡ Head
head_of volumes.Volume it of is = of
head_of volumes.Snapshot it of is = absurd (cc)

-- and a head's is a volume
volume_of_head : (kind : VolumeKind) (it : Kind) → IsOfKind kind it → it ≡ Head → is_snapshot kind ≡ false
volume_of_head volumes.Volume it of is = refl
volume_of_head volumes.Snapshot it of is = absurd (let wrong : ASnapshot ≡ Head = sym of ∙ is in cc)

-- ---- the head of a row

module _ (stored : Contents) (bound : ℕ) (pool : Pool) (readings : ℕ → Reading) (set : VolumeSet) where
  -- the volume reads as the dataset of a number, and has its blocks
  abbrev IsReadAs : ℕ → List ℕ → Type 0
  IsReadAs n array = (is : Spells stored bound set array) × ((pool.datasets n).blocks ≡ blocks_of_volume (block_of set) is.set is.has.own is.has.blocks)

  abbrev IsReadAt : ℕ → Type 0
  IsReadAt n = (read : IsReadAs n (readings n).array) × (block_size_of set ≡ (readings n).block_size)

  row_read : (objects : ℕ → Option Object) (row : DirectoryRow) (volume : PlainVolume) → NamesVolume pool readings row volume → (is : IsSpelled stored bound objects pool readings row volume)
      → IsVolumeIn set is.0.r → IsReadAt row.object
  row_read objects row volume named is of =
      let r = is.0.r in
      let P : Block → ℕ → ℕ → Type 0 = λ block size block_size.
      (it : IsVolume stored bound block size block_size volume.bytes) × ((pool.datasets row.object).blocks ≡ blocks_of_volume block it.set it.has.own it.has.blocks) in
      let read : IsReadAs row.object volume.bytes =
      subst (λ (n : ℕ). P (block_of set) (size_of set) n) (sym of.0.1)
      (subst (λ (n : ℕ). P (block_of set) n r.block_size) (sym of.0.0)
      (subst (λ (b : Block). P b r.size r.block_size) (sym of.1) (is.0.bytes, sym is.1))) in
      (subst (IsReadAs row.object) (sym named.array) read, of.0.1 ∙ (is.0.is.block_size ∙ sym named.block_size))

-- what another group changes has the same names
names_then : (pool : Pool) (readings : ℕ → Reading) (group : ℕ) (row : DirectoryRow) (volume : PlainVolume) → NamesVolume (record pool { group = group }) readings row volume → NamesVolume pool readings row volume
names_then pool readings group row volume named =
    record { name = named.name; good = named.good; kind = named.kind; created = named.created; array = named.array; block_size = named.block_size }

module _ (stored : Contents) (birth : ℕ) (root : Block) (plain : PlainPool) (is : SpellsPool stored birth root plain) (writes : List Write) (group : ℕ) (later : root.birth < group)
    (destroyed : List (List ℕ)) (left : List DirectoryRow) (rows_left : AreRowsLeft is.rows destroyed left) where
  abbrev now : Pool
  now = record is.datasets { group = group }

  abbrev IsFrom : WrittenHead → Type 0
  IsFrom head = IsReadFrom stored root.birth is.objects writes is.rows head

  spelled : (row : DirectoryRow) (volume : PlainVolume) → NamesVolume is.datasets is.readings row volume → IsSpelled stored root.birth is.objects is.datasets is.readings row volume
  spelled row volume named = row_spelled stored root.birth is.objects is.datasets is.readings is.chains row volume named

  head_read : (head : WrittenHead) → IsFrom head → IsHeadRead stored root.birth now is.readings head
  head_read head from =
      let row : DirectoryRow = from.0 in
      let to = zip_has (NamesVolume is.datasets is.readings) is.rows plain.volumes row is.names.volumes from.1.0 in
      let spells = spelled row to.0 to.1 in
      let read = row_read stored root.birth is.datasets is.readings head.volume is.objects row to.0 to.1 spells (from.2 to.0 spells.0).0 in
      let at = subst (IsReadAt stored root.birth is.datasets is.readings head.volume) from.1.1 read in
      record { is = at.0.0; blocks = at.0.1; block_size = at.1 }

  abbrev IsFor : ℕ → Type 0
  IsFor number = IsWrittenBut is.rows destroyed writes number

  -- the write's name has one row, whose volume is that of a head
  is_head : (number : ℕ) → IsFor number → IsHead is.datasets.datasets number
  is_head number wrote =
      let row = wrote.4.1.1 in
      let to = zip_has (NamesVolume is.datasets is.readings) is.rows plain.volumes row.0 is.names.volumes row.1 in
      let name = name_once row.0.name to.0.name wrote.1.volume to.1.name row.2 in
      let kind = volume_by_name to.0.kind to.0.name to.1.good (ap is_snapshot_name name ∙ wrote.4.0) in
      subst (IsHead is.datasets.datasets) row.3 (head_of to.0.kind (is.datasets.datasets row.0.object).kind to.1.kind kind)

  -- and which is left
  is_left : (number : ℕ) → IsFor number → (row : DirectoryRow) × Contains left row × (row.object ≡ number)
  is_left number wrote =
      let row = wrote.4.1.1 in
      let still = (rows_left row.0).1 (row.1, λ name gone named. wrote.4.1.0 (subst (Contains destroyed) (name_once row.0.name name wrote.1.volume named row.2) gone)) in
      (row.0, still, row.3)

  after : (head : WrittenHead) → IsFrom head → IsHead is.datasets.datasets head.number → IsAfterWrites now is.readings left writes head
  after head from heads row volume held at named =
      let first : DirectoryRow = from.0 in
      let same : row ≡ first = one_row is.rows row first (apart_of is) ((rows_left row).0 held).0 from.1.0 (at ∙ sym from.1.1) in
      let spells = subst (λ (r : DirectoryRow). SpellsDataset stored root.birth is.objects r volume) same (spelled row volume (names_then is.datasets is.readings group row volume named)).0 in
      subst (λ (n : ℕ). IsArrayWith volume.bytes n head.blocks.items (after_writes volume writes).bytes) spells.is.block_size
      ((from.2 volume spells).1 (volume_of_head volume.kind (is.datasets.datasets row.object).kind named.kind (subst (IsHead is.datasets.datasets) (sym at) heads)))

  writable : (number : ℕ) → IsWritable now number
  writable number =
      let fits = is.chains.sound.fits number in
      let made = fits.made in
      let past = fits.past in
      let same = is.chains.now in
      omega (arith, made, past, same, later)

  pub written_are : (heads : List WrittenHead) (objects : List ℕ) → numbers_of heads ≡ objects → IsStrictlyIncreasing objects
      → ((object : ℕ) → Contains objects object ↔ IsFor object) → All IsFrom heads → AreWritten stored root.birth now is.readings left writes heads
  written_are heads objects numbers once which from =
      let each : (head : WrittenHead) → Contains heads head → IsFrom head = λ head held. All-contains IsFrom heads head from held in
      let wrote : (head : WrittenHead) → Contains heads head → IsFor head.number =
      λ head held. (which head.number).0 (subst (λ (ns : List ℕ). Contains ns head.number) numbers (mapped_in (λ (h : WrittenHead). h.number) heads head held)) in
      let is_one : (head : WrittenHead) → Contains heads head → IsHead is.datasets.datasets head.number = λ head held. is_head head.number (wrote head held) in
      record {
        once = subst IsStrictlyIncreasing (sym numbers) once;
        named = all_from (λ (head : WrittenHead). (row : DirectoryRow) × Contains left row × (row.object ≡ head.number)) heads (λ head held. is_left head.number (wrote head held));
        read = all_from (IsHeadRead stored root.birth now is.readings) heads (λ head held. head_read head (each head held));
        are = all_from (λ (head : WrittenHead). IsHead now.datasets head.number) heads is_one;
        writable = all_from (λ (head : WrittenHead). IsWritable now head.number) heads (λ head held. writable head.number);
        after = all_from (IsAfterWrites now is.readings left writes) heads (λ head held. after head (each head held) (is_one head held));
        all = λ row volume held named wrote.
            let there = (rows_left row).0 held in
            let by_name = subst (IsNamed row.name) (sym wrote.1.2) named.name in
            subst (λ (ns : List ℕ). Contains ns row.object) (sym numbers)
            ((which row.object).1
            (any_of (λ (w : Write). (is_snapshot_name w.volume ≡ false) × ((¬ Contains destroyed w.volume) × IsRowOf is.rows w.volume row.object)) writes wrote.1.0 wrote.1.1 (
              ap is_snapshot_name wrote.1.2 ∙ volumes_name volume.kind volume.name named.good wrote.0,
              (λ gone. there.1 wrote.1.0.volume gone by_name, (row, there.0, by_name, refl)),
            )));
      }

-- ---- why it isn't read

pub set_unread : (mid new : Store) (before set : ObjectSet) (birth : ℕ) (writes : List Write) (rows : List DirectoryRow) (objects : List ℕ) (refusal : Refusal) → before ≡ set
    → (refusal ≡ NoMemory) ⊎ IsOneUnread mid new before birth writes rows objects refusal → (refusal ≡ NoMemory) ⊎ IsOneUnread mid new set birth writes rows objects refusal
set_unread mid new before set birth writes rows objects refusal same (inl memory) = inl memory
set_unread mid new before set birth writes rows objects refusal same (inr why) =
    inr (subst (λ (s : ObjectSet). IsOneUnread mid new s birth writes rows objects refusal) same why)
