-- What calls over a store may do to it: reads of blocks, and plans of new ones.
use Rattle.std.specs.Prelude.{ℕ, ◌≡◌, ◌⊎◌, ◌≤◌, false, List, [], ◌∷◌, ◌++◌, map, All, Contains}
use Rattle.block_pointer.specs.declared.dva.Dva.{Dva}
use Rattle.raidz_io.specs.Writes.{ColumnWrite}
use Rattle.raidz_io.specs.Reads.{OnlyReads, AreUntouched, IsHonestSince, GivesTruly, absent_since}
use Rattle.raidz_io.specs.Choices.{DigestsTell}
use Rattle.block_store.specs.Spaces.{VdevSpace}
use Rattle.block_store.specs.Blocks.{Contents, Extends}
use Rattle.block_store.specs.Places.{shapes_of, AreChosen, RanOut}
use Rattle.block_store.specs.Places.{filled as filled_marks}
use Rattle.block_store.specs.Plans.{Plans, KeepsPlans}
use Rattle.block_store.specs.Reading.{AreTolerable}
use Rattle.block_store.specs.Store.{Store, Keeps, KeepsStored, outs, missed, is_out}

-- nothing was done but reads, none of them on a disk that is out or missing
pub record OnlyReadsBlocks (old new : Store) (missing : List ℕ) : Type 0 where
  pub rest : new ≡ record old { disks = new.disks }
  pub reads : OnlyReads old.disks new.disks
  pub untouched : AreUntouched (outs old ++ missing) old.disks new.disks
  pub keeps : Keeps old new
  pub stores : KeepsStored old new
  pub plans : KeepsPlans old new

-- the places that were chosen for copies of one block, of so many sectors, with so many copies and born then
pub record Placed : Type 0 where
  pub sectors : ℕ
  pub copies : ℕ
  pub birth : ℕ
  pub places : List Dva

-- for one block after the other places were chosen
abbrev pub HavePlaced : List VdevSpace → List Placed → List VdevSpace → Type 0
HavePlaced spaces [] after = after ≡ spaces
HavePlaced spaces (block ∷ rest) after =
    (mid : List VdevSpace) × AreChosen spaces [] block.sectors block.copies block.places mid × HavePlaced mid rest after

-- Nothing was done but such reads, and new blocks were planned. What stored blocks fill is the same. More writes are due, none of
-- them to a disk that is out. Each plan goes on, with what it had and perhaps more; so it does where a call was refused. What disks
-- that are out may lack is the same, where no block was born before the plan's group, and which groups disks missed before in any case.
pub record OnlyReadsAndPlans (old new : Store) (missing : List ℕ) : Type 0 where
  pub out : new.out ≡ old.out
  pub shapes : shapes_of new.spaces ≡ shapes_of old.spaces
  pub filled : map filled_marks new.spaces ≡ map filled_marks old.spaces
  pub placed : List Placed
  pub were_placed : HavePlaced old.spaces placed new.spaces
  pub spans : All (λ block. old.spans.group ≤ block.birth) placed → new.spans ≡ old.spans
  pub stale : new.spans.stale ≡ old.spans.stale
  pub reads : OnlyReads old.disks new.disks
  pub untouched : AreUntouched (outs old ++ missing) old.disks new.disks
  pub keeps : Keeps old new
  pub stores : KeepsStored old new
  pub added : List ColumnWrite
  pub due : new.due ≡ old.due ++ added
  pub in_use : All (λ write. is_out old.out write.disk ≡ false) added
  pub plans : (stored planned : Contents) → Plans old stored planned → (later : Contents) × Plans new stored later × Extends planned later

-- what the disks answered since is true
abbrev pub AnswersAreTrue : Store → Store → Type 0
AnswersAreTrue old new = IsHonestSince old.disks new.disks

-- For no block a vdev lacks more disks than it has parities: those that are out, that are missing, that missed the group of its birth, and that
-- failed since.
abbrev pub LossIsTolerable : Store → Store → List ℕ → Type 0
LossIsTolerable old new missing =
    (birth : ℕ) → AreTolerable old.spaces (absent_since old.disks new.disks ((outs old ++ missing) ++ missed old birth))

-- Some disks may lie. With those that are lost they are few in each vdev, all others gave what stood there, and of no block do other bytes
-- that what was given could be have the digest.
pub record FewLie (old new : Store) (missing : List ℕ) : Type 0 where
  pub liars : List ℕ
  pub few : LossIsTolerable old new (missing ++ liars)
  pub truly : (disk : ℕ) → ¬ Contains liars disk → GivesTruly old.disks new.disks disk
  pub told : DigestsTell old.disks new.disks

-- what the disks answered since tells what was written: it is true, or few of them lie and digests tell
abbrev pub AnswersTell : Store → Store → List ℕ → Type 0
AnswersTell old new missing = AnswersAreTrue old new ⊎ FewLie old new missing

-- the store has the same vdevs, and what was lost is still lost: the disks that are out, and those that missed the group of a birth
pub record StaysLost (old new : Store) : Type 0 where
  pub shapes : shapes_of new.spaces ≡ shapes_of old.spaces
  pub out : (disk : ℕ) → Contains (outs old) disk → Contains (outs new) disk
  pub stale : (birth disk : ℕ) → Contains (missed old birth) disk → Contains (missed new birth) disk

-- there is no room: behind such reads and plans no free place was left for a copy of a block of so many sectors
pub record HasNoRoomFor (old new : Store) (missing : List ℕ) (sectors copies : ℕ) : Type 0 where
  pub mid : Store
  pub before : OnlyReadsAndPlans old mid missing
  pub ran_out : RanOut mid.spaces sectors copies new.spaces
