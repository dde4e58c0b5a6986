-- Blocks that were mended stand as they did.
use Rattle.std.proofs.Common.{ℕ, ◌≡◌, ◌≢◌, ◌⊎◌, inl, inr, ◌<◌, ◌≤◌, ◌+◌, ◌-◌, ◌*◌, ◌==◌, if◌then◌else◌, Bool, true, false, Option, Some, None, List, [], ◌∷◌, ◌++◌, length, Contains, All, refl, sym, ap, subst, ◌∙◌, length-append, arith}
use Rattle.std.specs.List.{slice_get}
use Rattle.std.proofs.lemmas.Bool.Decides.{nat_tests}
use Rattle.std.proofs.lemmas.List.Elements.{All-head, All-tail}
use Rattle.sha2.specs.Sha256.{sha256}
use Rattle.block_pointer.specs.Copies.{dvas}
use Rattle.block_pointer.specs.declared.block.Block.{Block}
use Rattle.block_pointer.specs.declared.dva.Dva.{Dva}
use Rattle.block_store.specs.Blocks.{AreDistinct, AreStored, Contents}
use Rattle.block_store.specs.declared.shape.VdevShape.{VdevShape}
use Rattle.model_disk.specs.Call.{Call, Read, FailedRead, Wrote, FailedWrite, Flushed, FailedFlush}
use Rattle.model_disk.specs.Contents.{byte_at, covers}
use Rattle.model_disk.specs.Joint.{JointCall, Disks, AreHonestSince, bytes_of, calls_on, content}
use Rattle.model_disk.specs.Runs.{Makes, WritesOnly, no_write}
use Rattle.model_disk.proofs.JointLemmas.{same_if}
use Rattle.model_disk.proofs.RunLemmas.{off_content}
use Rattle.raidz_io.proofs.Calls.{content-OnlyReads}
use Rattle.raidz_io.proofs.Layouts.{apart, layouts_agree}
use Rattle.raidz_io.specs.Elsewhere.{IsOfExtent, StandsWhileKept}
use Rattle.raidz_io.specs.Places.{disk_of, offset_of}
use Rattle.raidz_io.specs.Reads.{IsHonestSince, OnlyReads}
use Rattle.raidz_io.specs.Stands.{AreBytesOf, ExtentStands, IsLayout, all_columns, parity_of}
use Rattle.raidz_io.specs.declared.vdev.Extent.{Extent}
use Rattle.raidz_map.specs.Extent.{ChildHoldsOneColumn}
use Rattle.raidz_map.specs.declared.column.Column.{Column}
use Rattle.raidz_parity.specs.Layout.{Block as ColumnsOf}
use Rattle.scrub_resilver.specs.Copies.{IsCopyOn}
use Rattle.scrub_resilver.specs.Laws.{AreCopiesApart, AreKnown, ChosenAreOwnThroughout, IsKnownBut, MendsSpareBlocks, MendsSpareToldBlocks}
use Rattle.scrub_resilver.specs.Mending.{AreMendedInTurn, GoesOn, IsColumnOf, IsColumnOfBlock, IsRewritten, Repairs}
use Rattle.scrub_resilver.proofs.Chosen.{StandsChosen, chosen_stands}
use Rattle.scrub_resilver.proofs.Faults.{columns_agree, held_there, there_first, there_later}
use Rattle.scrub_resilver.proofs.Mended.{goes_further, goes_none, goes_on, reads_go_on}
use Rattle.scrub_resilver.proofs.Once.{pairs_head, pairs_tail}
use Rattle.scrub_resilver.proofs.Placing.{size_at}
use Rattle.scrub_resilver.proofs.Stood.{one_extent, same_some}

-- ---- what writes leave

-- the byte was written, as this value, by a write that may be made
pub record WasWritten (may : ℕ → List ℕ → Type 0) (x value : ℕ) : Type 0 where
  pub at : ℕ
  pub part : List ℕ
  pub made : may at part
  pub covered : covers at (length part) x ≡ true
  pub value_is : slice_get part (x - at) ≡ Some value

by_test : (b : Bool) (one other : Option ℕ) (value : ℕ) → (if b then one else other) ≡ Some value → ((b ≡ true) × (one ≡ Some value)) ⊎ (other ≡ Some value)
by_test true one other value is = inl (refl, is)
by_test false one other value is = inr is

call_left : (may : ℕ → List ℕ → Type 0) (start : List ℕ) (call : Call) (log : List Call) (x value : ℕ) → WritesOnly may call
    → byte_at start (call ∷ log) x ≡ Some value → (byte_at start log x ≡ Some value) ⊎ WasWritten may x value
call_left may start (Read at bytes) log x value made is = inl is
call_left may start (FailedRead at n) log x value made is = inl is
call_left may start (Wrote at bytes) log x value made is =
    elim (by_test (covers at (length bytes) x) (slice_get bytes (x - at)) (byte_at start log x) value is) [
      | inl (covered, it) ↦ inr (record { at = at; part = bytes; made = made; covered = covered; value_is = it })
      | inr before ↦ inl before
    ]
call_left may start (FailedWrite at bytes) log x value made is =
    elim (by_test (covers at (length bytes) x) None (byte_at start log x) value is) [
      | inl (covered, it) ↦ absurd (cc)
      | inr before ↦ inl before
    ]
call_left may start Flushed log x value made is = inl is
call_left may start FailedFlush log x value made is = inl is

own_call : (may : ℕ → ℕ → List ℕ → Type 0) (start : List ℕ) (which : ℕ) (made : JointCall) (own : Bool) (log : List Call) (x value : ℕ)
    → (made.which == which) ≡ own → WritesOnly (may made.which) made.call → byte_at start (if own then made.call ∷ log else log) x ≡ Some value
    → (byte_at start log x ≡ Some value) ⊎ WasWritten (may which) x value
own_call may start which made true log x value test writes is =
    call_left (may which) start made.call log x value (subst (λ (d : ℕ). WritesOnly (may d) made.call) (sym (same_if made.which which test)) writes) is
own_call may start which made false log x value test writes is = inl is

calls_left : (may : ℕ → ℕ → List ℕ → Type 0) (start : List ℕ) (which : ℕ) (newer calls : List JointCall) (x value : ℕ)
    → All (λ made. WritesOnly (may made.which) made.call) newer → byte_at start (calls_on which (newer ++ calls)) x ≡ Some value
    → (byte_at start (calls_on which calls) x ≡ Some value) ⊎ WasWritten (may which) x value
calls_left may start which [] calls x value writes is = inl is
calls_left may start which (made ∷ newer) calls x value writes is =
    let P : JointCall → Type 0 = λ one. WritesOnly (may one.which) one.call in
    elim (own_call may start which made (made.which == which) (calls_on which (newer ++ calls)) x value refl (All-head P made newer writes) is) [
      | inl before ↦ calls_left may start which newer calls x value (All-tail P made newer writes) before
      | inr written ↦ inr written
    ]

-- what is known of a byte now was known before, or was written
left_by : (may : ℕ → ℕ → List ℕ → Type 0) (old new : Disks) (which x value : ℕ) → Makes may old new → content new which x ≡ Some value
    → (content old which x ≡ Some value) ⊎ WasWritten (may which) x value
left_by may old new which x value makes is =
    let start : bytes_of new.starts which ≡ bytes_of old.starts which = ap (λ (them : List (List ℕ)). bytes_of them which) makes.starts in
    let there : byte_at (bytes_of old.starts which) (calls_on which (makes.newer ++ old.calls)) x ≡ Some value =
    subst (λ (calls : List JointCall). byte_at (bytes_of old.starts which) (calls_on which calls) x ≡ Some value) makes.calls
    (subst (λ (bytes : List ℕ). byte_at bytes (calls_on which new.calls) x ≡ Some value) start is) in
    calls_left may (bytes_of old.starts which) which makes.newer old.calls x value makes.writes there

none_written : (old new : Disks) (missing : List ℕ) (which x : ℕ) → Repairs no_write missing old new → content new which x ≡ content old which x
none_written old new missing which x none = off_content no_write old new which x none.makes (λ at bytes never. absurd never)

-- ---- moments

honest_earlier : (n : ℕ) (starts : List (List ℕ)) (newer calls : List JointCall) → AreHonestSince n starts (newer ++ calls) → AreHonestSince n starts calls
honest_earlier n starts [] calls honest = honest
honest_earlier n starts (made ∷ newer) calls honest = honest_earlier n starts newer calls honest.1

honest_later : (n m : ℕ) (starts : List (List ℕ)) (calls : List JointCall) → n ≤ m → AreHonestSince n starts calls → AreHonestSince m starts calls
honest_later n m starts [] le honest = tt
honest_later n m starts (made ∷ calls) le honest = (λ since. honest.0 (omega (arith, le, since)), honest_later n m starts calls le honest.1)

-- answers that are true throughout are so in the first part, and in the rest
honest_first : (old mid new : Disks) → GoesOn mid new → IsHonestSince old new → IsHonestSince old mid
honest_first old mid new rest honest =
    honest_earlier (length old.calls) mid.starts rest.newer mid.calls
    (subst (λ (starts : List (List ℕ)). AreHonestSince (length old.calls) starts (rest.newer ++ mid.calls)) rest.starts
    (subst (λ (calls : List JointCall). AreHonestSince (length old.calls) new.starts calls) rest.calls honest))

honest_rest : (old mid new : Disks) → GoesOn old mid → IsHonestSince old new → IsHonestSince mid new
honest_rest old mid new first honest =
    honest_later (length old.calls) (length mid.calls) new.starts new.calls
    (omega (arith, ap (λ (calls : List JointCall). length calls) first.calls, length-append first.newer old.calls)) honest

rewritten_goes_on : (shapes : List VdevShape) (missing : List ℕ) (block : Block) (old new : Disks) → IsRewritten shapes missing block old new → GoesOn old new
rewritten_goes_on shapes missing block old new is =
    goes_further old is.mid new (reads_go_on old is.mid is.reads) (goes_on (IsColumnOfBlock shapes block is.content) missing is.mid new is.written)

turn_goes_on : (shapes : List VdevShape) (missing : List ℕ) (blocks : List Block) (old new : Disks) → AreMendedInTurn shapes missing blocks old new → GoesOn old new
turn_goes_on shapes missing [] old new same = subst (λ (d : Disks). GoesOn old d) same (goes_none old)
turn_goes_on shapes missing (block ∷ blocks) old new (mid, how, turn) =
    goes_further old mid new (elim how [ inl none ↦ goes_on no_write missing old mid none | inr is ↦ rewritten_goes_on shapes missing block old mid is ])
    (turn_goes_on shapes missing blocks mid new turn)

-- ---- bytes of columns

not_true : (b : Bool) → ¬ (b ≡ true) → b ≡ false
not_true true not = absurd (not refl)
not_true false not = refl

covers_from : (at n x : ℕ) → covers at n x ≡ true → at ≤ x
covers_from at n x is = grind (arith, nat_tests)

covers_before : (at n x : ℕ) → covers at n x ≡ true → x < at + n
covers_before at n x is = grind (arith, nat_tests)

not_covered : (at n x : ℕ) → ¬ (covers at n x ≡ true) → covers at n x ≡ false
not_covered at n x not = not_true (covers at n x) not

-- a byte of a column of a block is one of its copy
pub record IsByteOfCopy (shapes : List VdevShape) (block : Block) (disk x : ℕ) : Type 0 where
  pub i : ℕ
  pub extent : Extent
  pub is_copy : IsCopyOn shapes block i extent
  pub is_byte : IsOfExtent extent disk x

its_byte : (shapes : List VdevShape) (block : Block) (content_is : List ℕ) (place : Dva) (disk at x : ℕ) (part : List ℕ)
    → (one : IsColumnOf shapes block place content_is disk at part) → covers at (length part) x ≡ true → IsOfExtent one.extent disk x
its_byte shapes block content_is place disk at x part one covered =
    let it = one.is_column in
    let size : length part ≡ it.column.sectors * 512 =
    size_at one.extent content_is one.layout one.columns it.k it.column part one.are_bytes it.place_is it.bytes_are in
    record {
      k = it.k;
      column = it.column;
      is_column = one.is_layout.places it.k it.column it.place_is;
      which = it.disk_is;
      from_first = omega (arith, it.at_is, covers_from at (length part) x covered);
      before_end = omega (arith, it.at_is, size, covers_before at (length part) x covered);
    }

byte_of_copy : (shapes : List VdevShape) (block : Block) (content_is : List ℕ) (disk at x : ℕ) (part : List ℕ)
    → IsColumnOfBlock shapes block content_is disk at part → covers at (length part) x ≡ true → IsByteOfCopy shapes block disk x
byte_of_copy shapes block content_is disk at x part (place, held, one) covered =
    let (i, is) = held_there (dvas block.copies) place held in
    record {
      i = i;
      extent = one.extent;
      is_copy = record { place = place; is_copy = is; extent_is = one.extent_is };
      is_byte = its_byte shapes block content_is place disk at x part one covered;
    }

-- ---- blocks that are mended with what is their own

-- the block was read, and then written with columns of its own bytes
record IsRewrittenAsStored (shapes : List VdevShape) (missing : List ℕ) (block : Block) (stored : Contents) (old new : Disks) : Type 0 where
  pub mid : Disks
  pub bytes : List ℕ
  pub reads : OnlyReads old mid
  pub is_stored : stored block ≡ Some bytes
  pub written : Repairs (IsColumnOfBlock shapes block bytes) missing mid new

-- so was each of these blocks, one behind the other; or nothing was written as it was its turn
abbrev AreOwnTurns : List VdevShape → List ℕ → List Block → Contents → Disks → Disks → Type 0
AreOwnTurns shapes missing [] stored old new = old ≡ new
AreOwnTurns shapes missing (block ∷ blocks) stored old new =
    (mid : Disks) × (Repairs no_write missing old mid ⊎ IsRewrittenAsStored shapes missing block stored old mid) × AreOwnTurns shapes missing blocks stored mid new

-- so it is where of no block other bytes could be chosen in any part of the run
told_turns : (shapes : List VdevShape) (missing : List ℕ) (blocks : List Block) (stored : Contents) (first old new last : Disks)
    → AreMendedInTurn shapes missing blocks old new → ChosenAreOwnThroughout shapes first last stored → AreStored stored blocks → GoesOn first old → GoesOn new last
    → AreOwnTurns shapes missing blocks stored old new
told_turns shapes missing [] stored first old new last same chosen are before after = same
told_turns shapes missing (block ∷ blocks) stored first old new last (mid, inl none, turn) chosen are before after = (
  mid,
  inl none,
  told_turns shapes missing blocks stored first mid new last turn chosen (λ other held. are other (there_later block blocks other held))
      (goes_further first old mid before (goes_on no_write missing old mid none)) after,
)
told_turns shapes missing (block ∷ blocks) stored first old new last (mid, inr it, turn) chosen are before after =
    let (bytes, is_stored) = are block (there_first block blocks) in
    let written : GoesOn it.mid mid = goes_on (IsColumnOfBlock shapes block it.content) missing it.mid mid it.written in
    let own : it.content ≡ bytes =
    chosen old it.mid before it.reads (goes_further it.mid mid last written (goes_further mid new last (turn_goes_on shapes missing blocks mid new turn) after))
    block bytes it.content is_stored it.chosen it.digest in (
      mid,
      inr (record {
        mid = it.mid;
        bytes = bytes;
        reads = it.reads;
        is_stored = is_stored;
        written = subst (λ (b : List ℕ). Repairs (IsColumnOfBlock shapes block b) missing it.mid mid) own it.written;
      }),
      told_turns shapes missing blocks stored first mid new last turn chosen (λ other held. are other (there_later block blocks other held))
          (goes_further first old mid before (rewritten_goes_on shapes missing block old mid it)) after,
    )

-- ---- blocks that are told

-- what the disks have of the block is known, but for the missing ones, and its digest tells it
pub record IsTold (shapes : List VdevShape) (disks : Disks) (missing : List ℕ) (block : Block) (bytes : List ℕ) : Type 0 where
  pub known : (i : ℕ) (extent : Extent) → IsCopyOn shapes block i extent → IsKnownBut disks missing extent
  pub one : (others wrong : List ℕ) (i : ℕ) (extent : Extent) → IsCopyOn shapes block i extent → length wrong ≤ parity_of extent
      → ExtentStands (content disks) wrong extent others → sha256 others ≡ block.checksum → others ≡ bytes

abbrev AreEachTold : List VdevShape → Disks → List ℕ → List Block → Contents → Type 0
AreEachTold shapes disks missing blocks stored =
    (block : Block) (bytes : List ℕ) → Contains blocks block → stored block ≡ Some bytes → IsTold shapes disks missing block bytes

-- where none of its bytes changes it is told as before
told_still : StandsWhileKept → (shapes : List VdevShape) (old new : Disks) (missing : List ℕ) (block : Block) (bytes : List ℕ)
    → ((i : ℕ) (extent : Extent) (disk x : ℕ) → IsCopyOn shapes block i extent → IsOfExtent extent disk x → content new disk x ≡ content old disk x)
    → IsTold shapes old missing block bytes → IsTold shapes new missing block bytes
told_still kept shapes old new missing block bytes same is = record {
  known = λ i extent copy disk x there of.
      let (value, it) = is.known i extent copy disk x there of in
      (value, same i extent disk x copy of ∙ it);
  one = λ others wrong i extent copy few stands digest.
      is.one others wrong i extent copy few
      (kept (content new) (content old) wrong extent others (λ disk x of. sym (same i extent disk x copy of)) stands) digest;
}

-- ---- one block

-- what was written as it was its turn are columns of its own bytes
own_written : StandsWhileKept → (shapes : List VdevShape) (missing : List ℕ) (block : Block) (bytes : List ℕ) (old new : Disks)
    → (is : IsRewritten shapes missing block old new) → IsHonestSince old new → IsTold shapes old missing block bytes
    → Repairs (IsColumnOfBlock shapes block bytes) missing is.mid new
own_written kept shapes missing block bytes old new is honest told =
    let read : IsTold shapes is.mid missing block bytes =
    told_still kept shapes old is.mid missing block bytes (λ i extent disk x copy of. content-OnlyReads old is.mid is.reads disk x) told in
    let it : StandsChosen shapes is.mid block is.content =
    chosen_stands shapes old is.mid missing block is.content is.reads is.untouched
    (honest_first old is.mid new (goes_on (IsColumnOfBlock shapes block is.content) missing is.mid new is.written) honest) read.known is.chosen in
    let own : is.content ≡ bytes = read.one is.content it.wrong it.i it.extent it.is_copy it.few it.stands is.digest in
    subst (λ (b : List ℕ). Repairs (IsColumnOfBlock shapes block b) missing is.mid new) own is.written

-- they are no bytes of another block
spares_other : (shapes : List VdevShape) (missing : List ℕ) (blocks : List Block) (block other : Block) (bytes : List ℕ) (old new : Disks)
    → Repairs (IsColumnOfBlock shapes block bytes) missing old new → AreCopiesApart shapes blocks → Contains blocks block → Contains blocks other → block ≢ other
    → (k : ℕ) (behind : Extent) (disk x : ℕ) → IsCopyOn shapes other k behind → IsOfExtent behind disk x → content new disk x ≡ content old disk x
spares_other shapes missing blocks block other bytes old new written apart is_one is_other differ k behind disk x copy of =
    off_content (IsColumnOfBlock shapes block bytes) old new disk x written.makes (λ at part one.
    not_covered at (length part) x (λ covered.
    let it : IsByteOfCopy shapes block disk x = byte_of_copy shapes block bytes disk at x part one covered in
    elim (apart block other it.i k it.extent behind is_one is_other it.is_copy copy) [
      | inl same ↦ differ same.0
      | inr none ↦ none disk x it.is_byte of
    ]))

-- ---- all blocks

-- over disks that answer truly blocks are mended with what is their own, where their digests tell them
honest_turns : StandsWhileKept → (shapes : List VdevShape) (missing : List ℕ) (blocks : List Block) (stored : Contents) (old new : Disks)
    → AreMendedInTurn shapes missing blocks old new → IsHonestSince old new → AreDistinct blocks → AreCopiesApart shapes blocks → AreStored stored blocks
    → AreEachTold shapes old missing blocks stored → AreOwnTurns shapes missing blocks stored old new
honest_turns kept shapes missing [] stored old new same honest distinct apart are told = same
honest_turns kept shapes missing (block ∷ blocks) stored old new (mid, inl none, turn) honest distinct apart are told = (
  mid,
  inl none,
  honest_turns kept shapes missing blocks stored mid new turn (honest_rest old mid new (goes_on no_write missing old mid none) honest)
      (pairs_tail (λ (b later : Block). b ≢ later) block blocks distinct)
      (λ one other i k extent behind held held'. apart one other i k extent behind (there_later block blocks one held) (there_later block blocks other held'))
      (λ other held. are other (there_later block blocks other held))
      (λ other bytes held is_stored.
      told_still kept shapes old mid missing other bytes (λ i extent d y copy of. none_written old mid missing d y none)
      (told other bytes (there_later block blocks other held) is_stored)),
)
honest_turns kept shapes missing (block ∷ blocks) stored old new (mid, inr it, turn) honest distinct apart are told =
    let first : Contains (block ∷ blocks) block = there_first block blocks in
    let (bytes, is_stored) = are block first in
    let rest = turn_goes_on shapes missing blocks mid new turn in
    let written : Repairs (IsColumnOfBlock shapes block bytes) missing it.mid mid =
    own_written kept shapes missing block bytes old mid it (honest_first old mid new rest honest) (told block bytes first is_stored) in (
      mid,
      inr (record { mid = it.mid; bytes = bytes; reads = it.reads; is_stored = is_stored; written = written }),
      honest_turns kept shapes missing blocks stored mid new turn (honest_rest old mid new (rewritten_goes_on shapes missing block old mid it) honest)
          (pairs_tail (λ (b later : Block). b ≢ later) block blocks distinct)
          (λ one other i k extent behind held held'. apart one other i k extent behind (there_later block blocks one held) (there_later block blocks other held'))
          (λ other held. are other (there_later block blocks other held))
          (λ other others held is_stored'.
          told_still kept shapes old mid missing other others
          (λ i extent d y copy of.
          spares_other shapes missing (block ∷ blocks) block other bytes it.mid mid written apart first (there_later block blocks other held)
          (pairs_head (λ (b later : Block). b ≢ later) block blocks other distinct held) i extent d y copy of
          ∙ content-OnlyReads old it.mid it.reads d y)
          (told other others (there_later block blocks other held) is_stored')),
    )

-- the byte is one of a column of a block, and has its value
pub record IsOwnByte (shapes : List VdevShape) (blocks : List Block) (stored : Contents) (disk x value : ℕ) : Type 0 where
  pub block : Block
  pub is_one : Contains blocks block
  pub bytes : List ℕ
  pub is_stored : stored block ≡ Some bytes
  pub written : WasWritten (IsColumnOfBlock shapes block bytes disk) x value

own_later : (shapes : List VdevShape) (block : Block) (blocks : List Block) (stored : Contents) (disk x value : ℕ) → IsOwnByte shapes blocks stored disk x value
    → IsOwnByte shapes (block ∷ blocks) stored disk x value
own_later shapes block blocks stored disk x value own = record {
  block = own.block;
  is_one = there_later block blocks own.block own.is_one;
  bytes = own.bytes;
  is_stored = own.is_stored;
  written = own.written;
}

-- where they are mended with what is their own, each byte that is known then was known before, or is one of their own
turns : (shapes : List VdevShape) (missing : List ℕ) (blocks : List Block) (stored : Contents) (old new : Disks) → AreOwnTurns shapes missing blocks stored old new
    → (disk x value : ℕ) → content new disk x ≡ Some value → (content old disk x ≡ Some value) ⊎ IsOwnByte shapes blocks stored disk x value
turns shapes missing [] stored old new same disk x value is = inl (subst (λ (d : Disks). content d disk x ≡ Some value) (sym same) is)
turns shapes missing (block ∷ blocks) stored old new (mid, inl none, turn) disk x value is =
    elim (turns shapes missing blocks stored mid new turn disk x value is) [
      | inl before ↦ inl (sym (none_written old mid missing disk x none) ∙ before)
      | inr own ↦ inr (own_later shapes block blocks stored disk x value own)
    ]
turns shapes missing (block ∷ blocks) stored old new (mid, inr it, turn) disk x value is =
    elim (turns shapes missing blocks stored mid new turn disk x value is) [
      | inl before ↦ elim (left_by (IsColumnOfBlock shapes block it.bytes) it.mid mid disk x value it.written.makes before) [
        | inl was ↦ inl (sym (content-OnlyReads old it.mid it.reads disk x) ∙ was)
        | inr made ↦ inr (record { block = block; is_one = there_first block blocks; bytes = it.bytes; is_stored = it.is_stored; written = made })
      ]
      | inr own ↦ inr (own_later shapes block blocks stored disk x value own)
    ]

-- ---- what stands

-- the byte of a column that one of the same column has in its place
own_value : ChildHoldsOneColumn → (shapes : List VdevShape) (block : Block) (place : Dva) (bytes : List ℕ) (extent : Extent) (layout : List Column) (columns : ColumnsOf)
    (k j : ℕ) (column : Column) (part : List ℕ) (at value : ℕ) (written : List ℕ) (disk : ℕ) → IsLayout extent layout → AreBytesOf extent bytes layout columns
    → slice_get layout k ≡ Some column → slice_get (all_columns columns) k ≡ Some part → disk ≡ disk_of extent.vdev column
    → (one : IsColumnOf shapes block place bytes disk at written) → one.extent ≡ extent → slice_get written (offset_of column + j - at) ≡ Some value
    → slice_get part j ≡ Some value
own_value child shapes block place bytes extent layout columns k j column part at value written disk is_layout are_bytes at_layout at_columns which one same is =
    let it = one.is_column in
    let is_layout' : IsLayout extent one.layout = subst (λ (e : Extent). IsLayout e one.layout) same one.is_layout in
    let agree : one.layout ≡ layout = layouts_agree extent one.layout layout is_layout' is_layout in
    let are_bytes' : AreBytesOf extent bytes layout one.columns =
    subst (λ (l : List Column). AreBytesOf extent bytes l one.columns) agree (subst (λ (e : Extent). AreBytesOf e bytes one.layout one.columns) same one.are_bytes) in
    let all : all_columns one.columns ≡ all_columns columns = columns_agree extent bytes layout one.columns columns are_bytes' are_bytes in
    let at_layout' : slice_get layout it.k ≡ Some it.column = subst (λ (l : List Column). slice_get l it.k ≡ Some it.column) agree it.place_is in
    let which' : disk ≡ disk_of extent.vdev it.column = subst (λ (e : Extent). disk ≡ disk_of e.vdev it.column) same it.disk_is in
    let number : it.k ≡ k = apart child extent layout it.k k it.column column is_layout at_layout' at_layout (sym which' ∙ which) in
    let column_is : it.column ≡ column = same_some it.column column (sym at_layout' ∙ ap (λ (n : ℕ). slice_get layout n) number ∙ at_layout) in
    let part_is : written ≡ part =
    same_some written part
    (sym it.bytes_are ∙ ap (λ (cs : List (List ℕ)). slice_get cs it.k) all ∙ ap (λ (n : ℕ). slice_get (all_columns columns) n) number ∙ at_columns) in
    let place_is : offset_of column + j - at ≡ j = omega (arith, it.at_is, ap (λ (c : Column). offset_of c) column_is) in
    sym (ap (λ (n : ℕ). slice_get part n) place_is) ∙ ap (λ (b : List ℕ). slice_get b (offset_of column + j - at)) (sym part_is) ∙ is

-- what stood of blocks that are mended with what is their own stands
own_spare : ChildHoldsOneColumn → (shapes : List VdevShape) (old mid new : Disks) (missing : List ℕ) (blocks : List Block) (stored : Contents)
    → AreOwnTurns shapes missing blocks stored old mid → Repairs no_write missing mid new → AreCopiesApart shapes blocks → AreKnown shapes new missing stored
    → (block : Block) (bytes : List ℕ) (i : ℕ) (extent : Extent) (absent : List ℕ) → Contains blocks block → stored block ≡ Some bytes
    → IsCopyOn shapes block i extent → ((disk : ℕ) → Contains missing disk → Contains absent disk)
    → ExtentStands (content old) absent extent bytes → ExtentStands (content new) absent extent bytes
own_spare child shapes old mid new missing blocks stored turn none apart known block bytes i extent absent is_one is_stored copy among stands = record {
  layout = stands.layout;
  columns = stands.columns;
  is_layout = stands.is_layout;
  are_bytes = stands.are_bytes;
  stand = λ k column part at at' there j within.
      let disk : ℕ = disk_of extent.vdev column in
      let x : ℕ = offset_of column + j in
      let size : length part ≡ column.sectors * 512 = size_at extent bytes stands.layout stands.columns k column part stands.are_bytes at at' in
      let of : IsOfExtent extent disk x = record {
        k = k;
        column = column;
        is_column = stands.is_layout.places k column at;
        which = refl;
        from_first = omega arith;
        before_end = omega (arith, size, within);
      } in
      let (value, is) = known block bytes i extent is_stored copy disk x (λ gone. there (among disk gone)) of in
      let is' : content mid disk x ≡ Some value = sym (none_written mid new missing disk x none) ∙ is in
      elim (turns shapes missing blocks stored old mid turn disk x value is') [
        | inl before ↦ is ∙ sym before ∙ stands.stand k column part at at' there j within
        | inr own ↦
            let (place, held, one) = own.written.made in
            let (n, is_place) = held_there (dvas own.block.copies) place held in
            elim (apart own.block block n i one.extent extent own.is_one is_one (record { place = place; is_copy = is_place; extent_is = one.extent_is }) copy) [
              | inr none_shared ↦ absurd (none_shared disk x (its_byte shapes own.block own.bytes place disk own.written.at x own.written.part one own.written.covered) of)
              | inl (same_block, same_number) ↦
                  let same_place : place ≡ copy.place =
                  same_some place copy.place
                  (sym is_place ∙ ap (λ (b : Block). slice_get (dvas b.copies) n) same_block ∙ ap (λ (m : ℕ). slice_get (dvas block.copies) m) same_number ∙ copy.is_copy) in
                  let same_bytes : own.bytes ≡ bytes = same_some own.bytes bytes (sym own.is_stored ∙ ap stored same_block ∙ is_stored) in
                  let mine : IsColumnOf shapes block copy.place bytes disk own.written.at own.written.part =
                  subst (λ (p : Dva). IsColumnOf shapes block p bytes disk own.written.at own.written.part) same_place
                  (subst (λ (b : List ℕ). IsColumnOf shapes block place b disk own.written.at own.written.part) same_bytes
                  (subst (λ (b : Block). IsColumnOf shapes b place own.bytes disk own.written.at own.written.part) same_block one)) in
                  is
                  ∙ sym (own_value child shapes block copy.place bytes extent stands.layout stands.columns k j column part own.written.at value own.written.part disk
                  stands.is_layout stands.are_bytes at at' refl mine
                  (one_extent shapes block.property.sectors copy.place mine.extent extent mine.extent_is copy.extent_is) own.written.value_is)
            ]
      ];
}

pub mends_spare : StandsWhileKept → ChildHoldsOneColumn → MendsSpareBlocks
mends_spare kept child shapes old new missing blocks stored (mid, turn, none) honest distinct apart are told known =
    own_spare child shapes old mid new missing blocks stored
    (honest_turns kept shapes missing blocks stored old mid turn (honest_first old mid new (goes_on no_write missing mid new none) honest) distinct apart are
    (λ other others held is_stored. record {
      known = λ n behind is_copy. told.known other others n behind is_stored is_copy;
      one = λ others' wrong n behind is_copy. told.one other others others' wrong n behind is_stored is_copy;
    }))
    none apart known

pub mends_spare_told : ChildHoldsOneColumn → MendsSpareToldBlocks
mends_spare_told child shapes old new missing blocks stored (mid, turn, none) chosen apart are known =
    own_spare child shapes old mid new missing blocks stored
    (told_turns shapes missing blocks stored old old mid new turn chosen are (goes_none old) (goes_on no_write missing mid new none)) none apart known
