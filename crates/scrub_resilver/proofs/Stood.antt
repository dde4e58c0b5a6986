-- What was found of blocks, and what stands of them.
use Rattle.std.proofs.Common.{ℕ, zero, suc, ◌≡◌, ◌<◌, ◌≤◌, ◌+◌, ◌*◌, inl, inr, Bool, true, false, Option, Some, None, List, [], ◌∷◌, ◌++◌, length, get_or, Contains, refl, sym, ap, subst, ◌∙◌, arith}
use Rattle.std.specs.List.{slice_get}
use Rattle.std.proofs.lemmas.List.Elements.{Contains-append_left, Contains-append_right}
use Rattle.std.proofs.lemmas.List.{length-map}
use Rattle.std.proofs.lemmas.Option.{slice_get-get_or, slice_get_within}
use Rattle.sha2.specs.Sha256.{sha256}
use Rattle.model_disk.specs.Call.{Read}
use Rattle.model_disk.specs.Honest.{IsTrueAnswer}
use Rattle.model_disk.specs.Joint.{JointCall, Disks, on, bytes_of, calls_on, content, AreHonestSince}
use Rattle.block_pointer.specs.declared.block.Block.{Block}
use Rattle.block_pointer.specs.declared.dva.Dva.{Dva}
use Rattle.block_pointer.specs.Copies.{dvas}
use Rattle.block_store.specs.declared.shape.VdevShape.{VdevShape}
use Rattle.block_store.proofs.Extents.{same_extent}
use Rattle.raidz_map.specs.declared.column.Column.{Column}
use Rattle.raidz_parity.specs.Layout.{Block as Columns}
use Rattle.raidz_io.specs.declared.vdev.Extent.{Extent}
use Rattle.raidz_io.specs.Places.{Content, Stands, disk_of, offset_of}
use Rattle.raidz_io.specs.Reads.{AreReads, GaveSince, GivesTruly, HonestDisksGiveTruly, IsHonestSince, IsRead, OnlyReads}
use Rattle.raidz_io.specs.Stands.{AreBytesOf, ExtentStands, all_columns}
use Rattle.raidz_io.proofs.Calls.{OnlyReads-more, OnlyReads-none, content-OnlyReads}
use Rattle.raidz_io.proofs.Layouts.{layouts_agree}
use Rattle.scrub_resilver.specs.Checking.{AreChecked, ArePlacesChecked, IsBlockChecked, IsPlaceChecked}
use Rattle.scrub_resilver.specs.Copies.{IsExtentOn}
use Rattle.scrub_resilver.specs.Laws.{CheckedBlocksStand, IsKnownBut, StandsAgain}
use Rattle.scrub_resilver.specs.Looking.{IsCopyChecked, finding, findings_from}
use Rattle.scrub_resilver.specs.declared.fault.Fault.{Fault}
use Rattle.scrub_resilver.specs.declared.fault.Finding.{Finding}
use Rattle.scrub_resilver.proofs.Placing.{size_at}

pub same_some : {X : Type 0} (x y : X) → Some x ≡ Some y → x ≡ y
same_some x y same = cc

some_some : {X : Type 0} (x y : X) → Some (Some x) ≡ Some (Some y) → x ≡ y
some_some x y same = cc

-- ---- what reads gave is what stands

-- the bytes are what is known of the disk from that one on
pub IsNow : Disks → ℕ → ℕ → List ℕ → Type 0
IsNow disks disk at bytes = (i value : ℕ) → i < length bytes → content disks disk (at + i) ≡ Some value → slice_get bytes i ≡ Some value

pub none_gave : (n : ℕ) (calls : List JointCall) (disk at : ℕ) (bytes : List ℕ) → length calls ≤ n → ¬ GaveSince n calls disk at bytes
none_gave n [] disk at bytes le gave = gave
none_gave n (made ∷ calls) disk at bytes le gave = elim gave [
  | inl (since, is) ↦ omega (arith, since, le)
  | inr earlier ↦ none_gave n calls disk at bytes (omega arith) earlier
]

still : (starts : List (List ℕ)) (made : JointCall) (calls : List JointCall) (disk at : ℕ) (bytes : List ℕ) → IsRead made.call
    → IsNow (record { starts = starts; calls = calls }) disk at bytes → IsNow (record { starts = starts; calls = made ∷ calls }) disk at bytes
unfolding IsNow
still starts made calls disk at bytes is_read now i value within is =
    let old : Disks = record { starts = starts; calls = calls } in
    let new : Disks = record { starts = starts; calls = made ∷ calls } in
    now i value within (sym (content-OnlyReads old new (OnlyReads-more old old new made (OnlyReads-none old) is_read refl refl) disk (at + i)) ∙ is)

given : (starts : List (List ℕ)) (made : JointCall) (calls : List JointCall) (disk at : ℕ) (bytes : List ℕ) → made ≡ on disk (Read at bytes)
    → IsTrueAnswer (bytes_of starts made.which) (calls_on made.which calls) made.call → IsNow (record { starts = starts; calls = calls }) disk at bytes
unfolding IsNow
given starts made calls disk at bytes is answer =
    subst (λ (m : JointCall). IsTrueAnswer (bytes_of starts m.which) (calls_on m.which calls) m.call) is answer

gave_now : (starts : List (List ℕ)) (newer calls : List JointCall) (disk at : ℕ) (bytes : List ℕ) → AreReads newer
    → AreHonestSince (length calls) starts (newer ++ calls) → GaveSince (length calls) (newer ++ calls) disk at bytes
    → IsNow (record { starts = starts; calls = newer ++ calls }) disk at bytes
unfolding IsNow
gave_now starts [] calls disk at bytes are honest gave = absurd (none_gave (length calls) calls disk at bytes (omega arith) gave)
gave_now starts (made ∷ newer) calls disk at bytes are honest gave = elim gave [
  | inl (since, is) ↦
      still starts made (newer ++ calls) disk at bytes are.0
      (given starts made (newer ++ calls) disk at bytes is (honest.0 since))
  | inr earlier ↦ still starts made (newer ++ calls) disk at bytes are.0 (gave_now starts newer calls disk at bytes are.1 honest.1 earlier)
]

pub gave_is_now : (old new : Disks) (disk at : ℕ) (bytes : List ℕ) → OnlyReads old new → IsHonestSince old new
    → GaveSince (length old.calls) new.calls disk at bytes → IsNow new disk at bytes
unfolding IsNow
gave_is_now old new disk at bytes reads honest gave =
    let P : List JointCall → Type 0 = λ calls. IsNow (record { starts = new.starts; calls = calls }) disk at bytes in
    subst P (sym reads.calls)
    (gave_now new.starts reads.newer old.calls disk at bytes reads.are_reads
    (subst (λ (calls : List JointCall). AreHonestSince (length old.calls) new.starts calls) reads.calls honest)
    (subst (λ (calls : List JointCall). GaveSince (length old.calls) calls disk at bytes) reads.calls gave))

pub given_is : (old new : Disks) (disk at : ℕ) (bytes : List ℕ) → OnlyReads old new → IsHonestSince old new
    → GaveSince (length old.calls) new.calls disk at bytes → (i value : ℕ) → i < length bytes → content new disk (at + i) ≡ Some value
    → slice_get bytes i ≡ Some value
unfolding IsNow
given_is old new disk at bytes reads honest gave = gave_is_now old new disk at bytes reads honest gave

-- ---- which finding is whose

pub finding_here : (vdev : ℕ) (extent : Extent) (j k n : ℕ) (layout : List Column) (faults : List (Option Fault)) (column : Column) (fault : Fault)
    → n ≡ j + k → slice_get layout k ≡ Some column → slice_get faults k ≡ Some (Some fault)
    → Contains (findings_from vdev extent j layout faults) (finding vdev extent n column fault)
finding_here vdev extent j k n [] faults column fault is at at' = absurd (cc)
finding_here vdev extent j k n (c ∷ layout) [] column fault is at at' = absurd (cc)
finding_here vdev extent j zero n (c ∷ layout) (None ∷ faults) column fault is at at' = absurd (cc)
finding_here vdev extent j zero n (c ∷ layout) (Some other ∷ faults) column fault is at at' =
    let same_column : c ≡ column = same_some c column at in
    let same_fault : other ≡ fault = some_some other fault at' in
    let same_number : j ≡ n = omega arith in
    subst (λ (f : Finding). Contains (finding vdev extent j c other ∷ findings_from vdev extent (j + 1) layout faults) f)
    (ap (λ m. finding vdev extent m c other) same_number ∙ ap (λ (x : Column). finding vdev extent n x other) same_column
    ∙ ap (λ (f : Fault). finding vdev extent n column f) same_fault)
    (0, omega arith, refl)
finding_here vdev extent j (suc k) n (c ∷ layout) (None ∷ faults) column fault is at at' =
    finding_here vdev extent (j + 1) k n layout faults column fault (omega arith) at at'
finding_here vdev extent j (suc k) n (c ∷ layout) (Some other ∷ faults) column fault is at at' =
    let (m, within, there) = finding_here vdev extent (j + 1) k n layout faults column fault (omega arith) at at' in
    (suc m, omega arith, there)

-- the findings of a copy are among those of the block
pub copy_of : (shapes : List VdevShape) (old new : Disks) (missing : List ℕ) (sectors : ℕ) (known : Bool) (block : List ℕ) (places : List Dva) (found : List Finding)
    (i : ℕ) (place : Dva) → ArePlacesChecked shapes old new missing sectors known block places found → slice_get places i ≡ Some place
    → (own : List Finding) × ((one : Finding) → Contains own one → Contains found one) × IsPlaceChecked shapes old new missing sectors known block place own
copy_of shapes old new missing sectors known block [] found i place are at = absurd (cc)
copy_of shapes old new missing sectors known block (first ∷ places) found zero place (here, rest, parts, is, are) at = (
  here,
  λ one held. subst (λ (fs : List Finding). Contains fs one) (sym parts) (Contains-append_left here rest one held),
  subst (λ (p : Dva). IsPlaceChecked shapes old new missing sectors known block p here) (same_some first place at) is,
)
copy_of shapes old new missing sectors known block (first ∷ places) found (suc i) place (here, rest, parts, is, are) at =
    let (own, among, checked) = copy_of shapes old new missing sectors known block places rest i place are at in (
      own,
      λ one held. subst (λ (fs : List Finding). Contains fs one) (sym parts) (Contains-append_right here rest one (among one held)),
      checked,
    )

-- and those of a block among those of all
pub block_of : (shapes : List VdevShape) (old new : Disks) (missing : List ℕ) (blocks : List Block) (found : List Finding) (block : Block)
    → AreChecked shapes old new missing blocks found → (k : ℕ) → slice_get blocks k ≡ Some block
    → (own : List Finding) × ((one : Finding) → Contains own one → Contains found one) × IsBlockChecked shapes old new missing block own
block_of shapes old new missing [] found block are k at = absurd (cc)
block_of shapes old new missing (first ∷ blocks) found block (here, rest, parts, is, are) zero at = (
  here,
  λ one held. subst (λ (fs : List Finding). Contains fs one) (sym parts) (Contains-append_left here rest one held),
  subst (λ (b : Block). IsBlockChecked shapes old new missing b here) (same_some first block at) is,
)
block_of shapes old new missing (first ∷ blocks) found block (here, rest, parts, is, are) (suc k) at =
    let (own, among, checked) = block_of shapes old new missing blocks rest block are k at in (
      own,
      λ one held. subst (λ (fs : List Finding). Contains fs one) (sym parts) (Contains-append_right here rest one (among one held)),
      checked,
    )

-- ---- what stands

stands_behind : (content : Content) (disk at value : ℕ) (part : List ℕ) → content disk at ≡ Some value → Stands content disk (at + 1) part
    → (i : ℕ) → i < length (value ∷ part) → content disk (at + i) ≡ slice_get (value ∷ part) i
stands_behind content disk at value part first rest zero within = ap (λ (x : ℕ). content disk x) (omega arith) ∙ first
stands_behind content disk at value part first rest (suc i) within = ap (λ (x : ℕ). content disk x) (omega arith) ∙ rest i (omega (arith, within))

-- where each byte of a place is known a list stands there
stands_known : (content : Content) (disk at n : ℕ) → ((i : ℕ) → i < n → (value : ℕ) × (content disk (at + i) ≡ Some value))
    → (part : List ℕ) × (length part ≡ n) × Stands content disk at part
stands_known content disk at zero known = ([], refl, λ i within. absurd (omega (arith, within)))
stands_known content disk at (suc n) known =
    let (value, is) = known 0 (omega arith) in
    let (part, size, there) =
    stands_known content disk (at + 1) n (λ i within.
    let (next, is') = known (suc i) (omega (arith, within)) in
    (next, ap (λ (x : ℕ). content disk x) (omega arith) ∙ is')) in
    (value ∷ part, omega (arith, size), stands_behind content disk at value part (ap (λ (x : ℕ). content disk x) (omega arith) ∙ is) there)

-- where a disk gave what stood in a place of which each byte is known, what it gave stands there
gave_stands : (old new : Disks) (disk at : ℕ) (bytes : List ℕ) → OnlyReads old new → GivesTruly old new disk
    → GaveSince (length old.calls) new.calls disk at bytes
    → ((i : ℕ) → i < length bytes → (value : ℕ) × (content new disk (at + i) ≡ Some value)) → Stands (content new) disk at bytes
gave_stands old new disk at bytes reads truly gave known =
    let (part, size, there) = stands_known (content new) disk at (length bytes) known in
    let same : bytes ≡ part = truly at bytes part gave (sym size) (λ i within. sym (content-OnlyReads old new reads disk (at + i)) ∙ there i within) in
    subst (λ (b : List ℕ). Stands (content new) disk at b) (sym same) there

-- a column of which nothing was found stands, where its disk gave what stood there
pub column_stands : (old new : Disks) (missing left : List ℕ) (vdev : ℕ) (extent : Extent) (content_is bytes : List ℕ) (found : List Finding)
    → OnlyReads old new → IsKnownBut new left extent
    → (copy : IsCopyChecked old new missing vdev extent true content_is found) → ((one : Finding) → Contains found one → Contains left one.disk)
    → (k : ℕ) (column : Column) → slice_get copy.layout k ≡ Some column → slice_get (all_columns copy.columns) k ≡ Some bytes
    → ¬ Contains left (disk_of extent.vdev column) → GivesTruly old new (disk_of extent.vdev column)
    → (fault : Option Fault) → slice_get copy.faults k ≡ Some fault → Stands (content new) (disk_of extent.vdev column) (offset_of column) bytes
column_stands old new missing left vdev extent content_is bytes found reads known copy in_left k column at at' there truly None fault_is =
    let (told, gave) = copy.judged k column bytes None at at' fault_is in
    let size : length bytes ≡ column.sectors * 512 = size_at extent content_is copy.layout copy.columns k column bytes copy.are_bytes at at' in
    gave_stands old new (disk_of extent.vdev column) (offset_of column) bytes reads truly gave (λ j within.
    known (disk_of extent.vdev column) (offset_of column + j) there
    (record {
      k = k;
      column = column;
      is_column = copy.is_layout.places k column at;
      which = refl;
      from_first = omega arith;
      before_end = omega (arith, size, within);
    }))
column_stands old new missing left vdev extent content_is bytes found reads known copy in_left k column at at' there truly (Some fault) fault_is =
    absurd (there (in_left (finding vdev extent k column fault)
    (subst (λ (fs : List Finding). Contains fs (finding vdev extent k column fault)) (sym copy.found_are)
    (finding_here vdev extent 0 k k copy.layout copy.faults column fault (omega arith) at fault_is))))

pub fault_at : {X : Type 0} (layout : List X) (faults : List (Option Fault)) (k : ℕ) (x : X) → length faults ≡ length layout → slice_get layout k ≡ Some x
    → slice_get faults k ≡ Some (get_or faults k None)
fault_at layout faults k x count at = slice_get-get_or faults k None (omega (arith, count, slice_get_within layout k x at))

known_stands : (old new : Disks) (missing left : List ℕ) (vdev : ℕ) (extent : Extent) (content_is bytes : List ℕ) (found : List Finding) → OnlyReads old new
    → ((disk : ℕ) → GivesTruly old new disk) → IsKnownBut new left extent → content_is ≡ bytes → IsCopyChecked old new missing vdev extent true content_is found
    → ((one : Finding) → Contains found one → Contains left one.disk) → ExtentStands (content new) left extent bytes
known_stands old new missing left vdev extent content_is bytes found reads truly known same copy in_left = record {
  layout = copy.layout;
  columns = copy.columns;
  is_layout = copy.is_layout;
  are_bytes = subst (λ (b : List ℕ). AreBytesOf extent b copy.layout copy.columns) same copy.are_bytes;
  stand = λ k column b at at' there.
      column_stands old new missing left vdev extent content_is b found reads known copy in_left k column at at' there (truly (disk_of extent.vdev column))
      (get_or copy.faults k None)
      (fault_at copy.layout copy.faults k column copy.count at);
}

never : {A : Type 0} (b : Bool) → b ≡ true → b ≡ false → A
never b is not = cc

-- of a copy that isn't known something was found at each column
pub found_at : (old new : Disks) (missing left : List ℕ) (vdev : ℕ) (extent : Extent) (content_is : List ℕ) (found : List Finding)
    → (copy : IsCopyChecked old new missing vdev extent false content_is found) → ((one : Finding) → Contains found one → Contains left one.disk)
    → (k : ℕ) (column : Column) (bytes : List ℕ) → slice_get copy.layout k ≡ Some column → slice_get (all_columns copy.columns) k ≡ Some bytes
    → (fault : Option Fault) → slice_get copy.faults k ≡ Some fault → Contains left (disk_of extent.vdev column)
found_at old new missing left vdev extent content_is found copy in_left k column bytes at at' None fault_is =
    never false (copy.judged k column bytes None at at' fault_is).0 refl
found_at old new missing left vdev extent content_is found copy in_left k column bytes at at' (Some fault) fault_is =
    in_left (finding vdev extent k column fault)
    (subst (λ (fs : List Finding). Contains fs (finding vdev extent k column fault)) (sym copy.found_are)
    (finding_here vdev extent 0 k k copy.layout copy.faults column fault (omega arith) at fault_is))

pub column_count : (extent : Extent) (block : List ℕ) (layout : List Column) (columns : Columns) → AreBytesOf extent block layout columns
    → length (all_columns columns) ≡ length layout
column_count extent block layout columns are =
    omega (
      arith,
      length-map (all_columns columns) (length {A = ℕ}),
      length-map layout (λ (c : Column). c.sectors * 512),
      ap (length {A = ℕ}) are.sizes,
    )

unknown_stands : (old new : Disks) (missing left absent : List ℕ) (vdev : ℕ) (extent : Extent) (content_is bytes : List ℕ) (found : List Finding) (before : Content)
    → IsCopyChecked old new missing vdev extent false content_is found → ((one : Finding) → Contains found one → Contains left one.disk)
    → ExtentStands before absent extent bytes → ExtentStands (content new) left extent bytes
unknown_stands old new missing left absent vdev extent content_is bytes found before copy in_left stood = record {
  layout = stood.layout;
  columns = stood.columns;
  is_layout = stood.is_layout;
  are_bytes = stood.are_bytes;
  stand = λ k column b at at' there.
      let same : stood.layout ≡ copy.layout = layouts_agree extent stood.layout copy.layout stood.is_layout copy.is_layout in
      let here : slice_get copy.layout k ≡ Some column = ap (λ (l : List Column). slice_get l k) (sym same) ∙ at in
      let within : k < length (all_columns copy.columns) =
      omega (arith, column_count extent content_is copy.layout copy.columns copy.are_bytes, slice_get_within copy.layout k column here) in
      absurd (there (found_at old new missing left vdev extent content_is found copy in_left k column (get_or (all_columns copy.columns) k []) here
      (slice_get-get_or (all_columns copy.columns) k [] within) (get_or copy.faults k None) (fault_at copy.layout copy.faults k column copy.count here)));
}

pub one_extent : (shapes : List VdevShape) (sectors : ℕ) (place : Dva) (extent other : Extent) → IsExtentOn shapes sectors place extent
    → IsExtentOn shapes sectors place other → extent ≡ other
one_extent shapes sectors place extent other at at' =
    let same : at.shape ≡ at'.shape = same_some at.shape at'.shape (sym at.found ∙ at'.found) in
    same_extent extent other (at.vdev ∙ ap (λ (s : VdevShape). s.vdev) same ∙ sym at'.vdev) (at.start ∙ sym at'.start) (at.sectors_are ∙ sym at'.sectors_are)

-- the copy of a block, where the bytes are known, or aren't
again : (shapes : List VdevShape) (old new : Disks) (missing left : List ℕ) (block : Block) (known : Bool) (content_is given : List ℕ) (found : List Finding)
    → OnlyReads old new → ((disk : ℕ) → GivesTruly old new disk) → (known ≡ true → sha256 content_is ≡ block.checksum) → sha256 given ≡ block.checksum
    → ArePlacesChecked shapes old new missing block.property.sectors known content_is (dvas block.copies) found
    → ((one : Finding) → Contains found one → Contains left one.disk)
    → (bytes : List ℕ) × (sha256 bytes ≡ block.checksum) × StandsAgain shapes new left block given bytes
again shapes old new missing left block true content_is given found reads truly digest has are in_left = (
  content_is,
  digest refl,
  λ i extent before absent is_copy stood known.
      let (mine, among, (extent', there, copy)) =
      copy_of shapes old new missing block.property.sectors true content_is (dvas block.copies) found i is_copy.place are is_copy.is_copy in
      let same : extent' ≡ extent = one_extent shapes block.property.sectors is_copy.place extent' extent there is_copy.extent_is in
      known_stands old new missing left is_copy.place.vdev extent content_is content_is mine reads truly known refl
      (subst (λ (e : Extent). IsCopyChecked old new missing is_copy.place.vdev e true content_is mine) same copy)
      (λ one held. in_left one (among one held)),
)
again shapes old new missing left block false content_is given found reads truly digest has are in_left = (
  given,
  has,
  λ i extent before absent is_copy stood known.
      let (mine, among, (extent', there, copy)) =
      copy_of shapes old new missing block.property.sectors false content_is (dvas block.copies) found i is_copy.place are is_copy.is_copy in
      let same : extent' ≡ extent = one_extent shapes block.property.sectors is_copy.place extent' extent there is_copy.extent_is in
      unknown_stands old new missing left absent is_copy.place.vdev extent content_is given mine before
      (subst (λ (e : Extent). IsCopyChecked old new missing is_copy.place.vdev e false content_is mine) same copy)
      (λ one held. in_left one (among one held)) stood,
)

pub checked_stand : HonestDisksGiveTruly → CheckedBlocksStand
checked_stand give shapes old new missing left blocks found are reads honest in_left block given (k, within, is) has =
    let at : slice_get blocks k ≡ Some block = slice_get-get_or blocks k block within ∙ ap (λ b. Some b) is in
    let (own, among, checked) = block_of shapes old new missing blocks found block are k at in
    again shapes old new missing left block checked.known checked.content given own reads (give old new reads honest) checked.digest has checked.copies
    (λ one held. in_left one (among one held))
