-- What is found of blocks is what is wrong on the disks.
use Rattle.std.proofs.Common.{ℕ, zero, suc, ◌≡◌, ◌≢◌, ◌⊎◌, inl, inr, ◌<◌, ◌≤◌, ◌+◌, ◌*◌, Bool, true, false, Option, Some, None, List, [], ◌∷◌, ◌++◌, length, map, get_or, slice_index, if◌then◌else◌, Contains, refl, sym, ap, subst, ◌∙◌, arith}
use Rattle.std.specs.List.{slice_get}
use Rattle.std.proofs.lemmas.List.{ext_get_or}
use Rattle.std.proofs.lemmas.List.Elements.{Contains-append_left, Contains-append_right, Contains-append_cases}
use Rattle.std.proofs.lemmas.Option.{slice_get-get_or, slice_get_within}
use Rattle.sha2.specs.Sha256.{sha256}
use Rattle.model_disk.specs.Call.{Call, Read}
use Rattle.model_disk.specs.Joint.{JointCall, Disks, calls_on, content}
use Rattle.model_disk.proofs.JointLemmas.{calls_on-same}
use Rattle.block_pointer.specs.declared.block.Block.{Block}
use Rattle.block_pointer.specs.declared.dva.Dva.{Dva}
use Rattle.block_pointer.specs.Copies.{dvas}
use Rattle.block_store.specs.declared.shape.VdevShape.{VdevShape}
use Rattle.raidz_map.specs.declared.column.Column.{Column}
use Rattle.raidz_parity.specs.Layout.{Block as Columns}
use Rattle.raidz_parity.specs.Parity.{weighted_sum_at}
use Rattle.raidz_io.specs.declared.vdev.Extent.{Extent}
use Rattle.raidz_io.specs.Places.{Stands, disk_of, offset_of}
use Rattle.raidz_io.specs.Reads.{AreUntouched, FewAreLost, FewAreNotMore, GaveSince, IsHonestSince, OnlyReads, absent_since}
use Rattle.raidz_io.specs.Stands.{AreBytesOf, ExtentStands, all_columns}
use Rattle.raidz_io.proofs.Calls.{content-OnlyReads}
use Rattle.raidz_io.proofs.Layouts.{layouts_agree, same_list}
use Rattle.scrub_resilver.specs.Checking.{AreChecked, ArePlacesChecked, IsBlockChecked, IsPlaceChecked}
use Rattle.scrub_resilver.specs.Copies.{AreUnread, IsUnread, IsUnreadAt, IsExtentOn}
use Rattle.scrub_resilver.specs.Findings.{ColumnShouldHave, CopyColumn, FindingsAreOfTheDisks, HasFault, IsColumnOfOne, IsFaulty, ShouldHave, StoodOnEnough, its_disk, its_offset, told_of}
use Rattle.scrub_resilver.specs.Looking.{IsCopyChecked, IsJudged, ReadFailedSince, finding, findings_from}
use Rattle.scrub_resilver.specs.declared.fault.Fault.{Fault}
use Rattle.scrub_resilver.specs.declared.fault.Fault.TheVariants.{Unreadable, Wrong}
use Rattle.scrub_resilver.specs.declared.fault.Finding.{Finding}
use Rattle.scrub_resilver.proofs.Logs.{absent_from, absent_later, gave_later, gave_since}
use Rattle.scrub_resilver.proofs.Placing.{size_at}
use Rattle.scrub_resilver.proofs.Stood.{column_count, copy_of, fault_at, finding_here, given_is, none_gave, one_extent, same_some}

-- ---- disks that weren't called

longer_by : (asked : Bool) (call : Call) (log : List Call) (n : ℕ) → n ≤ length log → n ≤ length (if asked then call ∷ log else log)
longer_by true call log n le = omega arith
longer_by false call log n le = le

longer : (disk : ℕ) (newer calls : List JointCall) → length (calls_on disk calls) ≤ length (calls_on disk (newer ++ calls))
longer disk [] calls = omega arith
longer disk (made ∷ newer) calls =
    longer_by _ made.call (calls_on disk (newer ++ calls)) (length (calls_on disk calls)) (longer disk newer calls)

longer_where_read : (disk at : ℕ) (bytes : List ℕ) (newer calls : List JointCall) → GaveSince (length calls) (newer ++ calls) disk at bytes
    → length (calls_on disk calls) + 1 ≤ length (calls_on disk (newer ++ calls))
longer_where_read disk at bytes [] calls gave = absurd (none_gave (length calls) calls disk at bytes (omega arith) gave)
longer_where_read disk at bytes (made ∷ newer) calls gave = elim gave [
  | inl (since, is) ↦
      subst (λ (m : JointCall). length (calls_on disk calls) + 1 ≤ length (calls_on disk (m ∷ (newer ++ calls)))) (sym is)
      (rw (calls_on-same disk (Read at bytes) (newer ++ calls)) (omega (arith, longer disk newer calls)))
  | inr earlier ↦
      longer_by _ made.call (calls_on disk (newer ++ calls)) (length (calls_on disk calls) + 1) (longer_where_read disk at bytes newer calls earlier)
]

-- a missing disk gave nothing
pub gave_none : (old new : Disks) (missing : List ℕ) (disk at : ℕ) (bytes : List ℕ) → OnlyReads old new → AreUntouched missing old new → Contains missing disk
    → ¬ GaveSince (length old.calls) new.calls disk at bytes
gave_none old new missing disk at bytes reads untouched gone gave =
    let more : length (calls_on disk old.calls) + 1 ≤ length (calls_on disk (reads.newer ++ old.calls)) =
    longer_where_read disk at bytes reads.newer old.calls
    (subst (λ (calls : List JointCall). GaveSince (length old.calls) calls disk at bytes) reads.calls gave) in
    let same : calls_on disk (reads.newer ++ old.calls) ≡ calls_on disk old.calls = ap (calls_on disk) (sym reads.calls) ∙ untouched disk gone in
    omega (arith, more, ap (length {A = Call}) same)

-- ---- bytes have one parity

rows_agree : (xs ys more others : List (List ℕ)) → length xs ≡ length ys → map (length {A = ℕ}) (xs ++ more) ≡ map (length {A = ℕ}) (ys ++ others)
    → ((row : ℕ) (x y : List ℕ) → slice_get xs row ≡ Some x → slice_get ys row ≡ Some y → (j : ℕ) → slice_index x j ≡ slice_index y j) → xs ≡ ys
rows_agree [] [] more others long sizes same = refl
rows_agree [] (y ∷ ys) more others long sizes same = absurd (omega arith)
rows_agree (x ∷ xs) [] more others long sizes same = absurd (omega arith)
rows_agree (x ∷ xs) (y ∷ ys) more others long sizes same =
    let row : x ≡ y = ext_get_or 0 x y (cc) (λ j within. same 0 x y refl refl j) in
    let rows : xs ≡ ys = rows_agree xs ys more others (omega arith) (cc) (λ k. same (suc k)) in
    cc

pub columns_agree : (extent : Extent) (block : List ℕ) (layout : List Column) (a b : Columns) → AreBytesOf extent block layout a → AreBytesOf extent block layout b
    → all_columns a ≡ all_columns b
columns_agree extent block layout a b is_a is_b =
    let parts : a.data_columns ≡ b.data_columns = is_a.block_columns ∙ sym is_b.block_columns in
    let rows : a.parity ≡ b.parity =
    rows_agree a.parity b.parity a.data_columns b.data_columns (is_a.parity_count ∙ sym is_b.parity_count) (is_a.sizes ∙ sym is_b.sizes)
    (λ row x y at at' j. is_a.parity row x at j ∙ ap (λ (columns : List (List ℕ)). weighted_sum_at row columns j) parts ∙ sym (is_b.parity row y at' j)) in
    ap (λ (ps : List (List ℕ)). ps ++ a.data_columns) rows ∙ ap (λ (ds : List (List ℕ)). b.parity ++ ds) parts

-- ---- what a look at a column says of its disk

same_given : (old new : Disks) (disk at : ℕ) (others bytes : List ℕ) → OnlyReads old new → IsHonestSince old new
    → GaveSince (length old.calls) new.calls disk at others → length others ≡ length bytes → Stands (content old) disk at bytes → others ≡ bytes
same_given old new disk at others bytes reads honest gave size there =
    same_list others bytes size (λ i x y is is'.
    let within : i < length bytes = slice_get_within bytes i y is' in
    same_some x y (sym is ∙ given_is old new disk at others reads honest gave i y (omega (arith, within, size))
    (content-OnlyReads old new reads disk (at + i) ∙ there i within ∙ is')))

-- what is known of bytes
abbrev pub known_bytes : Bool → List ℕ → Option (List ℕ)
known_bytes true bytes = Some bytes
known_bytes false bytes = None

unknown_given : (it : CopyColumn) (others : List ℕ) → it.bytes ≡ None → it.bytes ≢ Some others
unknown_given it others none same = absurd (let no : None ≡ Some others = sym none ∙ same in cc)

fault_is : (old new : Disks) (missing : List ℕ) (it : CopyColumn) (known : Bool) (bytes : List ℕ) (fault : Fault) → OnlyReads old new
    → AreUntouched missing old new → IsHonestSince old new → it.bytes ≡ known_bytes known bytes → length bytes ≡ it.column.sectors * 512
    → IsJudged old new missing known (its_disk it) (its_offset it) bytes (Some fault) → HasFault old new missing it fault
fault_is old new missing it known bytes Unreadable reads untouched honest same size is =
    subst (λ n. Contains missing (its_disk it) ⊎ ReadFailedSince (length old.calls) new.calls (its_disk it) (its_offset it) n) size is
fault_is old new missing it true bytes Wrong reads untouched honest same size (others, gave, long, differ) = (
  λ gone. gave_none old new missing (its_disk it) (its_offset it) others reads untouched gone gave,
  (others, gave, λ given. differ refl (same_some others bytes (sym given ∙ same))),
  λ (own, own_is, there).
      let so : own ≡ bytes = same_some own bytes (sym own_is ∙ same) in
      differ refl (same_given old new (its_disk it) (its_offset it) others bytes reads honest gave long
      (subst (λ (b : List ℕ). Stands (content old) (its_disk it) (its_offset it) b) so there)),
)
fault_is old new missing it false bytes Wrong reads untouched honest same size (others, gave, long, differ) = (
  λ gone. gave_none old new missing (its_disk it) (its_offset it) others reads untouched gone gave,
  (others, gave, unknown_given it others same),
  λ (own, own_is, there). unknown_given it own same own_is,
)

isnt_faulty : (old new : Disks) (missing : List ℕ) (it : CopyColumn) (known : Bool) (bytes : List ℕ) → OnlyReads old new → AreUntouched missing old new
    → IsHonestSince old new → it.bytes ≡ known_bytes known bytes → IsJudged old new missing known (its_disk it) (its_offset it) bytes None
    → ¬ IsFaulty old new missing it
isnt_faulty old new missing it false bytes reads untouched honest same (told, gave) faulty = absurd (cc)
isnt_faulty old new missing it true bytes reads untouched honest same (told, gave) faulty = elim faulty [
  | inl gone ↦ gave_none old new missing (its_disk it) (its_offset it) bytes reads untouched gone gave
  | inr (inl (own, i, value, own_is, within, is, other)) ↦
      let so : own ≡ bytes = same_some own bytes (sym own_is ∙ same) in
      other (ap (λ (b : List ℕ). slice_get b i) so
      ∙ given_is old new (its_disk it) (its_offset it) bytes reads honest gave i value (subst (λ (b : List ℕ). i < length b) so within)
      (content-OnlyReads old new reads (its_disk it) (its_offset it + i) ∙ is))
  | inr (inr not) ↦ not (bytes, same, gave)
]

-- ---- blocks that could be read

-- a copy that stood on enough disks wasn't unread at any moment
was_read : FewAreNotMore → (old new : Disks) (missing wrong digest bytes : List ℕ) (extent : Extent) → OnlyReads old new → IsHonestSince old new → sha256 bytes ≡ digest
    → FewAreLost extent (absent_since old new missing ++ wrong) → ExtentStands (content old) (absent_since old new missing ++ wrong) extent bytes
    → ¬ IsUnread old new missing digest extent
was_read law old new missing wrong digest bytes extent reads honest is few stood unread =
    let lost : List ℕ = absent_since old new missing ++ wrong in
    let then_lost : List ℕ = absent_since unread.before unread.after missing in
    let wider : (disk : ℕ) → Contains then_lost disk → Contains lost disk =
    λ disk held. Contains-append_left (absent_since old new missing) wrong disk
    (absent_from old unread.before new missing disk unread.first (absent_later unread.before unread.after new missing disk unread.later held)) in
    elim unread.cause [
      | inl more ↦
          law extent then_lost
          (record { disks = few.disks; few = few.few; all = λ disk holds held. few.all disk holds (wider disk held) }) more
      | inr none ↦
          none.none_stands bytes lost
          (λ disk there at others part gave long stands.
          same_given old new disk at others part reads honest
          (gave_later old unread.after new disk at others unread.later (gave_since old unread.before unread.after disk at others unread.first gave)) long
          (λ i within. sym (content-OnlyReads old unread.before unread.first disk (at + i)) ∙ stands i within))
          (record {
            layout = stood.layout;
            columns = stood.columns;
            is_layout = stood.is_layout;
            are_bytes = stood.are_bytes;
            stand = λ i column part at at' there j within.
                content-OnlyReads old unread.before unread.first (disk_of extent.vdev column) (offset_of column + j)
                ∙ stood.stand i column part at at' (λ held. there (Contains-append_right then_lost lost (disk_of extent.vdev column) held)) j within;
          })
          (record {
            disks = few.disks;
            few = few.few;
            all = λ disk holds held. few.all disk holds (elim (Contains-append_cases then_lost lost disk held) [ inl here ↦ wider disk here | inr there ↦ there ]);
          }) is
    ]

unread_at : (shapes : List VdevShape) (old new : Disks) (missing : List ℕ) (block : Block) (places : List Dva) (i : ℕ) (place : Dva)
    → AreUnread shapes old new missing block places → slice_get places i ≡ Some place → IsUnreadAt shapes old new missing block place
unread_at shapes old new missing block [] i place are at = absurd (cc)
unread_at shapes old new missing block (first ∷ places) zero place are at =
    subst (λ (p : Dva). IsUnreadAt shapes old new missing block p) (same_some first place at) are.0
unread_at shapes old new missing block (first ∷ places) (suc i) place are at = unread_at shapes old new missing block places i place are.1 at

-- a block that wasn't read stood on enough disks with no bytes of its digest
never_stood : FewAreNotMore → (shapes : List VdevShape) (old new : Disks) (missing : List ℕ) (block : Block) (bytes : List ℕ) → OnlyReads old new
    → IsHonestSince old new
    → AreUnread shapes old new missing block (dvas block.copies) → sha256 bytes ≡ block.checksum → ¬ StoodOnEnough shapes old new missing block bytes
never_stood law shapes old new missing block bytes reads honest are is stood =
    let (extent, at, unread) = unread_at shapes old new missing block (dvas block.copies) stood.i stood.is_copy.place are stood.is_copy.is_copy in
    let same : extent ≡ stood.extent = one_extent shapes block.property.sectors stood.is_copy.place extent stood.extent at stood.is_copy.extent_is in
    was_read law old new missing stood.others block.checksum bytes stood.extent reads honest is stood.few stood.stood
    (subst (λ (e : Extent). IsUnread old new missing block.checksum e) same unread)

should_have : FewAreNotMore → (shapes : List VdevShape) (old new : Disks) (missing : List ℕ) (block : Block) (known : Bool) (bytes : List ℕ) → OnlyReads old new
    → IsHonestSince old new → (known ≡ true → sha256 bytes ≡ block.checksum) → (known ≡ false → AreUnread shapes old new missing block (dvas block.copies))
    → ShouldHave shapes old new missing block (known_bytes known bytes)
should_have law shapes old new missing block true bytes reads honest digest unread = digest refl
should_have law shapes old new missing block false bytes reads honest digest unread =
    λ others is. never_stood law shapes old new missing block others reads honest (unread refl) is

-- ---- the bytes that blocks were looked at beside

abbrev pub contents_of : (shapes : List VdevShape) (old new : Disks) (missing : List ℕ) (blocks : List Block) (found : List Finding)
    → AreChecked shapes old new missing blocks found → List (Option (List ℕ))
contents_of shapes old new missing [] found are = []
contents_of shapes old new missing (block ∷ blocks) found (here, rest, parts, is, are) =
    known_bytes is.known is.content ∷ contents_of shapes old new missing blocks rest are

length-contents_of : (shapes : List VdevShape) (old new : Disks) (missing : List ℕ) (blocks : List Block) (found : List Finding)
    → (are : AreChecked shapes old new missing blocks found) → length (contents_of shapes old new missing blocks found are) ≡ length blocks
length-contents_of shapes old new missing [] found are = refl
length-contents_of shapes old new missing (block ∷ blocks) found (here, rest, parts, is, are) =
    let more = length-contents_of shapes old new missing blocks rest are in omega (arith, more)

-- a block's own findings, and its bytes among those of all
pub record IsBlockAt (shapes : List VdevShape) (old new : Disks) (missing : List ℕ) (found : List Finding) (contents : List (Option (List ℕ))) (n : ℕ) (block : Block)
    : Type 0 where
  pub own : List Finding
  pub among : (one : Finding) → Contains own one → Contains found one
  pub checked : IsBlockChecked shapes old new missing block own
  pub content_is : slice_get contents n ≡ Some (known_bytes checked.known checked.content)

block_at : (shapes : List VdevShape) (old new : Disks) (missing : List ℕ) (blocks : List Block) (found : List Finding)
    → (are : AreChecked shapes old new missing blocks found) → (n : ℕ) (block : Block) → slice_get blocks n ≡ Some block
    → IsBlockAt shapes old new missing found (contents_of shapes old new missing blocks found are) n block
block_at shapes old new missing [] found are n block at = absurd (cc)
block_at shapes old new missing (first ∷ blocks) found (here, rest, parts, is, are) zero block at =
    subst (λ (b : Block). IsBlockAt shapes old new missing found (known_bytes is.known is.content ∷ contents_of shapes old new missing blocks rest are) 0 b)
    (same_some first block at)
    (record {
      own = here;
      among = λ one held. subst (λ (fs : List Finding). Contains fs one) (sym parts) (Contains-append_left here rest one held);
      checked = is;
      content_is = refl;
    })
block_at shapes old new missing (first ∷ blocks) found (here, rest, parts, is, are) (suc n) block at =
    let later : IsBlockAt shapes old new missing rest (contents_of shapes old new missing blocks rest are) n block =
    block_at shapes old new missing blocks rest are n block at in
    record {
      own = later.own;
      among = λ one held. subst (λ (fs : List Finding). Contains fs one) (sym parts) (Contains-append_right here rest one (later.among one held));
      checked = later.checked;
      content_is = later.content_is;
    }

-- ---- whose findings they are

pub cases_in : {X : Type 0} (x : X) (xs : List X) (y : X) → Contains (x ∷ xs) y → (y ≡ x) ⊎ Contains xs y
cases_in x xs y (zero, within, is) = inl (sym is)
cases_in x xs y (suc k, within, is) = inr (k, omega arith, is)

pub there_first : {X : Type 0} (x : X) (xs : List X) → Contains (x ∷ xs) x
there_first x xs = (0, omega arith, refl)

pub there_later : {X : Type 0} (x : X) (xs : List X) (y : X) → Contains xs y → Contains (x ∷ xs) y
there_later x xs y held = (suc held.0, omega (arith, held.1), held.2)

pub none_there : {X : Type 0} (y : X) → Contains [] y → ⊥
none_there y held = omega (arith, held.1)

-- the column that is found, and its fault
pub record IsFindingFrom (vdev : ℕ) (extent : Extent) (j : ℕ) (layout : List Column) (faults : List (Option Fault)) (one : Finding) : Type 0 where
  pub k : ℕ
  pub column : Column
  pub fault : Fault
  pub at : slice_get layout k ≡ Some column
  pub fault_at : slice_get faults k ≡ Some (Some fault)
  pub is : one ≡ finding vdev extent (j + k) column fault

one_later : (vdev : ℕ) (extent : Extent) (j : ℕ) (c : Column) (f : Option Fault) (layout : List Column) (faults : List (Option Fault)) (one : Finding)
    → IsFindingFrom vdev extent (j + 1) layout faults one → IsFindingFrom vdev extent j (c ∷ layout) (f ∷ faults) one
one_later vdev extent j c f layout faults one from =
    let same : j + 1 + from.k ≡ j + suc from.k = omega arith in
    record {
      k = suc from.k;
      column = from.column;
      fault = from.fault;
      at = from.at;
      fault_at = from.fault_at;
      is = from.is ∙ ap (λ n. finding vdev extent n from.column from.fault) same;
    }

pub finding_from : (vdev : ℕ) (extent : Extent) (j : ℕ) (layout : List Column) (faults : List (Option Fault)) (one : Finding)
    → Contains (findings_from vdev extent j layout faults) one → IsFindingFrom vdev extent j layout faults one
finding_from vdev extent j [] faults one held = absurd (none_there one held)
finding_from vdev extent j (c ∷ layout) [] one held = absurd (none_there one held)
finding_from vdev extent j (c ∷ layout) (None ∷ faults) one held =
    one_later vdev extent j c None layout faults one (finding_from vdev extent (j + 1) layout faults one held)
finding_from vdev extent j (c ∷ layout) (Some fault ∷ faults) one held =
    elim (cases_in (finding vdev extent j c fault) (findings_from vdev extent (j + 1) layout faults) one held) [
      | inl is ↦
          let same : j ≡ j + 0 = omega arith in
          record { k = 0; column = c; fault = fault; at = refl; fault_at = refl; is = is ∙ ap (λ n. finding vdev extent n c fault) same }
      | inr later ↦ one_later vdev extent j c (Some fault) layout faults one (finding_from vdev extent (j + 1) layout faults one later)
    ]

-- the copy whose finding it is
pub record IsOfPlace (shapes : List VdevShape) (old new : Disks) (missing : List ℕ) (sectors : ℕ) (known : Bool) (block : List ℕ) (places : List Dva) (one : Finding)
    : Type 0 where
  pub place : Dva
  pub is_one : Contains places place
  pub own : List Finding
  pub checked : IsPlaceChecked shapes old new missing sectors known block place own
  pub held : Contains own one

pub place_found : (shapes : List VdevShape) (old new : Disks) (missing : List ℕ) (sectors : ℕ) (known : Bool) (block : List ℕ) (places : List Dva) (found : List Finding)
    (one : Finding) → ArePlacesChecked shapes old new missing sectors known block places found → Contains found one
    → IsOfPlace shapes old new missing sectors known block places one
place_found shapes old new missing sectors known block [] found one are held =
    absurd (none_there one (subst (λ (fs : List Finding). Contains fs one) are held))
place_found shapes old new missing sectors known block (place ∷ places) found one (here, rest, parts, is, are) held =
    elim (Contains-append_cases here rest one (subst (λ (fs : List Finding). Contains fs one) parts held)) [
      | inl mine ↦ record { place = place; is_one = there_first place places; own = here; checked = is; held = mine }
      | inr later ↦
          let of : IsOfPlace shapes old new missing sectors known block places one = place_found shapes old new missing sectors known block places rest one are later in
          record { place = of.place; is_one = there_later place places of.place of.is_one; own = of.own; checked = of.checked; held = of.held }
    ]

-- and the block
pub record IsOfBlock (shapes : List VdevShape) (old new : Disks) (missing : List ℕ) (blocks : List Block) (contents : List (Option (List ℕ))) (one : Finding)
    : Type 0 where
  pub n : ℕ
  pub block : Block
  pub is_block : slice_get blocks n ≡ Some block
  pub own : List Finding
  pub checked : IsBlockChecked shapes old new missing block own
  pub content_is : slice_get contents n ≡ Some (known_bytes checked.known checked.content)
  pub held : Contains own one

block_found : (shapes : List VdevShape) (old new : Disks) (missing : List ℕ) (blocks : List Block) (found : List Finding) (one : Finding)
    → (are : AreChecked shapes old new missing blocks found) → Contains found one
    → IsOfBlock shapes old new missing blocks (contents_of shapes old new missing blocks found are) one
block_found shapes old new missing [] found one are held = absurd (none_there one (subst (λ (fs : List Finding). Contains fs one) are held))
block_found shapes old new missing (block ∷ blocks) found one (here, rest, parts, is, are) held =
    elim (Contains-append_cases here rest one (subst (λ (fs : List Finding). Contains fs one) parts held)) [
      | inl mine ↦ record { n = 0; block = block; is_block = refl; own = here; checked = is; content_is = refl; held = mine }
      | inr later ↦
          let of : IsOfBlock shapes old new missing blocks (contents_of shapes old new missing blocks rest are) one =
          block_found shapes old new missing blocks rest one are later in
          record {
            n = suc of.n;
            block = of.block;
            is_block = of.is_block;
            own = of.own;
            checked = of.checked;
            content_is = of.content_is;
            held = of.held;
          }
    ]

-- ---- of none but faulty columns

-- a column of bytes that were looked for
its_bytes : (extent : Extent) (block : List ℕ) (layout : List Column) (columns : Columns) (k : ℕ) (known : Bool) (bytes : List ℕ)
    → AreBytesOf extent block layout columns → slice_get (all_columns columns) k ≡ Some bytes
    → ColumnShouldHave extent layout k (known_bytes known block) (known_bytes known bytes)
its_bytes extent block layout columns k true bytes are at = (columns, are, at)
its_bytes extent block layout columns k false bytes are at = refl

only_faults : (shapes : List VdevShape) (old new : Disks) (missing : List ℕ) (blocks : List Block) (contents : List (Option (List ℕ))) (n : ℕ) (block : Block)
    (known : Bool) (bytes : List ℕ) (place : Dva) (extent : Extent) (own : List Finding) (one : Finding) → OnlyReads old new → AreUntouched missing old new
    → IsHonestSince old new → slice_get blocks n ≡ Some block → slice_get contents n ≡ Some (known_bytes known bytes) → Contains (dvas block.copies) place
    → IsExtentOn shapes block.property.sectors place extent → IsCopyChecked old new missing place.vdev extent known bytes own → Contains own one
    → (it : CopyColumn) × IsColumnOfOne shapes blocks contents it × (one ≡ told_of it one.fault) × HasFault old new missing it one.fault
only_faults shapes old new missing blocks contents n block known bytes place extent own one reads untouched honest is_block is_content is_copy at copy held =
    let from : IsFindingFrom place.vdev extent 0 copy.layout copy.faults one =
    finding_from place.vdev extent 0 copy.layout copy.faults one (subst (λ (fs : List Finding). Contains fs one) copy.found_are held) in
    let within : from.k < length (all_columns copy.columns) =
    omega (arith, column_count extent bytes copy.layout copy.columns copy.are_bytes, slice_get_within copy.layout from.k from.column from.at) in
    let part : List ℕ = get_or (all_columns copy.columns) from.k [] in
    let part_is : slice_get (all_columns copy.columns) from.k ≡ Some part = slice_get-get_or (all_columns copy.columns) from.k [] within in
    let it : CopyColumn = record { vdev = place.vdev; extent = extent; k = from.k; column = from.column; bytes = known_bytes known part } in
    let zero_more : 0 + from.k ≡ from.k = omega arith in
    let is : one ≡ told_of it from.fault = from.is ∙ ap (λ n. finding place.vdev extent n from.column from.fault) zero_more in
    let same_fault : from.fault ≡ one.fault = sym (ap (λ (f : Finding). f.fault) is) in (
      it,
      record {
        n = n;
        block = block;
        is_block = is_block;
        content = known_bytes known bytes;
        is_content = is_content;
        place = place;
        is_copy = is_copy;
        vdev_is = refl;
        extent_is = at;
        layout = copy.layout;
        is_layout = copy.is_layout;
        column_is = from.at;
        bytes_are = its_bytes extent bytes copy.layout copy.columns from.k known part copy.are_bytes part_is;
      },
      is ∙ ap (λ (f : Fault). told_of it f) same_fault,
      subst (λ (f : Fault). HasFault old new missing it f) same_fault
          (fault_is old new missing it known part from.fault reads untouched honest refl
          (size_at extent bytes copy.layout copy.columns from.k from.column part copy.are_bytes from.at part_is)
          (copy.judged from.k from.column part (Some from.fault) from.at part_is from.fault_at)),
    )

-- ---- of each

each_fault : (old new : Disks) (missing : List ℕ) (it : CopyColumn) (known : Bool) (block part : List ℕ) (own : List Finding) → OnlyReads old new
    → AreUntouched missing old new → IsHonestSince old new → (copy : IsCopyChecked old new missing it.vdev it.extent known block own)
    → slice_get copy.layout it.k ≡ Some it.column → slice_get (all_columns copy.columns) it.k ≡ Some part → it.bytes ≡ known_bytes known part
    → IsFaulty old new missing it → (fault : Option Fault) → slice_get copy.faults it.k ≡ Some fault
    → (told : Fault) × Contains own (told_of it told) × HasFault old new missing it told
each_fault old new missing it known block part own reads untouched honest copy at at' same faulty None is =
    absurd (isnt_faulty old new missing it known part reads untouched honest same (copy.judged it.k it.column part None at at' is) faulty)
each_fault old new missing it known block part own reads untouched honest copy at at' same faulty (Some fault) is = (
  fault,
  subst (λ (fs : List Finding). Contains fs (told_of it fault)) (sym copy.found_are)
      (finding_here it.vdev it.extent 0 it.k it.k copy.layout copy.faults it.column fault (omega arith) at is),
  fault_is old new missing it known part fault reads untouched honest same
      (size_at it.extent block copy.layout copy.columns it.k it.column part copy.are_bytes at at') (copy.judged it.k it.column part (Some fault) at at' is),
)

pub held_there : {X : Type 0} (xs : List X) (x : X) → Contains xs x → (i : ℕ) × (slice_get xs i ≡ Some x)
held_there xs x (i, within, is) = (i, slice_get-get_or xs i x within ∙ ap (λ y. Some y) is)

-- a column that should have these bytes was looked at beside them
same_bytes : (extent : Extent) (block : List ℕ) (layout : List Column) (columns : Columns) (k : ℕ) (known : Bool) (part : List ℕ) (bytes : Option (List ℕ))
    → AreBytesOf extent block layout columns → slice_get (all_columns columns) k ≡ Some part → ColumnShouldHave extent layout k (known_bytes known block) bytes
    → bytes ≡ known_bytes known part
same_bytes extent block layout columns k true part bytes are at (others, are', at') =
    sym at' ∙ ap (λ (cs : List (List ℕ)). slice_get cs k) (columns_agree extent block layout others columns are' are) ∙ at
same_bytes extent block layout columns k false part bytes are at should = should

-- the copy of a column, among those that were looked at
column_found : (old new : Disks) (missing : List ℕ) (shapes : List VdevShape) (blocks : List Block) (contents : List (Option (List ℕ))) (it : CopyColumn) (known : Bool)
    (block : List ℕ) (extent : Extent) (own : List Finding) → OnlyReads old new → AreUntouched missing old new → IsHonestSince old new
    → (is : IsColumnOfOne shapes blocks contents it) → is.content ≡ known_bytes known block → extent ≡ it.extent
    → IsCopyChecked old new missing is.place.vdev extent known block own → IsFaulty old new missing it
    → (told : Fault) × Contains own (told_of it told) × HasFault old new missing it told
column_found old new missing shapes blocks contents it known block extent own reads untouched honest is same_content same_extent copy faulty =
    let mine : IsCopyChecked old new missing it.vdev it.extent known block own =
    subst (λ v. IsCopyChecked old new missing v it.extent known block own) (sym is.vdev_is)
    (subst (λ (e : Extent). IsCopyChecked old new missing is.place.vdev e known block own) same_extent copy) in
    let same : is.layout ≡ mine.layout = layouts_agree it.extent is.layout mine.layout is.is_layout mine.is_layout in
    let at : slice_get mine.layout it.k ≡ Some it.column = ap (λ (l : List Column). slice_get l it.k) (sym same) ∙ is.column_is in
    let within : it.k < length (all_columns mine.columns) =
    omega (arith, column_count it.extent block mine.layout mine.columns mine.are_bytes, slice_get_within mine.layout it.k it.column at) in
    let part : List ℕ = get_or (all_columns mine.columns) it.k [] in
    let part_is : slice_get (all_columns mine.columns) it.k ≡ Some part = slice_get-get_or (all_columns mine.columns) it.k [] within in
    let should : ColumnShouldHave it.extent mine.layout it.k (known_bytes known block) it.bytes =
    subst (λ (l : List Column). ColumnShouldHave it.extent l it.k (known_bytes known block) it.bytes) same
    (subst (λ (c : Option (List ℕ)). ColumnShouldHave it.extent is.layout it.k c it.bytes) same_content is.bytes_are) in
    each_fault old new missing it known block part own reads untouched honest mine at part_is
    (same_bytes it.extent block mine.layout mine.columns it.k known part it.bytes mine.are_bytes part_is should) faulty (get_or mine.faults it.k None)
    (fault_at mine.layout mine.faults it.k it.column mine.count at)

pub found_are_faults : FewAreNotMore → FindingsAreOfTheDisks
found_are_faults law shapes old new missing blocks found are reads untouched honest =
    let contents : List (Option (List ℕ)) = contents_of shapes old new missing blocks found are in (
      contents,
      record {
        count = length-contents_of shapes old new missing blocks found are;
        each = λ n block bytes at at'.
            let it : IsBlockAt shapes old new missing found contents n block = block_at shapes old new missing blocks found are n block at in
            subst (λ (b : Option (List ℕ)). ShouldHave shapes old new missing block b) (same_some _ _ (sym it.content_is ∙ at'))
            (should_have law shapes old new missing block it.checked.known it.checked.content reads honest it.checked.digest it.checked.unread);
      },
      record {
        only = λ one held.
            let of : IsOfBlock shapes old new missing blocks contents one = block_found shapes old new missing blocks found one are held in
            let at : IsOfPlace shapes old new missing of.block.property.sectors of.checked.known of.checked.content (dvas of.block.copies) one =
            place_found shapes old new missing of.block.property.sectors of.checked.known of.checked.content (dvas of.block.copies) of.own one of.checked.copies
            of.held in
            only_faults shapes old new missing blocks contents of.n of.block of.checked.known of.checked.content at.place at.checked.0 at.own one reads untouched
            honest of.is_block of.content_is at.is_one at.checked.1 at.checked.2 at.held;
        all = λ it is faulty.
            let (i, at) = held_there (dvas is.block.copies) is.place is.is_copy in
            let of : IsBlockAt shapes old new missing found contents is.n is.block = block_at shapes old new missing blocks found are is.n is.block is.is_block in
            let (mine, among, (extent, there, copy)) =
            copy_of shapes old new missing is.block.property.sectors of.checked.known of.checked.content (dvas is.block.copies) of.own i is.place of.checked.copies
            at in
            let (fault, held, has) =
            column_found old new missing shapes blocks contents it of.checked.known of.checked.content extent mine reads untouched honest is
            (same_some _ _ (sym is.is_content ∙ of.content_is))
            (one_extent shapes is.block.property.sectors is.place extent it.extent there is.extent_is) copy faulty in
            (fault, of.among (told_of it fault) (among (told_of it fault) held), has);
      },
    )
