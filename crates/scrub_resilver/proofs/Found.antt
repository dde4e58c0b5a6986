-- One more column that was judged.
use Rattle.std.proofs.Common.{rules, ℕ, ◌≡◌, ◌<◌, ◌+◌, inl, inr, Bool, true, false, Option, Some, None, IfSome, IfNone, Vec, Global, List, [], ◌∷◌, ◌++◌, length, refl, sym, ap, subst, ◌∙◌, append_assoc, length-append, arith}
use Rattle.std.specs.List.{slice_get}
use Rattle.std.proofs.lemmas.Bool.{cases_lt}
use Rattle.std.proofs.lemmas.Option.{slice_get_within}
use Rattle.model_disk.specs.Joint.{Disks}
use Rattle.raidz_map.specs.declared.column.Column.{Column}
use Rattle.raidz_io.specs.declared.vdev.Extent.{Extent}
use Rattle.raidz_io.specs.Places.{disk_of, offset_of}
use Rattle.raidz_io.specs.Reads.{OnlyReads}
use Rattle.sha2.specs.Sha256.{sha256}
use Rattle.raidz_io.proofs.Calls.{OnlyReads-none}
use Rattle.raidz_io.proofs.Parts.{slice_get_front, slice_get_last}
use Rattle.block_pointer.specs.declared.block.Block.{Block}
use Rattle.block_pointer.specs.declared.dva.Dva.{Dva}
use Rattle.block_pointer.specs.Copies.{dvas}
use Rattle.block_store.specs.declared.shape.VdevShape.{VdevShape}
use Rattle.raidz_io.specs.Stands.{all_columns}
use Rattle.scrub_resilver.specs.Checking.{AreChecked, ArePlacesChecked, IsBlockChecked, IsPlaceChecked, IsRight}
use Rattle.scrub_resilver.specs.Copies.{AreUnread, IsChosenOf}
use Rattle.scrub_resilver.specs.Columns.{IsSpread}
use Rattle.scrub_resilver.specs.Looking.{AreJudged, IsCheckedSoFar, IsCopyChecked, IsJudged, finding, finding_of, findings_from}
use Rattle.scrub_resilver.specs.declared.checking.Right.{Right}
use Rattle.scrub_resilver.specs.declared.spread.SpreadBlock.{SpreadBlock}
use Rattle.scrub_resilver.specs.declared.fault.Fault.{Fault}
use Rattle.scrub_resilver.specs.declared.fault.Finding.{Finding}
use Rattle.scrub_resilver.proofs.Chosen.{chosen_of_around}
use Rattle.scrub_resilver.proofs.Logs.{all_unread_around, judged_from, judged_later}

findings_none : (vdev : ℕ) (extent : Extent) (k : ℕ) (layout : List Column) → findings_from vdev extent k layout [] ≡ []
findings_none vdev extent k [] = refl
findings_none vdev extent k (column ∷ layout) = refl

same_some : {X : Type 0} (x y : X) → Some x ≡ Some y → x ≡ y
same_some x y same = cc

pub findings_more : (vdev : ℕ) (extent : Extent) (k n : ℕ) (layout : List Column) (faults : List (Option Fault)) (column : Column) (fault : Option Fault)
    → n ≡ k + length faults → slice_get layout (length faults) ≡ Some column
    → findings_from vdev extent k layout (faults ++ fault ∷ []) ≡ findings_from vdev extent k layout faults ++ finding_of vdev extent n column fault
findings_more vdev extent k n [] faults column fault counts at = absurd (cc)
findings_more vdev extent k n (c ∷ layout) [] column None counts at = findings_none vdev extent (k + 1) layout
findings_more vdev extent k n (c ∷ layout) [] column (Some fault) counts at =
    let same : c ≡ column = same_some c column at in
    let here : k ≡ n = omega arith in
    ap (λ (fs : List Finding). finding vdev extent k c fault ∷ fs) (findings_none vdev extent (k + 1) layout)
    ∙ ap (λ m. finding vdev extent m c fault ∷ []) here ∙ ap (λ (x : Column). finding vdev extent n x fault ∷ []) same
findings_more vdev extent k n (c ∷ layout) (None ∷ faults) column fault counts at =
    findings_more vdev extent (k + 1) n layout faults column fault (omega arith) at
findings_more vdev extent k n (c ∷ layout) (Some other ∷ faults) column fault counts at =
    ap (λ (fs : List Finding). finding vdev extent k c other ∷ fs) (findings_more vdev extent (k + 1) n layout faults column fault (omega arith) at)

judged_more : (old mid new : Disks) (missing : List ℕ) (known : Bool) (extent : Extent) (layout : List Column) (columns : List (List ℕ))
    (faults : List (Option Fault)) (fault : Option Fault) → OnlyReads old mid → OnlyReads mid new → AreJudged old mid missing known extent layout columns faults
    → ((column : Column) (bytes : List ℕ) → slice_get layout (length faults) ≡ Some column → slice_get columns (length faults) ≡ Some bytes
    → IsJudged mid new missing known (disk_of extent.vdev column) (offset_of column) bytes fault)
    → AreJudged old new missing known extent layout columns (faults ++ fault ∷ [])
judged_more old mid new missing known extent layout columns faults fault first second are here k column bytes other at_layout at_columns at =
    elim (cases_lt k (length faults)) [
      | inl before ↦
          judged_later old mid new missing known (disk_of extent.vdev column) (offset_of column) bytes other second
          (are k column bytes other at_layout at_columns (sym (slice_get_front faults (fault ∷ []) k before) ∙ at))
      | inr behind ↦
          let within : k < length (faults ++ fault ∷ []) = slice_get_within (faults ++ fault ∷ []) k other at in
          let last : k ≡ length faults = omega (arith, within, behind, length-append faults (fault ∷ [])) in
          let same : fault ≡ other = same_some fault other (sym (slice_get_last faults fault) ∙ ap (λ i. slice_get (faults ++ fault ∷ []) i) (sym last) ∙ at) in
          subst (λ (f : Option Fault). IsJudged old new missing known (disk_of extent.vdev column) (offset_of column) bytes f) same
          (judged_from old mid new missing known (disk_of extent.vdev column) (offset_of column) bytes fault first
          (here column bytes (ap (λ i. slice_get layout i) (sym last) ∙ at_layout) (ap (λ i. slice_get columns i) (sym last) ∙ at_columns)))
    ]

nothing_behind : (before : List Finding) → before ≡ before ++ []
nothing_behind before = search rules

pub checked_none : (old : Disks) (missing : List ℕ) (vdev : ℕ) (extent : Extent) (known : Bool) (layout : List Column) (columns : List (List ℕ)) (before : List Finding)
    → IsCheckedSoFar old old missing vdev extent known layout columns 0 before before
checked_none old missing vdev extent known layout columns before = record {
  faults = [];
  count = refl;
  judged = λ k column bytes fault at_layout at_columns at. absurd (cc);
  found_are = nothing_behind before ∙ ap (λ (fs : List Finding). before ++ fs) (sym (findings_none vdev extent 0 layout));
}

pub checked_more : (old mid new : Disks) (missing : List ℕ) (vdev : ℕ) (extent : Extent) (known : Bool) (layout : List Column) (columns : List (List ℕ))
    (n : ℕ) (before found after : List Finding) (column : Column) (fault : Option Fault) → OnlyReads old mid → OnlyReads mid new
    → IsCheckedSoFar old mid missing vdev extent known layout columns n before found
    → ((c : Column) (bytes : List ℕ) → slice_get layout n ≡ Some c → slice_get columns n ≡ Some bytes
    → IsJudged mid new missing known (disk_of extent.vdev c) (offset_of c) bytes fault)
    → slice_get layout n ≡ Some column → after ≡ found ++ finding_of vdev extent n column fault
    → IsCheckedSoFar old new missing vdev extent known layout columns (n + 1) before after
checked_more old mid new missing vdev extent known layout columns n before found after column fault first second so_far here at is = record {
  faults = so_far.faults ++ fault ∷ [];
  count = omega (arith, so_far.count, length-append so_far.faults (fault ∷ []));
  judged =
      judged_more old mid new missing known extent layout columns so_far.faults fault first second so_far.judged
      (λ c bytes at_layout at_columns. here c bytes (ap (λ i. slice_get layout i) (sym so_far.count) ∙ at_layout) (ap (λ i. slice_get columns i) (sym so_far.count) ∙ at_columns));
  found_are =
      is ∙ ap (λ (fs : List Finding). fs ++ finding_of vdev extent n column fault) so_far.found_are
      ∙ append_assoc before (findings_from vdev extent 0 layout so_far.faults) (finding_of vdev extent n column fault)
      ∙ ap (λ (fs : List Finding). before ++ fs)
      (sym (findings_more vdev extent 0 n layout so_far.faults column fault (omega (arith, so_far.count)) (ap (λ i. slice_get layout i) so_far.count ∙ at)));
}

-- ---- copies, blocks, and more of them, in a longer run

judged_around : (old first last new : Disks) (missing : List ℕ) (known : Bool) (extent : Extent) (layout : List Column) (columns : List (List ℕ))
    (faults : List (Option Fault)) → OnlyReads old first → OnlyReads last new → AreJudged first last missing known extent layout columns faults
    → AreJudged old new missing known extent layout columns faults
judged_around old first last new missing known extent layout columns faults before after are k column bytes fault at_layout at_columns at =
    judged_later old last new missing known (disk_of extent.vdev column) (offset_of column) bytes fault after
    (judged_from old first last missing known (disk_of extent.vdev column) (offset_of column) bytes fault before (are k column bytes fault at_layout at_columns at))

pub copy_around : (old first last new : Disks) (missing : List ℕ) (vdev : ℕ) (extent : Extent) (known : Bool) (block : List ℕ) (found : List Finding)
    → OnlyReads old first → OnlyReads last new → IsCopyChecked first last missing vdev extent known block found
    → IsCopyChecked old new missing vdev extent known block found
copy_around old first last new missing vdev extent known block found before after is = record {
  layout = is.layout;
  columns = is.columns;
  is_layout = is.is_layout;
  are_bytes = is.are_bytes;
  faults = is.faults;
  count = is.count;
  judged = judged_around old first last new missing known extent is.layout (all_columns is.columns) is.faults before after is.judged;
  found_are = is.found_are;
}

pub copy_checked : (old new : Disks) (missing : List ℕ) (vdev : ℕ) (extent : Extent) (known : Bool) (block : List ℕ) (it : SpreadBlock) (before found : List Finding)
    → IsSpread extent block it
    → IsCheckedSoFar old new missing vdev extent known it.layout.items (all_columns it.columns) (length it.layout.items) before found
    → (more : List Finding) × (found ≡ before ++ more) × IsCopyChecked old new missing vdev extent known block more
copy_checked old new missing vdev extent known block it before found is so_far = (
  findings_from vdev extent 0 it.layout.items so_far.faults,
  so_far.found_are,
  record {
    layout = it.layout.items;
    columns = it.columns;
    is_layout = is.is_layout;
    are_bytes = is.are_bytes;
    faults = so_far.faults;
    count = so_far.count;
    judged = so_far.judged;
    found_are = refl;
  },
)

pub place_around : (shapes : List VdevShape) (old first last new : Disks) (missing : List ℕ) (sectors : ℕ) (known : Bool) (block : List ℕ) (place : Dva)
    (found : List Finding) → OnlyReads old first → OnlyReads last new → IsPlaceChecked shapes first last missing sectors known block place found
    → IsPlaceChecked shapes old new missing sectors known block place found
place_around shapes old first last new missing sectors known block place found before after (extent, at, is) =
    (extent, at, copy_around old first last new missing place.vdev extent known block found before after is)

pub places_around : (shapes : List VdevShape) (old first last new : Disks) (missing : List ℕ) (sectors : ℕ) (known : Bool) (block : List ℕ) (places : List Dva)
    (found : List Finding) → OnlyReads old first → OnlyReads last new → ArePlacesChecked shapes first last missing sectors known block places found
    → ArePlacesChecked shapes old new missing sectors known block places found
places_around shapes old first last new missing sectors known block [] found before after are = are
places_around shapes old first last new missing sectors known block (place ∷ places) found before after (here, rest, parts, is, are) = (
  here,
  rest,
  parts,
  place_around shapes old first last new missing sectors known block place here before after is,
  places_around shapes old first last new missing sectors known block places rest before after are,
)

-- one more copy
pub one_more_place : (shapes : List VdevShape) (old new : Disks) (missing : List ℕ) (sectors : ℕ) (known : Bool) (block : List ℕ) (places : List Dva) (place : Dva)
    (found more : List Finding) → ArePlacesChecked shapes old new missing sectors known block places found
    → IsPlaceChecked shapes old new missing sectors known block place more
    → ArePlacesChecked shapes old new missing sectors known block (places ++ place ∷ []) (found ++ more)
one_more_place shapes old new missing sectors known block [] place found more are is =
    (more, [], ap (λ (fs : List Finding). fs ++ more) are ∙ nothing_behind more, is, refl)
one_more_place shapes old new missing sectors known block (first ∷ places) place found more (here, rest, parts, at, are) is = (
  here,
  rest ++ more,
  ap (λ (fs : List Finding). fs ++ more) parts ∙ append_assoc here rest more,
  at,
  one_more_place shapes old new missing sectors known block places place rest more are is,
)

pub block_around : (shapes : List VdevShape) (old first last new : Disks) (missing : List ℕ) (block : Block) (found : List Finding) → OnlyReads old first
    → OnlyReads last new → IsBlockChecked shapes first last missing block found → IsBlockChecked shapes old new missing block found
block_around shapes old first last new missing block found before after is = record {
  content = is.content;
  known = is.known;
  digest = is.digest;
  chosen = λ known. chosen_of_around shapes old first last new block is.content (dvas block.copies) before after (is.chosen known);
  unread = λ not. all_unread_around old first last new shapes missing block (dvas block.copies) before after (is.unread not);
  copies = places_around shapes old first last new missing block.property.sectors is.known is.content (dvas block.copies) found before after is.copies;
}

pub blocks_around : (shapes : List VdevShape) (old first last new : Disks) (missing : List ℕ) (blocks : List Block) (found : List Finding) → OnlyReads old first
    → OnlyReads last new → AreChecked shapes first last missing blocks found → AreChecked shapes old new missing blocks found
blocks_around shapes old first last new missing [] found before after are = are
blocks_around shapes old first last new missing (block ∷ blocks) found before after (here, rest, parts, is, are) = (
  here,
  rest,
  parts,
  block_around shapes old first last new missing block here before after is,
  blocks_around shapes old first last new missing blocks rest before after are,
)

-- one more block
pub one_more_block : (shapes : List VdevShape) (old new : Disks) (missing : List ℕ) (blocks : List Block) (block : Block) (found more : List Finding)
    → AreChecked shapes old new missing blocks found → IsBlockChecked shapes old new missing block more
    → AreChecked shapes old new missing (blocks ++ block ∷ []) (found ++ more)
one_more_block shapes old new missing [] block found more are is =
    (more, [], ap (λ (fs : List Finding). fs ++ more) are ∙ nothing_behind more, is, refl)
one_more_block shapes old new missing (first ∷ blocks) block found more (here, rest, parts, at, are) is = (
  here,
  rest ++ more,
  ap (λ (fs : List Finding). fs ++ more) parts ∙ append_assoc here rest more,
  at,
  one_more_block shapes old new missing blocks block rest more are is,
)

sectors_at : (shapes : List VdevShape) (old new : Disks) (missing : List ℕ) (n m : ℕ) (known : Bool) (content : List ℕ) (places places' : List Dva) (found : List Finding)
    → n ≡ m → places ≡ places' → ArePlacesChecked shapes old new missing n known content places found
    → ArePlacesChecked shapes old new missing m known content places' found
sectors_at shapes old new missing n m known content places places' found same same_places are =
    subst (λ (ps : List Dva). ArePlacesChecked shapes old new missing m known content ps found) same_places
    (subst (λ k. ArePlacesChecked shapes old new missing k known content places found) same are)

never : {A : Type 0} (b : Bool) → b ≡ true → b ≡ false → A
never b is not = cc

-- a block by what was read of it
pub block_checked : (shapes : List VdevShape) (old mid new : Disks) (missing : List ℕ) (block : Block) (read : Option (Vec ℕ Global)) (right : Right) (places : List Dva)
    (found : List Finding) → OnlyReads old mid → OnlyReads mid new → IfSome read (λ bytes. sha256 bytes.items ≡ block.checksum)
    → IfSome read (λ bytes. IsChosenOf shapes old mid block bytes.items (dvas block.copies))
    → IfNone read (AreUnread shapes old mid missing block (dvas block.copies)) → IsRight block.property.sectors read right → places ≡ dvas block.copies
    → ArePlacesChecked shapes mid new missing right.sectors right.is_known right.bytes.items places found
    → IsBlockChecked shapes old new missing block found
block_checked shapes old mid new missing block (Some bytes) right places found first second digest chosen none (known, is, sectors, size) same are = record {
  content = right.bytes.items;
  known = right.is_known;
  digest = λ _. ap sha256 is ∙ digest;
  chosen = λ _.
      chosen_of_around shapes old old mid new block right.bytes.items (dvas block.copies) (OnlyReads-none old) second
      (subst (λ (b : List ℕ). IsChosenOf shapes old mid block b (dvas block.copies)) (sym is) chosen);
  unread = λ not. never right.is_known known not;
  copies =
      places_around shapes old mid new new missing block.property.sectors right.is_known right.bytes.items (dvas block.copies) found first (OnlyReads-none new)
      (sectors_at shapes mid new missing right.sectors block.property.sectors right.is_known right.bytes.items places (dvas block.copies) found sectors same are);
}
block_checked shapes old mid new missing block None right places found first second digest chosen none (unknown, sectors, size) same are = record {
  content = right.bytes.items;
  known = right.is_known;
  digest = λ is. never right.is_known is unknown;
  chosen = λ is. never right.is_known is unknown;
  unread = λ _. all_unread_around old old mid new shapes missing block (dvas block.copies) (OnlyReads-none old) second none;
  copies =
      places_around shapes old mid new new missing block.property.sectors right.is_known right.bytes.items (dvas block.copies) found first (OnlyReads-none new)
      (sectors_at shapes mid new missing right.sectors block.property.sectors right.is_known right.bytes.items places (dvas block.copies) found sectors same are);
}

pub right_sectors : (sectors : ℕ) (read : Option (Vec ℕ Global)) (right : Right) → IsRight sectors read right → right.sectors ≡ sectors
right_sectors sectors (Some bytes) right (known, is, same, size) = same
right_sectors sectors None right (unknown, same, size) = same
