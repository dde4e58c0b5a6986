-- Columns of which nothing was found stand.
use Rattle.std.proofs.Common.{ℕ, zero, suc, ◌≡◌, ◌≢◌, ◌⊎◌, inl, inr, ◌<◌, Bool, true, false, Some, None, List, [], ◌∷◌, length, get_or, Contains, refl, sym, ap, subst, ◌∙◌, arith}
use Rattle.std.specs.List.{slice_get}
use Rattle.std.proofs.lemmas.Option.{slice_get-get_or, slice_get_within}
use Rattle.block_pointer.specs.Copies.{dvas}
use Rattle.model_disk.specs.Joint.{Disks, content}
use Rattle.raidz_io.proofs.Layouts.{layouts_agree}
use Rattle.raidz_io.specs.Places.{Stands, disk_of, offset_of}
use Rattle.raidz_io.specs.Reads.{GivesTruly, OnlyReads}
use Rattle.raidz_io.specs.Stands.{AreBytesOf, IsLayout, all_columns}
use Rattle.raidz_io.specs.declared.vdev.Extent.{Extent}
use Rattle.raidz_map.specs.declared.column.Column.{Column}
use Rattle.raidz_parity.specs.Layout.{Block as ColumnsOf}
use Rattle.scrub_resilver.specs.Laws.{BlocksLookedAtStand, IsKnownBut}
use Rattle.scrub_resilver.specs.Looking.{IsCopyChecked}
use Rattle.scrub_resilver.specs.declared.fault.Finding.{Finding}
use Rattle.scrub_resilver.proofs.Faults.{columns_agree}
use Rattle.scrub_resilver.proofs.Stood.{block_of, column_count, column_stands, copy_of, fault_at, found_at, one_extent}

same_or_not : (a b : ℕ) → (a ≡ b) ⊎ (a ≢ b)
same_or_not a b = grind arith

first_or_later : (x : ℕ) (xs : List ℕ) (y : ℕ) → Contains (x ∷ xs) y → (y ≡ x) ⊎ Contains xs y
first_or_later x xs y (zero, within, is) = inl (sym is)
first_or_later x xs y (suc k, within, is) = inr (k, omega (arith, within), is)

among_or_not : (xs : List ℕ) (y : ℕ) → Contains xs y ⊎ (¬ Contains xs y)
among_or_not [] y = inr (λ (k, within, is). omega (arith, within))
among_or_not (x ∷ xs) y = elim (same_or_not y x) [
  | inl same ↦ inl (0, omega arith, sym same)
  | inr differs ↦ elim (among_or_not xs y) [
    | inl (k, within, is) ↦ inl (suc k, omega (arith, within), is)
    | inr out ↦ inr (λ held. elim (first_or_later x xs y held) [ inl same ↦ differs same | inr behind ↦ out behind ])
  ]
]

-- a column on a disk of which nothing was found stands, with the block's own bytes
clear_stands : (old new : Disks) (missing left : List ℕ) (vdev : ℕ) (extent : Extent) (known : Bool) (content_is bytes part : List ℕ) (found : List Finding)
    → OnlyReads old new → IsKnownBut new left extent → (known ≡ true → content_is ≡ bytes)
    → IsCopyChecked old new missing vdev extent known content_is found → ((one : Finding) → Contains found one → Contains left one.disk)
    → (layout : List Column) (columns : ColumnsOf) (k : ℕ) (column : Column) → IsLayout extent layout → AreBytesOf extent bytes layout columns
    → slice_get layout k ≡ Some column → slice_get (all_columns columns) k ≡ Some part → ¬ Contains left (disk_of extent.vdev column)
    → GivesTruly old new (disk_of extent.vdev column) → Stands (content new) (disk_of extent.vdev column) (offset_of column) part
clear_stands old new missing left vdev extent true content_is bytes part found reads known own copy in_left layout columns k column is_layout are_bytes at at' there truly =
    let agree : copy.layout ≡ layout = layouts_agree extent copy.layout layout copy.is_layout is_layout in
    let mine : AreBytesOf extent bytes layout copy.columns =
    subst (λ (l : List Column). AreBytesOf extent bytes l copy.columns) agree
    (subst (λ (b : List ℕ). AreBytesOf extent b copy.layout copy.columns) (own refl) copy.are_bytes) in
    let here : slice_get copy.layout k ≡ Some column = ap (λ (l : List Column). slice_get l k) agree ∙ at in
    column_stands old new missing left vdev extent content_is part found reads known copy in_left k column here
    (ap (λ (cs : List (List ℕ)). slice_get cs k) (columns_agree extent bytes layout copy.columns columns mine are_bytes) ∙ at') there truly (get_or copy.faults k None)
    (fault_at copy.layout copy.faults k column copy.count here)
clear_stands old new missing left vdev extent false content_is bytes part found reads known own copy in_left layout columns k column is_layout are_bytes at at' there truly =
    let agree : copy.layout ≡ layout = layouts_agree extent copy.layout layout copy.is_layout is_layout in
    let here : slice_get copy.layout k ≡ Some column = ap (λ (l : List Column). slice_get l k) agree ∙ at in
    let within : k < length (all_columns copy.columns) =
    omega (arith, column_count extent content_is copy.layout copy.columns copy.are_bytes, slice_get_within copy.layout k column here) in
    absurd (there (found_at old new missing left vdev extent content_is found copy in_left k column (get_or (all_columns copy.columns) k []) here
    (slice_get-get_or (all_columns copy.columns) k [] within) (get_or copy.faults k None) (fault_at copy.layout copy.faults k column copy.count here)))

pub looked_at_stand : BlocksLookedAtStand
looked_at_stand shapes old new missing left blocks found stored are reads in_left missing_left chosen told block bytes i extent absent rest
    (n, within, is) is_stored is_copy aside stands =
    let at : slice_get blocks n ≡ Some block = slice_get-get_or blocks n block within ∙ ap (λ b. Some b) is in
    let (own, among, checked) = block_of shapes old new missing blocks found block are n at in
    let (mine, among', (extent', there, copy)) =
    copy_of shapes old new missing block.property.sectors checked.known checked.content (dvas block.copies) own i is_copy.place checked.copies is_copy.is_copy in
    let same : extent' ≡ extent = one_extent shapes block.property.sectors is_copy.place extent' extent there is_copy.extent_is in
    let known : IsKnownBut new left extent =
    λ disk x not_left of. told block bytes i extent is_stored is_copy disk x (λ gone. not_left (missing_left disk gone)) of in
    let right : checked.known ≡ true → checked.content ≡ bytes = λ is_known.
    chosen block bytes checked.content is_stored (checked.chosen is_known) (checked.digest is_known) in
    record {
      layout = stands.layout;
      columns = stands.columns;
      is_layout = stands.is_layout;
      are_bytes = stands.are_bytes;
      stand = λ k column part at_layout at_columns not_rest.
          let disk : ℕ = disk_of extent.vdev column in
          elim (among_or_not absent disk) [
            | inr not ↦ stands.stand k column part at_layout at_columns not
            | inl gone ↦
                clear_stands old new missing left is_copy.place.vdev extent checked.known checked.content bytes part mine reads known right
                (subst (λ (e : Extent). IsCopyChecked old new missing is_copy.place.vdev e checked.known checked.content mine) same copy)
                (λ one held. in_left one (among one (among' one held))) stands.layout stands.columns k column stands.is_layout stands.are_bytes at_layout at_columns
                (aside disk gone not_rest).0 (aside disk gone not_rest).1
          ];
    }
