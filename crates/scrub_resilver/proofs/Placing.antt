-- Columns at their places.
use Rattle.std.proofs.Common.{ℕ, zero, suc, ◌≡◌, ◌<◌, ◌≤◌, ◌+◌, ◌*◌, Some, List, [], ◌∷◌, length, map, get_or, sym, ap, subst, ◌∙◌, arith}
use Rattle.std.specs.List.{slice_get}
use Rattle.std.proofs.lemmas.Option.{slice_get-get_or}
use Rattle.model_disk.specs.Joint.{bytes_of}
use Rattle.raidz_map.specs.declared.column.Column.{Column}
use Rattle.raidz_parity.specs.Layout.{Block}
use Rattle.raidz_io.specs.declared.vdev.Extent.{Extent}
use Rattle.raidz_io.specs.Places.{CanHold, IsNamed, IsOnDisks, disk_of, offset_of}
use Rattle.raidz_io.specs.Reads.{IsOnDisk}
use Rattle.raidz_io.specs.Stands.{AreBytesOf, IsLayout, all_columns}
use Rattle.raidz_io.proofs.Placed.{named, on_disk}

-- what is the same of two lists is the same of what stands at one place of them
pub same_at : {X Y : Type 0} (f : X → ℕ) (g : Y → ℕ) (xs : List X) (ys : List Y) (k : ℕ) (x : X) (y : Y) → map f xs ≡ map g ys
    → slice_get xs k ≡ Some x → slice_get ys k ≡ Some y → f x ≡ g y
same_at f g [] ys k x y same at at' = absurd (cc)
same_at f g (x' ∷ xs) [] k x y same at at' = absurd (cc)
same_at f g (x' ∷ xs) (y' ∷ ys) zero x y same at at' = cc
same_at f g (x' ∷ xs) (y' ∷ ys) (suc k) x y same at at' = same_at f g xs ys k x y (cc) at at'

pub size_at : (extent : Extent) (block : List ℕ) (layout : List Column) (columns : Block) (k : ℕ) (column : Column) (bytes : List ℕ)
    → AreBytesOf extent block layout columns → slice_get layout k ≡ Some column → slice_get (all_columns columns) k ≡ Some bytes
    → length bytes ≡ column.sectors * 512
size_at extent block layout columns k column bytes are at at' =
    same_at (length {A = ℕ}) (λ (c : Column). c.sectors * 512) (all_columns columns) layout k bytes column are.sizes at' at

-- the column that code takes from a slice
pub taken : (layout slice : List Column) (k : ℕ) (d : Column) → slice ≡ layout → k < length layout → slice_get layout k ≡ Some (get_or slice k d)
taken layout slice k d same below = slice_get-get_or layout k d below ∙ ap (λ cs. Some (get_or cs k d)) (sym same)

pub named_at : (extent : Extent) (layout slice : List Column) (k : ℕ) (d : Column) → slice ≡ layout → CanHold extent → IsLayout extent layout
    → k < length layout → IsNamed extent.vdev (get_or slice k d)
named_at extent layout slice k d same can is below = named extent layout can is k (get_or slice k d) (taken layout slice k d same below)

pub on_disk_at : (extent : Extent) (layout slice : List Column) (starts : List (List ℕ)) (k : ℕ) (d : Column) → slice ≡ layout → CanHold extent
    → IsOnDisks extent starts → IsLayout extent layout → k < length layout → IsOnDisk extent.vdev (get_or slice k d) starts
on_disk_at extent layout slice starts k d same can on is below =
    on_disk extent layout starts can on is k (get_or slice k d) (taken layout slice k d same below)

-- where a place that code makes lies
pub lies_within : (extent : Extent) (starts : List (List ℕ)) (column : Column) (bytes : List ℕ) (disk at : ℕ) → IsOnDisk extent.vdev column starts
    → disk ≡ disk_of extent.vdev column → at ≡ offset_of column → length bytes ≡ column.sectors * 512
    → at + length bytes ≤ length (bytes_of starts disk)
lies_within extent starts column bytes disk at is which from size =
    subst (λ d. at + length bytes ≤ length (bytes_of starts d)) (sym which) (omega (arith, is.within, from, size))

pub lies_on : (extent : Extent) (starts : List (List ℕ)) (column : Column) (disk : ℕ) → IsOnDisk extent.vdev column starts
    → disk ≡ disk_of extent.vdev column → disk < length starts
lies_on extent starts column disk is which = omega (arith, is.which, which)
