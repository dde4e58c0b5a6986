-- The columns of a block in the order in which they are read: those of data first, and then the parity.
use Rattle.std.specs.Prelude.{ℕ, ◌≡◌, ◌+◌, ◌*◌, ◌-◌, ◌<◌, ◌≤◌, nat_lt, if◌then◌else◌, Some, List, ◌++◌, length, map, take, drop, replicate, sum, slice_get, slice_index, Contains, All}
use Rattle.raidz_map.specs.declared.column.Column.{Column}
use Rattle.raidz_parity.specs.Layout.{Block, columns_of}
use Rattle.raidz_io.specs.Places.{sizes_of}

-- a block may have data columns of these sizes, and as many parities
pub record IsStripe (parity : ℕ) (sizes : List ℕ) : Type 0 where
  pub has_parity : 0 < parity
  pub most_parity : parity ≤ 2
  pub some : 0 < length sizes
  pub few : length sizes + parity ≤ 32
  pub longest : All (λ n. n ≤ slice_index sizes 0) sizes

-- the sizes of the columns of a block of s data sectors with so many parities, which come first
pub record IsShaped (parity s : ℕ) (layout : List Column) : Type 0 where
  pub stripe : IsStripe parity (sizes_of (drop parity layout))
  pub parity_sizes : sizes_of (take parity layout) ≡ replicate parity (slice_index (sizes_of (drop parity layout)) 0)
  pub fits : sum (sizes_of (drop parity layout)) ≡ s * 512

-- the sizes of all columns
abbrev pub stripe_sizes : ℕ → List ℕ → List ℕ
stripe_sizes parity sizes = sizes ++ replicate parity (slice_index sizes 0)

-- the number that the parity gives the column k, of which n are data
abbrev pub number_of : ℕ → ℕ → ℕ → ℕ
number_of parity n k = if nat_lt k n then parity + k else k - n

-- the parity columns of this size that lie in the bytes one after the other, where there are bytes for them
pub record AreParities (count size : ℕ) (bytes : List ℕ) (parities : List (List ℕ)) : Type 0 where
  pub sizes : map length parities ≡ replicate count size
  pub read : (row : ℕ) (part : List ℕ) → slice_get (columns_of (replicate count size) bytes) row ≡ Some part → length part ≡ size
      → slice_get parities row ≡ Some part

-- the first n columns of a block with so many parities, in the order in which they are read
abbrev pub first_read : ℕ → ℕ → List Column → List Column
first_read n parity layout = take n (drop parity layout ++ take parity layout)

-- the columns have these sizes
pub record HasSizes (parity : ℕ) (sizes : List ℕ) (columns : Block) : Type 0 where
  pub parity_sizes : map length columns.parity ≡ replicate parity (slice_index sizes 0)
  pub data_sizes : map length columns.data_columns ≡ sizes

-- the columns of bytes, those of data first
abbrev pub read_columns : Block → List (List ℕ)
read_columns columns = columns.data_columns ++ columns.parity

-- what was read has these columns, but for the wrong ones
abbrev pub MatchesBut : List ℕ → List (List ℕ) → List (List ℕ) → Type 0
MatchesBut wrong columns found = (k : ℕ) (part : List ℕ) → ¬ Contains wrong k → slice_get columns k ≡ Some part → slice_get found k ≡ Some part
