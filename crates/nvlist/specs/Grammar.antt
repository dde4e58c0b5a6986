-- Which bytes spell which list: big-endian, in the manner of XDR (RFC 4506).
use Rattle.std.specs.Prelude.{◌≡◌, ℕ, ◌-◌, ◌%◌, ◌^◌, ◌<◌, ◌≤◌, Bool, ◌&&◌, nat_le, List, ◌++◌, [], length, replicate, IsTrue}
use Rattle.std.specs.List.{list_all}
use Rattle.std.specs.Int.{w32, w64, to_be_bytes}
use Rattle.std.specs.Ordering.{is_lt, nat_cmp}
use Rattle.std.specs.Cmp.Lexicographic.{slice_cmp}
use Rattle.nvlist.specs.Plain.{PlainValue, number, text, list, lists, PlainList, no_pairs, pair, PlainLists, no_lists, next, pair_count, list_count, depth}

-- how many bytes lie between a text of this length and the next multiple of 4
abbrev pub padding_of : ℕ → ℕ
padding_of n = (4 - n % 4) % 4

-- the length of a text, the text, and zeros up to a multiple of 4
abbrev pub text_bytes : List ℕ → List ℕ
text_bytes t = to_be_bytes w32 (length t) ++ (t ++ replicate (padding_of (length t)) 0)

abbrev mutual
  -- the type of a value, and the value
  pub value_bytes : PlainValue → List ℕ
  value_bytes (number n) = to_be_bytes w32 8 ++ to_be_bytes w64 n
  value_bytes (text t) = to_be_bytes w32 9 ++ text_bytes t
  value_bytes (list inner) = to_be_bytes w32 19 ++ (to_be_bytes w32 (pair_count inner) ++ pairs_bytes inner)
  value_bytes (lists inner) = to_be_bytes w32 20 ++ (to_be_bytes w32 (list_count inner) ++ lists_bytes inner)

  pub pairs_bytes : PlainList → List ℕ
  pairs_bytes no_pairs = []
  pairs_bytes (pair name value others) = text_bytes name ++ (value_bytes value ++ pairs_bytes others)

  pub lists_bytes : PlainLists → List ℕ
  lists_bytes no_lists = []
  lists_bytes (next first others) = (to_be_bytes w32 (pair_count first) ++ pairs_bytes first) ++ lists_bytes others

-- the number of pairs, and the pairs
abbrev pub spelling : PlainList → List ℕ
spelling l = to_be_bytes w32 (pair_count l) ++ pairs_bytes l

-- each byte is printable ASCII
abbrev pub is_printable : List ℕ → Bool
is_printable bytes = list_all (λ b. nat_le 0x20 b && nat_le b 0x7e) bytes

-- a name stands behind another in byte order; each name stands behind no bytes
abbrev pub is_behind : List ℕ → List ℕ → Bool
is_behind name last = is_lt (slice_cmp nat_cmp last name)

-- a text that may stand in a list: fewer than 2^32 bytes of printable ASCII
pub record IsText (t : List ℕ) : Type 0 where
  pub len : length t < 2 ^ 32
  pub printable : IsTrue (is_printable t)

-- a name of 1 to 64 bytes that stands behind the last
pub record IsNameBehind (last name : List ℕ) : Type 0 where
  pub not_empty : 0 < length name
  pub len : length name ≤ 64
  pub printable : IsTrue (is_printable name)
  pub behind : IsTrue (is_behind name last)

-- what may stand in a list; how deep lists lie is left aside
abbrev mutual
  pub FitsValue : PlainValue → Type 0
  FitsValue (number n) = n < 2 ^ 64
  FitsValue (text t) = IsText t
  FitsValue (list inner) = (pair_count inner < 2 ^ 32) × FitsBehind [] inner
  FitsValue (lists inner) = (list_count inner < 2 ^ 32) × FitsLists inner

  -- the names ascend from the last
  pub FitsBehind : List ℕ → PlainList → Type 0
  FitsBehind last no_pairs = Unit {0}
  FitsBehind last (pair name value others) = IsNameBehind last name × FitsValue value × FitsBehind name others

  pub FitsLists : PlainLists → Type 0
  FitsLists no_lists = Unit {0}
  FitsLists (next first others) = (pair_count first < 2 ^ 32) × FitsBehind [] first × FitsLists others

-- a list of fewer than 2^32 pairs whose names ascend and whose values fit, however deep
abbrev pub FitsList : PlainList → Type 0
FitsList l = (pair_count l < 2 ^ 32) × FitsBehind [] l

-- what has a spelling
abbrev pub Fits : PlainList → Type 0
Fits l = FitsList l × (depth l ≤ 6)

-- these bytes, and no others, spell the list
abbrev pub Spells : List ℕ → PlainList → Type 0
Spells bytes l = Fits l × (bytes ≡ spelling l)
