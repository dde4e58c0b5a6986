-- Names as they stand in rows.
use Rattle.std.specs.Prelude.{ℕ, ◌≡◌, ◌≢◌, ◌-◌, ◌<◌, List, ◌++◌, length, replicate, All}
use Rattle.std.specs.Cmp.Lexicographic.{slice_cmp}
use Rattle.std.specs.declared.cmp.Ordering.TheVariants.{Less}
use Rattle.std.specs.Ordering.{nat_cmp}

-- a name in 56 bytes: 1 to 55 bytes that aren't zero, and zeros behind them
pub record IsNamed (padded name : List ℕ) : Type 0 where
  pub some : 0 < length name
  pub few : length name < 56
  pub no_zero : All (λ byte. byte ≢ 0) name
  pub padded_is : padded ≡ name ++ replicate (56 - length name) 0

-- these 56 bytes are some name with zeros behind it
abbrev pub IsName : List ℕ → Type 0
IsName padded = (name : List ℕ) × IsNamed padded name

-- the first stands before the other in byte order
abbrev pub IsBefore : List ℕ → List ℕ → Type 0
IsBefore name other = slice_cmp nat_cmp name other ≡ Less
