-- What the values of a line mean.
use Rattle.std.specs.Prelude.{ℕ, ◌+◌, ◌-◌, ◌==◌, ◌&&◌, Bool, true, false, nat_lt, List, Option, Some, None, option_and_then, Result, Ok, Err, codes, length, take, drop, position, if◌then◌else◌}
use Rattle.std.specs.Option.{option_map_or}
use Rattle.std.specs.Str.{bytes_eq}
use Rattle.std.specs.Str.Parse.{digits_value, without_leading_plus}
use Rattle.clap.specs.ValueTests.{is_unsigned_in}
use Rattle.clap.specs.Words.{Row, Text, all_of, first_of, one_of}
use Rattle.pool_command.specs.Causes.{Cause, missing, no_type, no_part, no_new_files, no_place, half_range}

-- a number that 64 bits hold, in decimal digits, before which a plus may stand
abbrev pub number_of : Text → Option ℕ
number_of text = if is_unsigned_in 0 18446744073709551615 text then Some (digits_value 10 (without_leading_plus text)) else None

-- how many parities a vdev of this type has
abbrev pub parities_of : Text → Result ℕ Cause
parities_of text = if bytes_eq text (codes "raidz1") then Ok 1 else (if bytes_eq text (codes "raidz2") then Ok 2 else Err no_type)

-- how many parities a vdev of the type that was read has, or why none was read
abbrev pub parities_as : Result Text Cause → Result ℕ Cause
parities_as (Ok text) = parities_of text
parities_as (Err cause) = Err cause

-- what stands before this place and behind it; with no place it is no name of a snapshot
abbrev pub parts_at : Text → Option ℕ → Result (Text × Text) Cause
parts_at text None = Err no_part
parts_at text (Some at) = Ok (take at text, drop (at + 1) text)

-- what stands before the first '@', and what behind it
abbrev pub parts_of : Text → Result (Text × Text) Cause
parts_of text = parts_at text (position (λ b. b == 64) text)

-- all but the last k files, and these: of both there is one at least
abbrev pub last_files : ℕ → List Text → Result (List Text × List Text) Cause
last_files k files =
    if nat_lt 0 k && nat_lt k (length files) then Ok (take (length files - k) files, drop (length files - k) files) else Err no_new_files

-- where a write begins, or none where it is of all that is there
unfoldable pub place_of : Option ℕ → Bool → Result (Option ℕ) Cause
place_of (Some offset) false = Ok (Some offset)
place_of None true = Ok None
place_of (Some offset) true = Err no_place
place_of None false = Err no_place

-- a range by its offset and its length, or none where all is read
unfoldable pub range_of : Option ℕ → Option ℕ → Result (Option (ℕ × ℕ)) Cause
range_of (Some offset) (Some len) = Ok (Some (offset, len))
range_of None None = Ok None
range_of (Some offset) None = Err half_range
range_of None (Some len) = Err half_range

-- ---- the values that stand in the rows of a parse

-- what is there, or that a word is missing
abbrev pub or_missing : {A : Type 0} → Option A → Result A Cause
or_missing (Some a) = Ok a
or_missing None = Err missing

-- of an option that may be left out
abbrev pub given_number : Text → List Row → Option ℕ
given_number id rows = option_and_then number_of (one_of id rows)

-- the number of an option that has to be there or has a default; else a word is missing
abbrev pub number_in : Text → List Row → Result ℕ Cause
number_in id rows = or_missing (given_number id rows)

-- the text of an option or a place that has to be there; else a word is missing
abbrev pub text_in : Text → List Row → Result Text Cause
text_in id rows = or_missing (first_of id rows)

-- the files, in the order of the line; else a word is missing
abbrev pub files_in : List Row → Result (List Text) Cause
files_in rows = or_missing (all_of (codes "files") rows)

-- the flag is there
abbrev pub flag_in : Text → List Row → Bool
flag_in id rows = option_map_or (λ text. bytes_eq text (codes "true")) (first_of id rows) false

-- of the type that stands there
abbrev pub parities_in : List Row → Result ℕ Cause
parities_in rows = parities_as (text_in (codes "type") rows)
