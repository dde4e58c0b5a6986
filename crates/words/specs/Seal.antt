-- The seal at the end of an area: a word, and the digest of the area.
use Rattle.std.specs.Prelude.{ℕ, List, ◌++◌, replicate}
use Rattle.std.specs.Int.{w64, to_le_bytes}
use Rattle.sha2.specs.Sha256.{sha256}

-- the word in front of the digest
abbrev pub seal_word : List ℕ
seal_word = to_le_bytes w64 0x0210_da7a_b10c_7a11

-- an area by what stands before its seal; for the digest, its own 32 bytes count as zeros
abbrev pub sealed : List ℕ → List ℕ
sealed front = front ++ seal_word ++ sha256 (front ++ seal_word ++ replicate 32 0)
