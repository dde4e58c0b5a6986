-- Guids from a seed.
use Rattle.std.specs.Prelude.{ℕ, zero, suc, ◌+◌, List, ◌∷◌, ◌++◌, []}
use Rattle.std.specs.Fmt.{decimal}
use Rattle.byteorder.specs.Endian.{little_number}
use Rattle.sha2.specs.Sha256.{sha256}

-- the first 8 bytes, little-endian, of the SHA-256 of the text SEED/NUMBER
abbrev pub guid_of : ℕ → ℕ → ℕ
guid_of seed number = little_number 8 (sha256 (decimal seed ++ (47 ∷ decimal number)))

-- from number 2 on they are the disks'
abbrev pub child_guids : ℕ → ℕ → List ℕ
child_guids seed zero = []
child_guids seed (suc count) = child_guids seed count ++ guid_of seed (count + 2) ∷ []
