-- There are bytes as a `Start` tells of them.
use Rattle.std.proofs.Common.{ℕ, List, replicate, refl}
use Rattle.std.proofs.lemmas.List.{length-replicate}
use Rattle.model_disk.specs.Answered.{IsStart}
use Rattle.model_disk.specs.declared.log.Start.{Start}
use Rattle.model_disk.specs.declared.log.Start.TheVariants as start

abbrev pub some_bytes : Start → List ℕ
some_bytes (start.Bytes bytes) = bytes.now
some_bytes (start.OfSize size) = replicate size 0

pub are_meant : (it : Start) → IsStart it (some_bytes it)
are_meant (start.Bytes bytes) = refl
are_meant (start.OfSize size) = length-replicate size 0
