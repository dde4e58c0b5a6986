-- Bytes, whoever else has them.
use Rattle.std.specs.Prelude.{ℕ, List}
use Rattle.std.specs.Arc.{arc_value}
use Rattle.pool_model.specs.declared.shared_bytes.Held.{Held}
use Rattle.pool_model.specs.declared.shared_bytes.Held.TheVariants.{Own, Shared}

-- the bytes that are held, owned or shared
abbrev pub bytes_of : Held → List ℕ
bytes_of (Own bytes) = bytes.items
bytes_of (Shared shared) = (arc_value shared).items
