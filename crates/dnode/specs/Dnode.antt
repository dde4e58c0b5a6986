-- The 512 bytes of a dnode.
use Rattle.std.specs.Prelude.{◌≡◌, ℕ, List, replicate}
use Rattle.dnode.specs.declared.dnode.Dnode.{Dnode}
use Rattle.dnode.specs.declared.dnode.Dnode.TheVariants.{Free, Object}
use Rattle.dnode.specs.Node.{FitsNode, node_bytes}

-- what has a spelling
abbrev pub FitsDnode : Dnode → Type 0
FitsDnode Free = Unit {0}
FitsDnode (Object n) = FitsNode n

-- a free dnode is zeros
abbrev pub dnode_bytes : Dnode → List ℕ
dnode_bytes Free = replicate 512 0
dnode_bytes (Object n) = node_bytes n

-- these bytes, and no others, spell the dnode
abbrev pub SpellsDnode : List ℕ → Dnode → Type 0
SpellsDnode bytes d = FitsDnode d × (bytes ≡ dnode_bytes d)
