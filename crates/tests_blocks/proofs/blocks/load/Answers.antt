use Rattle.tests_blocks.proofs.blocks.load.Goals as goal

pub unused_after-requires : goal.unused_after-requires
unused_after-requires c = c.has_metaslab.ensures.0 c.if-has_metaslab.true

pub unused_after-requires-then-has_metaslab-2 : goal.unused_after-requires-then-has_metaslab-2
unused_after-requires-then-has_metaslab-2 c = c.has_metaslab-then-has_metaslab.ensures.0 c.if-has_metaslab-2.true

pub load_map-requires : goal.load_map-requires
load_map-requires c = c.has_metaslab-then-has_metaslab.ensures.0 c.if-has_metaslab-2.true
