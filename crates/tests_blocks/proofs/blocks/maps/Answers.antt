use Rattle.tests_blocks.proofs.blocks.maps.Goals as goal

pub unused_before-requires : goal.unused_before-requires
unused_before-requires c = c.has_metaslab.ensures.0 c.if-has_metaslab.true

pub unused_after-requires : goal.unused_after-requires
unused_after-requires c = c.has_metaslab.ensures.0 c.if-has_metaslab.true
