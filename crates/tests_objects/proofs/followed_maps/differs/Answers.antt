use Rattle.tests_objects.proofs.followed_maps.differs.Goals as goal

pub unused_before-requires : goal.unused_before-requires
unused_before-requires c = c.has_metaslab.ensures.0 c.if-has_metaslab.true
