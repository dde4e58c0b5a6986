use Rattle.block_store.proofs.store.BlockStore.release_place.Goals as goal

pub give_back-requires : goal.give_back-requires
give_back-requires g c = c.is_in_use.ensures.0 c.if-not-is_in_use.false
