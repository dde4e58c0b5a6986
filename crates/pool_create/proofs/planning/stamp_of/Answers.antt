use Rattle.pool_create.proofs.Stamps.{config_fits}
use Rattle.pool_create.proofs.planning.stamp_of.Goals as goal

pub digest-requires : goal.digest-requires
digest-requires c =
    config_fits c.allowed_has_room.ensures c.config_of_label_fits.ensures c.args.pool.now c.args.config.now c.requires c.is_word.ensures c.guids_are_words.ensures
