use Rattle.std.proofs.Common.{refl}
use Rattle.dataset_snapshots.specs.Reach.{reach_of}
use Rattle.raidz_io.proofs.Rebuilt.{IfOk-map}
use Rattle.vdev_label.specs.Plain.{config_view}
use Rattle.pool_commit.proofs.plan.first_root.Goals as goal

pub returns-clause-known : goal.returns-clause-known
returns-clause-known g c = c.first_group.ensures.known

pub returns-clause-value : goal.returns-clause-value
returns-clause-value g c = IfOk-map c.first_group.result _ _ (λ first spells stored planned plans nothing tell.
    let there = spells stored planned plans nothing tell in
    (there.0, there.1, there.2, there.3, reach_of there.3, (there.3, refl), there.6, (there.3, there.7, (_, there.4.config, record { guids = refl; digest = refl }), there.4.spans), (there.3, there.8))) c.first_group.ensures.value

pub first_group-requires-clause-fits : goal.first_group-requires-clause-fits
first_group-requires-clause-fits g c = (c.small_configs_fit.ensures (config_view c.args.config.now) c.requires.fits.few c.requires.fits.each).0

pub first_group-requires-clause-few : goal.first_group-requires-clause-few
first_group-requires-clause-few g c = (c.small_configs_fit.ensures (config_view c.args.config.now) c.requires.fits.few c.requires.fits.each).1
