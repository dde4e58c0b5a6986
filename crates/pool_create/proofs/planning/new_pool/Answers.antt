use Rattle.std.proofs.Common.{List, sym, ap, ◌∙◌, subst}
use Rattle.pool_open.specs.Configs.{FitsTable}
use Rattle.vdev_label.specs.Plain.{PlainVdev, config_view}
use Rattle.pool_create.proofs.Stamps.{fits_table}
use Rattle.pool_create.proofs.planning.new_pool.Goals as goal

pub returns : goal.returns
returns c =
    let same = ap config_view c.in_ok-new.ensures.ok ∙ c.in_ok-copied.ensures in
    record {
      shapes_are = c.in_ok-shapes_of.ensures;
      none_is_out = c.in_ok-none_out.ensures;
      stamp_is = c.in_ok-stamp_of.ensures;
      config_is = same;
      table = subst (λ (vdevs : List PlainVdev). FitsTable vdevs) (sym same)
          (fits_table c.args.pool.now c.args.config.now c.requires c.guids_are_words.ensures);
    }
