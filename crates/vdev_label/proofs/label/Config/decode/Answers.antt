use Rattle.std.proofs.Common.{rules}
use Rattle.nvlist.specs.View.{list_view}
use Rattle.vdev_label.proofs.Configs.{only_config}
use Rattle.vdev_label.specs.Pairs.{tree_pairs}
use Rattle.vdev_label.proofs.label.Config.decode.Goals as goal

pub returns-in_err-list-clause-only : goal.returns-in_err-list-clause-only
returns-in_err-list-clause-only c = λ vdevs spells.
    let none = c.in_err-list.ensures.only (tree_pairs vdevs) spells in
    search (rules, none)

pub returns-clause-only : goal.returns-clause-only
returns-clause-only c = λ vdevs spells.
    only_config c.config_of.result (list_view c.in_ok-list.list) vdevs (c.in_ok-list.ensures.only (tree_pairs vdevs) spells) c.config_of.ensures.found c.config_of.ensures.bad
