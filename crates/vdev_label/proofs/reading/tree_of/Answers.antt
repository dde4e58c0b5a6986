use Rattle.std.proofs.lemmas.Result.{IfOk-weaker, IfErr-weaker}
use Rattle.nvlist.specs.View.{list_view}
use Rattle.vdev_label.proofs.Labels.{bad_list, has_list}
use Rattle.vdev_label.specs.Plain.{config_view}
use Rattle.vdev_label.proofs.reading.tree_of.Goals as goal

pub returns-clause-found : goal.returns-clause-found
returns-clause-found c =
    IfOk-weaker c.config_of.result _ _
    (λ config are. has_list (list_view c.args.pairs.now) (list_view c.in_ok-list_of.field-0.now) (config_view config) c.in_ok-list_of.ensures.found are)
    c.config_of.ensures.found

pub returns-clause-bad : goal.returns-clause-bad
returns-clause-bad c =
    IfErr-weaker c.config_of.result _ _
    (λ refusal. bad_list refusal (list_view c.args.pairs.now) (list_view c.in_ok-list_of.field-0.now) c.in_ok-list_of.ensures.found)
    c.config_of.ensures.bad
