use Rattle.std.proofs.lemmas.Result.{IfOk-weaker, IfErr-weaker}
use Rattle.nvlist.specs.View.{list_view, lists_view}
use Rattle.vdev_label.proofs.Vdevs.{bad_children, has_children}
use Rattle.vdev_label.proofs.reading.disks_of.Goals as goal

pub returns-clause-found : goal.returns-clause-found
returns-clause-found c =
    IfOk-weaker c.children_of.result _ _
    (λ guids are. has_children (list_view c.args.pairs.now) (lists_view c.in_ok-lists_of.field-0.now) guids.items c.in_ok-lists_of.ensures.found are)
    c.children_of.ensures.found

pub returns-clause-bad : goal.returns-clause-bad
returns-clause-bad c =
    IfErr-weaker c.children_of.result _ _
    (λ refusal. bad_children refusal (list_view c.args.pairs.now) (lists_view c.in_ok-lists_of.field-0.now) c.in_ok-lists_of.ensures.found)
    c.children_of.ensures.bad
