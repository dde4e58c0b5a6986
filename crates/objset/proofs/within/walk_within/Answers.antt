use Rattle.std.proofs.Common.{◌≡◌, ◌≤◌, ◌∙◌, ap, sym, subst}
use Rattle.std.proofs.lemmas.Result.{IfOk-weaker, IfErr-weaker}
use Rattle.dnode_tree.specs.Younger.{younger}
use Rattle.objset.proofs.YoungerLemmas.{own_younger, objects_younger, set_younger, all_set_walked, all_set_refused}
use Rattle.objset.specs.Within.{blocks_of_objects, reads_of}
use Rattle.objset.proofs.within.walk_within.Goals as goal

pub returns-clause-blocks : goal.returns-clause-blocks
returns-clause-blocks g c =
    IfOk-weaker c.walk_younger.result _ _
    (λ found told stored objects own blocks held are tell.
    told stored objects own blocks held are tell ∙ set_younger stored c.args.birth c.args.set.now objects own blocks c.requires are)
    c.walk_younger.ensures.blocks

pub returns-clause-count : goal.returns-clause-count
returns-clause-count g c =
    IfOk-weaker c.walk_younger.result _ _
    (λ found there. all_set_walked c.args.store.now.spaces c.args.set.now c.args.birth c.args.left.now c.walk_younger.new.left found.items c.requires there)
    c.walk_younger.ensures.count

pub returns-clause-refused : goal.returns-clause-refused
returns-clause-refused g c =
    IfErr-weaker c.walk_younger.result _ _
    (λ refusal why. all_set_refused c.args.store.now c.walk_younger.new.store c.args.missing.now c.args.set.now c.args.birth c.args.left.now c.walk_younger.new.left refusal c.requires why)
    c.walk_younger.ensures.refused

pub returns-clause-known : goal.returns-clause-known
returns-clause-known g c =
    IfErr-weaker c.walk_younger.result _ _
    (λ refusal told stored objects own blocks held are once enough tell.
    let first = own_younger stored c.args.birth c.args.set.now objects own blocks c.requires are in
    let below = objects_younger stored c.args.birth c.args.set.now objects own blocks c.requires are in
    let same : reads_of own (blocks_of_objects c.args.set.now blocks) ≡ reads_of (younger 0 own) (younger 0 (blocks_of_objects c.args.set.now blocks)) =
    sym (ap (λ more. reads_of more (younger 0 (blocks_of_objects c.args.set.now blocks))) first ∙ ap (reads_of own) below) in
    told stored objects own blocks held are once (subst (λ n. n ≤ c.args.left.now) same enough) tell)
    c.walk_younger.ensures.known
