use Rattle.std.proofs.Common.{◌≡◌, ◌∙◌, refl}
use Rattle.dataset_chains.proofs.Created.{created}
use Rattle.dataset_chains.proofs.Touching.{none_read, touches}
use Rattle.dataset_chains.proofs.heads.create.Goals as goal

pub returns-clause-value : goal.returns-clause-value
returns-clause-value c known group objects pool readings blocks reading some spells unused is_new fresh leads are_new once =
    let over = c.in_ok-make_list.ensures.over objects (c.in_ok-make_record.ensures.over objects spells.over fresh.no_object.0) fresh.no_object.1 in
    created known group objects c.args.changes.now c.make_record.new.self c.make_list.new.self pool readings c.args.number c.args.dataset.now over
    c.in_ok-make_record.ensures.put c.make_list.ensures.records c.make_record.ensures.lists c.in_ok-make_list.ensures.put
    blocks reading some spells unused is_new fresh leads are_new once

pub returns-clause-touched : goal.returns-clause-touched
returns-clause-touched c =
    touches c.args.changes.now c.args.changes.now c.make_record.new.self c.make_list.new.self c.args.number c.args.dataset.now.dead_list _ _ (λ one. one ≡ c.args.dataset.now.dead_list)
    (none_read c.args.changes.now) (λ one. refl) c.in_ok-make_record.ensures.put c.make_record.ensures.lists c.make_list.ensures.records c.in_ok-make_list.ensures.put refl

pub returns-clause-put : goal.returns-clause-put
returns-clause-put c = (c.make_list.ensures.records c.args.number ∙ c.in_ok-make_record.ensures.put.0, c.in_ok-make_list.ensures.put.0)
