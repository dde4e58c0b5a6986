use Rattle.model_disk.specs.Runs.{no_write}
use Rattle.pool_slots.proofs.Phases.{both_made}
use Rattle.pool_slots.proofs.Results.{if_err_is}
use Rattle.pool_create.specs.ReadingBack.{IsCauseOfReading}
use Rattle.pool_create.proofs.Alone.{all_alone_since}
use Rattle.pool_create.proofs.Backs.{taken_still, among_others}
use Rattle.pool_create.proofs.surveying.survey_alone.Goals as goal

pub returns-in_err-taken-clause-refused : goal.returns-in_err-taken-clause-refused
returns-in_err-taken-clause-refused g c =
    let cause = c.in_err-taken.field-0.0 in
    if_err_is c.from_residual.result cause (IsCauseOfReading c.args.disks.now c.survey_first.new.disks c.args.pool.now c.args.root) c.from_residual.ensures.1 c.in_err-taken.ensures.refused

pub returns-in_err-require_alone-clause-only : goal.returns-in_err-require_alone-clause-only
returns-in_err-require_alone-clause-only g c =
    both_made no_write c.args.disks.now c.survey_first.new.disks c.require_alone.new.disks c.survey_first.ensures.only c.require_alone.ensures.only

pub returns-in_err-require_alone-clause-refused : goal.returns-in_err-require_alone-clause-refused
returns-in_err-require_alone-clause-refused g c =
    let cause = c.in_err-require_alone.field-0.0 in
    let old = c.args.disks.now in
    let new = c.require_alone.new.disks in
    if_err_is c.from_residual-in_err-require_alone.result cause (IsCauseOfReading old new c.args.pool.now c.args.root) c.from_residual-in_err-require_alone.ensures.1
    (among_others old c.survey_first.new.disks new c.args.pool.now c.args.root c.in_ok-taken.taken cause c.in_ok-taken.ensures.taken c.in_ok-taken.ensures.is c.survey_first.ensures.only
    c.require_alone.ensures.only c.in_err-require_alone.ensures.refused)

pub returns-clause-only : goal.returns-clause-only
returns-clause-only g c = both_made no_write c.args.disks.now c.survey_first.new.disks c.require_alone.new.disks c.survey_first.ensures.only c.require_alone.ensures.only

pub returns-clause-taken : goal.returns-clause-taken
returns-clause-taken g c =
    taken_still c.args.disks.now c.survey_first.new.disks c.require_alone.new.disks c.args.pool.now.out.items c.in_ok-taken.taken c.in_ok-taken.ensures.taken c.require_alone.ensures.only

pub returns-clause-alone : goal.returns-clause-alone
returns-clause-alone g c =
    all_alone_since c.in_ok-taken.taken c.args.disks.now c.survey_first.new.disks c.require_alone.new.disks c.survey_first.ensures.only c.in_ok-require_alone.ensures.alone
