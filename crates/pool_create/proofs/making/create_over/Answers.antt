use Rattle.std.proofs.Common.{ℕ, subst}
use Rattle.std.proofs.lemmas.Result.{IfErr-weaker, IfOk-weaker}
use Rattle.model_disk.specs.Runs.{no_write}
use Rattle.pool_open.specs.CoreStateOf.{state_of}
use Rattle.pool_slots.proofs.Results.{if_err_is}
use Rattle.pool_create.specs.Creating.{CreateRefuses, IsCreated}
use Rattle.pool_create.specs.Planning.{IsNewPool}
use Rattle.pool_create.specs.Stages.{IsMade, IsUnmade}
use Rattle.pool_create.proofs.Fitting.{all_counted}
use Rattle.pool_create.proofs.Grown.{made_grew}
use Rattle.pool_create.proofs.Stages.{created_of, new_still, refused_fit, refused_make, refused_plan}
use Rattle.pool_create.proofs.making.create_over.Goals as goal

pub returns-in-Err-clause-refused : goal.returns-in-Err-clause-refused
returns-in-Err-clause-refused g c = refused_plan c.args.disks c.args.pool c.args.config c.in-Err.refusal c.in-Err.ensures.refused

pub returns-in_err-blank-clause-refused : goal.returns-in_err-blank-clause-refused
returns-in_err-blank-clause-refused g c =
    let failed = c.in_err-blank.field-0.0 in
    let it = c.in-Ok.planned in
    let new = subst (λ (n : ℕ). IsNewPool c.args.config n it) c.len.ensures c.in-Ok.ensures.planned in
    if_err_is c.from_residual.result failed (λ f. CreateRefuses c.args.disks c.args.pool c.args.config f.1 f.0) c.from_residual.ensures.1
    (refused_fit c.args.disks failed.1 c.args.pool c.args.config it failed.0 new c.in_err-blank.ensures.refused)

pub make-requires-clause-new : goal.make-requires-clause-new
make-requires-clause-new g c =
    new_still c.args.config c.in-Ok.planned c.args.disks c.in_ok-blank.blank c.in_ok-blank.ensures.fit.only.starts
    (subst (λ (n : ℕ). IsNewPool c.args.config n c.in-Ok.planned) c.len.ensures c.in-Ok.ensures.planned)

pub make-requires-clause-laid : goal.make-requires-clause-laid
make-requires-clause-laid g c = c.in_ok-blank.ensures.fit.is_laid

pub make-requires-clause-count : goal.make-requires-clause-count
make-requires-clause-count g c =
    all_counted c.args.config c.in_ok-blank.blank.starts c.in-Ok.planned.shapes.items c.in-Ok.ensures.planned.shapes_are c.in_ok-blank.ensures.fit.is_laid.may.lie

pub returns-clause-created : goal.returns-clause-created
returns-clause-created g c =
    let it = c.in-Ok.planned in
    let blank = c.in_ok-blank.blank in
    let new = subst (λ (n : ℕ). IsNewPool c.args.config n it) c.len.ensures c.in-Ok.ensures.planned in
    IfOk-weaker c.make.result (λ opened. IsMade blank c.args.pool c.args.config it opened.uberblock (state_of opened.core))
    (λ opened. IsCreated c.args.disks c.args.pool c.args.config opened.uberblock (state_of opened.core))
    (λ opened made. created_of c.args.disks blank c.args.pool c.args.config it opened.uberblock (state_of opened.core) c.in-Ok.ensures.allowed new c.in_ok-blank.ensures.fit made)
    c.make.ensures.made

pub returns-clause-refused : goal.returns-clause-refused
returns-clause-refused g c =
    let it = c.in-Ok.planned in
    let blank = c.in_ok-blank.blank in
    let new = subst (λ (n : ℕ). IsNewPool c.args.config n it) c.len.ensures c.in-Ok.ensures.planned in
    IfErr-weaker c.make.result (λ failed. IsUnmade blank c.args.pool c.args.config it failed.1 failed.0) (λ failed. CreateRefuses c.args.disks c.args.pool c.args.config failed.1 failed.0)
    (λ failed why. refused_make c.args.disks blank failed.1 c.args.pool c.args.config it failed.0 new (made_grew no_write c.args.disks blank c.in_ok-blank.ensures.fit.only) why)
    c.make.ensures.refused
