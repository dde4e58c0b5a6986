use Rattle.std.proofs.Common.{ℕ, List, length, sym, ap, ◌∙◌, subst, arith}
use Rattle.pool_open.specs.CoreStateOf.{state_of}
use Rattle.pool_slots.specs.Slots.{HaveLabels}
use Rattle.uberblock_ring.specs.Uberblock.{IsNumber}
use Rattle.pool_slots.proofs.Results.{if_err_is}
use Rattle.pool_create.specs.Planning.{none_out}
use Rattle.pool_create.specs.Stages.{IsUnmade}
use Rattle.pool_create.proofs.Stages.{AreStages, laid_still, made_of, named_of, unmade_back, unmade_group, unmade_labels}
use Rattle.pool_create.proofs.making.make.Goals as goal

pub returns-in_err-first-clause-refused : goal.returns-in_err-first-clause-refused
returns-in_err-first-clause-refused g c =
    let failed = c.in_err-first.field-0.0 in
    if_err_is c.from_residual.result failed (λ f. IsUnmade c.args.disks c.args.pool c.args.config c.args.new.now f.1 f.0) c.from_residual.ensures.1
    (unmade_group c.args.disks failed.1 c.args.pool c.args.config c.args.new.now failed.0 c.in_err-first.ensures.grew c.in_err-first.ensures.refused)

pub label-requires-clause-count : goal.label-requires-clause-count
label-requires-clause-count g c = c.requires.count ∙ ap length (sym c.in_ok-first.ensures.first.grew.starts)

pub label-requires-clause-room : goal.label-requires-clause-room
label-requires-clause-room g c = subst HaveLabels (sym c.in_ok-first.ensures.first.grew.starts) c.requires.laid.labels

pub returns-in-Err-clause-refused : goal.returns-in-Err-clause-refused
returns-in-Err-clause-refused g c =
    unmade_labels c.args.disks c.in_ok-first.first.disks c.label.new.disks c.args.pool c.args.config c.args.new.now c.in-Err.refusal c.in_ok-first.ensures.first.grew c.label.ensures.makes
    c.in-Err.ensures.refused

pub first_group-requires-clause-table : goal.first_group-requires-clause-table
first_group-requires-clause-table g c = c.requires.new.table

pub first_group-requires-clause-named : goal.first_group-requires-clause-named
first_group-requires-clause-named g c = named_of c.args.config (length c.args.disks.starts) c.args.new.now c.requires.new

pub first_group-requires-clause-claim : goal.first_group-requires-clause-claim
first_group-requires-clause-claim g c = subst IsNumber (sym c.requires.new.stamp_is.claim_is) (omega arith, omega arith)

pub read_back-requires-clause-labels : goal.read_back-requires-clause-labels
read_back-requires-clause-labels g c = subst HaveLabels (sym (c.label.ensures.makes.starts ∙ c.in_ok-first.ensures.first.grew.starts)) c.requires.laid.labels

pub read_back-requires-clause-out : goal.read_back-requires-clause-out
read_back-requires-clause-out g c =
    c.requires.new.none_is_out ∙ ap (λ (them : List (List ℕ)). none_out (length them)) (sym (c.label.ensures.makes.starts ∙ c.in_ok-first.ensures.first.grew.starts))

pub read_back-requires-clause-claim : goal.read_back-requires-clause-claim
read_back-requires-clause-claim g c = subst IsNumber (sym c.requires.new.stamp_is.claim_is) (omega arith, omega arith)

pub read_back-requires-clause-may : goal.read_back-requires-clause-may
read_back-requires-clause-may g c =
    (laid_still c.args.disks c.label.new.disks c.args.new.now (c.label.ensures.makes.starts ∙ c.in_ok-first.ensures.first.grew.starts) c.requires.laid).may

pub read_back-requires-clause-laid : goal.read_back-requires-clause-laid
read_back-requires-clause-laid g c =
    (laid_still c.args.disks c.label.new.disks c.args.new.now (c.label.ensures.makes.starts ∙ c.in_ok-first.ensures.first.grew.starts) c.requires.laid).laid

pub returns-in-Ok-read_back-clause-made : goal.returns-in-Ok-read_back-clause-made
returns-in-Ok-read_back-clause-made g c =
    let it = c.args.new.now in
    let first = c.in_ok-first.first in
    let labeled = c.label.new.disks in
    let opened = c.in-Ok-read_back.opened in
    let are : AreStages c.args.disks first.disks labeled c.args.pool c.args.config it first.root opened.uberblock (state_of opened.core) = record {
      new = c.requires.new;
      laid = c.requires.laid;
      allowed = c.requires.allowed;
      count = c.requires.count;
      group = c.in_ok-first.ensures.first;
      labels = c.label.ensures.makes;
      show = c.in-Ok.ensures.labeled;
      settled = c.in-Ok.ensures.settled;
      unfailed = c.in-Ok.ensures.unfailed;
      back = c.in-Ok-read_back.ensures.read;
    } in
    made_of c.writes_elsewhere_keep.ensures c.args.disks first.disks labeled c.args.pool c.args.config it first.root opened.uberblock (state_of opened.core) are

pub returns-in-Err-read_back-clause-refused : goal.returns-in-Err-read_back-clause-refused
returns-in-Err-read_back-clause-refused g c =
    let first = c.in_ok-first.first in
    unmade_back c.args.disks first.disks c.label.new.disks c.in-Err-read_back.disks c.args.pool c.args.config c.args.new.now first.root c.in-Err-read_back.refusal c.of_read.result
    c.in_ok-first.ensures.first c.label.ensures.makes c.in-Ok.ensures.labeled c.of_read.ensures c.in-Err-read_back.ensures.refused
