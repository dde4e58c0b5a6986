use Rattle.std.proofs.Common.{inr}
use Rattle.pool_slots.proofs.Results.{if_err_is}
use Rattle.pool_open.specs.Finding.{LayoutRefuses}
use Rattle.pool_open.proofs.Layouts.{laid_out}
use Rattle.pool_open.proofs.finding.lay_out.Goals as goal

pub returns-in_err-choice-clause-refused : goal.returns-in_err-choice-clause-refused
returns-in_err-choice-clause-refused g c =
    if_err_is c.from_residual-in_err-choice.result c.in_err-choice.field-0.0 (LayoutRefuses c.args.disks.now c.scan.new.disks c.args.rewind)
    c.from_residual-in_err-choice.ensures.1 (inr (c.in_ok-found.found, c.in_ok-found.ensures.scans, c.in_err-choice.ensures.refused))

pub label_at-label-requires : goal.label_at-label-requires
label_at-label-requires g c =
    let chosen = c.in_ok-choice.ensures.chosen in
    record { valid = (chosen.configured.s, chosen.l, chosen.configured.source.at) }

pub returns-clause-laid_out : goal.returns-clause-laid_out
returns-clause-laid_out g c =
    laid_out c.args.disks.now c.scan.new.disks c.args.rewind c.in_ok-found.found c.in_ok-choice.choice c.in_ok-layout.layout c.label_at-label.ensures.0 c.label_at-label.result
    c.in_ok-found.ensures.scans c.in_ok-choice.ensures.chosen c.label_at-label.ensures.1 c.in_ok-layout.ensures.laid_out c.in_ok-layout.ensures.identity
