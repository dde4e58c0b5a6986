use Rattle.std.proofs.Common.{◌≡◌, ◌∙◌, List, Option, ◌∷◌, [], ◌++◌, Result, length, ap, sym, subst, arith}
use Rattle.std.specs.Prelude.{Vec}
use Rattle.std.specs.declared.alloc.Global.{Global}
use Rattle.std.proofs.lemmas.List.{length-append}
use Rattle.pool_slots.specs.LabelReads.{AreFromSources, MakesAreas}
use Rattle.pool_slots.specs.Reads.{nowhere}
use Rattle.pool_slots.specs.declared.labeled.Area.{Area}
use Rattle.pool_slots.specs.declared.refusal.Refusal.{Refusal}
use Rattle.pool_slots.proofs.LabelPlans.{AreMadeTo, made_next, made_done, made_refused, sources_next}
use Rattle.pool_slots.proofs.ReadRuns.{reads_any, reads_err, reads_made, reads_then}
use Rattle.pool_slots.proofs.Results.{err_use}
use Rattle.pool_slots.proofs.areas.areas_of.Goals as goal

pub returns-in_err-area-clause-only : goal.returns-in_err-area-clause-only
returns-in_err-area-clause-only g c = reads_err c.from_residual.result c.in_err-area.field-0.0 c.from_residual.ensures.1 (reads_then c.loop-which.invariant.only c.in_err-area.ensures.only)

pub returns-in_err-area-clause-areas : goal.returns-in_err-area-clause-areas
returns-in_err-area-clause-areas g c =
    let P : Result (Vec (Option Area) Global) Refusal → Type 0 = MakesAreas c.args.labels.now c.args.donor c.args.uberblock.now c.args.disks.now c.area_if_read.new.disks in
    let cause = c.in_err-area.field-0.0 in
    err_use c.from_residual.result cause P c.from_residual.ensures.1
    (made_refused c.args.labels.now c.args.donor c.args.uberblock.now c.args.disks.now c.loop-which.disks c.area_if_read.new.disks c.loop-which.which cause (reads_made c.loop-which.invariant.only) c.in_err-area.ensures.area)

pub returns-in_err-push-clause-only : goal.returns-in_err-push-clause-only
returns-in_err-push-clause-only g c = reads_any (reads_then c.loop-which.invariant.only c.in_ok-area.ensures.only)

pub loop-which-preserved : goal.loop-which-preserved
loop-which-preserved g c =
    let items : c.push.new.self.items ≡ c.loop-which.all.items ++ c.in_ok-area.area ∷ [] = c.in_ok-push.ensures.items in
    let P : List (Option Area) → Type 0 = AreMadeTo c.args.labels.now c.args.uberblock.now in
    let S : List (Option Area) → Type 0 = AreFromSources c.args.labels.now c.args.donor c.args.uberblock.now c.args.disks.now in
    record {
      only = reads_then {faulty = nowhere} c.loop-which.invariant.only c.in_ok-area.ensures.only;
      count = ap length items ∙ length-append c.loop-which.all.items (c.in_ok-area.area ∷ []) ∙ omega (arith, c.loop-which.invariant.count);
      made = subst P (sym items) (made_next c.args.labels.now c.args.donor c.args.uberblock.now c.loop-which.disks c.area_if_read.new.disks c.loop-which.which c.loop-which.all.items c.in_ok-area.area
          c.loop-which.invariant.count c.loop-which.invariant.made c.in_ok-area.ensures.area);
      sources = λ honest. subst S (sym items) (sources_next c.args.labels.now c.args.donor c.args.uberblock.now c.args.disks.now c.loop-which.disks c.area_if_read.new.disks c.loop-which.which c.loop-which.all.items c.in_ok-area.area
          c.loop-which.invariant.count (reads_made c.loop-which.invariant.only) (reads_made c.area_if_read.ensures.only) c.loop-which.invariant.sources c.in_ok-area.ensures.area honest);
    }

pub returns-clause-areas : goal.returns-clause-areas
returns-clause-areas g c =
    made_done c.args.labels.now c.args.donor c.args.uberblock.now c.args.disks.now c.loop-which.disks c.loop-which.all
    (omega (arith, c.requires.count, c.loop-which.invariant.count, c.loop-which-test.false, c.loop-which.auto.which-end, c.len-which-end.ensures)) c.loop-which.invariant.made c.loop-which.invariant.sources

pub returns-clause-only : goal.returns-clause-only
returns-clause-only g c = reads_any c.loop-which.invariant.only
