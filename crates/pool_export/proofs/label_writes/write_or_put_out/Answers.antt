use Rattle.std.proofs.Common.{◌∙◌, ℕ, List, length, Some, sym, subst, arith}
use Rattle.model_disk.specs.Joint.{bytes_of, content}
use Rattle.pool_slots.specs.Slots.{MakesOn, is_disk}
use Rattle.pool_slots.specs.Writes.{InHalf}
use Rattle.pool_export.specs.Writes.{AreaStands, copy_on}
use Rattle.pool_export.proofs.Absence.{ends_answered, ends_failed, go_kept, go_out, on_answered, put_out, used_at}
use Rattle.pool_export.proofs.Copies.{area_at, area_made, stands_on}
use Rattle.pool_export.proofs.label_writes.write_or_put_out.Goals as goal

pub returns-then-is_err-clause-absent : goal.returns-then-is_err-clause-absent
returns-then-is_err-clause-absent g c =
    let out = c.args.out.now.items in
    let old = c.args.disks.now in
    let new = c.write_both.new.disks in
    let ends = ends_failed c.write_both.result old new c.args.which (sym c.is_err.ensures.value ∙ c.if-is_err.true) c.write_both.ensures.ends in
    go_out out old new c.args.which (used_at out c.args.which c.index.result.now (omega arith) c.index.ensures c.if-index.false) c.write_both.ensures.makes.alone ends.0 ends.1

pub returns-else-is_err-clause-absent : goal.returns-else-is_err-clause-absent
returns-else-is_err-clause-absent g c =
    let old = c.args.disks.now in
    let new = c.write_both.new.disks in
    go_kept c.args.out.now.items old new c.args.which c.write_both.ensures.makes.alone
    (ends_answered c.write_both.result old new c.args.which (sym c.is_err.ensures.value ∙ c.if-is_err.false) c.write_both.ensures.ends)

pub returns-then-is_err-clause-makes : goal.returns-then-is_err-clause-makes
returns-then-is_err-clause-makes g c =
    let out = c.args.out.now.items in
    let old = c.args.disks.now in
    let new = c.write_both.new.disks in
    let areas = c.args.areas.now in
    let P : List ℕ → Type 0 = λ area. MakesOn (is_disk c.args.which) (copy_on c.args.which old.starts (InHalf c.args.half) area) old new in
    area_made out old.starts areas (InHalf c.args.half) c.args.which c.in-Some.area old new (used_at out c.args.which c.index.result.now (omega arith) c.index.ensures c.if-index.false)
    (area_at areas c.args.which (Some c.in-Some.area) c.index-areas-which.result (omega (arith, c.requires.count, c.requires.which)) c.index-areas-which.is c.in-Some.is)
    (subst P c.deref.ensures.value c.write_both.ensures.makes)

pub returns-else-is_err-clause-makes : goal.returns-else-is_err-clause-makes
returns-else-is_err-clause-makes g c =
    let out = c.args.out.now.items in
    let old = c.args.disks.now in
    let new = c.write_both.new.disks in
    let areas = c.args.areas.now in
    let P : List ℕ → Type 0 = λ area. MakesOn (is_disk c.args.which) (copy_on c.args.which old.starts (InHalf c.args.half) area) old new in
    area_made out old.starts areas (InHalf c.args.half) c.args.which c.in-Some.area old new (used_at out c.args.which c.index.result.now (omega arith) c.index.ensures c.if-index.false)
    (area_at areas c.args.which (Some c.in-Some.area) c.index-areas-which.result (omega (arith, c.requires.count, c.requires.which)) c.index-areas-which.is c.in-Some.is)
    (subst P c.deref.ensures.value c.write_both.ensures.makes)

pub returns-then-is_err-clause-stands : goal.returns-then-is_err-clause-stands
returns-then-is_err-clause-stands g c in_use =
    let out = c.args.out.now.items in
    absurd ((put_out out c.args.which (used_at out c.args.which c.index.result.now (omega arith) c.index.ensures c.if-index.false)).here in_use)

pub returns-else-is_err-clause-stands : goal.returns-else-is_err-clause-stands
returns-else-is_err-clause-stands g c in_use =
    let old = c.args.disks.now in
    let new = c.write_both.new.disks in
    let areas = c.args.areas.now in
    let P : List ℕ → Type 0 = AreaStands (content new c.args.which) (length (bytes_of old.starts c.args.which)) (InHalf c.args.half) in
    stands_on (content new) old.starts areas (InHalf c.args.half) c.args.which c.in-Some.area
    (area_at areas c.args.which (Some c.in-Some.area) c.index-areas-which.result (omega (arith, c.requires.count, c.requires.which)) c.index-areas-which.is c.in-Some.is)
    (subst P c.deref.ensures.value (on_answered c.write_both.result (P c.deref.result.now) (sym c.is_err.ensures.value ∙ c.if-is_err.false) c.write_both.ensures.stands))
