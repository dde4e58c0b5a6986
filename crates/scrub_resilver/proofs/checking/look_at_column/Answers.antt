use Rattle.std.proofs.Common.{◌≡◌, Some, get_or, sym, ap, ◌∙◌}
use Rattle.raidz_map.specs.declared.column.Column.{Column}
use Rattle.raidz_io.specs.Places.{disk_of, offset_of}
use Rattle.scrub_resilver.proofs.Logs.{judged_at, ok_more}
use Rattle.scrub_resilver.proofs.Placing.{named_at, on_disk_at, lies_within, lies_on, size_at, taken}
use Rattle.scrub_resilver.proofs.checking.look_at_column.Goals as goal

same_some : {X : Type 0} (x y : X) → Some x ≡ Some y → x ≡ y
same_some x y same = cc

pub place_of-place-requires : goal.place_of-place-requires
place_of-place-requires g c =
    named_at c.args.extent _ _ c.args.column _ c.as_slice.ensures.value c.requires.fits c.requires.spread.1.is_layout c.requires.below

pub look_at-requires-clause-which : goal.look_at-requires-clause-which
look_at-requires-clause-which g c =
    lies_on c.args.extent c.args.disks.now.starts _ _
    (on_disk_at c.args.extent _ _ c.args.disks.now.starts c.args.column _ c.as_slice.ensures.value c.requires.fits c.requires.on_disks c.requires.spread.1.is_layout c.requires.below)
    c.place_of-place.ensures.disk

pub look_at-requires-clause-within : goal.look_at-requires-clause-within
look_at-requires-clause-within g c =
    lies_within c.args.extent c.args.disks.now.starts _ c.bytes.result.now _ _
    (on_disk_at c.args.extent _ _ c.args.disks.now.starts c.args.column _ c.as_slice.ensures.value c.requires.fits c.requires.on_disks c.requires.spread.1.is_layout c.requires.below)
    c.place_of-place.ensures.disk c.place_of-place.ensures.offset
    (size_at c.args.extent c.requires.spread.0 _ _ c.args.column _ c.bytes.result.now c.requires.spread.1.are_bytes
    (taken _ _ c.args.column _ c.as_slice.ensures.value c.requires.below) c.bytes.ensures)

-- what is judged by the place and the bytes that code takes is so by those that stand there
pub returns-clause-judged : goal.returns-clause-judged
returns-clause-judged g c =
    ok_more c.look_at.result _ _ (λ fault is place bytes at at'.
    let column : Column = get_or c.as_slice.result.now c.args.column (record { child = 0; sector = 0; sectors = 0 }) in
    let here = taken c.args.spread.now.layout.items c.as_slice.result.now c.args.column (record { child = 0; sector = 0; sectors = 0 }) c.as_slice.ensures.value c.requires.below in
    let same : column ≡ place = same_some _ _ (sym here ∙ at) in
    judged_at c.args.disks.now c.look_at.new.disks c.args.missing.now c.args.is_known _ _ _ _ _ _ fault
    (c.place_of-place.ensures.disk ∙ ap (λ (p : Column). disk_of c.args.extent.vdev p) same)
    (c.place_of-place.ensures.offset ∙ ap (λ (p : Column). offset_of p) same)
    (same_some _ _ (sym c.bytes.ensures ∙ at')) is)
    c.look_at.ensures.judged
