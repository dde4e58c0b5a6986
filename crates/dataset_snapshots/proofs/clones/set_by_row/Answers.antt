use Rattle.std.proofs.Common.{map}
use Rattle.volume_rules.specs.Index.{cloned_of}
use Rattle.dataset_snapshots.proofs.ToldOrigins.{tells_none, tells_one}
use Rattle.dataset_snapshots.proofs.clones.set_by_row.Goals as goal

pub returns-in_default : goal.returns-in_default
returns-in_default c = λ rows all pool is indexed known. (pool.volumes, tells_none rows all c.args.row.now (c.in_default.ensures.none rows all is indexed) pool.volumes, known)

pub returns : goal.returns
returns c = λ rows all pool is indexed known.
    let held = c.in-Some.ensures.some rows all is indexed in
    let volume = c.in_ok-volume.volume in
    let origin = c.in_ok-name_in-2.field-0 in (
      map (cloned_of volume origin) pool.volumes,
      tells_one rows all c.args.row.now c.in-Some.before c.in_ok-name_in.field-0 volume origin c.in_ok-name_in.ensures c.in_ok-volume.ensures held.0 held.1 c.in_ok-name_in-2.ensures pool.volumes,
      c.set_origin.ensures pool known,
    )
