use Rattle.pool_create.specs.CoreStateOf.{state_of}
use Rattle.tests_lives.proofs.Living.{array_of, exports_and_opens}
use Rattle.tests_lives.proofs.lived.exported.Goals as goal

pub returns : goal.returns
returns g c =
    let put = c.in-Ok.ensures.exported in
    let disks = c.in_ok-disks.disks.items in
    let array = array_of g.D.Disk c.in-Ok.members.items disks put.new c.in_ok-disks.ensures put.array.0 put.array.1 in
    exports_and_opens g.D.Disk c.crash_histories_go_on.ensures (state_of c.args.pool.core) put.u put.later put.new disks _ _ put.done array c.in-Ok-open.ensures.opened.0
