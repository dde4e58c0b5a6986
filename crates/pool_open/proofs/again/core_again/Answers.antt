use Rattle.std.proofs.Common.{List, Option, sym, subst, ◌∙◌}
use Rattle.disk_set.specs.declared.stale.GroupSpan.{GroupSpan}
use Rattle.model_disk.specs.Joint.{Disks}
use Rattle.pool_core.specs.StateOf.{state_of}
use Rattle.pool_open.specs.Roots.{AreReadBeside, IsReadOfRoot}
use Rattle.pool_open.specs.Again.{IsNoCoreAgain}
use Rattle.pool_open.proofs.Anew.{again_represents, leaves_out, root_misplaced}
use Rattle.pool_open.proofs.again.core_again.Goals as goal

pub returns-in-Ok-core_over-clause-again : goal.returns-in-Ok-core_over-clause-again
returns-in-Ok-core_over-clause-again g c =
    let old = c.args.disks in
    let shapes = c.args.shapes.now in
    let out = c.args.out.now in
    let u = c.args.claimed.now in
    let read = c.in-Ok-read_stale.read in
    let core = state_of c.in-Ok-core_over.core in
    let stale : List (Option GroupSpan) = c.in-Ok.stale.items in
    let is : IsReadOfRoot old read.disks shapes out c.in-Ok.again.items u.group u.root read.contents =
    subst (λ (d : Disks). IsReadOfRoot d read.disks shapes out c.in-Ok.again.items u.group u.root read.contents) c.in_ok-disks.ensures.same c.in-Ok-read_stale.ensures.contents in
    let beside : AreReadBeside out old read.disks =
    subst (λ (d : Disks). AreReadBeside out d read.disks) c.in_ok-disks.ensures.same c.in-Ok-read_stale.ensures.only in
    record {
      reads = subst (λ (d : Disks). AreReadBeside out old d) (sym c.in-Ok-core_over.ensures.disks) beside;
      stamped = c.in-Ok-core_over.ensures.stamped;
      root = c.in-Ok-core_over.ensures.root;
      outs = c.in-Ok-core_over.ensures.out;
      vdevs = c.in-Ok-core_over.ensures.shapes;
      configured = c.in-Ok-core_over.ensures.config;
      spans_are = c.in-Ok-core_over.ensures.spans;
      stale = leaves_out core stale c.args.known.spans c.args.known.config.value c.in-Ok-core_over.ensures.stale c.in-Ok.ensures.missed
          c.in-Ok-core_over.ensures.spans c.in-Ok-core_over.ensures.config;
      represents = again_represents c.writes_elsewhere_keep.ensures old read.disks shapes out c.in-Ok.again.items stale u read.contents core beside.only
          c.in-Ok.ensures.again is c.in-Ok-core_over.ensures.stale c.in-Ok-core_over.ensures.disks c.in-Ok-core_over.ensures.represents;
    }

pub returns-in-Err-core_over-clause-refused : goal.returns-in-Err-core_over-clause-refused
returns-in-Err-core_over-clause-refused g c =
    let old = c.args.disks in
    let shapes = c.args.shapes.now in
    let out = c.args.out.now in
    let u = c.args.claimed.now in
    let read = c.in-Ok-read_stale.read in
    let config = c.args.known.config.value in
    let spans = c.args.known.spans in
    let failed = c.in-Err-core_over.failed in
    let is : IsReadOfRoot old read.disks shapes out c.in-Ok.again.items u.group u.root read.contents =
    subst (λ (d : Disks). IsReadOfRoot d read.disks shapes out c.in-Ok.again.items u.group u.root read.contents) c.in_ok-disks.ensures.same c.in-Ok-read_stale.ensures.contents in
    let beside : AreReadBeside out old read.disks =
    subst (λ (d : Disks). AreReadBeside out d read.disks) c.in_ok-disks.ensures.same c.in-Ok-read_stale.ensures.only in
    subst (λ (d : Disks). IsNoCoreAgain old shapes out u config spans d failed.0) (sym c.in-Err-core_over.ensures.back)
    (root_misplaced old read.disks shapes out u config spans c.in-Ok.again.items c.in-Ok.stale.items read.contents failed.0 beside
    (c.in-Ok.ensures.again ∙ c.in-Ok.ensures.missed) c.in-Ok.ensures.missed is c.in-Err-core_over.ensures.refused)
