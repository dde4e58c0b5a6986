use Rattle.std.proofs.Common.{◌≡◌, ◌<◌, ◌≤◌, ◌+◌, ◌*◌, ◌^◌, sym, ap, subst, arith}
use Rattle.block_pointer.specs.declared.dva.Dva.{Dva}
use Rattle.raidz_map.specs.Layout.{asize}
use Rattle.metaslab.specs.State.{Free, InUse}
use Rattle.metaslab.specs.Spaces.{GroupSpaces, ChangesIn}
use Rattle.block_store.specs.declared.shape.VdevShape.{VdevShape}
use Rattle.block_store.specs.Spaces.{VdevSpace, AreMetaslabsOf}
use Rattle.block_store.specs.Places.{run_at}
use Rattle.block_store.specs.Shapes.{metaslab_sectors, metaslabs, metaslab_of, IsPlace}
use Rattle.block_store.proofs.Sizes.{is_place_at, slab_bound}
use Rattle.block_store.proofs.Slots.{within, below_end, still_metaslabs, changes_at}
use Rattle.block_store.proofs.space.VdevMetaslabs.take.Goals as goal

pub overflow_add-result : goal.overflow_add-result
overflow_add-result c =
    let shape : VdevShape = c.self.inside.shape in
    let room : c.in-Ok.start + c.asize-allocated.result ≤ metaslab_sectors shape =
    within shape c.self.inside.metaslabs.planned c.allocate.new.self.planned c.args.metaslab c.in-Ok.start c.asize-allocated.result c.in-Ok.ensures.taken c.self.invariant.planned in
    let there : c.args.metaslab < metaslabs shape = subst (λ (s : VdevSpace). c.args.metaslab < metaslabs s.shape) (sym c.self.view_is) c.requires.is_there in
    let below : c.args.metaslab * metaslab_sectors shape + c.in-Ok.start < 2 ^ 64 = below_end shape c.args.metaslab c.in-Ok.start there (omega (arith, room)) in
    let there' : c.args.metaslab * c.metaslab_sectors-size.result + c.in-Ok.start < 2 ^ 64 =
    subst (λ n. c.args.metaslab * n + c.in-Ok.start < 2 ^ 64) (sym c.metaslab_sectors-size.ensures.value) below in
    omega (arith, there')

pub overflow_cast-result-2 : goal.overflow_cast-result-2
overflow_cast-result-2 c =
    let shape : VdevShape = c.self.inside.shape in
    let room : c.in-Ok.start + c.asize-allocated.result ≤ metaslab_sectors shape =
    within shape c.self.inside.metaslabs.planned c.allocate.new.self.planned c.args.metaslab c.in-Ok.start c.asize-allocated.result c.in-Ok.ensures.taken c.self.invariant.planned in
    let few : metaslab_sectors shape ≤ 2 ^ 20 = slab_bound shape.metaslab_shift shape.most_shift in
    let below : c.asize-allocated.result < 2 ^ 32 = omega (arith, room, few) in
    omega (arith, below)

pub invariant_of-self-2 : goal.invariant_of-self-2
invariant_of-self-2 c =
    let kept = ap (λ (g : GroupSpaces). g.kept) c.allocate.ensures.rest in
    record {
      kept = subst (λ them. AreMetaslabsOf c.self.inside.shape them) (sym kept) c.self.invariant.kept;
      planned = still_metaslabs c.self.inside.shape c.self.inside.metaslabs.planned c.allocate.new.self.planned c.args.metaslab _ c.in-Ok.ensures.taken c.self.invariant.planned;
    }

pub returns-clause-place : goal.returns-clause-place
returns-clause-place c =
    let shape : VdevShape = c.self.inside.shape in
    let room : c.in-Ok.start + c.asize-allocated.result ≤ metaslab_sectors shape =
    within shape c.self.inside.metaslabs.planned c.allocate.new.self.planned c.args.metaslab c.in-Ok.start c.asize-allocated.result c.in-Ok.ensures.taken c.self.invariant.planned in
    let place : Dva = record { vdev = c.args.vdev; offset = c.args.metaslab * c.metaslab_sectors-size.result + c.in-Ok.start; allocated = c.asize-allocated.result } in
    let there : c.args.metaslab < metaslabs shape = subst (λ (s : VdevSpace). c.args.metaslab < metaslabs s.shape) (sym c.self.view_is) c.requires.is_there in
    let offset : place.offset ≡ c.args.metaslab * metaslab_sectors shape + c.in-Ok.start =
    ap (λ n. c.args.metaslab * n + c.in-Ok.start) c.metaslab_sectors-size.ensures.value in
    let size : c.in-Ok.start + asize shape.vdev.geometry c.args.sectors ≤ metaslab_sectors shape =
    subst (λ n. c.in-Ok.start + n ≤ metaslab_sectors shape) c.asize-allocated.ensures room in
    let at = is_place_at shape c.args.sectors c.args.metaslab c.in-Ok.start place c.requires.some there size offset c.asize-allocated.ensures in
    subst (λ (s : VdevSpace). IsPlace s.shape c.args.sectors place) c.self.view_is at.0

pub returns-clause-metaslab : goal.returns-clause-metaslab
returns-clause-metaslab c =
    let shape : VdevShape = c.self.inside.shape in
    let room : c.in-Ok.start + c.asize-allocated.result ≤ metaslab_sectors shape =
    within shape c.self.inside.metaslabs.planned c.allocate.new.self.planned c.args.metaslab c.in-Ok.start c.asize-allocated.result c.in-Ok.ensures.taken c.self.invariant.planned in
    let place : Dva = record { vdev = c.args.vdev; offset = c.args.metaslab * c.metaslab_sectors-size.result + c.in-Ok.start; allocated = c.asize-allocated.result } in
    let there : c.args.metaslab < metaslabs shape = subst (λ (s : VdevSpace). c.args.metaslab < metaslabs s.shape) (sym c.self.view_is) c.requires.is_there in
    let offset : place.offset ≡ c.args.metaslab * metaslab_sectors shape + c.in-Ok.start =
    ap (λ n. c.args.metaslab * n + c.in-Ok.start) c.metaslab_sectors-size.ensures.value in
    let size : c.in-Ok.start + asize shape.vdev.geometry c.args.sectors ≤ metaslab_sectors shape =
    subst (λ n. c.in-Ok.start + n ≤ metaslab_sectors shape) c.asize-allocated.ensures room in
    let at = is_place_at shape c.args.sectors c.args.metaslab c.in-Ok.start place c.requires.some there size offset c.asize-allocated.ensures in
    subst (λ (s : VdevSpace). metaslab_of s.shape place ≡ c.args.metaslab) c.self.view_is at.1

pub returns-clause-taken : goal.returns-clause-taken
returns-clause-taken c =
    let shape : VdevShape = c.self.inside.shape in
    let room : c.in-Ok.start + c.asize-allocated.result ≤ metaslab_sectors shape =
    within shape c.self.inside.metaslabs.planned c.allocate.new.self.planned c.args.metaslab c.in-Ok.start c.asize-allocated.result c.in-Ok.ensures.taken c.self.invariant.planned in
    let place : Dva = record { vdev = c.args.vdev; offset = c.args.metaslab * c.metaslab_sectors-size.result + c.in-Ok.start; allocated = c.asize-allocated.result } in
    let there : c.args.metaslab < metaslabs shape = subst (λ (s : VdevSpace). c.args.metaslab < metaslabs s.shape) (sym c.self.view_is) c.requires.is_there in
    let offset : place.offset ≡ c.args.metaslab * metaslab_sectors shape + c.in-Ok.start =
    ap (λ n. c.args.metaslab * n + c.in-Ok.start) c.metaslab_sectors-size.ensures.value in
    let size : c.in-Ok.start + asize shape.vdev.geometry c.args.sectors ≤ metaslab_sectors shape =
    subst (λ n. c.in-Ok.start + n ≤ metaslab_sectors shape) c.asize-allocated.ensures room in
    let at = is_place_at shape c.args.sectors c.args.metaslab c.in-Ok.start place c.requires.some there size offset c.asize-allocated.ensures in
    subst (λ (s : VdevSpace). ChangesIn s.planned c.allocate.new.self.planned (metaslab_of s.shape place) (run_at s.shape place) Free InUse) c.self.view_is
    (changes_at shape c.self.inside.metaslabs.planned c.allocate.new.self.planned c.args.metaslab c.in-Ok.start place at.1 at.2 c.in-Ok.ensures.taken)
