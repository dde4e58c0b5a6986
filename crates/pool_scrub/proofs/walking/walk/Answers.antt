use Rattle.std.proofs.Common.{◌≡◌, ◌≤◌, ◌^◌, List, Option, length, ap, ◌∙◌, arith}
use Rattle.disk_set.specs.declared.stale.GroupSpan.{GroupSpan}
use Rattle.model_disk.specs.Joint.{Disks}
use Rattle.block_store.specs.Store.{Store}
use Rattle.pool_open.specs.Held.{IsStoreOver}
use Rattle.pool_scrub.proofs.Room.{opened_room, over_marked, walked_over}
use Rattle.pool_scrub.proofs.walking.walk.Goals as goal

pub returns-in-Ok-reach-clause-walked : goal.returns-in-Ok-reach-clause-walked
returns-in-Ok-reach-clause-walked g c =
    let layout = c.args.layout.now in
    let may = (rw (c.as_slice-shapes.ensures.value, c.as_slice-2.ensures.value) at c.in-Ok-opened.ensures.may) in
    let marked : c.mark_stale.new.self ≡ record c.in-Ok-opened.store { spans = record c.in-Ok-opened.store.spans { stale = layout.stale.items } } =
    c.mark_stale.ensures.marked
    ∙ ap (λ (stale : List (Option GroupSpan)). record c.in-Ok-opened.store { spans = record c.in-Ok-opened.store.spans { stale = stale } })
    (c.in-Ok.ensures.items ∙ c.as_slice.ensures.value) in
    let over : IsStoreOver c.args.disks layout.shapes.items layout.out.items layout.stale.items c.mark_stale.new.self =
    over_marked c.args.disks layout c.in-Ok-opened.store c.mark_stale.new.self c.in-Ok-opened.ensures.disks (c.in-Ok-opened.ensures.shapes ∙ c.as_slice-shapes.ensures.value)
    (c.in-Ok-opened.ensures.out ∙ c.as_slice-2.ensures.value) c.in-Ok-opened.ensures.since marked in
    walked_over c.args.disks c.into_array.result layout c.args.root.now c.args.group _ c.mark_stale.new.self c.reach.new.store may over
    c.in-Ok-reach.ensures.reads c.into_array.ensures c.in-Ok-reach.ensures.once
    c.in-Ok-reach.ensures.reach

pub returns-in-Ok-reach-clause-room : goal.returns-in-Ok-reach-clause-room
returns-in-Ok-reach-clause-room g c =
    let layout = c.args.layout.now in
    let may = (rw (c.as_slice-shapes.ensures.value, c.as_slice-2.ensures.value) at c.in-Ok-opened.ensures.may) in
    let count : length c.args.disks.starts ≤ 2 ^ 64 = omega (arith, c.len-count.ensures, c.len-count.type_inv) in
    let starts : c.into_array.result.starts ≡ c.in-Ok-opened.store.disks.starts = ap (λ (d : Disks). d.starts) c.into_array.ensures
    ∙ (c.in-Ok-reach.ensures.reads.reads.starts ∙ ap (λ (s : Store). s.disks.starts) c.mark_stale.ensures.marked) in
    opened_room c.args.disks c.in-Ok-opened.store layout.shapes.items layout.out.items c.into_array.result.starts c.in-Ok-opened.ensures.disks
    (c.in-Ok-opened.ensures.shapes ∙ c.as_slice-shapes.ensures.value) (c.in-Ok-opened.ensures.out ∙ c.as_slice-2.ensures.value) starts may count
