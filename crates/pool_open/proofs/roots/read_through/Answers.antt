use Rattle.std.proofs.Common.{refl, subst, sym, ◌∙◌}
use Rattle.model_disk.specs.Joint.{Disks}
use Rattle.pool_core.proofs.MapsReadSets.{sets_stay}
use Rattle.pool_open.specs.Roots.{IsRootNotRead}
use Rattle.pool_open.proofs.Reading.{contents_over, read_beside, refused_through, tell_through}
use Rattle.pool_open.proofs.roots.read_through.Goals as goal

pub returns-in-Err-clause-refused : goal.returns-in-Err-clause-refused
returns-in-Err-clause-refused g c old shapes out stale over =
    subst (λ (new : Disks). IsRootNotRead old new shapes out stale c.args.group c.args.root.now c.args.left c.in-Err.refusal) (sym c.into_array-in-Err.ensures)
    (refused_through c.args.store c.contents_under.new.store old shapes out stale c.args.group c.args.root.now c.args.left c.in-Err.refusal over c.contents_under.ensures.reads
    c.contents_under.new.left c.in-Err.ensures.refused c.in-Err.ensures.known)

pub returns-in-Ok-clause-only : goal.returns-in-Ok-clause-only
returns-in-Ok-clause-only g c =
    read_beside c.args.store c.contents_under.new.store c.args.store.disks c.into_array.result c.args.store.out refl refl c.into_array.ensures c.contents_under.ensures.reads

pub returns-in-Ok-clause-contents : goal.returns-in-Ok-clause-contents
returns-in-Ok-clause-contents g c old shapes out stale over = record {
  are = λ stored pool hold spells tell.
      contents_over shapes c.args.store.spaces stored c.args.group c.args.root.now pool c.in-Ok.contents over.shapes_are
      (c.in-Ok.ensures.value stored pool (hold c.args.store over) spells
      (tell_through c.args.store c.contents_under.new.store old c.into_array.result shapes out stale over c.into_array.ensures tell));
  sets = λ spaces same. sets_stay c.args.store.spaces spaces c.in-Ok.contents.maps.items (same ∙ sym over.shapes_are) c.in-Ok.ensures.sets;
}
