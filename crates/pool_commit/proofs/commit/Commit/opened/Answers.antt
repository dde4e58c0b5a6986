use Rattle.std.proofs.Common.{◌∙◌, Bool, List, ap, inl, inr, refl, subst, sym, true≢false}
use Rattle.block_pointer.specs.declared.block.Block.{Block}
use Rattle.block_store.specs.Opened.{CannotTakeIn}
use Rattle.block_store.specs.Releases.{copies_of_all}
use Rattle.block_store.specs.Store.{Spans, Store}
use Rattle.model_disk.specs.Joint.{Disks}
use Rattle.dataset_snapshots.proofs.MapsOpened.{empty_is_free}
use Rattle.pool_commit.specs.Causes.{of_store}
use Rattle.pool_commit.proofs.Labels.{labels_still}
use Rattle.pool_commit.proofs.Reopened.{AreTaken, backs_opened, no_spans}
use Rattle.pool_commit.proofs.commit.Commit.opened.Goals as goal

pub of_group-requires-clause-labels : goal.of_group-requires-clause-labels
of_group-requires-clause-labels g c =
    let loads = c.if-not-load_maps.ensures.loads in
    let taken = c.in-Ok.ensures in
    labels_still c.args.store c.take_in.new.self (ap (λ (d : Disks). d.starts) (taken.disks ∙ ap (λ (s : Store). s.disks) loads.rest)) (taken.shapes ∙ loads.shapes)
    c.requires.labels

pub returns-in-Ok-group_of-clause-backs : goal.returns-in-Ok-group_of-clause-backs
returns-in-Ok-group_of-clause-backs g c stored pool =
    let loads = c.if-not-load_maps.ensures in
    let taken = c.in-Ok.ensures in
    let of_slice : AreTaken c.args.store c.load_maps.new.store c.take_in.new.self c.args.contents.maps.items c.deref.result.now = record {
      loads = loads.loads;
      released = loads.released;
      loaded = loads.value;
      out = taken.out;
      stale = ap (λ (s : Spans). s.stale) taken.spans;
      shapes = taken.shapes;
      fills = taken.filled;
      fills_planned = taken.planned;
      keeps = taken.keeps;
      plans = taken.plans;
    } in
    let of_blocks : AreTaken c.args.store c.load_maps.new.store c.take_in.new.self c.args.contents.maps.items c.args.contents.blocks.items =
    subst (λ (blocks : List Block). AreTaken c.args.store c.load_maps.new.store c.take_in.new.self c.args.contents.maps.items blocks) c.deref.ensures.value of_slice in
    backs_opened c.found_in_use_are_stored.ensures c.args.store c.load_maps.new.store c.take_in.new.self c.args.stamp c.args.group c.args.root c.args.contents
    c.in-Ok-group_of.last _ of_blocks c.args.known.config.value c.in-Ok-group_of.ensures.is c.in-Ok-group_of.ensures.table c.of_group.ensures c.requires.plans c.requires.empty stored pool

pub returns-then-not-load_maps-clause-refused : goal.returns-then-not-load_maps-clause-refused
returns-then-not-load_maps-clause-refused g c =
    inr (refl, inl (λ sets. true≢false (sym (c.if-not-load_maps.ensures.always sets (empty_is_free c.args.store.spaces c.requires.empty)))))

pub returns-in-Err-clause-refused : goal.returns-in-Err-clause-refused
returns-in-Err-clause-refused g c =
    elim c.in-Err.ensures.refused [
      | inl memory ↦ inl (c.from.ensures ∙ ap of_store memory)
      | inr (bad, which) ↦ inr (
        c.from.ensures ∙ ap of_store bad,
        inr (record {
          mid = c.load_maps.new.store.spaces;
          loaded = c.if-not-load_maps.ensures.value;
          after = c.take_in.new.self.spaces;
          cannot = subst (λ (blocks : List Block). CannotTakeIn c.load_maps.new.store.spaces (copies_of_all blocks) c.take_in.new.self.spaces) c.deref.ensures.value which;
        }),
      )
    ]

pub returns-in-Ok-group_of-clause-untouched : goal.returns-in-Ok-group_of-clause-untouched
returns-in-Ok-group_of-clause-untouched g c table known =
    no_spans c.take_in.new.self c.args.stamp c.args.group c.in-Ok-group_of.last _ c.of_group.ensures
    (record { table = c.in-Ok-group_of.ensures.table ∙ table; known = c.in-Ok-group_of.ensures.spans ∙ known })
