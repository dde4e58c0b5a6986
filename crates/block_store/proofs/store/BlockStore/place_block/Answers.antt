use Rattle.std.proofs.Common.{rules, ◌≡◌, [], ◌++◌, sym, ap, ◌∙◌, subst}
use Rattle.block_pointer.specs.Copies.{dvas}
use Rattle.raidz_io.specs.Stands.{IsWithin}
use Rattle.disk_set.specs.Set.{PoolDisks}
use Rattle.block_store.specs.Places.{shapes_of, AreChosen, ArePlacesIn}
use Rattle.block_store.specs.Plans.{AreWritesAt}
use Rattle.block_store.specs.Store.{Store, IsStore}
use Rattle.block_store.proofs.Adding.{chosen_shapes, OnlyTook, added, chosen_keeps, took_keeps, took_shapes, places_in, places_for, writes_within}
use Rattle.block_store.proofs.Fitting.{bytes_fit, fits_copies, took_some}
use Rattle.block_store.proofs.store.BlockStore.place_block.Goals as goal

pub returns-in_err-places-clause-shapes : goal.returns-in_err-places-clause-shapes
returns-in_err-places-clause-shapes g c =
    let took = took_some c.args.self.now c.choose_places.new.self c.args.new.property.sectors c.count.result
    c.in_err-places.ensures.disks c.in_err-places.ensures.out c.in_err-places.ensures.spans c.in_err-places.ensures.due c.in_err-places.ensures.some in
    took_shapes c.args.self.now c.choose_places.new.self c.args.new.property.sectors c.count.result took.0 took.1

pub returns-in_err-places-clause-keeps : goal.returns-in_err-places-clause-keeps
returns-in_err-places-clause-keeps g c =
    let took = took_some c.args.self.now c.choose_places.new.self c.args.new.property.sectors c.count.result
    c.in_err-places.ensures.disks c.in_err-places.ensures.out c.in_err-places.ensures.spans c.in_err-places.ensures.due c.in_err-places.ensures.some in
    took_keeps c.args.self.now c.choose_places.new.self c.args.new.property.sectors c.count.result took.0 took.1

pub writes_at-requires-clause-places : goal.writes_at-requires-clause-places
writes_at-requires-clause-places g c =
    let took : OnlyTook c.args.self.now c.choose_places.new.self c.args.new.property.sectors c.count.result c.in_ok-places.places.items = record {
      disks = c.in_ok-places.ensures.disks;
      out = c.in_ok-places.ensures.out;
      spans = c.in_ok-places.ensures.spans;
      due = c.in_ok-places.ensures.due;
      chosen = c.in_ok-places.ensures.chosen;
    } in
    let chosen = subst (λ n. AreChosen c.args.self.now.spaces [] c.args.new.property.sectors n c.in_ok-places.places.items c.choose_places.new.self.spaces)
    (sym c.in_ok-places.ensures.count) took.chosen in
    subst (λ xs. ArePlacesIn c.choose_places.new.self.spaces c.args.new.property.sectors xs) (sym c.as_slice.ensures.value)
    (places_for c.args.self.now.spaces c.choose_places.new.self.spaces c.args.new.property.sectors c.in_ok-places.places.items chosen)

pub returns-in_err-writes-clause-keeps : goal.returns-in_err-writes-clause-keeps
returns-in_err-writes-clause-keeps g c =
    took_keeps c.args.self.now c.choose_places.new.self c.args.new.property.sectors c.count.result c.in_ok-places.places.items (record {
      disks = c.in_ok-places.ensures.disks;
      out = c.in_ok-places.ensures.out;
      spans = c.in_ok-places.ensures.spans;
      due = c.in_ok-places.ensures.due;
      chosen = c.in_ok-places.ensures.chosen;
    })

pub returns-in_err-add_due-clause-keeps : goal.returns-in_err-add_due-clause-keeps
returns-in_err-add_due-clause-keeps g c =
    let took : OnlyTook c.args.self.now c.choose_places.new.self c.args.new.property.sectors c.count.result c.in_ok-places.places.items = record {
      disks = c.in_ok-places.ensures.disks;
      out = c.in_ok-places.ensures.out;
      spans = c.in_ok-places.ensures.spans;
      due = c.in_ok-places.ensures.due;
      chosen = c.in_ok-places.ensures.chosen;
    } in
    let inside = subst (λ (s : Store). OnlyTook c.args.self.now s c.args.new.property.sectors c.count.result c.in_ok-places.places.items) (sym c.self.view_is) took in
    took_keeps c.args.self.now _ c.args.new.property.sectors c.count.result c.in_ok-places.places.items (record {
      disks = ap (λ (s : PoolDisks). s.disks) c.in_err-add_due.ensures.err ∙ inside.disks;
      out = ap (λ (s : PoolDisks). s.out) c.in_err-add_due.ensures.err ∙ inside.out;
      spans = ap (λ (s : PoolDisks). s.spans) c.in_err-add_due.ensures.err ∙ inside.spans;
      due = ap (λ (s : PoolDisks). s.due) c.in_err-add_due.ensures.err ∙ inside.due;
      chosen = inside.chosen;
    })

pub add_due-requires : goal.add_due-requires
add_due-requires g c write here =
    let took : OnlyTook c.args.self.now c.choose_places.new.self c.args.new.property.sectors c.count.result c.in_ok-places.places.items = record {
      disks = c.in_ok-places.ensures.disks;
      out = c.in_ok-places.ensures.out;
      spans = c.in_ok-places.ensures.spans;
      due = c.in_ok-places.ensures.due;
      chosen = c.in_ok-places.ensures.chosen;
    } in
    let store : IsStore c.choose_places.new.self = subst IsStore c.self.view_is c.self.invariant in
    let at : AreWritesAt c.choose_places.new.self c.args.new.property.sectors c.args.bytes.now c.in_ok-places.places.items c.in_ok-writes.writes.items =
    subst (λ places. AreWritesAt c.choose_places.new.self c.args.new.property.sectors c.args.bytes.now places c.in_ok-writes.writes.items) c.as_slice.ensures.value c.in_ok-writes.ensures in
    subst (λ (s : Store). IsWithin s.disks.starts write) (sym c.self.view_is)
    (writes_within c.choose_places.new.self c.args.new.property.sectors c.args.bytes.now c.in_ok-places.places.items c.in_ok-writes.writes.items store at
    (places_in c.args.self.now c.choose_places.new.self c.args.new.property.sectors c.count.result c.in_ok-places.places.items took) write here)

pub returns-clause-keeps : goal.returns-clause-keeps
returns-clause-keeps g c =
    let took : OnlyTook c.args.self.now c.choose_places.new.self c.args.new.property.sectors c.count.result c.in_ok-places.places.items = record {
      disks = c.in_ok-places.ensures.disks;
      out = c.in_ok-places.ensures.out;
      spans = c.in_ok-places.ensures.spans;
      due = c.in_ok-places.ensures.due;
      chosen = c.in_ok-places.ensures.chosen;
    } in
    let inside = subst (λ (s : Store). OnlyTook c.args.self.now s c.args.new.property.sectors c.count.result c.in_ok-places.places.items) (sym c.self.view_is) took in
    chosen_keeps c.args.self.now _ c.args.new.property.sectors c.count.result c.in_ok-places.places.items (ap (λ (s : PoolDisks). s.disks) c.in_ok-add_due.ensures.ok ∙ inside.disks)
    (ap (λ (s : PoolDisks). s.out) c.in_ok-add_due.ensures.ok ∙ inside.out) (ap (λ (s : PoolDisks). s.spans) c.in_ok-add_due.ensures.ok ∙ inside.spans) inside.chosen

pub returns-clause-fits : goal.returns-clause-fits
returns-clause-fits g c =
    let took : OnlyTook c.args.self.now c.choose_places.new.self c.args.new.property.sectors c.count.result c.in_ok-places.places.items = record {
      disks = c.in_ok-places.ensures.disks;
      out = c.in_ok-places.ensures.out;
      spans = c.in_ok-places.ensures.spans;
      due = c.in_ok-places.ensures.due;
      chosen = c.in_ok-places.ensures.chosen;
    } in
    let store : IsStore c.choose_places.new.self = subst IsStore c.self.view_is c.self.invariant in
    let copies : dvas c.copies_at.result ≡ c.in_ok-places.places.items = c.copies_at.ensures ∙ c.as_slice-2.ensures.value in
    record {
      copies = fits_copies c.choose_places.new.self.spaces c.choose_places.new.self.disks.starts c.args.new.property.sectors c.in_ok-places.places.items c.copies_at.result
          c.requires.fits.property.not_empty store.laid_out
          (places_in c.args.self.now c.choose_places.new.self c.args.new.property.sectors c.count.result c.in_ok-places.places.items took) copies;
      property = c.requires.fits.property;
      born = c.requires.fits.born;
      birth = search rules;
      filled = c.requires.fits.filled;
      fill = search rules;
      fill_of_data = c.requires.fits.fill_of_data;
    }

pub returns-clause-planned : goal.returns-clause-planned
returns-clause-planned g c stored planned plans =
    let took : OnlyTook c.args.self.now c.choose_places.new.self c.args.new.property.sectors c.count.result c.in_ok-places.places.items = record {
      disks = c.in_ok-places.ensures.disks;
      out = c.in_ok-places.ensures.out;
      spans = c.in_ok-places.ensures.spans;
      due = c.in_ok-places.ensures.due;
      chosen = c.in_ok-places.ensures.chosen;
    } in
    let inside = subst (λ (s : Store). OnlyTook c.args.self.now s c.args.new.property.sectors c.count.result c.in_ok-places.places.items) (sym c.self.view_is) took in
    let store : IsStore c.choose_places.new.self = subst IsStore c.self.view_is c.self.invariant in
    let at : AreWritesAt c.choose_places.new.self c.args.new.property.sectors c.args.bytes.now c.in_ok-places.places.items c.in_ok-writes.writes.items =
    subst (λ places. AreWritesAt c.choose_places.new.self c.args.new.property.sectors c.args.bytes.now places c.in_ok-writes.writes.items) c.as_slice.ensures.value c.in_ok-writes.ensures in
    let copies : dvas c.copies_at.result ≡ c.in_ok-places.places.items = c.copies_at.ensures ∙ c.as_slice-2.ensures.value in
    added c.args.self.now _ _ c.args.bytes.now c.in_ok-places.places.items c.in_ok-writes.writes.items stored planned (record {
      disks = ap (λ (s : PoolDisks). s.disks) c.in_ok-add_due.ensures.ok ∙ inside.disks;
      out = ap (λ (s : PoolDisks). s.out) c.in_ok-add_due.ensures.ok ∙ inside.out;
      spans = ap (λ (s : PoolDisks). s.spans) c.in_ok-add_due.ensures.ok ∙ inside.spans;
      stray = ap (λ (s : Store). s.stray) c.self.view_is ∙ c.in_ok-places.ensures.stray;
      born = c.requires.born;
      due = ap (λ (s : PoolDisks). s.due) c.in_ok-add_due.ensures.ok ∙ ap (λ xs. xs ++ c.in_ok-writes.writes.items) inside.due;
      chosen = subst (λ n. AreChosen c.args.self.now.spaces [] c.args.new.property.sectors n c.in_ok-places.places.items c.self.inside.spaces.items)
          (sym c.in_ok-places.ensures.count) inside.chosen;
      copies_at = copies;
      written = record {
        fits = returns-clause-fits g c;
        size = c.requires.size;
        are_bytes = bytes_fit c.args.bytes.now c.type_inv.bytes;
        digest = sym c.digest.ensures;
      };
      mid = c.choose_places.new.self;
      mid_spaces = ap (λ (s : Store). s.spaces) (sym c.self.view_is);
      mid_out = ap (λ (s : Store). s.out) (sym c.self.view_is) ∙ ap (λ (s : PoolDisks). s.out) (sym c.in_ok-add_due.ensures.ok);
      writes_at = at;
    }) plans

pub returns-in_err-writes-clause-shapes : goal.returns-in_err-writes-clause-shapes
returns-in_err-writes-clause-shapes g c =
    chosen_shapes _ c.args.new.property.sectors c.count.result c.in_ok-places.places.items _ c.in_ok-places.ensures.chosen

pub returns-in_err-add_due-clause-shapes : goal.returns-in_err-add_due-clause-shapes
returns-in_err-add_due-clause-shapes g c =
    ap (λ (s : Store). shapes_of s.spaces) c.self.view_is
    ∙ chosen_shapes _ c.args.new.property.sectors c.count.result c.in_ok-places.places.items _ c.in_ok-places.ensures.chosen

pub returns-clause-shapes : goal.returns-clause-shapes
returns-clause-shapes g c =
    ap (λ (s : Store). shapes_of s.spaces) c.self.view_is
    ∙ chosen_shapes _ c.args.new.property.sectors c.count.result c.in_ok-places.places.items _ c.in_ok-places.ensures.chosen
