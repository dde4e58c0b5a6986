use Rattle.std.proofs.Common.{◌≡◌, ◌++◌, rules, false, true, refl, ap, ◌∙◌}
use Rattle.block_store.specs.Store.{Store, missed, outs}
use Rattle.std.proofs.lemmas.List.Elements.{Contains-append_left, Contains-append_right}
use Rattle.std.proofs.lemmas.Result.{IfErr-weaker}
use Rattle.block_store.specs.Reading.{IsReadable}
use Rattle.block_store.proofs.Causes.{read_is_caused}
use Rattle.block_store.proofs.Kept.{keeps, keeps_plans}
use Rattle.block_store.proofs.Planning.{stores_same}
use Rattle.block_store.proofs.ReadingPointers.{in_places}
use Rattle.block_store.proofs.ReadingWhole.{Laws, IsBlockRead, block_read, reads, untouched, is_kept, first_read, bytes_right, last_fault, is_known, stored_is_readable}
use Rattle.block_store.proofs.store.BlockStore.read.Goals as goal

pub returns-then-not-is_readable-clause-known : goal.returns-then-not-is_readable-clause-known
returns-then-not-is_readable-clause-known g c = λ stored bytes holds known asks honest.
    let no : false ≡ true = c.if-not-is_readable.ensures.1 (stored_is_readable c.args.self.now stored c.args.block.now bytes c.args.asked holds known asks) in
    absurd (cc)

pub read_places-requires-clause-readable : goal.read_places-requires-clause-readable
read_places-requires-clause-readable g c =
    in_places c.args.self.now.spaces c.args.asked c.args.block.now c.as_slice.result.now (c.as_slice.ensures.value ∙ c.places_of-places.ensures)
    (c.if-not-is_readable.ensures.0 refl)

pub returns : goal.returns
returns g c =
    let laws : Laws = record {
      reads_keep = c.reads_keep_contents.ensures;
      kept = c.stands_while_kept.ensures;
      more_absent = c.stands_with_more_absent.ensures;
      parts_honest = c.parts_are_honest.ensures.all;
      honest_truly = c.honest_disks_give_truly.ensures;
      parts_truly = c.parts_give_truly.ensures;
      later_choices = c.later_choices_stay.ensures;
    } in
    let is : IsBlockRead c.args.self.now c.read_places.new.self c.args.missing.now c.args.block.now c.read_places.result =
    block_read c.args.self.now c.read_places.new.self c.args.missing.now c.args.block.now c.read_places.result c.as_slice-2.result.now c.as_slice.result.now
    (c.as_slice-2.ensures.value ∙ c.in_ok-absent.ensures) (c.as_slice.ensures.value ∙ c.places_of-places.ensures) c.read_places.ensures.rest
    c.read_places.ensures.read in
    let kept = is_kept laws c.args.self.now c.read_places.new.self c.args.missing.now c.args.block.now c.read_places.result is in
    let away = untouched c.args.self.now c.read_places.new.self c.args.missing.now c.args.block.now c.read_places.result is in
    record {
      rest = c.read_places.ensures.rest;
      reads = reads c.args.self.now c.read_places.new.self c.args.missing.now c.args.block.now c.read_places.result is;
      untouched = λ disk held. away disk (Contains-append_left (outs c.args.self.now ++ c.args.missing.now) (missed c.args.self.now c.args.block.now.birth) disk held);
      stale = λ disk held. away disk (Contains-append_right (outs c.args.self.now ++ c.args.missing.now) (missed c.args.self.now c.args.block.now.birth) disk held);
      keeps = keeps laws.kept laws.more_absent c.args.self.now c.read_places.new.self kept;
      stores = stores_same c.args.self.now c.read_places.new.self kept.spaces (keeps laws.kept laws.more_absent c.args.self.now c.read_places.new.self kept);
      plans = keeps_plans laws.kept laws.more_absent c.args.self.now c.read_places.new.self kept;
      readable = search rules;
      digest = is.read.read.digest;
      size = is.read.read.size;
      first = first_read c.args.self.now c.read_places.new.self c.args.missing.now c.args.block.now c.read_places.result is;
      bytes = bytes_right laws c.args.self.now c.read_places.new.self c.args.missing.now c.args.block.now c.read_places.result is;
      refused = last_fault c.args.self.now c.read_places.new.self c.args.missing.now c.args.block.now c.args.asked c.read_places.result is;
      caused = IfErr-weaker c.read_places.result _ _
          (λ refusal why. read_is_caused c.args.self.now c.read_places.new.self c.args.missing.now c.args.block.now (¬ IsReadable c.args.self.now.spaces c.args.asked c.args.block.now) refusal why)
          (last_fault c.args.self.now c.read_places.new.self c.args.missing.now c.args.block.now c.args.asked c.read_places.result is);
      known = is_known laws c.args.self.now c.read_places.new.self c.args.missing.now c.args.block.now c.args.asked c.read_places.result is;
    }
