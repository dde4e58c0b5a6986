use Rattle.std.proofs.Common.{inl, refl, ap, subst}
use Rattle.model_disk.specs.Joint.{Disks}
use Rattle.raidz_io.specs.declared.refusal.Refusal.{Refusal as ReadRefusal}
use Rattle.block_store.specs.Places.{IsCopy}
use Rattle.block_store.specs.Reading.{IsCopyRead}
use Rattle.block_store.specs.Store.{Store}
use Rattle.block_store.proofs.ReadingCopy.{place_is_there, is_copy, Reads, ok_read, err_read, IsReadRefused, fault_refused, digest_refused}
use Rattle.block_store.proofs.store.BlockStore.read_copy.Goals as goal
use Rattle.block_store.proofs.store.BlockStore.read_copy.Goals.{in-Ok, in-Err-NoMemory, in-Err-DiskFault, in-Err-BadDigest}

pub extent_at-extent-requires-clause-place : goal.extent_at-extent-requires-clause-place
extent_at-extent-requires-clause-place g c =
    (c.requires.readable _ (place_is_there c.args.places.now c.args.i _ c.requires.below)).is_in

pub returns-clause-read : goal.returns-clause-read
returns-clause-read g c =
    let old : Disks = c.self.inside.set.disks in
    let new : Disks = c.read_checked.new.self.disks in
    let extent = c.extent_at-extent.result in
    let copy : IsCopy c.args.self.now.spaces c.args.block.now c.args.i extent =
    is_copy c.args.self.now.spaces c.args.places.now c.args.block.now c.args.i _ extent c.requires.places c.requires.below c.extent_at-extent.ensures.extent in
    let reads : Reads c.args.absent.now old new = record { reads = c.read_checked.ensures.reads; untouched = c.read_checked.ensures.untouched } in
    subst (λ (disks : Disks). IsCopyRead c.args.self.now.spaces c.args.absent.now c.args.block.now c.args.i disks new c.match-read_checked.result)
    (ap (λ (s : Store). s.disks) c.self.view_is)
    (elim c.match-read_checked.branch [
      | in-Ok w ↦ rw w.result-is
          (ok_read c.args.self.now.spaces c.args.absent.now c.args.block.now c.args.i old new extent w.in-Ok.bytes copy reads w.in-Ok.ensures.digest w.in-Ok.ensures.choice
          w.in-Ok.ensures.block)
      | in-Err-NoMemory w ↦ rw w.result-is (err_read c.args.self.now.spaces c.args.absent.now c.args.block.now c.args.i old new extent _ copy reads (inl refl))
      | in-Err-DiskFault w ↦ rw w.result-is
          (err_read c.args.self.now.spaces c.args.absent.now c.args.block.now c.args.i old new extent _ copy reads
          (fault_refused c.args.absent.now c.args.block.now old new extent
          (subst (λ (r : ReadRefusal). IsReadRefused c.args.absent.now c.args.block.now old new extent r) w.in-Err-DiskFault.field-0-is w.in-Err-DiskFault.ensures.refused)))
      | in-Err-BadDigest w ↦ rw w.result-is
          (err_read c.args.self.now.spaces c.args.absent.now c.args.block.now c.args.i old new extent _ copy reads
          (digest_refused c.args.absent.now c.args.block.now old new extent
          (subst (λ (r : ReadRefusal). IsReadRefused c.args.absent.now c.args.block.now old new extent r) w.in-Err-BadDigest.field-0-is w.in-Err-BadDigest.ensures.refused)))
    ])
