use Rattle.std.proofs.Common.{◌≡◌, List, IsTrue, false, refl, sym, ap, subst}
use Rattle.block_store.specs.Spaces.{VdevSpace}
use Rattle.block_store.specs.Places.{ArePlacesIn}
use Rattle.block_store.specs.Reading.{IsCopyRead}
use Rattle.block_store.specs.Store.{Store}
use Rattle.block_store.proofs.ReadingSteps.{rest_on, ends_here, next_read}
use Rattle.block_store.proofs.store.BlockStore.read_places.Goals as goal
use Rattle.block_store.proofs.store.BlockStore.read_places.Goals.{then-is_fault, else-is_fault}

pub read_copy-read-requires-then-is_fault-clause-readable :
    goal.read_copy-read-requires-then-is_fault-clause-readable
read_copy-read-requires-then-is_fault-clause-readable g c =
    let spaces : c.loop-i.self.spaces ≡ c.args.self.now.spaces = ap (λ (s : Store). s.spaces) c.loop-i.invariant.rest in
    subst (λ (spaces : List VdevSpace). ArePlacesIn spaces c.args.block.now.property.sectors c.args.places.now) (sym spaces) c.requires.readable

pub loop-i-preserved : goal.loop-i-preserved
loop-i-preserved g c =
    let spaces : c.loop-i.self.spaces ≡ c.args.self.now.spaces = ap (λ (s : Store). s.spaces) c.loop-i.invariant.rest in
    elim c.if-is_fault.branch [
      | then-is_fault w ↦
          let before : Store = c.loop-i.self in
          let after : Store = w.read_copy-read-then-is_fault.new.self in
          let read : IsCopyRead c.args.self.now.spaces c.args.absent.now c.args.block.now c.loop-i.i before.disks after.disks w.read_copy-read-then-is_fault.result =
          subst (λ (spaces : List VdevSpace). IsCopyRead spaces c.args.absent.now c.args.block.now c.loop-i.i before.disks after.disks w.read_copy-read-then-is_fault.result)
          spaces w.read_copy-read-then-is_fault.ensures.read in
          rw (w.self-is, w.read-is) (record {
            rest = rest_on c.args.self.now before after c.loop-i.invariant.rest w.read_copy-read-then-is_fault.ensures.rest;
            read = next_read c.args.self.now.spaces c.args.absent.now c.args.block.now c.loop-i.i c.args.self.now.disks before.disks after.disks c.loop-i.read
                w.read_copy-read-then-is_fault.result (w.if-is_fault.ensures.0 refl) c.loop-i.invariant.read read;
          })
      | else-is_fault w ↦
          rw (w.self-is, w.read-is) (record {
            rest = c.loop-i.invariant.rest;
            read = ends_here c.args.self.now.spaces c.args.absent.now c.args.block.now c.loop-i.i c.args.self.now.disks c.loop-i.self.disks c.loop-i.read
                (λ fault. absurd (let no : IsTrue false = w.if-is_fault.ensures.1 fault in cc)) c.loop-i.invariant.read;
          })
    ]
