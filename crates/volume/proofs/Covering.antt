-- Blocks that a write covers: the bytes before make no difference.
use Rattle.std.proofs.Common.{◌≡◌, ◌↔◌, ◌⊎◌, ⊎_elim, inl, inr, ℕ, zero, suc, ◌+◌, ◌-◌, ◌*◌, ◌/◌, ◌<◌, ◌≤◌, Bool, true, false, true≢false, nat_le, List, [], ◌∷◌, ◌++◌, take, drop, length, get_or, replicate, refl, sym, ap, ◌∙◌, subst, arith}
use Rattle.std.specs.Prelude.{Any, cond}
use Rattle.std.proofs.lemmas.Bool.{cases_lt}
use Rattle.std.proofs.lemmas.Bool.Decides.{nat_tests}
use Rattle.std.proofs.lemmas.List.{get_or-take, get_or-drop, get_or_append_left, get_or-append_right, length-take-le, length-replicate, same_lists, take_more}
use Rattle.std.proofs.lemmas.List.Edits.{get_or-between}
use Rattle.pool_model.specs.declared.item.Write.{Write}
use Rattle.pool_model.specs.declared.volume.PlainVolume.{PlainVolume}
use Rattle.pool_model.specs.Names.{same, stored}
use Rattle.pool_model.specs.Pools.{is_snapshot}
use Rattle.pool_model.proofs.Places.{is_same, name_after}
use Rattle.volume_rules.specs.declared.shape.VolumeShape.{VolumeShape}
use Rattle.volume_rules.specs.Covering.{AreCovering, CoversRange}
use Rattle.volume_rules.specs.Overlay.{after_writes}
use Rattle.volume_rules.proofs.Covering.{IsOf, Sets, after_all}
use Rattle.volume_rules.proofs.Overlays.{length_after_writes}
use Rattle.volume.specs.declared.volume.VolumeSet.{VolumeSet}
use Rattle.volume.specs.Volume.{part}
use Rattle.volume.specs.Writing.{Covers, IsCovered}
use Rattle.volume.proofs.BlockData.{length-part}
use Rattle.volume.proofs.Changed.{Any-push_cases}
use Rattle.volume.proofs.Ranges.{block_fits, slice_zeros}

-- In a block that one of the writes covers, two volumes of one name and size, which are no snapshots, have the same bytes after the
-- writes, whatever they had before.
pub covered_alike : (name : List ℕ) (size block_size id : ℕ) (volume other : PlainVolume) (writes : List Write) → IsOf name size volume → IsOf name size other
    → Any (λ write. (write.volume ≡ name) × Covers size block_size write id) writes
    → part (after_writes volume writes).bytes block_size id ≡ part (after_writes other writes).bytes block_size id
covered_alike name size block_size id volume other writes is also any =
    same_lists (part (after_writes volume writes).bytes block_size id) (part (after_writes other writes).bytes block_size id) (long volume is.sized ∙ sym (long other also.sized))
    (λ k d lt. let inside : k < block_size = omega (arith, long volume is.sized) in
    get_or-between (after_writes volume writes).bytes (id * block_size) (id * block_size + block_size) k d (omega arith)
    ∙ after_all name size volume other writes (id * block_size + k) d is also (inr (any.0, any.1, any.2, any.3, sets k inside))
    ∙ sym (get_or-between (after_writes other writes).bytes (id * block_size) (id * block_size + block_size) k d (omega arith)))
  where
    within : id * block_size + block_size ≤ size
    within = let covers = any.4.1 in let to = covers.ends in let fits = covers.within in omega arith

    long : (v : PlainVolume) → length v.bytes ≡ size → length (part (after_writes v writes).bytes block_size id) ≡ block_size
    long v sized = length-part (after_writes v writes).bytes block_size id (let e = length_after_writes v writes in let fits = within in omega arith)

    sets : (k : ℕ) → k < block_size → Sets name size any.1 (id * block_size + k)
    sets k inside = let covers = any.4.1 in record {
      named = any.4.0;
      within = covers.within;
      begins = let from = covers.begins in omega arith;
      ends = let to = covers.ends in omega arith;
    }

-- So what is laid over zeros is what is laid over the volume's own bytes.
pub laid_over_zeros : (volume : VolumeSet) (plain : PlainVolume) (name : List ℕ) (writes : List Write) (id : ℕ) (zeros new : List ℕ) → id < volume.size / volume.block_size → plain.name ≡ name
    → is_snapshot plain.kind ≡ false → length plain.bytes ≡ volume.size → IsCovered volume name writes id → zeros ≡ replicate volume.block_size 0
    → ((v : PlainVolume) → v.name ≡ name → is_snapshot v.kind ≡ false → length v.bytes ≡ volume.size
    → zeros ≡ part v.bytes volume.block_size id → new ≡ part (after_writes v writes).bytes volume.block_size id)
    → new ≡ part (after_writes plain writes).bytes volume.block_size id
laid_over_zeros volume plain name writes id zeros new below named writable size covered are lays =
    lays blank named writable (length-replicate volume.size 0) (are ∙ slice_zeros volume.size (id * volume.block_size) volume.block_size (block_fits id volume.size volume.block_size below))
    ∙ covered_alike name volume.size volume.block_size id blank plain writes
    (record { named = named; sized = length-replicate volume.size 0; writable = writable }) (record { named = named; sized = size; writable = writable }) covered
  where
    blank : PlainVolume
    blank = record plain { bytes = replicate volume.size 0 }

-- a write that has every byte of the block's range covers the block
pub covering_is : (volume : VolumeSet) (name : List ℕ) (writes : List Write) (id : ℕ) → 0 < volume.block_size
    → AreCovering name volume.size (id * volume.block_size) volume.block_size writes ↔ IsCovered volume name writes id
covering_is volume name writes id wide = (
  λ any.
      let write : Write = any.1 in
      let covers : CoversRange volume.size (id * volume.block_size) volume.block_size write = any.4.1 in (
        any.0,
        write,
        any.2,
        any.3,
        (
          any.4.0,
          record {
            within = covers.within;
            some = let from = covers.begins in let to = covers.ends in omega arith;
            begins = covers.begins;
            ends = covers.ends;
          },
        ),
      ),
  λ any.
      let write : Write = any.1 in
      let covers : Covers volume.size volume.block_size write id = any.4.1 in
      (any.0, write, any.2, any.3, (any.4.0, record { within = covers.within; begins = covers.begins; ends = covers.ends })),
)
