-- Which lines make no pool.
use Rattle.std.proofs.Common.{ℕ, ◌≡◌, ◌+◌, ◌<◌, List, [], ◌∷◌, length, map, Result, Ok, Err, ◌⊎◌, inl, inr, refl, sym, ap, subst, ◌∙◌, arith}
use Rattle.std.proofs.lemmas.List.{length-map}
use Rattle.std.specs.Prelude.{IfErr}
use Rattle.model_disk.specs.Memory.{HaveSize}
use Rattle.pool_model.specs.declared.refusal.Refusal.{Refusal}
use Rattle.pool_model.specs.declared.refusal.Refusal.TheVariants.{NoMemory, BadConfig}
use Rattle.block_store.specs.declared.create.VdevConfig.{VdevConfig}
use Rattle.block_store.specs.declared.shape.VdevShape.{VdevShape}
use Rattle.block_store.specs.Config.{IsAllowedSize, IsShapeOf, MakeNoStore, sectors_of, size_of}
use Rattle.schedule_lines.specs.declared.command.PoolLine.{PoolLine}
use Rattle.programs.specs.Vdevs.{IsAllowedPool, IsVdevOf, RefusesPool, metaslabs_over}

-- where there may be a pool, a store can be made
pub no_pool : (line : PoolLine) (vdev : VdevConfig) (starts : List (List ℕ)) → IsVdevOf line vdev → length starts ≡ line.disks
    → HaveSize line.disks line.bytes starts → MakeNoStore starts (vdev ∷ []) → ¬ IsAllowedPool line
no_pool line vdev starts is count sizes none allowed =
    let children : 0 + vdev.geometry.children ≡ line.disks = omega (arith, is.disks) in
    let has : 0 < line.disks = omega (arith, allowed.geometry.has_data) in
    let shape : VdevShape = record {
      vdev = record { geometry = vdev.geometry; first = 0 };
      child_sectors = sectors_of line.bytes;
      metaslab_shift = line.metaslab_shift;
      meta_slabs = vdev.meta_slabs;
      most_sectors = omega (arith, allowed.sizes.disk.most);
      least_shift = allowed.sizes.least;
      most_shift = allowed.sizes.most;
      most_meta = omega (arith, is.meta, allowed.others, allowed.few);
    } in
    let metaslabs : metaslabs_over vdev.geometry.children line.bytes line.metaslab_shift ≡ metaslabs_over line.disks line.bytes line.metaslab_shift =
    ap (λ disks. metaslabs_over disks line.bytes line.metaslab_shift) is.disks in
    let size : (disk : ℕ) → disk < 0 + vdev.geometry.children → line.bytes ≡ size_of starts disk =
    λ disk below. sym (sizes disk (omega (arith, below, is.disks))) in
    let is_shape : IsShapeOf starts 0 vdev shape = record {
      geometry = refl;
      first_is = refl;
      shift = sym is.shift;
      meta_slabs = refl;
      disks = omega (arith, is.disks, count);
      sizes = λ disk from below. subst IsAllowedSize (size disk below) allowed.sizes.disk;
      sectors = record {
        least = λ disk from below. let same = ap sectors_of (size disk below) in omega (arith, same);
        one = (0, omega arith, omega (arith, has, is.disks), ap sectors_of (size 0 (omega (arith, has, is.disks))));
      };
      regions = record {
        meta = omega (arith, is.meta, allowed.own);
        others = omega (arith, is.meta, metaslabs, allowed.others);
      };
      few = omega (arith, metaslabs, allowed.few);
    } in
    none (shape ∷ []) (record { some = omega arith; few = omega arith }, (is_shape, children ∙ sym count))

pub refused_for : {T D : Type 0} (line : PoolLine) (vdev : VdevConfig) (start : D → List ℕ) (disks : List D) (result : Result T Refusal) → IsVdevOf line vdev
    → length disks ≡ line.disks → HaveSize line.disks line.bytes (map start disks)
    → IfErr result (λ cause. (cause ≡ NoMemory) ⊎ ((cause ≡ BadConfig) × MakeNoStore (map start disks) (vdev ∷ []))) → IfErr result (λ cause. RefusesPool line cause)
refused_for line vdev start disks (Ok pool) is count sizes refused = tt
refused_for line vdev start disks (Err cause) is count sizes refused = elim refused [
  | inl memory ↦ inl memory
  | inr bad ↦ inr (bad.0, no_pool line vdev (map start disks) is (length-map disks start ∙ count) sizes bad.1)
]
