-- Rows that are told one after another.
use Rattle.std.proofs.Common.{◌≡◌, ℕ, ◌+◌, ◌<◌, suc, Bool, false, List, [], ◌∷◌, ◌++◌, drop, get_or, length, map, min, refl, sym, ap, ◌∙◌, append_assoc}
use Rattle.std.proofs.Math.Seq.{drop-cons}
use Rattle.commands.specs.Rows.{listed_of}
use Rattle.meta_objset.specs.declared.stale_spans.StaleSpan.{StaleSpan}
use Rattle.pool_command.specs.declared.status.DiskStatus.{DiskStatus}
use Rattle.pool_create.specs.VolumeShapes.{shape_of}
use Rattle.pool_model.specs.declared.volume.PlainVolume.{PlainVolume}
use Rattle.vdev_label.specs.declared.label.Vdev.{Vdev}
use Rattle.file_pools.specs.Telling.{Told, counted, disk_rows, listed_at, state_of, vdev_rows}

-- one disk more
pub disks_more : (done : List DiskStatus) (number : ℕ) (guids : List ℕ) (i d : ℕ) (out : List Bool) (spans : List StaleSpan) → i < length guids
    → done ++ disk_rows number (drop i guids) out spans
    ≡ (done ++ record { number = number; guid = get_or guids i d; state = state_of (get_or out number false) spans (get_or guids i d) } ∷ []) ++ disk_rows (counted (number + 1)) (drop (suc i) guids) out spans
disks_more done number guids i d out spans less =
    ap (λ l. done ++ disk_rows number l out spans) (drop-cons guids i d less)
    ∙ sym (append_assoc done (record { number = number; guid = get_or guids i d; state = state_of (get_or out number false) spans (get_or guids i d) } ∷ []) (disk_rows (counted (number + 1)) (drop (suc i) guids) out spans))

-- one vdev more
pub vdevs_more : (done : List Told) (number first : ℕ) (vdevs : List Vdev) (d : Vdev) (out : List Bool) (spans : List StaleSpan) → number < length vdevs
    → done ++ vdev_rows number first (drop number vdevs) out spans
    ≡ (done ++ record { number = number; parities = min (get_or vdevs number d).parity 255; disks = disk_rows first (get_or vdevs number d).children.items out spans } ∷ [])
    ++ vdev_rows (number + 1) (counted (first + length (get_or vdevs number d).children.items)) (drop (suc number) vdevs) out spans
vdevs_more done number first vdevs d out spans less =
    ap (λ l. done ++ vdev_rows number first l out spans) (drop-cons vdevs number d less)
    ∙ sym (append_assoc done (record { number = number; parities = min (get_or vdevs number d).parity 255; disks = disk_rows first (get_or vdevs number d).children.items out spans } ∷ [])
    (vdev_rows (number + 1) (counted (first + length (get_or vdevs number d).children.items)) (drop (suc number) vdevs) out spans))

-- the rows of volumes tell what is told of them
pub volumes_listed : (volumes : List PlainVolume) → map listed_at (map (λ v. record { name = v.name; shape = shape_of v }) volumes) ≡ map listed_of volumes
volumes_listed [] = refl
volumes_listed (v ∷ volumes) = ap (λ l. listed_of v ∷ l) (volumes_listed volumes)
