-- The tables, byte by byte.
use Rattle.std.specs.Prelude.{ℕ, zero, suc, ◌-◌, List, [], ◌∷◌, ◌++◌, length, replicate, codes, string_bytes, false}
use Rattle.std.specs.List.{flat_map}
use Rattle.std.specs.Fmt.{char_count, decimal, digits}
use Rattle.pool_command.specs.declared.listing.VolumeRow.{VolumeRow}
use Rattle.pool_command.specs.declared.scrubbing.ScrubReport.{ScrubReport}
use Rattle.pool_command.specs.declared.status.DiskState.{DiskState}
use Rattle.pool_command.specs.declared.status.DiskState.TheVariants.{Online, Absent, Stale}
use Rattle.pool_command.specs.declared.status.DiskStatus.{DiskStatus}
use Rattle.pool_command.specs.declared.status.VdevStatus.{VdevStatus}
use Rattle.pool_command.specs.declared.status.PoolStatus.{PoolStatus}

-- the text, and spaces up to so many places
abbrev pub left : ℕ → List ℕ → List ℕ
left places text = text ++ replicate (places - char_count text) 32

-- spaces, and the text at the end of so many places
abbrev pub right : ℕ → List ℕ → List ℕ
right places text = replicate (places - char_count text) 32 ++ text

-- the number in 16 hexadecimal digits
abbrev pub guid_text : ℕ → List ℕ
guid_text guid = let text = digits 16 false guid in replicate (16 - length text) 48 ++ text

-- the text and a line feed
abbrev pub line : List ℕ → List ℕ
line text = text ++ 10 ∷ []

-- ---- volumes

-- the header of the table of volumes, without a line feed
abbrev pub header_text : List ℕ
header_text = left 56 (codes "NAME") ++ (right 14 (codes "SIZE") ++ (right 8 (codes "BLOCK") ++ right 12 (codes "GROUP")))

-- a number right in so many places
abbrev pub number_text : ℕ → ℕ → List ℕ
number_text places n = let text = decimal n in replicate (places - length text) 32 ++ text

-- right in 12 places, and never without a space in front
abbrev pub group_text : ℕ → List ℕ
group_text group = 32 ∷ number_text 11 group

-- the row of a volume or a snapshot, without a line feed: name, size and block size in bytes, and group
abbrev pub row_text : VolumeRow → List ℕ
row_text row = left 56 (string_bytes row.name) ++ (number_text 14 row.size ++ (number_text 8 row.block_size ++ group_text row.group))

-- the rows, each in a line
abbrev pub rows_text : List VolumeRow → List ℕ
rows_text rows = flat_map (λ row. line (row_text row)) rows

-- what `zfs list` prints: the header, and a line for each volume and snapshot
abbrev pub list_text : List VolumeRow → List ℕ
list_text rows = line header_text ++ rows_text rows

-- ---- a pool

-- online, absent, or stale FROM TO: the disk lacks what these groups and those between them wrote
abbrev pub state_text : DiskState → List ℕ
state_text Online = codes "online"
state_text Absent = codes "absent"
state_text (Stale from to) = codes "stale " ++ (decimal from ++ (32 ∷ decimal to))

-- the row of a disk, without a line feed: its number, its guid and its state
abbrev pub disk_text : DiskStatus → List ℕ
disk_text disk = codes "  disk " ++ (decimal disk.number ++ (32 ∷ (guid_text disk.guid ++ (32 ∷ state_text disk.state))))

-- the disks, each in a line
abbrev pub disks_text : List DiskStatus → List ℕ
disks_text disks = flat_map (λ disk. line (disk_text disk)) disks

-- a line of a vdev with its number and its parities, and below it its disks
abbrev pub vdev_text : VdevStatus → List ℕ
vdev_text vdev = line (codes "vdev " ++ (decimal vdev.number ++ (codes " raidz" ++ decimal vdev.parities))) ++ disks_text vdev.disks.items

-- the vdevs in order, each with its disks
abbrev pub vdevs_text : List VdevStatus → List ℕ
vdevs_text vdevs = flat_map vdev_text vdevs

-- what `zpool status` prints: name, claim and last committed group, each in a line, and then the vdevs
abbrev pub status_text : PoolStatus → List ℕ
status_text pool = line (codes "pool " ++ string_bytes pool.name) ++ (line (codes "claim " ++ decimal pool.claim)
    ++ (line (codes "group " ++ decimal pool.group) ++ vdevs_text pool.vdevs.items))

-- ---- a scrub

-- how many columns are still wrong, where some are
abbrev pub left_text : ℕ → List ℕ
left_text zero = []
left_text (suc n) = line (codes "left " ++ decimal (suc n))

-- what `zpool scrub` prints: its group, how many columns were unreadable or wrong, and how many still are
abbrev pub scrub_text : ScrubReport → List ℕ
scrub_text report = line (codes "group " ++ (decimal report.group ++ (codes " findings " ++ decimal report.findings))) ++ left_text report.left
