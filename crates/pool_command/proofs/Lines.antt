-- What some lines ask for, by computing.
use Rattle.std.proofs.Common.{◌≡◌, [], ◌∷◌, Ok, codes, refl}
use Rattle.clap.proofs.OnLiterals.{clap_on_literals}
use Rattle.pool_command.specs.Reading.{command_of, zpool_of, zfs_of, zpool_command, zfs_command, named_files, new_pool, new_vdev, new_volume}
use Rattle.pool_command.specs.declared.command.Command.TheVariants.{Zpool, Zfs}
use Rattle.pool_command.specs.declared.command.ZpoolCommand.TheVariants as zpool
use Rattle.pool_command.specs.declared.command.ZfsCommand.TheVariants as zfs

pub pool_line : command_of (codes "zpool" ∷ codes "create" ∷ codes "--seed" ∷ codes "7" ∷ codes "--bytes" ∷ codes "8388608" ∷ codes "tank" ∷ codes "raidz1" ∷ codes "a" ∷ codes "b" ∷ codes "c" ∷ [])
    ≡ Ok (Zpool (zpool.Create (record { seed = 7; bytes = 8388608; meta = 2; shift = 12; name = codes "tank"; parities = 1; files = codes "a" ∷ codes "b" ∷ codes "c" ∷ [] })))
unfolding clap_on_literals command_of zpool_of zpool_command new_pool
pool_line = refl

pub volume_line : command_of (codes "zfs" ∷ codes "create" ∷ codes "--size" ∷ codes "1024" ∷ codes "--block" ∷ codes "512" ∷ codes "v" ∷ codes "a" ∷ codes "b" ∷ codes "c" ∷ [])
    ≡ Ok (Zfs (zfs.Create 1024 512 (codes "v") (codes "a" ∷ codes "b" ∷ codes "c" ∷ [])))
unfolding clap_on_literals command_of zfs_of zfs_command new_volume named_files
volume_line = refl

pub vdev_line : command_of (codes "zpool" ∷ codes "add" ∷ codes "--seed" ∷ codes "8" ∷ codes "--bytes" ∷ codes "16777216" ∷ codes "--type" ∷ codes "raidz2" ∷ codes "--new" ∷ codes "3" ∷ codes "a" ∷ codes "b" ∷ codes "c" ∷ codes "d" ∷ [])
    ≡ Ok (Zpool (zpool.Add (record { seed = 8; bytes = 16777216; parities = 2; files = codes "a" ∷ []; new_files = codes "b" ∷ codes "c" ∷ codes "d" ∷ [] })))
unfolding clap_on_literals command_of zpool_of zpool_command new_vdev
vdev_line = refl
