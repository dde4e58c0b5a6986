use Rattle.std.proofs.Common.{◌≡◌, map}
use Rattle.model_disk.specs.declared.member.Member.TheVariants.{Present}
use Rattle.tests_lives.proofs.lived.present.Given as goal

-- each member so far is there, with the disk
abbrev pub invariant-present : goal.invariant-present
invariant-present g l = l.yielded ≡ map Present l.disks.items
