use Rattle.std.proofs.Common.{◌≡◌, take}
use Rattle.volume.specs.InTurn.{HaveInTurn}
use Rattle.volume.specs.Writing.{IsCovered}
use Rattle.volume.proofs.volume.VolumeSet.uncovered.Given as goal

-- those among the ids so far
abbrev pub invariant-loop-id : goal.invariant-loop-id
invariant-loop-id l = HaveInTurn (IsCovered l.self l.changes.name.now l.changes.items.now.writes) (λ id same. same ≡ id) (take l.id-index l.ids) l.needed.items
