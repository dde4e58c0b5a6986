use Rattle.std.proofs.Common.{ap, sym, subst}
use Rattle.std.specs.Prelude.{replicate}
use Rattle.block_pointer.specs.declared.block.Block.{Block}
use Rattle.dnode_tree.proofs.Refusing.{passed_on}
use Rattle.dataset_groups.proofs.Copied.{adds_of_set}
use Rattle.dataset_groups.proofs.VolumeBlocks.{IsNew, volume_new}
use Rattle.dataset_groups.proofs.MakingRefusals.{not_config}
use Rattle.dataset_groups.proofs.new_volume.NewVolume.planned.Goals as goal

pub returns-in_err-volume-clause-cause : goal.returns-in_err-volume-clause-cause
returns-in_err-volume-clause-cause g c =
    let refused = c.in_err-volume.ensures.refused in
    passed_on _ _ _ c.from_residual.ensures.1 (not_config _ _ _ c.args.group c.args.group _ refused.0 _ refused.1 refused.2)

pub returns-in_err-volume-clause-no_room : goal.returns-in_err-volume-clause-no_room
returns-in_err-volume-clause-no_room g c = passed_on _ _ _ c.from_residual.ensures.1 (λ is. c.in_err-volume.ensures.no_room is)

pub returns-in_err-volume-clause-known : goal.returns-in_err-volume-clause-known
returns-in_err-volume-clause-known g c =
    passed_on _ _ _ c.from_residual.ensures.1 (λ stored planned plans tell. c.in_err-volume.ensures.known stored planned plans tell)

pub returns-clause-value : goal.returns-clause-value
returns-clause-value g c = λ stored planned plans tell.
    let size = c.args.self.now.size in
    let is = c.in_ok-volume.ensures.value stored planned plans tell in
    let shape = c.in_ok-volume.ensures.shape in
    let new = subst (λ (b : Block). IsNew is.0 planned c.args.group b size c.args.self.now.block_size (replicate size 0)) (sym c.block.ensures)
    (subst (λ n. IsNew is.0 planned c.args.group c.in_ok-volume.volume.block n c.args.self.now.block_size (replicate size 0)) shape.0
    (subst (λ n. IsNew is.0 planned c.args.group c.in_ok-volume.volume.block c.in_ok-volume.volume.size n (replicate size 0)) shape.1
    (volume_new planned is.0 c.args.group c.in_ok-volume.volume (replicate size 0) (ap (λ n. replicate n 0) (sym shape.0)) is.3 is.4))) in (
      is.0,
      is.1,
      is.2,
      new.0,
      new.1,
      adds_of_set planned is.0 c.args.group _ _ _ _ _ _ _ is.4.planned_is,
    )

pub returns-in_err-volume-clause-refused : goal.returns-in_err-volume-clause-refused
returns-in_err-volume-clause-refused g c = passed_on _ _ _ c.from_residual.ensures.1 c.in_err-volume.ensures.refused

pub returns-in_err-volume-clause-caused : goal.returns-in_err-volume-clause-caused
returns-in_err-volume-clause-caused g c = passed_on _ _ _ c.from_residual.ensures.1 c.in_err-volume.ensures.caused
