use Rattle.std.proofs.Common.{◌≡◌, ◌⊎◌, inl, inr, subst, sym}
use Rattle.model_disk.specs.Joint.{Disks}
use Rattle.pool_open.specs.Calls.{GrewTo}
use Rattle.pool_open.proofs.CommitMade.{GrewTo-none}
use Rattle.pool_open.specs.CoreStateOf.{state_of}
use Rattle.pool_open.specs.declared.refusal.Refusal.TheVariants.{NoMemory}
use Rattle.pool_slots.proofs.Results.{if_err_is}
use Rattle.pool_create.specs.FirstGroup.{LacksFirstGroup}
use Rattle.pool_create.proofs.FirstGroup.{first_of, lacks_of}
use Rattle.pool_create.proofs.first_group.first_group.Goals as goal

pub returns-in_err-core-clause-grew : goal.returns-in_err-core-clause-grew
returns-in_err-core-clause-grew g c =
    let failed = c.in_err-core.field-0.0 in
    if_err_is c.from_residual.result failed (λ f. GrewTo c.args.disks f.1) c.from_residual.ensures.1
    (subst (λ (d : Disks). GrewTo c.args.disks d) (sym c.in_err-core.ensures.back) (GrewTo-none c.args.disks))

pub returns-in_err-core-clause-refused : goal.returns-in_err-core-clause-refused
returns-in_err-core-clause-refused g c =
    let failed = c.in_err-core.field-0.0 in
    if_err_is c.from_residual.result failed (λ f. (f.0 ≡ NoMemory) ⊎ LacksFirstGroup c.args.disks c.args.pool.now f.1 f.0) c.from_residual.ensures.1
    (inl c.in_err-core.ensures.refused)

pub returns-in-Ok-clause-first : goal.returns-in-Ok-clause-first
returns-in-Ok-clause-first g c =
    first_of c.args.disks c.args.pool.now (state_of c.in_ok-core.core) (state_of c.commit_first.new.core) c.in-Ok.root c.into_array.result c.requires.out
    c.in_ok-core.ensures.in_front c.in-Ok.ensures.committed c.into_array.ensures

pub returns-in-Err-clause-refused : goal.returns-in-Err-clause-refused
returns-in-Err-clause-refused g c =
    elim c.in-Err.ensures.refused [
      | inl memory ↦ inl memory
      | inr it ↦ inr (lacks_of c.args.disks c.args.pool.now (state_of c.in_ok-core.core) (state_of c.commit_first.new.core) c.into_array-in-Err.result c.in-Err.refusal c.requires.out
          c.in_ok-core.ensures.in_front it c.into_array-in-Err.ensures)
    ]
