-- Causes that several calls refuse for.
use Rattle.std.proofs.Common.{◌≡◌, Err, Ok, Result, inl, subst, sym}
use Rattle.std.specs.Result.{IfErr, IsErrAnd}
use Rattle.model_disk.specs.declared.disk.Disk as disk
use Rattle.file_pools.specs.Opening.{IsNotHeld, IsNotScrubbed}
use Rattle.file_pools.specs.declared.refusal.Refusal.{Refusal}
use Rattle.file_pools.specs.declared.refusal.Refusal.TheVariants as refusal

-- what holds of a cause holds of a result that has it
pub for_cause : {T : Type 0} (result : Result T Refusal) (holds : Refusal → Type 0) (why : Refusal) → holds why → IsErrAnd result (λ cause. cause ≡ why) → IfErr result holds
for_cause (Ok opened) holds why that is = tt
for_cause (Err cause) holds why that is = subst holds (sym is) that

-- files that can't be held are not scrubbed
pub held_scrubbed : {D : Type 0} (g : disk.Ghosts D) (cause : Refusal) → IsNotHeld cause → IsNotScrubbed g cause
held_scrubbed g refusal.Busy is = tt
held_scrubbed g (refusal.Pool cause) is = inl is
held_scrubbed g other is = absurd is
