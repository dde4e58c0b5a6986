-- What holds of results, and of refusals as they are passed on.
use Rattle.std.proofs.Common.{◌≡◌, ◌⊎◌, inl, inr, Result, Ok, Err, IfOk, IfErr, IsErrAnd, refl, sym, ap, subst, ◌∙◌, []}
use Rattle.model_disk.specs.Joint.{Disks}
use Rattle.raidz_io.specs.Reads.{OnlyReads}
use Rattle.scrub_resilver.specs.declared.refusal.Refusal.{Refusal as Look}
use Rattle.scrub_resilver.specs.declared.refusal.Refusal.TheVariants as look
use Rattle.pool_open.specs.declared.refusal.Refusal.{Refusal}
use Rattle.pool_open.specs.declared.refusal.Refusal.TheVariants.{NoMemory, BadPointer}
use Rattle.pool_scrub.specs.Healing.{of_look}

pub ok_more : {T E : Type 0} (result : Result T E) (P Q : T → Type 0) → ((x : T) → P x → Q x) → IfOk result P → IfOk result Q
ok_more (Ok x) P Q more held = more x held
ok_more (Err e) P Q more held = tt

pub err_more : {T E : Type 0} (result : Result T E) (P Q : E → Type 0) → ((x : E) → P x → Q x) → IfErr result P → IfErr result Q
err_more (Ok x) P Q more held = tt
err_more (Err e) P Q more held = more e held

pub err_at : {T E : Type 0} (result : Result T E) (e : E) (Q : E → Type 0) → IsErrAnd result (λ x. x ≡ e) → Q e → IfErr result Q
err_at (Ok x) e Q is held = tt
err_at (Err x) e Q is held = subst Q (sym is) held

-- why no look was had, as it is told
pub why_told : (told : Refusal) (refusal : Look) (Why : Type 0) → told ≡ of_look refusal
    → (refusal ≡ look.NoMemory) ⊎ ((refusal ≡ look.BadPointer) × Why) → (told ≡ NoMemory) ⊎ ((told ≡ BadPointer) × Why)
why_told told refusal Why is why = elim why [
  | inl none ↦ inl (is ∙ ap of_look none)
  | inr (bad, held) ↦ inr (is ∙ ap of_look bad, held)
]

pub no_reads : (disks : Disks) → OnlyReads disks disks
no_reads disks = record { starts = refl; newer = []; calls = refl; are_reads = tt }
