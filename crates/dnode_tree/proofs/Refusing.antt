-- What a refusal that is passed on says.
use Rattle.std.proofs.Common.{ℕ, List, ◌≡◌, ◌⊎◌, inl, inr, Ok, Err, Result, sym, subst}
use Rattle.std.specs.Result.{IsErrAnd, IfOk, IfErr}
use Rattle.block_store.specs.declared.refusal.Refusal.{Refusal}
use Rattle.block_store.specs.declared.refusal.Refusal.TheVariants.{NoMemory, BadPointer, NoSpace}
use Rattle.block_store.specs.Causes.{IsCaused}
use Rattle.block_store.specs.Store.{Store}

pub passed_on : {T E : Type 0} (result : Result T E) (refusal : E) (P : E → Type 0) → IsErrAnd result (λ e. e ≡ refusal) → P refusal → IfErr result P
passed_on (Ok x) refusal P h there = tt
passed_on (Err e) refusal P h there = subst (λ r. P r) (sym h) there

-- neither lack of disks nor want of room
pub caused_by_memory : (old new : Store) (missing : List ℕ) (refusal : Refusal) → refusal ≡ NoMemory → IsCaused old new missing refusal
caused_by_memory old new missing refusal is = subst (λ (r : Refusal). IsCaused old new missing r) (sym is) tt

pub caused_by_pointer : (old new : Store) (missing : List ℕ) (refusal : Refusal) → refusal ≡ BadPointer → IsCaused old new missing refusal
caused_by_pointer old new missing refusal is = subst (λ (r : Refusal). IsCaused old new missing r) (sym is) tt

-- where it is want of room, the cause is told
pub only_no_space : (refusal : Refusal) (P : Type 0) → (refusal ≡ NoMemory) ⊎ ((refusal ≡ NoSpace) × P) → refusal ≡ NoSpace → P
only_no_space refusal P (inl memory) is = absurd (cc)
only_no_space refusal P (inr space) is = space.1

pub ok_both : {T E : Type 0} (result : Result T E) (P Q : T → Type 0) → IfOk result P → IfOk result Q → IfOk result (λ x. P x × Q x)
ok_both (Ok x) P Q one two = (one, two)
ok_both (Err e) P Q one two = tt
