-- The list at the front of bytes.
use Rattle.std.proofs.Common.{◌≡◌, ℕ, ◌+◌, ◌-◌, ◌≤◌, List, ◌++◌, length, take, Some, refl, ap, ◌∙◌, arith}
use Rattle.std.proofs.lemmas.List.{take_at, length-append}
use Rattle.words.specs.Words.{IsBytes}
use Rattle.nvlist.specs.declared.refusal.Refusal.{Refusal}
use Rattle.nvlist.specs.declared.refusal.Refusal.TheVariants as refusals
use Rattle.nvlist.specs.Plain.{PlainList}
use Rattle.nvlist.specs.Grammar.{spelling, Fits, Spells}
use Rattle.nvlist.specs.Reading.{list_at, Fails}
use Rattle.nvlist.proofs.Laws.{reads_lists}

-- what was read, and how many bytes were
pub record IsFront (bytes : List ℕ) (l : PlainList) (rest : List ℕ) : Type 0 where
  pub shorter : length rest ≤ length bytes
  pub spelled : Spells (take (length bytes - length rest) bytes) l

pub front_found : (bytes : List ℕ) (l : PlainList) (rest : List ℕ) → IsBytes bytes → list_at 6 bytes ≡ Some (l, rest) → IsFront bytes l rest
front_found bytes l rest fits e =
    let t = (reads_lists 6).takes bytes l rest fits e in
    let len : length bytes ≡ length (spelling l) + length rest = ap length t.0.parts ∙ length-append (spelling l) rest in
    let cut : take (length bytes - length rest) bytes ≡ spelling l = ap (take (length bytes - length rest)) t.0.parts ∙ take_at (spelling l) rest (length bytes - length rest) (omega arith) in
    record { shorter = omega arith; spelled = ((t.1, t.2), cut) }

pub front_read : (bytes : List ℕ) (l : PlainList) (rest : List ℕ) → Fits l → bytes ≡ spelling l ++ rest → list_at 6 bytes ≡ Some (l, rest)
front_read bytes l rest fits e = ap (list_at 6) e ∙ (reads_lists 6).again l rest fits.0 fits.1

pub front_len : (bytes : List ℕ) (l : PlainList) (rest : List ℕ) → bytes ≡ spelling l ++ rest → length bytes - length rest ≡ length (spelling l)
front_len bytes l rest e =
    let len : length bytes ≡ length (spelling l) + length rest = ap length e ∙ length-append (spelling l) rest in
    omega arith

-- where a list is read, nothing but memory fails
pub only_memory : (refusal : Refusal) (bytes : List ℕ) (x : PlainList × List ℕ) → list_at 6 bytes ≡ Some x → Fails refusal (list_at 6 bytes) → refusal ≡ refusals.NoMemory
only_memory refusals.NoMemory bytes x e fails = refl
only_memory refusals.BadLabel bytes x e fails = let no = fails in absurd cc
