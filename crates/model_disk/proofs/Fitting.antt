-- Calls after which what a disk shows ends where it ends.
use Rattle.std.proofs.Common.{◌≡◌, inr, ℕ, ◌+◌, ◌≤◌, List, ◌∷◌, length, Result, Ok, Err, sym, subst, ◌∙◌, arith}
use Rattle.model_disk.specs.Call.{Call, Read, FailedRead, Wrote, FailedWrite, Flushed, FailedFlush, flush_call, read_call, write_call}
use Rattle.model_disk.specs.Joint.{JointCall, calls_in, on}
use Rattle.model_disk.specs.Runs.{WritesOnly}
use Rattle.model_disk.specs.Within.{IsWithin}
use Rattle.model_disk.proofs.ContentsLemmas.{byte_at-failed_outside, byte_at-outside, covers-outside}

-- what it writes ends by that
abbrev pub Fits : ℕ → Call → Type 0
Fits size call = WritesOnly (λ at bytes. at + length bytes ≤ size) call

pub read_fits : {T E : Type 0} (size at : ℕ) (buffer : List ℕ) (answer : Result T E) → Fits size (read_call answer at buffer)
read_fits size at buffer (Ok it) = tt
read_fits size at buffer (Err it) = tt

pub flush_fits : {T E : Type 0} (size : ℕ) (answer : Result T E) → Fits size (flush_call answer)
flush_fits size (Ok it) = tt
flush_fits size (Err it) = tt

pub write_fits : {T E : Type 0} (size at : ℕ) (bytes : List ℕ) (answer : Result T E) → at + length bytes ≤ size → Fits size (write_call answer at bytes)
write_fits size at bytes (Ok it) room = room
write_fits size at bytes (Err it) room = room

more : (start : List ℕ) (call : Call) (calls : List Call) → Fits (length start) call → IsWithin start calls → IsWithin start (call ∷ calls)
more start (Read at bytes) calls fits within i past = within i past
more start (FailedRead at n) calls fits within i past = within i past
more start (Wrote at bytes) calls fits within i past =
    let off = covers-outside at (length bytes) i (inr (omega (arith, fits, past))) in
    byte_at-outside start calls at bytes i off ∙ within i past
more start (FailedWrite at bytes) calls fits within i past =
    let off = covers-outside at (length bytes) i (inr (omega (arith, fits, past))) in
    byte_at-failed_outside start calls at bytes i off ∙ within i past
more start Flushed calls fits within i past = within i past
more start FailedFlush calls fits within i past = within i past

-- with such a call it still does
pub still_within : (start old : List ℕ) (call : Call) (calls made : List JointCall) → start ≡ old → made ≡ on 0 call ∷ calls → Fits (length old) call
    → IsWithin old (calls_in calls) → IsWithin start (calls_in made)
still_within start old call calls made same is fits within =
    let P : List ℕ × List JointCall → Type 0 = λ x. IsWithin x.0 (calls_in x.1) in
    subst P (λ j. (sym same j, sym is j)) (more old call (calls_in calls) fits within)
