-- Errors that are passed on: why a part isn't read is why the whole isn't.
use Rattle.std.proofs.Common.{◌≡◌, Result, Ok, Err, sym, ap, subst}
use Rattle.std.specs.Result.{IsErrAnd}
use Rattle.pool_command.specs.declared.refusal.Refusal.{Refusal}
use Rattle.pool_command.specs.declared.refusal.Refusal.TheVariants.{Words, Missing, NoType, NoPart, NoNewFiles, NoPlace, HalfRange, NoProgram, NoMemory}
use Rattle.pool_command.specs.Causes.{Cause, Fails, Gives}
use Rattle.pool_command.specs.Reading.{◌>>=◌, made}

pub fails_on : {A B : Type 0} (refusal : Refusal) (read : Result A Cause) (then : A → Result B Cause) → Fails refusal read → Fails refusal (read >>= then)
fails_on {A} (Words error) (Ok a) then h = absurd h
fails_on {A} (Words error) (Err cause) then h = h
fails_on {A} Missing read then h = ap (λ (r : Result A Cause). r >>= then) h
fails_on {A} NoType read then h = ap (λ (r : Result A Cause). r >>= then) h
fails_on {A} NoPart read then h = ap (λ (r : Result A Cause). r >>= then) h
fails_on {A} NoNewFiles read then h = ap (λ (r : Result A Cause). r >>= then) h
fails_on {A} NoPlace read then h = ap (λ (r : Result A Cause). r >>= then) h
fails_on {A} HalfRange read then h = ap (λ (r : Result A Cause). r >>= then) h
fails_on {A} NoProgram read then h = ap (λ (r : Result A Cause). r >>= then) h
fails_on {A} NoMemory read then h = tt

pub passed_on : {X A : Type 0} (view : X → A) (result : Result X Refusal) (cause : Refusal) (read : Result A Cause) → IsErrAnd result (λ e. e ≡ cause) → Fails cause read → Gives view result read
passed_on view (Ok x) cause read h fails = absurd h
passed_on view (Err e) cause read h fails = subst (λ (c : Refusal). Fails c read) (sym h) fails

-- a part that is read is left behind
pub after : {A B : Type 0} (refusal : Refusal) (read : Result A Cause) (x : A) (then : A → Result B Cause) → read ≡ Ok x → Fails refusal (then x) → Fails refusal (read >>= then)
after {A} refusal read x then e h = subst (λ (r : Result A Cause). Fails refusal (r >>= then)) (sym e) h

pub fails_made : {A B : Type 0} (refusal : Refusal) (f : A → B) (read : Result A Cause) → Fails refusal read → Fails refusal (made f read)
fails_made {A} (Words error) f (Ok a) h = absurd h
fails_made {A} (Words error) f (Err cause) h = h
fails_made {A} Missing f read h = ap (λ (r : Result A Cause). made f r) h
fails_made {A} NoType f read h = ap (λ (r : Result A Cause). made f r) h
fails_made {A} NoPart f read h = ap (λ (r : Result A Cause). made f r) h
fails_made {A} NoNewFiles f read h = ap (λ (r : Result A Cause). made f r) h
fails_made {A} NoPlace f read h = ap (λ (r : Result A Cause). made f r) h
fails_made {A} HalfRange f read h = ap (λ (r : Result A Cause). made f r) h
fails_made {A} NoProgram f read h = ap (λ (r : Result A Cause). made f r) h
fails_made {A} NoMemory f read h = tt
