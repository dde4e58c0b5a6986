-- What a result is.
use Rattle.std.proofs.Common.{◌≡◌, Ok, Err, Result, refl}
use Rattle.std.specs.Result.{IfOk, IfErr}

pub if_ok : {T E : Type 0} (result : Result T E) (P : T → Type 0) → ((x : T) → result ≡ Ok x → P x) → IfOk result P
if_ok (Ok x) P all = all x refl
if_ok (Err e) P all = tt

pub if_err : {T E : Type 0} (result : Result T E) (P : E → Type 0) → ((e : E) → result ≡ Err e → P e) → IfErr result P
if_err (Ok x) P all = tt
if_err (Err e) P all = all e refl
