-- What holds of a result's answer or error.
use Rattle.std.proofs.Common.{◌≡◌, Result, Ok, Err, OnOk, IfErr, sym, subst}
use Rattle.std.specs.Prelude.{IsErrAnd}

pub on_ok_use : {T E : Type 0} (r : Result T E) (P Q : Type 0) → (P → Q) → OnOk r P → OnOk r Q
on_ok_use (Ok x) P Q use_it p = use_it p
on_ok_use (Err e) P Q use_it p = tt

pub on_ok_is : {T E : Type 0} (r : Result T E) (P : Type 0) → P → OnOk r P
on_ok_is (Ok x) P p = p
on_ok_is (Err e) P p = tt

-- what holds of this error holds of a result that has it
pub err_use : {T E : Type 0} (r : Result T E) (e : E) (P : Result T E → Type 0) → IsErrAnd r (λ x. x ≡ e) → P (Err e) → P r
err_use (Ok x) e P is p = absurd is
err_use {T} {E} (Err x) e P is p =
    let Q : E → Type 0 = λ y. P (Err y) in
    subst Q (sym is) p

pub if_err_is : {T E : Type 0} (r : Result T E) (e : E) (P : E → Type 0) → IsErrAnd r (λ x. x ≡ e) → P e → IfErr r P
if_err_is (Ok x) e P is p = tt
if_err_is {T} {E} (Err x) e P is p = subst P (sym is) p
