-- What holds of a pool that was made or opened, or of why it was not.
use Rattle.std.proofs.Common.{Result, Ok, Err, IfErr, IfOk}

pub if_ok : {T E : Type 0} (result : Result T E) (P Q : T → Type 0) → ((x : T) → P x → Q x) → IfOk result P → IfOk result Q
if_ok (Ok x) P Q so holds = so x holds
if_ok (Err e) P Q so holds = holds

pub if_err : {T E : Type 0} (result : Result T E) (P Q : E → Type 0) → ((e : E) → P e → Q e) → IfErr result P → IfErr result Q
if_err (Ok x) P Q so holds = holds
if_err (Err e) P Q so holds = so e holds
