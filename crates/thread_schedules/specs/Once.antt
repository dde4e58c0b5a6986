-- That threads may share a type is known in one way.
use Rattle.std.specs.Prelude.{◌≡◌}
use mathlib.Core.Path.{refl}
use base.Fml.{Fml, ftrue, ffalse, feq, flt, fsep, fand, for, fwand, fex, fall, fupd, fhide, fat, froom, fleft, fdies, flft, fdead, fobs, fauth, fres, fown, fbor, fobor, flent, fshr_bor, finv, fnamed, ftok, fkid, fme, fsent}
use base.Shift.{Keyless}
use denote.RattleType.{RattleType}
use denote.Param.Send.{IsSync}

pub unit_once : (one other : Unit {0}) → one ≡ other
unit_once one other = refl

keyless_once : (P : Fml) → IsProp (Keyless P)
keyless_once ftrue = λ k l. refl
keyless_once ffalse = λ k l. refl
keyless_once (feq d x y) = λ k l. refl
keyless_once (flt m n) = λ k l. refl
keyless_once (fat q τ b o v) = λ k l. refl
keyless_once (froom τ b o) = λ k l. refl
keyless_once (fleft q ω τs b o) = λ k l. refl
keyless_once (fdies τ b) = λ k l. refl
keyless_once (flft κ q) = λ k l. refl
keyless_once (fdead κ) = λ k l. refl
keyless_once (fobs γ x) = λ k l. refl
keyless_once (fauth γ x) = λ k l. refl
keyless_once (fres γ x) = λ k l. refl
keyless_once (fown R γ x) = λ k l. refl
keyless_once (fsep P Q) = λ k l i. (keyless_once P k.0 l.0 i, keyless_once Q k.1 l.1 i)
keyless_once (fand P Q) = λ k l i. (keyless_once P k.0 l.0 i, keyless_once Q k.1 l.1 i)
keyless_once (for P Q) = λ k l i. (keyless_once P k.0 l.0 i, keyless_once Q k.1 l.1 i)
keyless_once (fwand P Q) = λ k l i. (keyless_once P k.0 l.0 i, keyless_once Q k.1 l.1 i)
keyless_once (fupd P) = keyless_once P
keyless_once (fhide P) = keyless_once P
keyless_once (fbor κ P) = keyless_once P
keyless_once (fobor κ q P) = keyless_once P
keyless_once (flent κ P) = keyless_once P
keyless_once (finv P) = keyless_once P
keyless_once (fnamed nm P) = keyless_once P
keyless_once (fex X F) = λ f g i x. keyless_once (F x) (f x) (g x) i
keyless_once (fall X F) = λ f g i x. keyless_once (F x) (f x) (g x) i
keyless_once (fshr_bor κ Φ) = λ f g i x. keyless_once (Φ x) (f x) (g x) i
keyless_once (ftok E) = λ k l. absurd k
keyless_once (fkid h a) = λ k l. absurd k
keyless_once (fme h) = λ k l. absurd k
keyless_once (fsent E) = λ k l. refl

pub sync_once : (R : RattleType) (one other : IsSync R) → one ≡ other
sync_once R one other = λ i. record { shared = λ x b o κ. keyless_once (R.shr_at x b o κ) (one.shared x b o κ) (other.shared x b o κ) i }
