-- Reads of volumes, as their shapes tell, and of kept groups.
use Rattle.std.proofs.Common.{ℕ, ◌≡◌, ◌+◌, ◌-◌, ◌≤◌, ◌^◌, ◌&&◌, nat_le, Bool, true, false, List, [], ◌∷◌, length, take, Option, Some, None, refl, sym, ap, ◌∙◌, arith}
use Rattle.std.specs.Prelude.{not, is_some, replicate, slice_range}
use Rattle.std.specs.Option.{option_map}
use Rattle.std.proofs.lemmas.Bool.Decides.{nat_tests}
use Rattle.std.proofs.lemmas.List.{length-replicate, drop-replicate, take-replicate}
use Rattle.pool_model.specs.declared.refusal.Refusal.TheVariants as causes
use Rattle.pool_model.specs.declared.refusal.Refusal.{Refusal as Cause}
use Rattle.pool_model.specs.declared.volume.PlainVolume.{PlainVolume}
use Rattle.pool_model.specs.Pools.{PlainPool, volume_at}
use Rattle.pool_model.specs.declared.step.Step.TheVariants.{ReadUnder}
use Rattle.pool_model.specs.Refusals.{first_cause, or_else, is_in_range, read_refusal, refusal_of}
use Rattle.pool_model.specs.View.{View, is_kept}
use Rattle.volume_rules.specs.declared.shape.VolumeShape.{VolumeShape}
use Rattle.volume_rules.specs.Shapes.{shape_of}
use Rattle.pool_commit.specs.declared.refusal.Refusal.{Refusal}
use Rattle.pool_commit.specs.declared.refusal.Refusal.TheVariants.{NoSuchName, OutOfRange}
use Rattle.pool_commit.specs.Reading.{IsReadCause, IsUnderCause}

-- ---- what a shape has against a read

-- it is what any volume of the shape has
abbrev pub Judges : ℕ → ℕ → VolumeShape → Option Cause → Type 0
Judges offset len shape answer = (volume : Option PlainVolume) → Some shape ≡ option_map shape_of volume → answer ≡ read_refusal offset len volume

-- a volume of the shape
abbrev plain : VolumeShape → PlainVolume
plain shape = record { name = []; bytes = replicate shape.size 0; block_size = shape.block_size; group = shape.group; kind = shape.kind; origin = None }

shape_of_plain : (shape : VolumeShape) → shape ≡ shape_of (plain shape)
shape_of_plain shape = λ i. record shape { size = sym (length-replicate {A = ℕ} shape.size 0) i }

of_plain : (offset len : ℕ) (shape : VolumeShape) (answer : Option Cause) → Judges offset len shape answer → answer ≡ read_refusal offset len (Some (plain shape))
of_plain offset len shape answer judged = judged (Some (plain shape)) (ap Some (shape_of_plain shape))

free : (fits : Bool) → is_some (first_cause ((not fits, causes.OutOfRange) ∷ [])) ≡ false → fits ≡ true
free true none = refl
free false none = absurd (cc)

out_of_range : (fits : Bool) → is_some (first_cause ((not fits, causes.OutOfRange) ∷ [])) ≡ true → first_cause ((not fits, causes.OutOfRange) ∷ []) ≡ Some causes.OutOfRange
out_of_range true some = absurd (cc)
out_of_range false some = refl

none_is : (answer : Option Cause) → is_some answer ≡ false → answer ≡ None
none_is None none = refl
none_is (Some cause) none = absurd (cc)

both : (a b : Bool) → (a && b) ≡ true → (a ≡ true) × (b ≡ true)
both true b is = (refl, is)
both false b is = absurd (cc)

at_most : (a b : ℕ) → nat_le a b ≡ true → a ≤ b
at_most a b is = grind (arith, nat_tests, is)

-- where it has nothing, the range is within the volume and not too long
pub in_range : (offset len : ℕ) (shape : VolumeShape) (answer : Option Cause) → Judges offset len shape answer → is_some answer ≡ false
    → (offset + len ≤ shape.size) × (len ≤ 2 ^ 20)
in_range offset len shape answer judged none =
    let fits = both (nat_le (offset + len) (length (plain shape).bytes)) (nat_le len (2 ^ 20))
    (free (is_in_range offset len (plain shape)) (sym (ap is_some (of_plain offset len shape answer judged)) ∙ none)) in
    let size : length (plain shape).bytes ≡ shape.size = length-replicate {A = ℕ} shape.size 0 in
    let within : offset + len ≤ length (plain shape).bytes = at_most (offset + len) (length (plain shape).bytes) fits.0 in
    (omega arith, at_most len (2 ^ 20) fits.1)

-- with no shape there is no volume
pub at_none : (found : Option PlainVolume) → option_map shape_of found ≡ None → found ≡ None
at_none None is = refl
at_none (Some volume) is = absurd (cc)

-- a range within a shape is within a volume of it
pub shape_within : (offset len : ℕ) (shape : VolumeShape) (volume : PlainVolume) → shape ≡ shape_of volume → offset + len ≤ shape.size → offset + len ≤ length volume.bytes
shape_within offset len shape volume is within = let same : shape.size ≡ length volume.bytes = ap (λ (s : VolumeShape). s.size) is in omega arith

-- a shape that is there is that of a volume
pub at_shape : (found : Option PlainVolume) (shape : VolumeShape) → Some shape ≡ option_map shape_of found → (volume : PlainVolume) × (found ≡ Some volume) × (shape ≡ shape_of volume)
at_shape (Some volume) shape is = (volume, refl, some_is shape (shape_of volume) is)
  where
    some_is : (x y : VolumeShape) → Some x ≡ Some y → x ≡ y
    some_is x y is = cc
at_shape None shape is = absurd (cc)

-- the cause that it has against a volume of a pool
cause_at : (offset len : ℕ) (name : List ℕ) (pool : PlainPool) (shape : VolumeShape) (answer : Option Cause) (volume : PlainVolume) → Judges offset len shape answer
    → volume_at name pool ≡ Some volume → shape ≡ shape_of volume → answer ≡ read_refusal offset len (volume_at name pool)
cause_at offset len name pool shape answer volume judged at is =
    judged (volume_at name pool) (ap Some is ∙ sym (ap (option_map shape_of) at))

pub is_out_of_range : (offset len : ℕ) (name : List ℕ) (pool : PlainPool) (shape : VolumeShape) (answer : Option Cause) (volume : PlainVolume) → Judges offset len shape answer
    → volume_at name pool ≡ Some volume → shape ≡ shape_of volume → is_some answer ≡ true → read_refusal offset len (volume_at name pool) ≡ Some causes.OutOfRange
is_out_of_range offset len name pool shape answer volume judged at is some =
    sym (cause_at offset len name pool shape answer volume judged at is) ∙ of_plain offset len shape answer judged
    ∙ out_of_range (is_in_range offset len (plain shape)) (sym (ap is_some (of_plain offset len shape answer judged)) ∙ some)

pub has_no_cause : (offset len : ℕ) (name : List ℕ) (pool : PlainPool) (shape : VolumeShape) (answer : Option Cause) (volume : PlainVolume) → Judges offset len shape answer
    → volume_at name pool ≡ Some volume → shape ≡ shape_of volume → is_some answer ≡ false → read_refusal offset len (volume_at name pool) ≡ None
has_no_cause offset len name pool shape answer volume judged at is none =
    sym (cause_at offset len name pool shape answer volume judged at is) ∙ none_is answer none

-- ---- what a view has against a read under a group

against_under : (kept : Bool) (cause : Option Cause) → kept ≡ true → or_else (first_cause ((not kept, causes.GroupGone) ∷ [])) cause ≡ cause
against_under true cause is = refl
against_under false cause is = absurd (cc)

gone_under : (kept : Bool) (cause : Option Cause) → kept ≡ false → or_else (first_cause ((not kept, causes.GroupGone) ∷ [])) cause ≡ Some causes.GroupGone
gone_under true cause is = absurd (cc)
gone_under false cause is = refl

pub under_kept : (v : View) (group : ℕ) (name : List ℕ) (offset len : ℕ) → is_kept v group ≡ true
    → refusal_of v (ReadUnder group name offset len) ≡ read_refusal offset len (volume_at name (v.pools group))
under_kept v group name offset len kept = against_under (is_kept v group) (read_refusal offset len (volume_at name (v.pools group))) kept

pub under_gone : (v : View) (group : ℕ) (name : List ℕ) (offset len : ℕ) → is_kept v group ≡ false → refusal_of v (ReadUnder group name offset len) ≡ Some causes.GroupGone
under_gone v group name offset len gone = gone_under (is_kept v group) (read_refusal offset len (volume_at name (v.pools group))) gone

pub under_cause : (v : View) (group : ℕ) (name : List ℕ) (offset len : ℕ) (refusal : Refusal) → is_kept v group ≡ true
    → IsReadCause (read_refusal offset len (volume_at name (v.pools group))) refusal → IsUnderCause v group name offset len refusal
under_cause v group name offset len NoSuchName kept is = under_kept v group name offset len kept ∙ is
under_cause v group name offset len OutOfRange kept is = under_kept v group name offset len kept ∙ is
under_cause v group name offset len refusal kept is = absurd is

-- ---- reads within a volume

pub no_read_cause : (cause : Option Cause) (refusal : Refusal) → cause ≡ None → ¬ IsReadCause cause refusal
no_read_cause cause NoSuchName none is = absurd (cc)
no_read_cause cause OutOfRange none is = absurd (cc)
no_read_cause cause refusal none is = is

fits_range : (offset len size : ℕ) → offset + len ≤ size → len ≤ 2 ^ 20 → (nat_le (offset + len) size && nat_le len (2 ^ 20)) ≡ true
fits_range offset len size within few = grind (arith, nat_tests, within, few)

free_in : (fits : Bool) → fits ≡ true → first_cause ((not fits, causes.OutOfRange) ∷ []) ≡ None
free_in true is = refl
free_in false is = absurd (cc)

pub no_cause_within : (offset len : ℕ) (name : List ℕ) (pool : PlainPool) (volume : PlainVolume) → volume_at name pool ≡ Some volume
    → offset + len ≤ length volume.bytes → len ≤ 2 ^ 20 → read_refusal offset len (volume_at name pool) ≡ None
no_cause_within offset len name pool volume at within few =
    ap (read_refusal offset len) at ∙ free_in (is_in_range offset len volume) (fits_range offset len (length volume.bytes) within few)

-- a range of zeros
zeros_in : (offset len size : ℕ) → offset + len ≤ size → replicate {A = ℕ} len 0 ≡ slice_range (replicate {A = ℕ} size 0) offset (offset + len)
zeros_in offset len size within =
    sym (ap (λ rest. take (offset + len - offset) rest) (drop-replicate {X = ℕ} offset size 0)
    ∙ take-replicate {X = ℕ} (offset + len - offset) (size - offset) 0 (omega arith)
    ∙ ap (λ n. replicate {A = ℕ} n 0) (let e : offset + len - offset ≡ len = omega arith in e))

pub zeros_within : (offset len size : ℕ) → offset + len ≤ size → replicate {A = ℕ} len 0 ≡ slice_range (replicate {A = ℕ} size 0) offset (offset + length (replicate {A = ℕ} len 0))
zeros_within offset len size within =
    let count : length (replicate {A = ℕ} len 0) ≡ len = length-replicate {A = ℕ} len 0 in
    zeros_in offset len size within ∙ ap (λ n. slice_range (replicate {A = ℕ} size 0) offset (offset + n)) (sym count)
