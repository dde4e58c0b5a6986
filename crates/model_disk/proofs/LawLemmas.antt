-- The laws.
use Rattle.std.proofs.Common.{◌≡◌, ◌≢◌, inl, inr, ◌≤◌, ◌<◌, ◌∙◌, ℕ, ◌+◌, ◌==◌, Bool, true, false, ◌||◌, List, [], ◌∷◌, ◌++◌, length, get_or, slice_get, Some, refl, sym, ap, subst, arith}
use Rattle.std.specs.List.{list_any}
use Rattle.std.proofs.lemmas.List.{ext_get_or}
use Rattle.std.proofs.lemmas.Option.{slice_get-get_or, get_or_from_slice_get}
use Rattle.model_disk.proofs.ContentsLemmas.{byte_at-Wrote, MayLeave-Wrote, MayLeave-FailedWrite, MayLeave-before_FailedWrite}
use Rattle.model_disk.proofs.HonestLemmas.{HonestSince-earlier, HonestSince-later}
use Rattle.model_disk.proofs.JointLemmas.{calls_on-same, calls_on-other, apart_if, same_if}
use Rattle.model_disk.specs.Call.{Call, Read, FailedRead, Wrote, FailedWrite, Flushed, FailedFlush}
use Rattle.model_disk.specs.Contents.{byte_at, touches, is_dirty}
use Rattle.model_disk.specs.Joint.{JointCall, Disks, on, bytes_of, calls_on, content, AreHonestSince}
use Rattle.model_disk.specs.Laws.{WrittenBytesStand, OtherBytesStay, HonestReadsGive, PartsAreHonest, PartsOfOneAreHonest, FlushedBytesStay, UnwrittenDisksStay, WritesAddImages}

-- a byte, by what its disk's own calls left
content_is : (disks : Disks) (starts : List (List ℕ)) (calls : List JointCall) (which i : ℕ) (own : List Call)
    → disks.starts ≡ starts → disks.calls ≡ calls → calls_on which calls ≡ own → content disks which i ≡ byte_at (bytes_of starts which) own i
content_is disks starts calls which i own same_starts same_calls is =
    ap (λ them. byte_at (bytes_of them which) (calls_on which disks.calls) i) same_starts
    ∙ ap (λ them. byte_at (bytes_of starts which) (calls_on which them) i) same_calls ∙ ap (λ it. byte_at (bytes_of starts which) it i) is

pub written_bytes_stand : WrittenBytesStand
written_bytes_stand old new which at bytes starts calls i below =
    content_is new old.starts (on which (Wrote at bytes) ∷ old.calls) which (at + i) (Wrote at bytes ∷ calls_on which old.calls) starts calls
    (calls_on-same which (Wrote at bytes) old.calls)
    ∙ byte_at-Wrote (bytes_of old.starts which) (calls_on which old.calls) at bytes i below

-- a call that does not touch a byte leaves it
pub byte_at-untouched : (start : List ℕ) (call : Call) (calls : List Call) (i : ℕ) → touches call i ≡ false → byte_at start (call ∷ calls) i ≡ byte_at start calls i
byte_at-untouched start (Read at bytes) calls i un = refl
byte_at-untouched start (FailedRead at n) calls i un = refl
byte_at-untouched start (Wrote at bytes) calls i un = rw un refl
byte_at-untouched start (FailedWrite at bytes) calls i un = rw un refl
byte_at-untouched start Flushed calls i un = refl
byte_at-untouched start FailedFlush calls i un = refl

on_another : (old new : Disks) (which : ℕ) (call : Call) → new.starts ≡ old.starts → new.calls ≡ on which call ∷ old.calls
    → (other i : ℕ) → other ≢ which → content new other i ≡ content old other i
on_another old new which call starts calls other i apart =
    content_is new old.starts (on which call ∷ old.calls) other i (calls_on other old.calls) starts calls (calls_on-other which other call old.calls apart)

on_the_same : (old new : Disks) (which : ℕ) (call : Call) → new.starts ≡ old.starts → new.calls ≡ on which call ∷ old.calls
    → (i : ℕ) → touches call i ≡ false → content new which i ≡ content old which i
on_the_same old new which call starts calls i un =
    content_is new old.starts (on which call ∷ old.calls) which i (call ∷ calls_on which old.calls) starts calls (calls_on-same which call old.calls)
    ∙ byte_at-untouched (bytes_of old.starts which) call (calls_on which old.calls) i un

untouched : (old new : Disks) (which : ℕ) (call : Call) → new.starts ≡ old.starts → new.calls ≡ on which call ∷ old.calls
    → (other i : ℕ) → touches call i ≡ false → (test : Bool) → (which == other) ≡ test → content new other i ≡ content old other i
untouched old new which call starts calls other i un true tested =
    rw (same_if which other tested) (on_the_same old new which call starts calls i un)
untouched old new which call starts calls other i un false tested =
    on_another old new which call starts calls other i (apart_if which other tested)

pub other_bytes_stay : OtherBytesStay
other_bytes_stay old new which call starts calls other i (inl apart) = on_another old new which call starts calls other i apart
other_bytes_stay old new which call starts calls other i (inr un) = untouched old new which call starts calls other i un (which == other) refl

-- lists that have the same byte at each place
pub same_bytes : (xs ys : List ℕ) → length xs ≡ length ys → ((i : ℕ) → i < length ys → slice_get xs i ≡ slice_get ys i) → xs ≡ ys
same_bytes xs ys same are =
    ext_get_or 0 xs ys same (λ i below.
    let inside : i < length ys = omega (arith, same, below) in
    get_or_from_slice_get xs i (get_or ys i 0) 0 (are i inside ∙ slice_get-get_or ys i 0 inside))

pub honest_reads_give : HonestReadsGive
honest_reads_give old new which at buffer bytes starts calls honest same stands =
    let P : List (List ℕ) → Type 0 = λ them. AreHonestSince (length old.calls) them new.calls in
    let Q : List JointCall → Type 0 = AreHonestSince (length old.calls) old.starts in
    let agrees = (subst Q calls (subst P starts honest)).0 (omega arith) in
    same_bytes buffer bytes same (λ i below.
    let is : slice_get bytes i ≡ Some (get_or bytes i 0) = slice_get-get_or bytes i 0 below in
    agrees i (get_or bytes i 0) (omega (arith, same, below)) (stands i below ∙ is) ∙ sym is)

later_is_honest : (starts : List (List ℕ)) (first later : ℕ) (calls : List JointCall) → first ≤ later → AreHonestSince first starts calls → AreHonestSince later starts calls
later_is_honest starts first later [] le honest = tt
later_is_honest starts first later (made ∷ calls) le honest =
    (λ late. honest.0 (omega (arith, le, late)), later_is_honest starts first later calls le honest.1)

pub parts_are_honest : PartsAreHonest
parts_are_honest starts first later [] calls le honest = later_is_honest starts first later calls le honest
parts_are_honest starts first later (made ∷ newer) calls le honest = parts_are_honest starts first later newer calls le honest.1

pub parts_of_one_are_honest : PartsOfOneAreHonest
parts_of_one_are_honest start first later newer calls le honest =
    HonestSince-later first later start calls le (HonestSince-earlier first start newer calls honest)

neither : (a b : Bool) → (a || b) ≡ false → (a ≡ false) × (b ≡ false)
neither true b none = cc
neither false b none = (refl, none)

stays_clean : (call : Call) (calls : List Call) (i : ℕ) → touches call i ≡ false → is_dirty calls i ≡ false → is_dirty (call ∷ calls) i ≡ false
stays_clean (Read at bytes) calls i un clean = clean
stays_clean (FailedRead at n) calls i un clean = clean
stays_clean (Wrote at bytes) calls i un clean = rw un clean
stays_clean (FailedWrite at bytes) calls i un clean = rw un clean
stays_clean Flushed calls i un clean = refl
stays_clean FailedFlush calls i un clean = clean

-- bytes that no call touched since are as they were, and clean if they were
pub untouched_since : (start : List ℕ) (newer calls : List Call) (i : ℕ) → list_any (λ call. touches call i) newer ≡ false
    → (byte_at start (newer ++ calls) i ≡ byte_at start calls i) × (is_dirty calls i ≡ false → is_dirty (newer ++ calls) i ≡ false)
untouched_since start [] calls i none = (refl, λ clean. clean)
untouched_since start (call ∷ newer) calls i none =
    let each = neither (touches call i) (list_any (λ it. touches it i) newer) none in
    let rest = untouched_since start newer calls i each.1 in
    (byte_at-untouched start call (newer ++ calls) i each.0 ∙ rest.0, λ clean. stays_clean call (newer ++ calls) i each.0 (rest.1 clean))

pub flushed_bytes_stay : FlushedBytesStay
flushed_bytes_stay start newer calls image left i value none known =
    let since = untouched_since start newer (Flushed ∷ calls) i none in
    left.kept i value (since.1 refl) (since.0 ∙ known)

append_none : (calls : List Call) → calls ++ [] ≡ calls
append_none [] = refl
append_none (call ∷ calls) = ap (λ rest. call ∷ rest) (append_none calls)

pub unwritten_disks_stay : UnwrittenDisksStay
unwritten_disks_stay start calls image none left =
    same_bytes image start left.size (λ i below.
    let since = untouched_since start calls [] i (none i) in
    let is : slice_get start i ≡ Some (get_or start i 0) = slice_get-get_or start i 0 below in
    let bytes : byte_at start calls i ≡ slice_get start i = ap (λ them. byte_at start them i) (sym (append_none calls)) ∙ since.0 in
    let clean : is_dirty calls i ≡ false = ap (λ them. is_dirty them i) (sym (append_none calls)) ∙ since.1 refl in
    left.kept i (get_or start i 0) clean (bytes ∙ is) ∙ sym is)

pub writes_add_images : WritesAddImages
writes_add_images start calls at bytes image = (
  λ left. MayLeave-FailedWrite start calls at bytes image (MayLeave-before_FailedWrite start calls at bytes image left),
  λ left. MayLeave-Wrote start calls at bytes image left,
  λ left. MayLeave-FailedWrite start calls at bytes image left,
)
