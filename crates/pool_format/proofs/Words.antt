-- Guids that are words of 64 bits.
use Rattle.std.proofs.Common.{◌≡◌, ◌<◌, ℕ, zero, suc, ◌^◌, List, [], ◌∷◌, ◌++◌, length, map, drop, get_or, All, sym, subst, arith}
use Rattle.std.proofs.lemmas.List.Elements.{All-append, All-cons, All-nil}
use Rattle.words.specs.Words.{AreWords}
use Rattle.vdev_label.specs.Config.{guids}
use Rattle.vdev_label.specs.Limits.{IsAllowed}
use Rattle.vdev_label.specs.Pairs.{InRange}
use Rattle.vdev_label.specs.Plain.{PlainLabel, PlainVdev, vdev_view}
use Rattle.vdev_label.specs.Room.{AllowedHasRoom}
use Rattle.vdev_label.specs.declared.label.Vdev.{Vdev}
use Rattle.pool_slots.specs.Labels.{IsValid}
use Rattle.pool_format.specs.Labels.{children_of, of_child}
use Rattle.pool_format.specs.declared.children.Child.{Child}

pub words_of : (xs : List ℕ) → ((k : ℕ) → k < length xs → get_or xs k 0 < 2 ^ 64) → AreWords xs
words_of [] each = tt
words_of (x ∷ xs) each = (each 0 (omega arith), words_of xs (λ k below. each (suc k) (omega (arith, below))))

pub words_joined : (xs ys : List ℕ) → AreWords xs → AreWords ys → AreWords (xs ++ ys)
words_joined [] ys first second = second
words_joined (x ∷ xs) ys first second = (first.0, words_joined xs ys first.1 second)

words_parted : (xs ys : List ℕ) → AreWords (xs ++ ys) → AreWords xs × AreWords ys
words_parted [] ys it = (tt, it)
words_parted (x ∷ xs) ys it = let rest = words_parted xs ys it.1 in ((it.0, rest.0), rest.1)

-- one vdev more of those that are left
pub words_more : (vdevs : List Vdev) (i : ℕ) (v : Vdev) → i < length vdevs → v ≡ get_or vdevs i v → AreWords (v.guid ∷ v.children.items) → AreWords (guids (map vdev_view (drop (suc i) vdevs)))
    → AreWords (guids (map vdev_view (drop i vdevs)))
words_more [] i v below is here rest = absurd (omega (arith, below))
words_more (x ∷ xs) zero v below is here rest =
    let P : Vdev → Type 0 = λ it. AreWords (it.guid ∷ it.children.items) in
    words_joined (x.guid ∷ x.children.items) (guids (map vdev_view xs)) (subst P is here) rest
words_more (x ∷ xs) (suc i) v below is here rest = words_more xs i v (omega (arith, below)) is here rest

-- ---- children

abbrev IsWordChild : Child → Type 0
IsWordChild child = (child.guid < 2 ^ 64) × (child.top_guid < 2 ^ 64)

in_vdev : (top : ℕ) (them : List ℕ) → top < 2 ^ 64 → AreWords them → All IsWordChild (map (λ guid. record { top_guid = top; guid = guid }) them)
in_vdev top [] is all = All-nil IsWordChild
in_vdev top (x ∷ xs) is all =
    All-cons IsWordChild (record { top_guid = top; guid = x }) (map (λ guid. record { top_guid = top; guid = guid }) xs) (all.0, is) (in_vdev top xs is all.1)

all_words : (vdevs : List PlainVdev) → AreWords (guids vdevs) → All IsWordChild (children_of vdevs)
all_words [] all = All-nil IsWordChild
all_words (v ∷ vs) all =
    let parts = words_parted (v.guid ∷ v.children) (guids vs) all in
    All-append IsWordChild (map (λ guid. record { top_guid = v.guid; guid = guid }) v.children) (children_of vs) (in_vdev v.guid v.children parts.0.0 parts.0.1) (all_words vs parts.1)

-- a label of each has room
pub all_valid : AllowedHasRoom → (l : PlainLabel) (children : List Child) → children ≡ children_of l.vdevs → AreWords (guids l.vdevs) → l.pool_guid < 2 ^ 64 → InRange l → IsAllowed l.pool_guid l.vdevs
    → (k : ℕ) (d : Child) → k < length children → IsValid (of_child l (get_or children k d))
all_valid room l children are words pool range allowed k d below =
    let P : List Child → Type 0 = All IsWordChild in
    let child : Child = get_or children k d in
    let fits = subst P (sym are) (all_words l.vdevs words) k d below in
    let in_range : InRange (of_child l child) =
    record { claim_from = range.claim_from; claim_to = range.claim_to; group_from = range.group_from; group_to = range.group_to; name = range.name } in
    record { in_range = in_range; room = room (of_child l child) in_range allowed (fits.0, (fits.1, (pool, words))) }
