-- Disks that come back in the order in which they were handed in.
use Rattle.std.proofs.Common.{◌≡◌, ◌≢◌, ◌<◌, ◌≤◌, ◌∙◌, ℕ, zero, suc, ◌==◌, Bool, true, false, List, [], ◌∷◌, ◌++◌, length, map, slice_get, Option, Some, None, ap, sym, subst, refl, arith, append_assoc}
use Rattle.std.specs.Option.{option_and_then, option_to_list}
use Rattle.std.proofs.lemmas.Option.{slice_get_within}
use Rattle.model_disk.specs.Member.{disk_of}
use Rattle.model_disk.proofs.JointLemmas.{same_if, apart_if}
use Rattle.model_disk.specs.declared.member.Member.{Member}
use Rattle.pool_members.specs.HandedIn.{AreEachOfOne, AreHandedIn, child_in, disk_back, disks_back, own_places, place_of_disk, places_of_disks}
use Rattle.pool_members.specs.Namers.{place_of, AreNamers}
use Rattle.pool_members.specs.declared.arranging.Child.{Child}
use Rattle.pool_members.specs.declared.handed_in.Place.{Place}
use Rattle.pool_members.specs.declared.handed_in.Place.TheVariants.{OfChild, Unnamed}
use Rattle.pool_members.proofs.Naming.{last-at, last-other}

pub the_some : {A : Type 0} (x y : A) → Some x ≡ Some y → x ≡ y
the_some x y same = cc

-- ---- places are made one after the other

pub places_more : {D : Type 0} (front : List D) (namers : List (Option ℕ)) (d : D) (m : Option ℕ) → slice_get namers (length front) ≡ Some m
    → places_of_disks (front ++ d ∷ []) namers ≡ places_of_disks front namers ++ place_of_disk m d ∷ []
places_more [] [] d m at = absurd cc
places_more [] (n ∷ namers) d m at = ap (λ (o : Option ℕ). place_of_disk o d ∷ []) (the_some n m at)
places_more (e ∷ front) [] d m at = absurd cc
places_more (e ∷ front) (n ∷ namers) d m at = ap (λ zs. place_of_disk n e ∷ zs) (places_more front namers d m at)

pub places_many : {D : Type 0} (disks : List D) (namers : List (Option ℕ)) → length disks ≤ length namers → length (places_of_disks disks namers) ≡ length disks
places_many [] namers enough = refl
places_many (d ∷ disks) [] enough = absurd (omega (arith, enough))
places_many (d ∷ disks) (n ∷ namers) enough = ap suc (places_many disks namers (omega (arith, enough)))

-- ---- no two of them are one child's

named_by : {D : Type 0} (m : Option ℕ) (d : D) (child : ℕ) → place_of_disk m d ≡ OfChild child → m ≡ Some child
named_by None d child is = absurd cc
named_by (Some k) d child is = cc

namer_of : {D : Type 0} (disks : List D) (namers : List (Option ℕ)) (i child : ℕ) → slice_get (places_of_disks disks namers) i ≡ Some (OfChild child)
    → slice_get namers i ≡ Some (Some child)
namer_of [] namers i child at = absurd cc
namer_of (d ∷ disks) [] i child at = absurd cc
namer_of (d ∷ disks) (n ∷ namers) zero child at = ap Some (named_by n d child (the_some (place_of_disk n d) (OfChild child) at))
namer_of (d ∷ disks) (n ∷ namers) (suc i) child at = namer_of disks namers i child at

pub each_of_one : {D : Type 0} (count : ℕ) (children : List Child) (disks : List D) (namers : List (Option ℕ)) → AreNamers count children namers
    → AreEachOfOne (places_of_disks disks namers)
each_of_one count children disks namers named i j child first second =
    the_some i j (sym ((named.names i child).0 (namer_of disks namers i child first)) ∙ (named.names j child).0 (namer_of disks namers j child second))

pub one_more : {A : Type 0} (xs : List A) (x : A) → length (xs ++ x ∷ []) ≡ suc (length xs)
one_more [] x = refl
one_more (y ∷ xs) x = ap suc (one_more xs x)

pub own_many : (D : Type 0) (count : ℕ) → length (own_places {D = D} count) ≡ count
own_many D zero = refl
own_many D (suc count) = one_more (own_places {D = D} count) (OfChild count) ∙ ap suc (own_many D count)

of_child : (D : Type 0) (k child : ℕ) → ◌≡◌ {A = Place D} (OfChild k) (OfChild child) → k ≡ child
of_child D k child same = cc

own_last : (D : Type 0) (count i child : ℕ) (test : Bool) → (i == count) ≡ test → slice_get (own_places {D = D} (suc count)) i ≡ Some (OfChild child)
    → (slice_get (own_places {D = D} count) i ≡ Some (OfChild child) → i ≡ child) → i ≡ child
own_last D count i child true tested at earlier =
    let same : count ≡ i = same_if i count tested in
    let last : slice_get (own_places {D = D} (suc count)) i ≡ Some (OfChild count) =
    ap (slice_get (own_places {D = D} (suc count))) (sym same ∙ sym (own_many D count)) ∙ last-at (own_places {D = D} count) (OfChild count) in
    sym same ∙ of_child D count child (the_some (OfChild count) (OfChild child) (sym last ∙ at))
own_last D count i child false tested at earlier =
    earlier (sym (last-other (own_places {D = D} count) (OfChild count) i (λ same. apart_if i count tested (sym (same ∙ own_many D count)))) ∙ at)

own_is : (D : Type 0) (count i child : ℕ) → slice_get (own_places {D = D} count) i ≡ Some (OfChild child) → i ≡ child
own_is D zero i child at = absurd cc
own_is D (suc count) i child at = own_last D count i child (i == count) refl at (λ before. own_is D count i child before)

pub own_each : (D : Type 0) (count : ℕ) → AreEachOfOne (own_places {D = D} count)
own_each D count i j child first second = own_is D count i child first ∙ sym (own_is D count j child second)

-- one more of them
pub own_more : (D : Type 0) (places : List (Place D)) (n place m : ℕ) → places ≡ own_places n → place ≡ n → m ≡ suc n → places ++ OfChild place ∷ [] ≡ own_places m
own_more D places n place m are here more =
    ap (λ (them : List (Place D)). them ++ OfChild place ∷ []) are ∙ ap (λ (k : ℕ). own_places {D = D} n ++ OfChild k ∷ []) here ∙ ap (λ (k : ℕ). own_places {D = D} k) (sym more)

map_last : {A B : Type 0} (f : A → B) (xs : List A) (x : A) → map f (xs ++ x ∷ []) ≡ map f xs ++ f x ∷ []
map_last f [] x = refl
map_last f (y ∷ xs) x = ap (λ zs. f y ∷ zs) (map_last f xs x)

-- two lists that are alike, with one more that is
pub alike_more : {A B C : Type 0} (f : A → C) (h : B → C) (xs later : List A) (ys more : List B) (x : A) (y : B) → later ≡ xs ++ x ∷ [] → more ≡ ys ++ y ∷ [] → f x ≡ h y
    → map f xs ≡ map h ys → map f later ≡ map h more
alike_more f h xs later ys more x y grown longer is alike =
    ap (map f) grown ∙ map_last f xs x ∙ ap (λ zs. zs ++ f x ∷ []) alike ∙ ap (λ z. map h ys ++ z ∷ []) is ∙ sym (map_last h ys y) ∙ ap (map h) (sym longer)

-- ---- they come back

zero_not_suc : (n : ℕ) → zero ≡ suc n → ⊥
zero_not_suc n same = absurd (omega (arith, same))

less_one : (i j : ℕ) → suc i ≡ suc j → i ≡ j
less_one i j same = omega (arith, same)

-- those behind the first are each of one
pub rest_each : {D : Type 0} (place : Place D) (rest : List (Place D)) → AreEachOfOne (place ∷ rest) → AreEachOfOne rest
rest_each place rest each i j child first second = less_one i j (each (suc i) (suc j) child first second)

child_is : {D : Type 0} (place : Place D) (child : ℕ) → child_in place ≡ Some child → place ≡ OfChild child
child_is (OfChild k) child is = ap OfChild (the_some k child is)
child_is (Unnamed d) child is = absurd cc

-- and none of them is that of the first one's child
rest_others : {D : Type 0} (place : Place D) (rest : List (Place D)) → AreEachOfOne (place ∷ rest) → (j child : ℕ) → slice_get rest j ≡ Some (OfChild child)
    → child_in place ≢ Some child
rest_others place rest each j child at is = zero_not_suc j (each zero (suc j) child (ap Some (child_is place child is)) at)

same_back : {D : Type 0} (members later : List (Member D)) (rest : List (Place D))
    → ((j child : ℕ) → slice_get rest j ≡ Some (OfChild child) → slice_get later child ≡ slice_get members child) → disks_back later rest ≡ disks_back members rest
same_back members later [] same = refl
same_back members later (OfChild child ∷ rest) same =
    ap (λ (m : Option (Member _)). option_to_list (option_and_then disk_of m) ++ disks_back later rest) (same 0 child refl)
    ∙ ap (λ back. option_to_list (disk_back members (OfChild child)) ++ back) (same_back members later rest (λ j k at. same (suc j) k at))
same_back members later (Unnamed d ∷ rest) same =
    ap (λ back. d ∷ back) (same_back members later rest (λ j k at. same (suc j) k at))

-- the first of the places is taken
pub taken_first : {D : Type 0} (members later : List (Member D)) (place : Place D) (rest : List (Place D)) (done all : List D) (taken : Option D)
    → AreEachOfOne (place ∷ rest) → taken ≡ disk_back members place
    → ((child : ℕ) → child_in place ≢ Some child → slice_get later child ≡ slice_get members child)
    → done ++ disks_back members (place ∷ rest) ≡ all → (done ++ option_to_list taken) ++ disks_back later rest ≡ all
taken_first members later place rest done all taken each is others so_far =
    append_assoc done (option_to_list taken) (disks_back later rest)
    ∙ ap (λ (t : Option _). done ++ (option_to_list t ++ disks_back later rest)) is
    ∙ ap (λ back. done ++ (option_to_list (disk_back members place) ++ back))
    (same_back members later rest (λ j child at. others child (rest_others place rest each j child at)))
    ∙ so_far
