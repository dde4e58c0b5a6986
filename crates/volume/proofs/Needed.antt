-- Ids of a list, and items of those that are not left out.
use Rattle.std.proofs.Common.{◌≡◌, ◌⊎◌, ⊎_elim, inl, inr, ℕ, zero, suc, ◌+◌, ◌<◌, List, [], ◌∷◌, ◌++◌, length, drop, get_or, Option, Some, None, Contains, refl, sym, ap, ◌∙◌, subst, arith}
use Rattle.std.specs.Prelude.{All, IfSome}
use Rattle.std.specs.List.{AllZip}
use Rattle.std.specs.List.Sorted.{IsStrictlyIncreasing}
use Rattle.std.proofs.lemmas.List.{get_or_default}
use Rattle.std.proofs.lemmas.List.Elements.{All-head, All-tail, All-contains, Contains-get_or}
use Rattle.std.proofs.lemmas.List.Kept.{AllPairs-from_increasing}
use Rattle.raidz_io.proofs.Calls.{Contains-front, Contains-later, Contains-cases, Contains-none}
use Rattle.volume.specs.InTurn.{HaveInTurn}

-- one id more, which is left out
pub in_turn_out : {X : Type 0} (IsOut : ℕ → Type 0) (R : ℕ → X → Type 0) (ids : List ℕ) (items : List X) (id : ℕ) → HaveInTurn IsOut R ids items → IsOut id
    → HaveInTurn IsOut R (ids ++ id ∷ []) items
in_turn_out IsOut R [] items id none out = inl (out, none)
in_turn_out IsOut R (other ∷ ids) items id (inl (is_out, rest)) out = inl (is_out, in_turn_out IsOut R ids items id rest out)
in_turn_out IsOut R (other ∷ ids) items id (inr (is_in, item, rest, are, here, have)) out =
    inr (is_in, item, rest, are, here, in_turn_out IsOut R ids rest id have out)

-- one id more, with its item
pub in_turn_more : {X : Type 0} (IsOut : ℕ → Type 0) (R : ℕ → X → Type 0) (ids : List ℕ) (items : List X) (id : ℕ) (last : X) → HaveInTurn IsOut R ids items → ¬ IsOut id → R id last
    → HaveInTurn IsOut R (ids ++ id ∷ []) (items ++ last ∷ [])
in_turn_more IsOut R [] items id last none is_in here = inr (is_in, last, [], ap (λ front. front ++ last ∷ []) none, here, refl)
in_turn_more IsOut R (other ∷ ids) items id last (inl (is_out, rest)) is_in here = inl (is_out, in_turn_more IsOut R ids items id last rest is_in here)
in_turn_more IsOut R (other ∷ ids) items id last (inr (other_in, item, rest, are, there, have)) is_in here =
    inr (other_in, item, rest ++ last ∷ [], ap (λ front. front ++ last ∷ []) are, there, in_turn_more IsOut R ids rest id last have is_in here)

-- the ids that are not left out, and items of them
pub in_turn_items : {X : Type 0} (IsOut : ℕ → Type 0) (R : ℕ → X → Type 0) (ids needed : List ℕ) (items : List X) → HaveInTurn IsOut (λ id same. same ≡ id) ids needed → AllZip R needed items
    → HaveInTurn IsOut R ids items
in_turn_items IsOut R [] [] [] none zip = refl
in_turn_items IsOut R [] [] (item ∷ items) none zip = absurd zip
in_turn_items IsOut R [] (other ∷ needed) items none zip = absurd (cc)
in_turn_items IsOut R (id ∷ ids) needed items (inl (is_out, have)) zip = inl (is_out, in_turn_items IsOut R ids needed items have zip)
in_turn_items {X} IsOut R (id ∷ ids) needed items (inr (is_in, other, rest, are, same, have)) zip =
    there items (λ more. in_turn_items IsOut R ids rest more have) (subst (λ (xs : List ℕ). AllZip R xs items) are zip)
  where
    there : (items : List X) → ((more : List X) → AllZip R rest more → HaveInTurn IsOut R ids more) → AllZip R (other ∷ rest) items → HaveInTurn IsOut R (id ∷ ids) items
    there [] later zip = absurd zip
    there (item ∷ more) later zip = inr (is_in, item, more, refl, subst (λ n. R n item) same zip.0, later more zip.1)

-- the ids that are not left out are those that are needed
pub needed_held : (IsOut : ℕ → Type 0) (ids needed : List ℕ) (id : ℕ) → HaveInTurn IsOut (λ id same. same ≡ id) ids needed → Contains needed id → Contains ids id × ¬ IsOut id
needed_held IsOut [] needed id none held = absurd (Contains-none id (subst (λ (xs : List ℕ). Contains xs id) none held))
needed_held IsOut (first ∷ ids) needed id (inl (is_out, have)) held =
    let there = needed_held IsOut ids needed id have held in (Contains-later first ids id there.0, there.1)
needed_held IsOut (first ∷ ids) needed id (inr (is_in, other, rest, are, same, have)) held =
    ⊎_elim
    (λ here.
    let is : first ≡ id = sym same ∙ sym here in
    (subst (λ n. Contains (first ∷ ids) n) is (Contains-front first ids), subst (λ n. ¬ IsOut n) is is_in))
    (λ later. let there = needed_held IsOut ids rest id have later in (Contains-later first ids id there.0, there.1))
    (Contains-cases other rest id (subst (λ (xs : List ℕ). Contains xs id) are held))

pub held_needed : (IsOut : ℕ → Type 0) (ids needed : List ℕ) (id : ℕ) → HaveInTurn IsOut (λ id same. same ≡ id) ids needed → Contains ids id → ¬ IsOut id → Contains needed id
held_needed IsOut [] needed id none held is_in = absurd (Contains-none id held)
held_needed IsOut (first ∷ ids) needed id (inl (is_out, have)) held is_in =
    ⊎_elim (λ here. absurd (is_in (subst IsOut (sym here) is_out))) (λ later. held_needed IsOut ids needed id have later is_in) (Contains-cases first ids id held)
held_needed IsOut (first ∷ ids) needed id (inr (first_in, other, rest, are, same, have)) held is_in =
    subst (λ (xs : List ℕ). Contains xs id) (sym are)
    (⊎_elim
    (λ here. subst (λ n. Contains (other ∷ rest) n) (same ∙ sym here) (Contains-front other rest))
    (λ later. Contains-later other rest id (held_needed IsOut ids rest id have later is_in))
    (Contains-cases first ids id held))

same_place : (xs : List ℕ) (k d : ℕ) → k < length xs → get_or xs k (get_or xs k d) ≡ get_or xs k d
same_place xs k d low = get_or_default xs k (get_or xs k d) d low

tail_increasing : (id : ℕ) (ids : List ℕ) → IsStrictlyIncreasing (id ∷ ids) → IsStrictlyIncreasing ids
tail_increasing id ids once k low =
    AllPairs-from_increasing (id ∷ ids) once (suc k) (suc (k + 1)) 0 (omega arith) (omega (arith, low))

front_increasing : (id : ℕ) (ids : List ℕ) → ((other : ℕ) → Contains ids other → id < other) → IsStrictlyIncreasing ids → IsStrictlyIncreasing (id ∷ ids)
front_increasing id ids low once zero within = low (get_or ids 0 0) (0, omega (arith, within), same_place ids 0 0 (omega (arith, within)))
front_increasing id ids low once (suc k) within =
    subst (λ n. get_or ids k 0 < get_or (id ∷ ids) n 0) (let e : suc (k + 1) ≡ suc k + 1 = omega arith in e) (once k (omega (arith, within)))

later_above : (id : ℕ) (ids : List ℕ) (other : ℕ) → IsStrictlyIncreasing (id ∷ ids) → Contains ids other → id < other
later_above id ids other once (k, within, is) =
    let above : id < get_or ids k other = AllPairs-from_increasing (id ∷ ids) once 0 (suc k) other (omega arith) (omega (arith, within)) in
    omega (arith, above, is)

-- they are in order
pub needed_once : (IsOut : ℕ → Type 0) (ids needed : List ℕ) → HaveInTurn IsOut (λ id same. same ≡ id) ids needed → IsStrictlyIncreasing ids → IsStrictlyIncreasing needed
needed_once IsOut [] needed none once = subst IsStrictlyIncreasing (sym none) once
needed_once IsOut (id ∷ ids) needed (inl (is_out, have)) once = needed_once IsOut ids needed have (tail_increasing id ids once)
needed_once IsOut (id ∷ ids) needed (inr (is_in, other, rest, are, same, have)) once =
    subst IsStrictlyIncreasing (sym are)
    (front_increasing other rest
    (λ n held. let above = later_above id ids n once (needed_held IsOut ids rest n have held).0 in omega (arith, above, same))
    (needed_once IsOut ids rest have (tail_increasing id ids once)))

-- where all are left out there are none
pub none_needed : {X : Type 0} (IsOut : ℕ → Type 0) (R : ℕ → X → Type 0) (ids : List ℕ) (items : List X) → HaveInTurn IsOut R ids items → All IsOut ids → items ≡ []
none_needed IsOut R [] items none all = none
none_needed IsOut R (id ∷ ids) items (inl (is_out, have)) all = none_needed IsOut R ids items have (All-tail IsOut id ids all)
none_needed IsOut R (id ∷ ids) items (inr (is_in, item, rest, are, here, have)) all = absurd (is_in (All-head IsOut id ids all))

-- each of them has what each of the ids has
pub all_needed : (IsOut : ℕ → Type 0) (P : ℕ → Type 0) (ids needed : List ℕ) → HaveInTurn IsOut (λ id same. same ≡ id) ids needed → All P ids → All P needed
all_needed IsOut P ids needed have all k d low =
    All-contains P ids (get_or needed k d) all (needed_held IsOut ids needed (get_or needed k d) have (k, low, same_place needed k d low)).0

-- the next id, and what is left behind it
abbrev pub IsNext : {X : Type 0} → (ℕ → Type 0) → (ℕ → X → Type 0) → ℕ → List ℕ → Option X → List X → Type 0
IsNext {X} IsOut R id ids next rest =
    ((IsOut id × (next ≡ None)) ⊎ ((¬ IsOut id) × (item : X) × (next ≡ Some item) × R id item)) × HaveInTurn IsOut R ids rest

pub next_in_turn : {X : Type 0} (IsOut : ℕ → Type 0) (R : ℕ → X → Type 0) (id : ℕ) (ids : List ℕ) (items rest : List X) (next : Option X) → HaveInTurn IsOut R (id ∷ ids) items
    → (IsOut id → (next ≡ None) × (rest ≡ items))
    → ((¬ IsOut id) → (item : X) (others : List X) → items ≡ item ∷ others → (next ≡ Some item) × (rest ≡ others))
    → IsNext IsOut R id ids next rest
next_in_turn IsOut R id ids items rest next (inl (is_out, have)) out taken =
    let same = out is_out in (inl (is_out, same.0), subst (λ xs. HaveInTurn IsOut R ids xs) (sym same.1) have)
next_in_turn IsOut R id ids items rest next (inr (is_in, item, others, are, here, have)) out taken =
    let same = taken is_in item others are in (inr (is_in, item, same.0, here), subst (λ xs. HaveInTurn IsOut R ids xs) (sym same.1) have)

pub next_out : {X : Type 0} (IsOut : ℕ → Type 0) (R : ℕ → X → Type 0) (id : ℕ) (ids : List ℕ) (next : Option X) (rest : List X) → IsNext IsOut R id ids next rest → next ≡ None → IsOut id
next_out IsOut R id ids next rest (inl (is_out, none), have) is = is_out
next_out {X} IsOut R id ids next rest (inr (is_in, item, some, here), have) is = let clash : Some item ≡ None = sym some ∙ is in absurd cc

pub next_item : {X : Type 0} (IsOut : ℕ → Type 0) (R : ℕ → X → Type 0) (id : ℕ) (ids : List ℕ) (next : Option X) (rest : List X) → IsNext IsOut R id ids next rest → IfSome next (R id)
next_item {X} IsOut R id ids next rest (inl (is_out, none), have) = subst (λ (n : Option X). IfSome n (R id)) (sym none) tt
next_item {X} IsOut R id ids next rest (inr (is_in, item, some, here), have) = subst (λ (n : Option X). IfSome n (R id)) (sym some) here

-- a list from a place within it on
pub from_place : (ids : List ℕ) (i d : ℕ) → i < length ids → drop i ids ≡ get_or ids i d ∷ drop (i + 1) ids
from_place [] i d low = absurd (omega (arith, low))
from_place (id ∷ ids) zero d low = refl
from_place (id ∷ ids) (suc i) d low =
    from_place ids i d (omega (arith, low)) ∙ ap (λ n. get_or ids i d ∷ drop n (id ∷ ids)) (let e : suc (i + 1) ≡ suc i + 1 = omega arith in e)

-- ---- lists side by side

pub zip_through : {A B C : Type 0} (R : A → B → Type 0) (S : B → C → Type 0) (T : A → C → Type 0) (xs : List A) (ys : List B) (zs : List C)
    → ((x : A) (y : B) (z : C) → R x y → S y z → T x z) → AllZip R xs ys → AllZip S ys zs → AllZip T xs zs
zip_through R S T [] [] [] so first then = tt
zip_through R S T [] [] (z ∷ zs) so first then = absurd then
zip_through R S T [] (y ∷ ys) zs so first then = absurd first
zip_through R S T (x ∷ xs) [] zs so first then = absurd first
zip_through R S T (x ∷ xs) (y ∷ ys) [] so first then = absurd then
zip_through R S T (x ∷ xs) (y ∷ ys) (z ∷ zs) so first then = (so x y z first.0 then.0, zip_through R S T xs ys zs so first.1 then.1)

-- what each has of itself
pub zip_each : {A B : Type 0} (P : B → Type 0) (xs : List A) (ys : List B) → length ys ≡ length xs → All P ys → AllZip (λ x y. P y) xs ys
zip_each P [] [] same all = tt
zip_each P [] (y ∷ ys) same all = absurd (omega (arith, same))
zip_each P (x ∷ xs) [] same all = absurd (omega (arith, same))
zip_each P (x ∷ xs) (y ∷ ys) same all = (All-head P y ys all, zip_each P xs ys (omega (arith, same)) (All-tail P y ys all))

pub zip_long : {A B : Type 0} (R : A → B → Type 0) (xs : List A) (ys : List B) → AllZip R xs ys → length ys ≡ length xs
zip_long R [] [] zip = refl
zip_long R [] (y ∷ ys) zip = absurd zip
zip_long R (x ∷ xs) [] zip = absurd zip
zip_long R (x ∷ xs) (y ∷ ys) zip = ap suc (zip_long R xs ys zip.1)

-- the two at one place
pub zip_at : {A B : Type 0} (R : A → B → Type 0) (xs : List A) (ys : List B) (k : ℕ) (x : A) (y : B) → AllZip R xs ys → k < length ys → R (get_or xs k x) (get_or ys k y)
zip_at R [] [] k x y zip low = absurd (omega (arith, low))
zip_at R [] (first ∷ ys) k x y zip low = absurd zip
zip_at R (first ∷ xs) [] k x y zip low = absurd zip
zip_at R (a ∷ xs) (b ∷ ys) zero x y zip low = zip.0
zip_at R (a ∷ xs) (b ∷ ys) (suc k) x y zip low = zip_at R xs ys k x y zip.1 (omega (arith, low))

-- what the first of the two gives
pub zip_left : {A B : Type 0} (R : A → B → Type 0) (P : A → Type 0) (xs : List A) (ys : List B) → ((x : A) (y : B) → R x y → P x) → AllZip R xs ys → All P xs
zip_left R P [] ys so zip k x low = absurd (omega (arith, low))
zip_left R P (a ∷ xs) [] so zip k x low = absurd zip
zip_left R P (a ∷ xs) (b ∷ ys) so zip zero x low = so a b zip.0
zip_left R P (a ∷ xs) (b ∷ ys) so zip (suc k) x low = zip_left R P xs ys so zip.1 k x (omega (arith, low))

-- the one beside an item of the second
pub zip_right : {A : Type 0} (R : ℕ → A → Type 0) (xs : List ℕ) (ys : List A) (k : ℕ) (y : A) → AllZip R xs ys → k < length ys → get_or ys k y ≡ y → (x : ℕ) × Contains xs x × R x y
zip_right {A} R xs ys k y zip low is =
    let x : ℕ = get_or xs k 0 in
    let long : length ys ≡ length xs = zip_long R xs ys zip in
    (x, Contains-get_or xs k 0 (omega (arith, low, long)), subst (λ (b : A). R x b) is (zip_at R xs ys k 0 y zip low))
