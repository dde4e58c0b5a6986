-- A worker's row, and what is gathered, with one item more.
use Rattle.std.proofs.Common.{◌≡◌, ℕ, zero, suc, ◌+◌, ◌%◌, Bool, true, false, List, [], ◌∷◌, ◌++◌, length, refl, sym, ap, ◌∙◌, subst, arith, append_assoc}
use Rattle.std.specs.Prelude.{map, ◌==◌, if◌then◌else◌}
use Rattle.std.specs.List.{AllByRecursion}
use Rattle.std.proofs.lemmas.Bool.Decides.{nat_tests}
use Rattle.std.proofs.lemmas.List.{append-nil}
use Rattle.worker_items.specs.declared.items.Made.{Made}
use Rattle.worker_items.specs.Parts.{own_of, numbers_of, AreItems, IsPart}

own_yes : (w k n : ℕ) → n % w ≡ k → own_of w k n ≡ n ∷ []
own_yes w k n is =
    let yes : (n % w == k) ≡ true = grind (arith, nat_tests) in
    ap (λ (b : Bool). if b then n ∷ [] else []) yes

own_no : (w k n : ℕ) → (n % w ≡ k → ⊥) → own_of w k n ≡ []
own_no w k n other =
    let no : (n % w == k) ≡ false = grind (arith, nat_tests) in
    ap (λ (b : Bool). if b then n ∷ [] else []) no

numbers_more : (w k from n : ℕ) → numbers_of w k from (suc n) ≡ numbers_of w k from n ++ own_of w k (from + n)
numbers_more w k from zero = append-nil (own_of w k from) ∙ ap (own_of w k) (omega arith)
numbers_more w k from (suc n) =
    let here : own_of w k (suc from + n) ≡ own_of w k (from + suc n) = ap (own_of w k) (omega arith) in
    ap (λ xs. own_of w k from ++ xs) (numbers_more w k (suc from) n ∙ ap (λ xs. numbers_of w k (suc from) n ++ xs) here)
    ∙ sym (append_assoc (own_of w k from) (numbers_of w k (suc from) n) (own_of w k (from + suc n)))

numbers_next : (w k n : ℕ) → numbers_of w k 0 (n + 1) ≡ numbers_of w k 0 n ++ own_of w k n
numbers_next w k n =
    let same : n + 1 ≡ suc n = omega arith in
    let one_more : numbers_of w k 0 (n + 1) ≡ numbers_of w k 0 (suc n) = ap (numbers_of w k 0) same in
    let here : own_of w k (0 + n) ≡ own_of w k n = ap (own_of w k) (omega arith) in
    let last : numbers_of w k 0 n ++ own_of w k (0 + n) ≡ numbers_of w k 0 n ++ own_of w k n = ap (λ xs. numbers_of w k 0 n ++ xs) here in
    one_more ∙ numbers_more w k 0 n ∙ last

numbers_pushed : {T : Type 0} (row : List (Made T)) (made : Made T) → map (λ (m : Made T). m.number) (row ++ made ∷ []) ≡ map (λ (m : Made T). m.number) row ++ made.number ∷ []
numbers_pushed [] made = refl
numbers_pushed (m ∷ row) made = ap (λ xs. m.number ∷ xs) (numbers_pushed row made)

all_pushed : {A : Type 0} (P : A → Type 0) (xs : List A) (x : A) → AllByRecursion P xs → P x → AllByRecursion P (xs ++ x ∷ [])
all_pushed P [] x all p = (p, tt)
all_pushed P (y ∷ xs) x all p = (all.0, all_pushed P xs x all.1 p)

-- ---- a worker goes on by one number

pub part_made : {T : Type 0} (is_item : ℕ → T → Type 0) (w k n : ℕ) (item : T) (row more : List (Made T))
    → IsPart is_item w k 0 n row → n % w ≡ k → is_item n item → more ≡ row ++ record { number = n; item = item } ∷ [] → IsPart is_item w k 0 (n + 1) more
part_made {T} is_item w k n item row more before is right pushed =
    let made : Made T = record { number = n; item = item } in
    let own : numbers_of w k 0 n ++ own_of w k n ≡ numbers_of w k 0 n ++ n ∷ [] = ap (λ xs. numbers_of w k 0 n ++ xs) (own_yes w k n is) in
    let grown : map (λ (m : Made T). m.number) row ++ n ∷ [] ≡ numbers_of w k 0 n ++ n ∷ [] = ap (λ xs. xs ++ n ∷ []) before.numbers in
    subst (IsPart is_item w k 0 (n + 1)) (sym pushed) (record {
      numbers = numbers_pushed row made ∙ grown ∙ sym own ∙ sym (numbers_next w k n);
      right = all_pushed (λ (m : Made T). is_item m.number m.item) row made before.right right;
    })

pub part_passed : {T : Type 0} (is_item : ℕ → T → Type 0) (w k n : ℕ) (row : List (Made T)) → IsPart is_item w k 0 n row → (n % w ≡ k → ⊥) → IsPart is_item w k 0 (n + 1) row
part_passed is_item w k n row before other =
    let none : numbers_of w k 0 n ++ own_of w k n ≡ numbers_of w k 0 n ++ [] = ap (λ xs. numbers_of w k 0 n ++ xs) (own_no w k n other) in
    record { numbers = before.numbers ∙ sym (append-nil (numbers_of w k 0 n)) ∙ sym none ∙ sym (numbers_next w k n); right = before.right }

-- ---- what is gathered

pub items_pushed : {T : Type 0} (is_item : ℕ → T → Type 0) (items : List T) (item : T) → AreItems is_item items → is_item (length items) item → AreItems is_item (items ++ item ∷ [])
items_pushed is_item [] item before here zero d within = here
items_pushed is_item [] item before here (suc n) d within = absurd (omega (arith, within))
items_pushed is_item (x ∷ xs) item before here zero d within = before zero d (omega arith)
items_pushed is_item (x ∷ xs) item before here (suc n) d within = items_pushed (λ k. is_item (suc k)) xs item (λ k e w. before (suc k) e (omega (arith, w))) here n d (omega (arith, within))
