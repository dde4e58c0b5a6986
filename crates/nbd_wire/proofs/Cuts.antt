-- Messages cut into their fields.
use Rattle.std.proofs.Common.{◌≡◌, ℕ, ◌+◌, ◌*◌, ◌≤◌, List, [], ◌++◌, length, take, drop, refl, sym, ap, ◌∙◌, arith}
use Rattle.std.specs.Int.{w16, w32, to_be_bytes}
use Rattle.std.proofs.lemmas.List.{take-append-drop, drop-drop, take_at, drop_at, length-append, length-drop, nil_from_length}
use Rattle.nbd_wire.specs.Options.{SpellsInfoRequest}

-- a field, and what stands behind it
pub joined : (bs : List ℕ) (at n next : ℕ) (field rest : List ℕ) → at + n ≡ next → take n (drop at bs) ≡ field → drop next bs ≡ rest → drop at bs ≡ field ++ rest
joined bs at n next field rest place front back =
    sym (take-append-drop n (drop at bs))
    ∙ ap (λ (x : List ℕ). x ++ drop n (drop at bs)) front
    ∙ ap (λ (x : List ℕ). field ++ x) (drop-drop n at bs ∙ ap (λ (k : ℕ). drop k bs) place ∙ back)

-- nothing stands behind the last field
pub ended : (bs : List ℕ) (n : ℕ) → length bs ≤ n → drop n bs ≡ []
ended bs n short = nil_from_length (drop n bs) (omega (arith, length-drop n bs))

-- a name behind its length, and what stands behind it
pub record IsNamed (block : List ℕ) (len : ℕ) (name rest : List ℕ) : Type 0 where
  pub len_is : take 4 block ≡ to_be_bytes w32 len
  pub name_is : take len (drop 4 block) ≡ name
  pub rest_is : drop (4 + len) block ≡ rest

pub named : (block name rest : List ℕ) → block ≡ to_be_bytes w32 (length name) ++ (name ++ rest) → IsNamed block (length name) name rest
named block name rest e = record {
  len_is = ap (take 4) e;
  name_is = ap (λ (x : List ℕ). take (length name) (drop 4 x)) e ∙ take_at name rest (length name) refl;
  rest_is = sym (drop-drop (length name) 4 block) ∙ ap (λ (x : List ℕ). drop (length name) (drop 4 x)) e ∙ drop_at name rest (length name) refl;
}

-- how long the data are
pub length-request : (block name : List ℕ) (s : SpellsInfoRequest block name) → length block ≡ 6 + length name + 2 * s.count
length-request block name s =
    ap length s.bytes_are ∙ omega (arith, length-append name (to_be_bytes w16 s.count ++ s.kinds), s.as_many)

-- the count behind the name
pub count_at : (block name : List ℕ) (s : SpellsInfoRequest block name) → take 2 (drop (4 + length name) block) ≡ to_be_bytes w16 s.count
count_at block name s = ap (take 2) (named block name (to_be_bytes w16 s.count ++ s.kinds) s.bytes_are).rest_is
