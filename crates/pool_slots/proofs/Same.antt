-- Uberblocks with the same spelling have the same rank.
use Rattle.std.proofs.Common.{◌≡◌, ℕ, List, [], ◌∷◌, ◌++◌, length, take, drop, Result, refl, sym, ap, ◌∙◌, arith}
use Rattle.std.proofs.lemmas.List.{take_at, drop_at}
use Rattle.std.proofs.lemmas.List.Concat.{flat_map-cons}
use Rattle.std.proofs.lemmas.Nat.{from_le_bytes-to_le_bytes_8}
use Rattle.std.specs.Int.{w64, to_le_bytes, from_le_bytes}
use Rattle.words.specs.Words.{AreWords, word_bytes}
use Rattle.words.proofs.SealLemmas.{seal_parts}
use Rattle.uberblock_ring.specs.declared.uberblock.Uberblock.{Uberblock}
use Rattle.uberblock_ring.specs.Uberblock.{Fits, head_words}
use Rattle.model_disk.specs.Call.{Wrote, write_call}
use Rattle.model_disk.specs.Joint.{Disks, on}
use Rattle.uberblock_ring.specs.Place as place
use Rattle.uberblock_ring.specs.Slot.{front_bytes, slot_bytes, slot_number}
use Rattle.uberblock_ring.proofs.Fronts.{fields_of, AreWords-head}
use Rattle.pool_slots.specs.Slots.{spelled, slot_at}

length-word : (w : ℕ) → length (to_le_bytes w64 w) ≡ 8
length-word w = refl

words_same : (ws vs : List ℕ) → length ws ≡ length vs → AreWords ws → AreWords vs → word_bytes ws ≡ word_bytes vs → ws ≡ vs
words_same [] [] len fits also e = refl
words_same [] (v ∷ vs) len fits also e = absurd cc
words_same (w ∷ ws) [] len fits also e = absurd cc
words_same (w ∷ ws) (v ∷ vs) len fits also e =
    let parts : to_le_bytes w64 w ++ word_bytes ws ≡ to_le_bytes w64 v ++ word_bytes vs =
    sym (flat_map-cons (to_le_bytes w64) w ws) ∙ e ∙ flat_map-cons (to_le_bytes w64) v vs in
    let first : to_le_bytes w64 w ≡ to_le_bytes w64 v =
    sym (take_at (to_le_bytes w64 w) (word_bytes ws) 8 (length-word w)) ∙ ap (take 8) parts ∙ take_at (to_le_bytes w64 v) (word_bytes vs) 8 (length-word v) in
    let others : word_bytes ws ≡ word_bytes vs =
    sym (drop_at (to_le_bytes w64 w) (word_bytes ws) 8 (length-word w)) ∙ ap (drop 8) parts ∙ drop_at (to_le_bytes w64 v) (word_bytes vs) 8 (length-word v) in
    let one : w ≡ v = sym (from_le_bytes-to_le_bytes_8 w fits.0) ∙ ap (from_le_bytes w64) first ∙ from_le_bytes-to_le_bytes_8 v also.0 in
    let rest : ws ≡ vs = words_same ws vs (cc) fits.1 also.1 others in
    cc

pub record SameRank (u v : Uberblock) : Type 0 where
  pub group : u.group ≡ v.group
  pub claim : u.claim ≡ v.claim

third : (a b c d e a' b' c' d' e' : ℕ) → (a ∷ b ∷ c ∷ d ∷ e ∷ []) ≡ (a' ∷ b' ∷ c' ∷ d' ∷ e' ∷ []) → c ≡ c'
third a b c d e a' b' c' d' e' same = cc

only_one : (a b : ℕ) → (a ∷ []) ≡ (b ∷ []) → a ≡ b
only_one a b same = cc

pub same_rank : (u v : Uberblock) → Fits u → Fits v → spelled u ≡ spelled v → SameRank u v
unfolding spelled
same_rank u v fits also same =
    let front : front_bytes u ≡ front_bytes v =
    sym (seal_parts (slot_bytes u) (front_bytes u) refl).front_is ∙ (seal_parts (slot_bytes u) (front_bytes v) same).front_is in
    let one = fields_of (front_bytes u) u fits refl in
    let other = fields_of (front_bytes u) v also front in
    let head : head_words u ≡ head_words v = words_same (head_words u) (head_words v) refl (AreWords-head u fits) (AreWords-head v also) (sym one.head_is ∙ other.head_is) in
    let claim : (u.claim ∷ []) ≡ (v.claim ∷ []) =
    words_same (u.claim ∷ []) (v.claim ∷ []) refl (omega (arith, fits.claim.1), tt) (omega (arith, also.claim.1), tt) (sym one.claim_is ∙ other.claim_is) in
    record { group = third _ _ u.group _ _ _ _ v.group _ _ head; claim = only_one u.claim v.claim claim }

pub spelled_is : (u : Uberblock) → slot_bytes u ≡ spelled u
unfolding spelled
spelled_is u = refl

-- the write of a slot, in the words of these clauses
pub slot_call : {T E : Type 0} (r : Result T E) (old new : Disks) (which size label : ℕ) (u : Uberblock)
    → new.calls ≡ on which (write_call r (place.slot_at size label (slot_number u.group)) (slot_bytes u)) ∷ old.calls
    → new.calls ≡ on which (write_call r (slot_at size label (slot_number u.group)) (spelled u)) ∷ old.calls
unfolding slot_at spelled
slot_call r old new which size label u is = is

pub slot_at_is : (size label slot : ℕ) → place.slot_at size label slot ≡ slot_at size label slot
unfolding slot_at
slot_at_is size label slot = refl

pub slot_wrote : (old new : Disks) (which size label : ℕ) (u : Uberblock)
    → new.calls ≡ on which (Wrote (place.slot_at size label (slot_number u.group)) (slot_bytes u)) ∷ old.calls
    → new.calls ≡ on which (Wrote (slot_at size label (slot_number u.group)) (spelled u)) ∷ old.calls
unfolding slot_at spelled
slot_wrote old new which size label u is = is
