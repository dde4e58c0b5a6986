-- Blocks that writes leave.
use Rattle.std.proofs.Common.{◌≡◌, ◌⊎◌, ⊎_elim, inl, inr, ℕ, suc, ◌+◌, ◌-◌, ◌*◌, ◌/◌, ◌<◌, ◌≤◌, Bool, true, false, nat_le, List, [], ◌∷◌, ◌++◌, take, drop, length, refl, sym, ap, ◌∙◌, subst, arith}
use Rattle.std.specs.Prelude.{◌&&◌, Any, Contains, cond, not, slice_range}
use Rattle.std.proofs.lemmas.Bool.{cases_lt, cases_eq}
use Rattle.std.proofs.lemmas.Bool.Decides.{nat_tests}
use Rattle.std.proofs.lemmas.List.Edits.{length-between}
use Rattle.std.proofs.Math.Nat.{mul-le-mul_left}
use Rattle.pool_model.specs.declared.item.Write.{Write}
use Rattle.pool_model.specs.declared.volume.PlainVolume.{PlainVolume}
use Rattle.pool_model.specs.Names.{same, stored}
use Rattle.pool_model.specs.Pools.{is_snapshot, volume_after}
use Rattle.volume_rules.specs.declared.shape.VolumeShape.{VolumeShape}
use Rattle.volume_rules.specs.Overlay.{after_writes}
use Rattle.pool_model.proofs.Places.{same_is, name_after}
use Rattle.volume_rules.proofs.Ranges.{untouched}
use Rattle.volume_rules.proofs.Volumes.{shape_after}
use Rattle.raidz_io.proofs.Calls.{Contains-front, Contains-later, Contains-cases}
use Rattle.volume.specs.declared.volume.VolumeSet.{VolumeSet}
use Rattle.volume.specs.Volume.{part}
use Rattle.volume.specs.Writing.{Reaches, IsChanged}

length-part : (array : List ℕ) (block_size id : ℕ) → id * block_size + block_size ≤ length array → length (part array block_size id) ≡ block_size
length-part array block_size id fits =
    length-between array (id * block_size) (id * block_size + block_size) fits ∙ (let e : id * block_size + block_size - id * block_size ≡ block_size = omega arith in e)

-- bytes that are stored elsewhere, or nowhere
stored_elsewhere : (array : List ℕ) (write : Write) (block_size id : ℕ) → id * block_size + block_size ≤ length array
    → (Reaches (length array) block_size write id → ⊥) → part (stored write.offset write.bytes array) block_size id ≡ part array block_size id
stored_elsewhere array write block_size id fits apart = cases (nat_le (write.offset + length write.bytes) (length array)) refl
  where
    size : length (part array block_size id) ≡ block_size
    size = length-part array block_size id fits

    elsewhere : (within : write.offset + length write.bytes ≤ length array) (k : ℕ) → k < length (part array block_size id)
        → (id * block_size + k < write.offset) ⊎ (write.offset + length write.bytes ≤ id * block_size + k)
    elsewhere within k lt =
        ⊎_elim (λ before. inl before)
        (λ from. ⊎_elim
        (λ to. absurd (apart (record { within = within; some = omega arith; begins = let e = size in omega arith; ends = omega arith })))
        (λ behind. inr behind) (cases_lt (id * block_size + k) (write.offset + length write.bytes)))
        (cases_lt (id * block_size + k) write.offset)

    cases : (b : Bool) → nat_le (write.offset + length write.bytes) (length array) ≡ b → part (stored write.offset write.bytes array) block_size id ≡ part array block_size id
    cases true e =
        let within : write.offset + length write.bytes ≤ length array = grind (arith, nat_tests, e) in
        sym (untouched (part array block_size id) array write.bytes write.offset (id * block_size) within (let e = size in omega arith) (elsewhere within)
        (ap (λ n. slice_range array (id * block_size) (id * block_size + n)) (sym size))
        ∙ ap (λ n. slice_range (stored write.offset write.bytes array) (id * block_size) (id * block_size + n)) size)
    cases false e = ap (λ (b : Bool). part (cond b (take write.offset array ++ (write.bytes ++ drop (write.offset + length write.bytes) array)) array) block_size id) e

first_holds : (a b : Bool) → (a && b) ≡ true → a ≡ true
first_holds true b e = refl
first_holds false b e = e

after_one : (volume : PlainVolume) (name : List ℕ) (write : Write) (block_size id : ℕ) → volume.name ≡ name → id * block_size + block_size ≤ length volume.bytes
    → ((write.volume ≡ name) × Reaches (length volume.bytes) block_size write id → ⊥) → part (volume_after write volume).bytes block_size id ≡ part volume.bytes block_size id
after_one volume name write block_size id named fits apart = cases (same volume.name write.volume && not (is_snapshot volume.kind)) refl
  where
    cases : (b : Bool) → (same volume.name write.volume && not (is_snapshot volume.kind)) ≡ b
        → part (volume_after write volume).bytes block_size id ≡ part volume.bytes block_size id
    cases true e =
        ap (λ (b : Bool). let v : PlainVolume = cond b (record volume { bytes = stored write.offset write.bytes volume.bytes }) volume in part v.bytes block_size id) e
        ∙ stored_elsewhere volume.bytes write block_size id fits
        (λ reaches. let meant = first_holds (same volume.name write.volume) (not (is_snapshot volume.kind)) e in
        apart (sym (same_is volume.name write.volume meant) ∙ named, reaches))
    cases false e = ap (λ (b : Bool). let v : PlainVolume = cond b (record volume { bytes = stored write.offset write.bytes volume.bytes }) volume in part v.bytes block_size id) e

pub Any-front : {X : Type 0} (P : X → Type 0) (x : X) (xs : List X) → P x → Any P (x ∷ xs)
Any-front P x xs here = (0, x, omega arith, refl, here)

pub Any-later : {X : Type 0} (P : X → Type 0) (x : X) (xs : List X) → Any P xs → Any P (x ∷ xs)
Any-later P x xs any = (suc any.0, any.1, omega (arith, any.2), any.3, any.4)

-- a block that no write reaches
pub after_others : (volume : PlainVolume) (name : List ℕ) (writes : List Write) (size block_size id : ℕ) → volume.name ≡ name → length volume.bytes ≡ size
    → id * block_size + block_size ≤ size → (Any (λ write. (write.volume ≡ name) × Reaches size block_size write id) writes → ⊥)
    → part (after_writes volume writes).bytes block_size id ≡ part volume.bytes block_size id
after_others volume name [] size block_size id named is fits apart = refl
after_others volume name (write ∷ writes) size block_size id named is fits apart =
    after_others (volume_after write volume) name writes size block_size id (name_after write volume ∙ named)
    (ap (λ (s : VolumeShape). s.size) (shape_after write volume) ∙ is) fits (λ any. apart (Any-later _ write writes any))
    ∙ after_one volume name write block_size id named (subst (λ n. id * block_size + block_size ≤ n) (sym is) fits)
    (λ here. apart (Any-front _ write writes (subst (λ n. (write.volume ≡ name) × Reaches n block_size write id) is here)))

-- each block that is changed is one of the volume's
pub changed_below : (volume : VolumeSet) (name : List ℕ) (writes : List Write) (id : ℕ) → IsChanged volume name writes id → id < volume.size / volume.block_size
changed_below volume name writes id changed =
    let reaches = changed.4.1 in
    let inside : id * volume.block_size < volume.size = let within = reaches.within in let ends = reaches.ends in omega arith in
    ⊎_elim (λ lt. lt)
    (λ past. let more : volume.block_size * (volume.size / volume.block_size) ≤ volume.block_size * id = mul-le-mul_left volume.block_size past in
    let whole = volume.whole in absurd (omega arith))
    (cases_lt id (volume.size / volume.block_size))

pub held_or_not : (xs : List ℕ) (x : ℕ) → Contains xs x ⊎ (Contains xs x → ⊥)
held_or_not [] x = inr (λ held. absurd (omega (arith, held.1)))
held_or_not (y ∷ ys) x =
    ⊎_elim (λ is. inl (subst (λ z. Contains (y ∷ ys) z) is (Contains-front y ys)))
    (λ apart. ⊎_elim (λ held. inl (Contains-later y ys x held)) (λ none. inr (λ held. ⊎_elim (λ first. absurd (apart (let e : y ≡ x = cc in e))) (λ later. none later) (Contains-cases y ys x held))) (held_or_not ys x))
    (cases_eq y x)
