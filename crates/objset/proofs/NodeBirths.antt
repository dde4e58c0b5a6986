-- The births of the blocks of dnodes after writes.
use Rattle.std.proofs.Common.{◌≡◌, ◌≢◌, ◌⊎◌, ℕ, suc, ◌+◌, ◌/◌, ◌^◌, ◌<◌, ◌==◌, Bool, true, false, if◌then◌else◌, List, [], ◌∷◌, All, inl, inr, refl, sym, ap, ◌∙◌, arith}
use Rattle.std.specs.Prelude.{nat_lt, ◌&&◌}
use Rattle.std.specs.List.{Any}
use Rattle.std.proofs.lemmas.Bool.{ne_eqb, eq-eqb, cases_eq, cases_lt}
use Rattle.std.proofs.lemmas.Bool.Decides.{nat_tests}
use Rattle.std.proofs.lemmas.List.Elements.{All-nil, All-cons}
use Rattle.dnode_tree.specs.declared.writes.BlockWrite.{BlockWrite}
use Rattle.dnode_tree.specs.Births.{reaches, births_after}
use Rattle.objset.specs.declared.node_writes.NodeWrite.{NodeWrite}
use Rattle.objset.specs.NodeWrites.{births_written}

-- a block has a written dnode and is new, or has none and is as old as it was
pub record IsWritten (writes : List NodeWrite) (birth : ℕ) (births : ℕ → ℕ) (id : ℕ) : Type 0 where
  pub has : Any (λ write. write.number / 32 ≡ id) writes
  pub is : births_written writes birth births id ≡ birth

pub record IsLeft (writes : List NodeWrite) (birth : ℕ) (births : ℕ → ℕ) (id : ℕ) : Type 0 where
  pub none : All (λ write. write.number / 32 ≢ id) writes
  pub is : births_written writes birth births id ≡ births id

pub written_or_left : (writes : List NodeWrite) (birth : ℕ) (births : ℕ → ℕ) (id : ℕ) → IsWritten writes birth births id ⊎ IsLeft writes birth births id
written_or_left [] birth births id = inr (record { none = All-nil (λ (write : NodeWrite). write.number / 32 ≢ id); is = refl })
written_or_left (write ∷ writes) birth births id =
    elim (cases_eq (write.number / 32) id) [
      | inl same ↦ inl (record {
        has = (0, write, omega arith, refl, same);
        is = ap (λ test. if test then birth else births_written writes birth births id) (eq-eqb (write.number / 32) id same);
      })
      | inr apart ↦
          let past : births_written (write ∷ writes) birth births id ≡ births_written writes birth births id =
          ap (λ test. if test then birth else births_written writes birth births id) (ne_eqb (write.number / 32) id apart) in
          elim (written_or_left writes birth births id) [
            | inl there ↦ let (k, other, under, is, same) = there.has in inl (record { has = (suc k, other, omega (arith, under), is, same); is = past ∙ there.is })
            | inr left ↦ inr (record { none = All-cons (λ (w : NodeWrite). w.number / 32 ≢ id) write writes apart left.none; is = past ∙ left.is })
          ]
    ]

lt_false : (a b : ℕ) → (a < b → ⊥) → nat_lt a b ≡ false
lt_false a b not = grind (arith, nat_tests)

lt_true : (a b : ℕ) → a < b → nat_lt a b ≡ true
lt_true a b lt = grind (arith, nat_tests)

same_arms : (test found : Bool) → (if test then found else found) ≡ found
same_arms true found = refl
same_arms false found = refl

here : (a b : ℕ) (rest : Bool) → a ≡ b → (if nat_lt a b then rest else (if nat_lt a (b + 128 ^ 0) then true else rest)) ≡ true
here a b rest same =
    ap (λ test. if test then rest else (if nat_lt a (b + 128 ^ 0) then true else rest)) (lt_false a b (λ lt. omega (arith, lt, same)))
    ∙ ap (λ test. if test then true else rest) (lt_true a (b + 128 ^ 0) (omega (arith, same)))

passes : (a b : ℕ) (rest : Bool) → a ≢ b → (if nat_lt a b then rest else (if nat_lt a (b + 128 ^ 0) then true else rest)) ≡ rest
passes a b rest apart =
    elim (cases_lt a b) [
      | inl lt ↦ ap (λ test. if test then rest else (if nat_lt a (b + 128 ^ 0) then true else rest)) (lt_true a b lt)
      | inr le ↦
          ap (λ test. if nat_lt a b then rest else (if test then true else rest)) (lt_false a (b + 128 ^ 0) (λ lt. apart (omega (arith, lt, le))))
          ∙ same_arms (nat_lt a b) rest
    ]

-- the same of the blocks that are written
reached_or_not : (blocks : List BlockWrite) (id : ℕ)
    → (Any (λ block. block.id ≡ id) blocks × (reaches blocks 0 id ≡ true)) ⊎ (All (λ block. block.id ≢ id) blocks × (reaches blocks 0 id ≡ false))
reached_or_not [] id = inr (All-nil (λ (block : BlockWrite). block.id ≢ id), refl)
reached_or_not (block ∷ blocks) id =
    elim (cases_eq block.id id) [
      | inl same ↦ inl ((0, block, omega arith, refl, same), here block.id id (reaches blocks 0 id) same)
      | inr apart ↦
          elim (reached_or_not blocks id) [
            | inl there ↦ let (k, other, under, is, same) = there.0 in inl ((suc k, other, omega (arith, under), is, same), passes block.id id (reaches blocks 0 id) apart ∙ there.1)
            | inr left ↦ inr (All-cons (λ (b : BlockWrite). b.id ≢ id) block blocks apart left.0, passes block.id id (reaches blocks 0 id) apart ∙ left.1)
          ]
    ]

-- the births that the tree has are those of the writes
pub blocks_born : (height : ℕ) (blocks : List BlockWrite) (writes : List NodeWrite) (birth : ℕ) (births : ℕ → ℕ → ℕ)
    → All (λ block. Any (λ write. write.number / 32 ≡ block.id) writes) blocks → All (λ write. Any (λ block. block.id ≡ write.number / 32) blocks) writes
    → (id : ℕ) → births_after height blocks birth births 0 id ≡ births_written writes birth (births 0) id
blocks_born height blocks writes birth births only reached id =
    not_above ∙ elim (reached_or_not blocks id) [
      | inl there ↦ ap (λ test. if test then birth else births 0 id) there.1 ∙ elim (written_or_left writes birth (births 0) id) [
        | inl written ↦ sym written.is
        | inr left ↦
            let (k, block, under, is, same) = there.0 in
            let (j, write, low, at, of) = only k block under in
            absurd (left.none j write low (ap (λ (w : NodeWrite). w.number / 32) at ∙ of ∙ ap (λ (b : BlockWrite). b.id) is ∙ same))
      ]
      | inr none ↦ ap (λ test. if test then birth else births 0 id) none.1 ∙ elim (written_or_left writes birth (births 0) id) [
        | inl written ↦
            let (j, write, low, at, same) = written.has in
            let (k, block, under, is, of) = reached j write low in
            absurd (none.0 k block under (ap (λ (b : BlockWrite). b.id) is ∙ of ∙ ap (λ (w : NodeWrite). w.number / 32) at ∙ same))
        | inr left ↦ sym left.is
      ]
    ]
  where
    not_above : births_after height blocks birth births 0 id ≡ (if reaches blocks 0 id then birth else births 0 id)
    not_above = ap (λ test. if test && (id == 0) then birth else (if reaches blocks 0 id then birth else births 0 id)) (lt_false height 0 (λ lt. omega (arith, lt)))
