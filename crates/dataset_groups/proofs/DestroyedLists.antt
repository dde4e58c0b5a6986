-- Datasets that a group destroys one after the other.
use Rattle.std.proofs.Common.{◌≡◌, ◌≢◌, ◌⊎◌, ◌↔◌, ◌++◌, ◌∷◌, ◌+◌, ◌<◌, ℕ, Bool, true, false, true≢false, List, [], length, take, drop, get_or, Option, Contains, inl, inr, refl, sym, ap, subst, ◌∙◌, append_assoc, arith}
use Rattle.std.specs.Prelude.{Any, IsTrue}
use Rattle.std.proofs.lemmas.List.{take-append-drop, take_more}
use Rattle.std.proofs.lemmas.List.Elements.{Contains-append_right}
use Rattle.block_pointer.specs.declared.block.Block.{Block}
use Rattle.block_store.specs.Blocks.{Contents}
use Rattle.block_store.specs.Steps.{OnlyReadsBlocks}
use Rattle.block_store.specs.Store.{Store}
use Rattle.block_store.specs.declared.refusal.Refusal.{Refusal}
use Rattle.block_store.proofs.Steps.{reads_on}
use Rattle.dataset_destroys.specs.Chains.{Reading}
use Rattle.dead_list.specs.Datasets.{Dataset, Pool, nothing}
use Rattle.meta_objset.specs.declared.directory.DirectoryRow.{DirectoryRow}
use Rattle.meta_objset.specs.Names.{IsNamed}
use Rattle.objset.specs.Objects.{Object}
use Rattle.pool_model.specs.Names.{same}
use Rattle.pool_model.specs.Pools.{MayBeDestroyed, PlainPool, all_destroyed, destroyed}
use Rattle.pool_model.proofs.Places.{is_same, same_is}
use Rattle.dataset_groups.specs.Demands.{IsNameThere}
use Rattle.dataset_groups.specs.Destroys.{AreDestroyed, AreDestroysRefused, DestroysAll, DestroysOne, HasAtMost, KeepsNamed}
use Rattle.dataset_groups.specs.Groups.{SpellsGroup}
use Rattle.dataset_groups.specs.Names.{reach_by}
use Rattle.dataset_groups.specs.declared.datasets.GroupDatasets.{GroupDatasets}
use Rattle.dataset_groups.proofs.Exchanges.{same_given}
use Rattle.dataset_groups.proofs.DestroyedDatasets.{keeps_same, none_behind}
use Rattle.dataset_groups.proofs.GoneReach.{gone_then}
use Rattle.dataset_groups.proofs.KnownBlocks.{free_or_not}
use Rattle.dataset_groups.proofs.ListParts.{any_append_left, any_push_cases, is_first, is_later}
use Rattle.dataset_groups.proofs.MoreNumbers.{of_row}
use Rattle.dataset_groups.proofs.Rows.{padded_same}

-- ---- a list in parts

pub one_further : {X : Type 0} (xs : List X) (i : ℕ) (x : X) → i < length xs → x ≡ get_or xs i x → take (i + 1) xs ≡ take i xs ++ x ∷ []
one_further xs i x low is = take_more xs i x low ∙ ap (λ y. take i xs ++ y ∷ []) (sym is)

pub in_parts : {X : Type 0} (xs : List X) (i : ℕ) (x : X) → i < length xs → x ≡ get_or xs i x → xs ≡ take i xs ++ x ∷ drop (i + 1) xs
in_parts xs i x low is =
    sym (take-append-drop (i + 1) xs)
    ∙ ap (λ front. front ++ drop (i + 1) xs) (one_further xs i x low is)
    ∙ append_assoc (take i xs) (x ∷ []) (drop (i + 1) xs)

-- ---- names that may be destroyed

pub may_first : (names more : List (List ℕ)) (pool : PlainPool) → MayBeDestroyed (names ++ more) pool → MayBeDestroyed names pool
may_first [] more pool may = tt
may_first (name ∷ names) more pool may = (may.0, may.1, may_first names more (destroyed name pool) may.2)

pub may_rest : (names more : List (List ℕ)) (pool : PlainPool) → MayBeDestroyed (names ++ more) pool → MayBeDestroyed more (all_destroyed names pool)
may_rest [] more pool may = may
may_rest (name ∷ names) more pool may = may_rest names more (destroyed name pool) may.2

pub last_destroyed : (names : List (List ℕ)) (name : List ℕ) (pool : PlainPool) → destroyed name (all_destroyed names pool) ≡ all_destroyed (names ++ name ∷ []) pool
last_destroyed [] name pool = refl
last_destroyed (first ∷ names) name pool = last_destroyed names name (destroyed first pool)

-- ---- which are destroyed

pub destroys_on : (old mid new : GroupDatasets) (names more : List (List ℕ)) → DestroysAll old mid names → DestroysAll mid new more → DestroysAll old new (names ++ more)
destroys_on old mid new [] more first rest = subst (λ (d : GroupDatasets). DestroysAll d new more) first rest
destroys_on old mid new (name ∷ names) more first rest = (first.0, first.1, destroys_on first.0 mid new names more first.2 rest)

pub destroys_more : (old mid new : GroupDatasets) (names : List (List ℕ)) (name : List ℕ) → DestroysAll old mid names → DestroysOne mid new name → DestroysAll old new (names ++ name ∷ [])
destroys_more old mid new names name so_far one = destroys_on old mid new names (name ∷ []) so_far (new, one, refl)

-- the rows that are left were there
pub one_left : (old new : GroupDatasets) (name : List ℕ) → DestroysOne old new name → (row : DirectoryRow) → Contains new.directory row → Contains old.directory row
one_left old new name (inl idle) row held = subst (λ (d : GroupDatasets). Contains d.directory row) idle.1 held
one_left old new name (inr it) row held = ((it.rows row).0 held).0

rows_left : (old new : GroupDatasets) (names : List (List ℕ)) → DestroysAll old new names → (row : DirectoryRow) → Contains new.directory row → Contains old.directory row
rows_left old new [] done row held = subst (λ (d : GroupDatasets). Contains d.directory row) done held
rows_left old new (name ∷ names) done row held = one_left old done.0 name done.1 row (rows_left done.0 new names done.2 row held)

-- the others have the names
one_named : (old new : GroupDatasets) (name : List ℕ) → DestroysOne old new name → (row : DirectoryRow) → Contains old.directory row → Contains new.directory row ⊎ IsNamed row.name name
one_named old new name (inl idle) row held = inl (subst (λ (d : GroupDatasets). Contains d.directory row) (sym idle.1) held)
one_named old new name (inr it) row held = by_test (same row.name it.row.name) refl
  where
    by_test : (b : Bool) → same row.name it.row.name ≡ b → Contains new.directory row ⊎ IsNamed row.name name
    by_test true e = inr (subst (λ (padded : List ℕ). IsNamed padded name) (sym (same_is row.name it.row.name e)) it.named)
    by_test false e =
        inl ((it.rows row).1 (held, λ also. true≢false (sym (is_same row.name it.row.name (padded_same row.name it.row.name name name also it.named refl)) ∙ e)))

any_from : {X : Type 0} (P : X → Type 0) (xs : List X) (x : X) → Contains xs x → P x → Any P xs
any_from P xs x held is = (held.0, x, held.1, held.2, is)

any_later : {X : Type 0} (P : X → Type 0) (x : X) (xs : List X) → Any P xs → Any P (x ∷ xs)
any_later P x xs any = any_from P (x ∷ xs) any.1 (is_later x any.1 xs (any.0, any.2, any.3)) any.4

left_or_named : (old new : GroupDatasets) (names : List (List ℕ)) → DestroysAll old new names → (row : DirectoryRow) → Contains old.directory row
    → Contains new.directory row ⊎ Any (IsNamed row.name) names
left_or_named old new [] done row held = inl (subst (λ (d : GroupDatasets). Contains d.directory row) (sym done) held)
left_or_named old new (name ∷ names) done row held = elim (one_named old done.0 name done.1 row held) [
  | inr named ↦ inr (any_from (IsNamed row.name) (name ∷ names) name (is_first name names) named)
  | inl there ↦ elim (left_or_named done.0 new names done.2 row there) [
    | inl still ↦ inl still
    | inr later ↦ inr (any_later (IsNamed row.name) name names later)
  ]
]

-- ---- whether a name was there

-- one of these names is
abbrev pub IsOneThere : GroupDatasets → List (List ℕ) → Type 0
IsOneThere datasets names = Any (IsNameThere datasets.directory) names

module _ (old mid : GroupDatasets) (names : List (List ℕ)) (name : List ℕ) (done : DestroysAll old mid names) where
  -- what is there now was there
  there_now : IsNameThere mid.directory name → IsOneThere old (names ++ name ∷ [])
  there_now (row, held, named) =
      any_from (IsNameThere old.directory) (names ++ name ∷ []) name (Contains-append_right names (name ∷ []) name (is_first name [])) (row, rows_left old mid names done row held, named)

  -- what was there and isn't any more was destroyed by its name
  there_sooner : ¬ IsNameThere mid.directory name → IsNameThere old.directory name → IsOneThere old names
  there_sooner none (row, held, named) = elim (left_or_named old mid names done row held) [
    | inl still ↦ absurd (none (row, still, named))
    | inr any ↦ any_from (IsNameThere old.directory) names any.1 (any.0, any.2, any.3) (row, held, any.4)
  ]

  pub renamed_now : (there now : Bool) → (IsTrue there ↔ IsNameThere mid.directory name) → there ≡ true → now ≡ true → IsTrue now ↔ IsOneThere old (names ++ name ∷ [])
  renamed_now there now tells is on = (λ _. there_now (tells.0 is), λ _. on)

  pub renamed_still : (there was now : Bool) → (IsTrue there ↔ IsNameThere mid.directory name) → (IsTrue was ↔ IsOneThere old names) → there ≡ false → now ≡ was
      → IsTrue now ↔ IsOneThere old (names ++ name ∷ [])
  renamed_still there was now tells so_far off same = (
    λ on. any_append_left (IsNameThere old.directory) names name (so_far.0 (sym same ∙ on)),
    λ any. same ∙ so_far.1 (elim (any_push_cases (IsNameThere old.directory) names name any) [
      | inl sooner ↦ sooner
      | inr last ↦ there_sooner (λ still. true≢false (sym (tells.1 still) ∙ off)) last
    ]),
  )

-- ---- what the datasets are

keeps_on : (pool mid after : Pool) (rows left : List DirectoryRow) → ((row : DirectoryRow) → Contains left row → Contains rows row) → KeepsNamed pool mid rows → KeepsNamed mid after left
    → KeepsNamed pool after left
keeps_on pool mid after rows left were one two = record {
  kinds = λ row held. two.kinds row held ∙ one.kinds row (were row held);
  groups = λ row held. two.groups row held ∙ one.groups row (were row held);
  blocks = λ row held. two.blocks row held ∙ one.blocks row (were row held);
  writable = λ row held may. two.writable row held (one.writable row (were row held) may);
}

-- nothing was destroyed yet
pub destroyed_none : (datasets : GroupDatasets) (freed : List Block) (group : ℕ) (stored : Contents) (objects : ℕ → Option Object) (pool : Pool) (readings : ℕ → Reading) (plain : PlainPool)
    → SpellsGroup stored group objects datasets pool readings plain
    → (gone : List Block) × (freed ≡ freed ++ gone) × AreDestroyed group objects stored datasets datasets pool readings plain gone
destroyed_none datasets freed group stored objects pool readings plain spells = (
  [],
  none_behind freed,
  record {
    after = pool;
    spells = spells;
    exchanged = same_given group stored (reach_by pool datasets.directory);
    keeps = keeps_same pool datasets.directory;
  },
)

-- and then one more
pub destroyed_on : (old mid new : GroupDatasets) (name : List ℕ) (group : ℕ) (objects : ℕ → Option Object) (stored : Contents) (pool : Pool) (readings : ℕ → Reading) (plain then_plain : PlainPool)
    (gone more : List Block) → DestroysOne mid new name → (one : AreDestroyed group objects stored old mid pool readings plain gone)
    → AreDestroyed group objects stored mid new one.after readings then_plain more → AreDestroyed group objects stored old new pool readings then_plain (gone ++ more)
destroyed_on old mid new name group objects stored pool readings plain then_plain gone more which one two = record {
  after = two.after;
  spells = two.spells;
  exchanged = gone_then group stored (reach_by pool old.directory) (reach_by one.after mid.directory) (reach_by two.after new.directory) gone more one.exchanged two.exchanged;
  keeps = keeps_on pool one.after two.after mid.directory new.directory (one_left mid new name which) one.keeps two.keeps;
}

-- blocks that come behind others
pub behind_both : (first mid last gone more : List Block) → mid ≡ first ++ gone → last ≡ mid ++ more → last ≡ first ++ (gone ++ more)
behind_both first mid last gone more one two = two ∙ ap (λ bs. bs ++ more) one ∙ append_assoc first gone more

-- no dataset has more blocks than before
pub still_at_most : (old mid : GroupDatasets) (group most : ℕ) (objects : ℕ → Option Object) (stored : Contents) (pool : Pool) (readings : ℕ → Reading) (plain : PlainPool) (gone : List Block)
    → (one : AreDestroyed group objects stored old mid pool readings plain gone) → HasAtMost pool most → HasAtMost one.after most
still_at_most old mid group most objects stored pool readings plain gone one all m = elim (free_or_not (one.after.datasets m).kind) [
  | inl free ↦ let none = ap (λ (d : Dataset). length d.blocks) (one.spells.chains.none m free).is in omega (arith, none)
  | inr used ↦
      let some : one.after.datasets m ≢ nothing = λ e. used (ap (λ (d : Dataset). d.kind) e) in
      let it = of_row mid.directory m (one.spells.names.numbers.each m some) in
      let at : length (one.after.datasets it.0.object).blocks ≡ length (one.after.datasets m).blocks = ap (λ k. length (one.after.datasets k).blocks) it.2 in
      let same = ap (λ (bs : List Block). length bs) (one.keeps.blocks it.0 it.1) in
      let few = all it.0.object in
      omega (arith, at, same, few)
]

-- ---- why one was not destroyed

pub later_refused : (old mid new : Store) (first between : GroupDatasets) (group most : ℕ) (names done rest : List (List ℕ)) (name : List ℕ) (refusal : Refusal) → names ≡ done ++ name ∷ rest
    → OnlyReadsBlocks old mid [] → DestroysAll first between done → AreDestroysRefused mid new between group most (name ∷ []) refusal
    → AreDestroysRefused old new first group most names refusal
later_refused old mid new first between group most names done rest name refusal are reads so_far (inl memory) = inl memory
later_refused old mid new first between group most names done rest name refusal are reads so_far (inr why) = inr (record {
  first = done ++ why.first;
  name = why.name;
  rest = why.rest ++ rest;
  are = are ∙ ap (λ (ns : List (List ℕ)). done ++ (ns ++ rest)) why.are ∙ ap (λ (ns : List (List ℕ)). done ++ ns) (append_assoc why.first (why.name ∷ why.rest) rest)
      ∙ sym (append_assoc done why.first (why.name ∷ why.rest ++ rest));
  mid = why.mid;
  done = destroys_on first between why.mid done why.first so_far why.done;
  row = why.row;
  held = why.held;
  named = why.named;
  store = why.store;
  reads = reads_on old mid why.store [] reads why.reads;
  last = why.last;
  left = why.left;
  why = why.why;
})
