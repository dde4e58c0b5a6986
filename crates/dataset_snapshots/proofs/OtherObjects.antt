-- Chains of datasets where only objects change that are neither records nor dead lists.
use Rattle.std.proofs.Common.{◌≡◌, ◌≢◌, ◌⊎◌, ℕ, List, Option, Some, None, inl, inr, sym, ap, subst, ◌∙◌, arith}
use Rattle.block_pointer.specs.declared.block.Block.{Block}
use Rattle.block_store.specs.Blocks.{Contents, Extends}
use Rattle.dataset_groups.proofs.ChainFrames.{leads_stay}
use Rattle.dataset_groups.specs.Chains.{Reading}
use Rattle.dataset_groups.specs.ChainStanding.{HasChains}
use Rattle.dead_list.specs.Datasets.{Pool}
use Rattle.dataset_groups.specs.Lists.{HasDeadList}
use Rattle.dnode_tree.specs.Writes.{written}
use Rattle.meta_objset.specs.Datasets.{HasRecord}
use Rattle.meta_objset.specs.declared.record.DatasetRecord.{DatasetRecord}
use Rattle.objset.specs.Changes.{MayChange, after_change, highest_of}
use Rattle.objset.specs.declared.changes.Change.{Change}
use Rattle.objset.specs.declared.changes.Change.TheVariants.{Create, Put, Free, Replace}
use Rattle.objset.specs.Objects.{Object}
use Rattle.raidz_io.proofs.Written.{same_some}

-- ---- objects

-- it has no record and no dead list
pub record IsNeither (object : Option Object) : Type 0 where
  pub no_record : (r : DatasetRecord) → ¬ HasRecord object r
  pub no_list : (list : List Block) → ¬ HasDeadList object list

-- the object, if any, is of another type than those
pub neither_by_type : (object : Option Object) → ((there : Object) → object ≡ Some there → (there.object_type ≢ 201) × (there.object_type ≢ 202)) → IsNeither object
neither_by_type object other = record {
  no_record = λ r has. (other has.there has.is).0 has.of_record.object_type;
  no_list = λ list has. (other has.1.there has.1.is).1 has.1.of_kind.0;
}

pub neither_of_none : (object : Option Object) → object ≡ None → IsNeither object
neither_of_none object none = neither_by_type object (λ there is. let clash : None ≡ Some there = sym none ∙ is in absurd cc)

pub neither_of_type : (object : Option Object) (type_is : ℕ) → type_is ≢ 201 → type_is ≢ 202 → ((there : Object) → object ≡ Some there → there.object_type ≡ type_is) → IsNeither object
neither_of_type object type_is one two of_type = neither_by_type object (λ there is. (λ same. one (sym (of_type there is) ∙ same), λ same. two (sym (of_type there is) ∙ same)))

-- an object that is changed keeps its type
pub same_type : (change : Change) (old new : Object) → MayChange change (Some old) → after_change change (Some old) ≡ Some new → new.object_type ≡ old.object_type
same_type (Create object_type sectors writes) old new may is = let clash : Some old ≡ None = may in absurd cc
same_type (Put writes) old new may is =
    ap (λ (o : Object). o.object_type) (sym (same_some (record old { highest = highest_of writes.items old.highest; array = written writes.items old.array }) new is))
same_type Free old new may is = let clash : None ≡ Some new = is in absurd cc
same_type (Replace writes) old new may is =
    ap (λ (o : Object). o.object_type) (sym (same_some (record old { highest = highest_of writes.items 0; array = written writes.items (λ id. None) }) new is))

-- ---- chains

-- an object is what it was, or is neither then nor now
abbrev pub StaysForChains : Option Object → Option Object → Type 0
StaysForChains old new = (new ≡ old) ⊎ (IsNeither old × IsNeither new)

record_on : (old new : Option Object) (r : DatasetRecord) → StaysForChains old new → HasRecord old r → HasRecord new r
record_on old new r (inl same) has = subst (λ (o : Option Object). HasRecord o r) (sym same) has
record_on old new r (inr none) has = absurd (none.0.no_record r has)

record_back : (old new : Option Object) (r : DatasetRecord) → StaysForChains old new → HasRecord new r → HasRecord old r
record_back old new r (inl same) has = subst (λ (o : Option Object). HasRecord o r) same has
record_back old new r (inr none) has = absurd (none.1.no_record r has)

list_on : (old new : Option Object) (list : List Block) → StaysForChains old new → HasDeadList old list → HasDeadList new list
list_on old new list (inl same) has = subst (λ (o : Option Object). HasDeadList o list) (sym same) has
list_on old new list (inr none) has = absurd (none.0.no_list list has)

-- the datasets are those over the other objects too
pub chains_over : (stored : Contents) (group : ℕ) (objects now : ℕ → Option Object) (pool : Pool) (readings : ℕ → Reading) → ((number : ℕ) → StaysForChains (objects number) (now number))
    → HasChains stored group objects pool readings → HasChains stored group now pool readings
chains_over stored group objects now pool readings stays chains = record {
  sound = chains.sound;
  now = chains.now;
  each = λ m kind.
      let at = chains.each m kind in
      record {
        behind = at.behind;
        r = at.r;
        has = record_on (objects m) (now m) at.r (stays m) at.has;
        is = at.is;
        clones = at.clones;
        leads = at.leads;
        list_behind = at.list_behind;
        dead = list_on (objects at.r.dead_list) (now at.r.dead_list) (pool.datasets m).dead (stays at.r.dead_list) at.dead;
      };
  none = λ m free. let at = chains.none m free in record { is = at.is; none = λ r has. at.none r (record_back (objects m) (now m) r (stays m) has) };
  apart = λ m k r s one two e. chains.apart m k r s (record_back (objects m) (now m) r (stays m) one) (record_back (objects k) (now k) s (stays k) two) e;
}

-- and where more is known
pub chains_more : (stored later : Contents) (group : ℕ) (objects : ℕ → Option Object) (pool : Pool) (readings : ℕ → Reading) → Extends stored later
    → HasChains stored group objects pool readings → HasChains later group objects pool readings
chains_more stored later group objects pool readings more chains = record {
  sound = chains.sound;
  now = chains.now;
  each = λ m kind.
      let at = chains.each m kind in
      record {
        behind = at.behind;
        r = at.r;
        has = at.has;
        is = at.is;
        clones = at.clones;
        leads = leads_stay stored later group group at.r (pool.datasets m).blocks (readings m) (omega arith) more at.leads;
        list_behind = at.list_behind;
        dead = at.dead;
      };
  none = chains.none;
  apart = chains.apart;
}
