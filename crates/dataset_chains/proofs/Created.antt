-- What becomes of chains where a volume is made.
use Rattle.std.proofs.Common.{◌≡◌, ◌<◌, ℕ, Bool, true, false, cond, ◌==◌, List, [], ◌++◌, Option, Some, Contains, IsPermutation, inr, refl, sym, ap, subst, ◌∙◌, arith}
use Rattle.std.proofs.lemmas.List.Elements.{All-nil}
use Rattle.std.proofs.lemmas.List.Sorted.{IsPermutation-refl}
use Rattle.block_pointer.specs.declared.block.Block.{Block}
use Rattle.block_store.specs.Blocks.{Contents}
use Rattle.dataset_changes.specs.Over.{AreOver}
use Rattle.dataset_changes.specs.States.{HasListPut, HasRecordPut, HaveSameLists, HaveSameRecords}
use Rattle.dataset_changes.specs.declared.changes.DatasetChanges.{DatasetChanges}
use Rattle.dataset_changes.specs.declared.states.ListState.TheVariants as lists
use Rattle.dataset_changes.specs.declared.states.RecordState.TheVariants as records
use Rattle.dead_list.specs.Blocks.{AreDistinct, IsDifference}
use Rattle.dead_list.specs.Datasets.{Dataset, Datasets, Pool, IsReached, group_before, updated}
use Rattle.dead_list.specs.Operations.{AreNew, Create, IsOverwritten, IsUnused, IsWritable, Overwrite, new_volume, with_dataset}
use Rattle.dead_list.specs.Sound.{IsSound}
use Rattle.dead_list.proofs.Steps.{stays_sound}
use Rattle.dead_list.proofs.Updates.{same_at, at_each}
use Rattle.meta_objset.specs.declared.record.DatasetRecord.{DatasetRecord}
use Rattle.objset.specs.Objects.{Object}
use Rattle.dataset_chains.specs.Chains.{AreNewNumbers, LeadsTo, Reading, SpellsChains}
use Rattle.dataset_chains.specs.Making.{IsNewRecord, volume_with}
use Rattle.dataset_chains.proofs.NewHeads.{IsHeadFor, head_spells}
use Rattle.dataset_chains.proofs.RecordsNow.{made_alone}
use Rattle.dataset_chains.proofs.Unused.{new_list_on}

cond_twice : {X : Type 0} (b : Bool) (x y z : X) → cond b x (cond b y z) ≡ cond b x z
cond_twice true x y z = refl
cond_twice false x y z = refl

-- what is put last counts
pub put_twice : {X : Type 0} (s : ℕ → X) (n : ℕ) (x y : X) → updated (updated s n y) n x ≡ updated s n x
put_twice s n x y = λ i m. cond_twice (m == n) x y (s m) i

none_in : {A : Type 0} (b : Block) → Contains {X = Block} [] b → A
none_in b held = absurd (omega (arith, held.1))

module _ (pool : Pool) (sound : IsSound pool) (n : ℕ) (unused : IsUnused pool.datasets n) (some_group : 0 < pool.group) (blocks : List Block) (are_new : AreNew pool blocks) (once : AreDistinct blocks) where
  abbrev empty : Pool
  empty = with_dataset pool n (new_volume pool)

  at_n : empty.datasets n ≡ new_volume pool
  at_n = same_at pool.datasets n (new_volume pool)

  empty_sound : IsSound empty
  empty_sound = stays_sound pool empty (Create n) [] sound unused (refl, refl)

  writable : IsWritable empty n
  writable =
      let before : (empty.datasets n).before ≡ 0 = ap (λ (x : Dataset). x.before) at_n in
      let none : (empty.datasets 0).group ≡ 0 = ap (λ (x : Dataset). x.group) empty_sound.none in
      let is : group_before empty.datasets n ≡ 0 = ap (λ (k : ℕ). (empty.datasets k).group) before ∙ none in
      omega (arith, is, some_group)

  reached : (b : Block) → IsReached empty.datasets b → IsReached pool.datasets b
  reached b (m, held) = at_each pool.datasets n (new_volume pool) (λ k x. Contains x.blocks b → IsReached pool.datasets b) (λ held. none_in b held) (λ k ne held. (k, held)) m held

  entered : AreNew empty blocks
  entered b held = let new = are_new b held in (new.0, λ there. new.1 (reached b there))

  overwritten : IsOverwritten empty n [] blocks [] (with_dataset pool n (volume_with pool blocks))
  overwritten = record {
    blocks = blocks;
    dead = [];
    older = [];
    leave = subst (λ (x : Dataset). IsDifference x.blocks blocks []) (sym at_n) (record { each = λ b held. none_in b held; from = λ b held. none_in b held; once = λ i j d before within e. absurd (omega (arith, within)) });
    enter = subst (λ (x : Dataset). IsDifference blocks x.blocks blocks) (sym at_n) (record { each = λ b held. inr held; from = λ b held. (held, λ none. none_in b none); once = once });
    once = once;
    split = record { parts = IsPermutation-refl []; after_are = All-nil _; until_are = All-nil _ };
    dead_are = subst (λ (x : Dataset). IsPermutation (x.dead ++ []) []) (sym at_n) (IsPermutation-refl []);
    new_is = ap (λ (s : Datasets). record pool { datasets = s }) (sym (put_twice pool.datasets n (volume_with pool blocks) (new_volume pool)))
        ∙ ap (λ (x : Dataset). with_dataset empty n (record x { blocks = blocks; dead = [] })) (sym at_n);
  }

  pub created_sound : IsSound (with_dataset pool n (volume_with pool blocks))
  created_sound = stays_sound empty _ (Overwrite n [] blocks) [] empty_sound (ap (λ (x : Dataset). x.kind) at_n, writable, entered) overwritten

module _ (known : Contents) (group : ℕ) (objects : ℕ → Option Object) (old mid new : DatasetChanges) (pool : Pool) (readings : ℕ → Reading) (n : ℕ) (r : DatasetRecord)
    (over : AreOver objects new) (put : HasRecordPut old n (Some (records.Made r)) mid) (same : HaveSameRecords mid new)
    (unlisted : HaveSameLists old mid) (made : HasListPut mid r.dead_list (Some (lists.Made [])) new) where
  pub created : (blocks : List Block) (reading : Reading) → 0 < group → SpellsChains known group objects old pool readings → IsUnused pool.datasets n → IsNewRecord group r
      → AreNewNumbers objects old n r.dead_list → LeadsTo known group r blocks reading → AreNew pool blocks → AreDistinct blocks
      → SpellsChains known group objects new (with_dataset pool n (volume_with pool blocks)) (updated readings n reading)
  created blocks reading some_group spells unused is_new fresh leads are_new once =
      let head : IsHeadFor known group n r.dead_list (volume_with pool blocks) r reading = record {
        kind = refl;
        is = is_new.kind;
        created = spells.now ∙ sym is_new.created;
        previous = sym is_new.previous;
        dead = refl;
        clones = is_new.clones;
        list_is = refl;
        behind = λ e. unused.0 (sym e);
        leads = leads;
      } in
      let now = spells.now in
      head_spells known group objects old pool readings spells n r.dead_list unused (new_list_on objects old old n r.dead_list (λ k. refl) fresh) new (volume_with pool blocks) r reading head
      (made_alone objects old new n r (same n ∙ put.0)) made.0 over
      (created_sound pool spells.sound n unused (omega (arith, now, some_group)) blocks are_new once)
      (λ m ne first. same m ∙ put.1 m ne) (λ k ne. made.1 k ne ∙ unlisted k) (λ some. absurd (some refl)) (λ some. absurd (some refl))
