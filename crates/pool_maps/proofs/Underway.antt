-- Maps of some metaslabs are planned, and then of others.
use Rattle.std.proofs.Common.{◌≡◌, ◌⊎◌, ℕ, ◌<◌, List, [], Option, Some, None, inl, inr, refl, sym, ap, subst, ◌∙◌}
use Rattle.std.specs.List.{slice_get}
use Rattle.std.specs.Option.{option_map}
use Rattle.std.proofs.lemmas.Option.{same_Some}
use Rattle.block_pointer.specs.declared.block.Block.{Block}
use Rattle.block_store.specs.Blocks.{Contents}
use Rattle.block_store.specs.Losses.{IsForLoss}
use Rattle.block_store.specs.Releases.{AreReleased, copies_of_all}
use Rattle.block_store.specs.Shapes.{first_meta}
use Rattle.block_store.specs.Spaces.{VdevSpace}
use Rattle.block_store.specs.Steps.{OnlyReadsBlocks, AnswersTell}
use Rattle.block_store.specs.Store.{Store, Holds}
use Rattle.block_store.specs.declared.refusal.Refusal.{Refusal}
use Rattle.block_store.specs.declared.shape.VdevShape.{VdevShape}
use Rattle.block_store.specs.declared.refusal.Refusal.TheVariants.{NoMemory, NoSpace}
use Rattle.block_store.proofs.Steps.{reads_none, reads_on}
use Rattle.block_store.proofs.Telling.{read_after, read_before}
use Rattle.dnode.specs.declared.object_set.ObjectSet.{ObjectSet}
use Rattle.meta_objset.specs.declared.space_maps.MetaslabPlace.{MetaslabPlace}
use Rattle.objset.specs.Objects.{Object, AreObjects}
use Rattle.pool_maps.specs.declared.steps.MapPlan.{MapPlan}
use Rattle.pool_maps.specs.Maps.{HasMapPlace}
use Rattle.pool_maps.specs.Plans.{Advances, AreAhead, AreBelow, AreOrdered, AreUnmade, IsSound, IsStep}
use Rattle.pool_maps.specs.Refused.{IsMapRefused, IsSomeRefused}
use Rattle.pool_maps.proofs.Going.{advances_as, advances_on, ahead_still, goes_further, no_step, none_advances, step_on, unmade_later}

-- the maps of these metaslabs were planned
pub record Underway (old new : Store) (set : ObjectSet) (birth : ℕ) (gone : List Block) (are : MetaslabPlace → Type 0) (first last : MapPlan) : Type 0 where
  pub reads : OnlyReadsBlocks old new []
  pub step : IsStep old.spaces gone first last
  pub advances : (stored : Contents) (objects : ℕ → Option Object) (own : List Block) (blocks : ℕ → List Block) → Holds old stored
      → AreObjects stored birth set objects own blocks → AnswersTell old new [] → IsSound old.spaces first → AreUnmade first objects
      → Advances objects old.spaces gone are first last

-- why a refusal may come over disks that answer truly
abbrev pub IsKnown : Store → Store → ObjectSet → ℕ → List Block → (MetaslabPlace → Type 0) → MapPlan → Refusal → Type 0
IsKnown old new set birth gone are plan refusal =
    (stored : Contents) (objects : ℕ → Option Object) (own : List Block) (blocks : ℕ → List Block) → Holds old stored
    → AreObjects stored birth set objects own blocks → AnswersTell old new [] → IsSound old.spaces plan → AreUnmade plan objects → AreBelow plan
    → AreAhead objects old.spaces are plan → (after : List VdevSpace) (group : ℕ) → AreReleased old.spaces (copies_of_all gone) group after
    → IsForLoss refusal ⊎ (refusal ≡ NoSpace)

pub spaces_stay : (old new : Store) (missing : List ℕ) → OnlyReadsBlocks old new missing → new.spaces ≡ old.spaces
spaces_stay old new missing reads = ap (λ (s : Store). s.spaces) reads.rest

pub none_yet : (store : Store) (set : ObjectSet) (birth : ℕ) (gone : List Block) (plan : MapPlan) → AreOrdered plan.changes.items
    → Underway store store set birth gone (λ place. ⊥) plan plan
none_yet store set birth gone plan ordered = record {
  reads = reads_none store [];
  step = no_step store.spaces gone plan ordered;
  advances = λ stored objects own blocks held are tell sound unmade. none_advances objects store.spaces gone plan;
}

module _ (old mid new : Store) (set : ObjectSet) (birth : ℕ) (gone : List Block) (are rest : MetaslabPlace → Type 0) (first now : MapPlan)
    (apart : (place : MetaslabPlace) → are place → ¬ rest place) (one : Underway old mid set birth gone are first now) where
  same : mid.spaces ≡ old.spaces
  same = spaces_stay old mid [] one.reads

  pub one_more : (last : MapPlan) → Underway mid new set birth gone rest now last → Underway old new set birth gone (λ place. are place ⊎ rest place) first last
  one_more last two = record {
    reads = reads_on old mid new [] one.reads two.reads;
    step = step_on old.spaces gone first now last one.step (subst (λ spaces. IsStep spaces gone now last) same two.step);
    advances = λ stored objects own blocks held of tell sound unmade.
        let before = one.advances stored objects own blocks held of (read_before old mid new [] one.reads two.reads tell) sound unmade in
        let later = two.advances stored objects own blocks (one.reads.keeps stored held) of (read_after old mid new [] one.reads two.reads tell)
        (subst (λ spaces. IsSound spaces now) (sym same) (one.step.sound sound)) (unmade_later objects first now one.step.goes_on unmade) in
        advances_on objects old.spaces gone are rest first now last apart before (subst (λ spaces. Advances objects spaces gone rest now last) same later);
  }

  -- a refusal of one of those that are ahead
  pub known_then : (some : MetaslabPlace → Type 0) (refusal : Refusal) → OnlyReadsBlocks mid new [] → ((place : MetaslabPlace) → rest place → some place)
      → IsKnown mid new set birth gone rest now refusal → IsKnown old new set birth gone some first refusal
  known_then some refusal reads into known = λ stored objects own blocks held of tell sound unmade below ahead after group released.
      let before = one.advances stored objects own blocks held of (read_before old mid new [] one.reads reads tell) sound unmade in
      known stored objects own blocks (one.reads.keeps stored held) of (read_after old mid new [] one.reads reads tell)
      (subst (λ spaces. IsSound spaces now) (sym same) (one.step.sound sound)) (unmade_later objects first now one.step.goes_on unmade) (one.step.below sound below)
      (subst (λ spaces. AreAhead objects spaces rest now) (sym same) (ahead_still objects old.spaces gone some are rest first now into (λ place of_rest of. apart place of of_rest) before ahead))
      after group (subst (λ spaces. AreReleased spaces (copies_of_all gone) group after) (sym same) released)

pub underway_as : (old new : Store) (set : ObjectSet) (birth : ℕ) (gone : List Block) (are others : MetaslabPlace → Type 0) (first last : MapPlan)
    → ((place : MetaslabPlace) → are place → others place) → ((place : MetaslabPlace) → HasMapPlace old.spaces place → others place → are place)
    → Underway old new set birth gone are first last → Underway old new set birth gone others first last
underway_as old new set birth gone are others first last into out is = record {
  reads = is.reads;
  step = is.step;
  advances = λ stored objects own blocks held of tell sound unmade.
      advances_as objects old.spaces gone are others first last into out (is.advances stored objects own blocks held of tell sound unmade);
}

-- ---- refusals

pub some_refused : (old mid new : Store) (set : ObjectSet) (birth : ℕ) (gone : List Block) (are : MetaslabPlace → Type 0) (first now : MapPlan) (place : MetaslabPlace) (refusal : Refusal)
    → Underway old mid set birth gone are first now → (refusal ≡ NoMemory) ⊎ IsMapRefused mid new set birth gone now place refusal
    → (refusal ≡ NoMemory) ⊎ IsSomeRefused old new set birth gone first refusal
some_refused old mid new set birth gone are first now place refusal is (inl memory) = inl memory
some_refused old mid new set birth gone are first now place refusal is (inr why) =
    inr (record { mid = mid; before = is.reads; later = now; goes_on = is.step.goes_on; place = place; why = why })

pub later_refused : (old mid new : Store) (set : ObjectSet) (birth : ℕ) (gone : List Block) (are : MetaslabPlace → Type 0) (first now : MapPlan) (refusal : Refusal)
    → Underway old mid set birth gone are first now → (refusal ≡ NoMemory) ⊎ IsSomeRefused mid new set birth gone now refusal
    → (refusal ≡ NoMemory) ⊎ IsSomeRefused old new set birth gone first refusal
later_refused old mid new set birth gone are first now refusal is (inl memory) = inl memory
later_refused old mid new set birth gone are first now refusal is (inr why) = inr (record {
  mid = why.mid;
  before = reads_on old mid why.mid [] is.reads why.before;
  later = why.later;
  goes_on = goes_further first now why.later is.step.goes_on why.goes_on;
  place = why.place;
  why = why.why;
})

-- ---- metaslabs of a vdev

shape_in : (space : Option VdevSpace) (shape : VdevShape) → option_map (λ (s : VdevSpace). s.shape) space ≡ Some shape → (there : VdevSpace) × (space ≡ Some there) × (there.shape ≡ shape)
shape_in None shape is = let clash : None ≡ Some shape = is in absurd cc
shape_in (Some there) shape is = (there, refl, same_Some there.shape shape is)

pub place_at : (spaces : List VdevSpace) (vdev index : ℕ) (shape : VdevShape) → option_map (λ (s : VdevSpace). s.shape) (slice_get spaces vdev) ≡ Some shape
    → index < first_meta shape → HasMapPlace spaces (record { vdev = vdev; index = index })
place_at spaces vdev index shape is less =
    let there = shape_in (slice_get spaces vdev) shape is in
    record { space = there.0; found = there.1; before = subst (λ (s : VdevShape). index < first_meta s) (sym there.2) less }

pub before_at : (spaces : List VdevSpace) (vdev : ℕ) (shape : VdevShape) (place : MetaslabPlace) → option_map (λ (s : VdevSpace). s.shape) (slice_get spaces vdev) ≡ Some shape
    → HasMapPlace spaces place → place.vdev ≡ vdev → place.index < first_meta shape
before_at spaces vdev shape place is there same =
    let found : slice_get spaces vdev ≡ Some there.space = subst (λ v. slice_get spaces v ≡ Some there.space) same there.found in
    let shape_is : there.space.shape ≡ shape = same_Some there.space.shape shape (sym (ap (option_map (λ (s : VdevSpace). s.shape)) found) ∙ is) in
    subst (λ (s : VdevShape). place.index < first_meta s) shape_is there.before

abbrev at_place : ℕ → ℕ → MetaslabPlace
at_place vdev index = record { vdev = vdev; index = index }

pub this_place : (place : MetaslabPlace) (vdev index : ℕ) → place.vdev ≡ vdev → place.index ≡ index → place ≡ record { vdev = vdev; index = index }
this_place place vdev index v i = ap (λ x. at_place x place.index) v ∙ ap (λ y. at_place vdev y) i
