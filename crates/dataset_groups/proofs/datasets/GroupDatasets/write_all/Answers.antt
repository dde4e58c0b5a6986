use Rattle.std.proofs.Common.{◌≡◌, ◌++◌, ◌∷◌, inl, inr, [], ℕ, List, All, refl, sym, ap, ◌∙◌, subst, drop, append_assoc}
use Rattle.std.proofs.lemmas.List.{append-nil}
use Rattle.std.proofs.lemmas.List.Elements.{All-head, All-tail}
use Rattle.block_pointer.specs.declared.block.Block.{Block}
use Rattle.block_store.proofs.Steps.{steps_none, steps_on}
use Rattle.block_store.proofs.Telling.{tell_after, tell_before}
use Rattle.dataset_destroys.proofs.ChainChained.{objects_on, one_set_on}
use Rattle.dead_list.specs.Datasets.{updated}
use Rattle.dnode_tree.proofs.Refusing.{passed_on}
use Rattle.txg_pipeline.proofs.Running.{drops_nothing}
use Rattle.dataset_groups.specs.declared.writing.WrittenHead.{WrittenHead}
use Rattle.dataset_groups.specs.Demands.{HasHeadDemands, HavePlacesFor}
use Rattle.dataset_groups.specs.Heads.{IsHeadRefused, reading_with}
use Rattle.block_store.specs.Store.{Store}
use Rattle.block_store.specs.declared.refusal.Refusal.{Refusal}
use Rattle.dataset_destroys.specs.States.{AreOfOneSet}
use Rattle.dataset_destroys.specs.DatasetChanges.{DatasetChanges}
use Rattle.dataset_groups.specs.Touched.{TouchesHeads}
use Rattle.dataset_groups.specs.Writing.{FitsHead, numbers_of}
use Rattle.dataset_groups.proofs.Asking.{no_places, places_more, volume_demands_in}
use Rattle.dataset_groups.proofs.HeadsDone.{reach_given, spelled_after}
use Rattle.dataset_groups.proofs.HeadsWritten.{AreHeadsWritten, array, none_written, one_more, written_to}
use Rattle.dataset_groups.proofs.TouchedHeads.{touches_more, touches_none}
use Rattle.block_store.proofs.Causes.{caused_behind}
use Rattle.dataset_groups.proofs.datasets.GroupDatasets.write_all.Goals as goal

pub writing-init : goal.writing-init
writing-init g c = record {
  steps = steps_none c.args.store.now [];
  directory = refl;
  next = refl;
  bounds = refl;
  one_set = (refl, refl);
  behind = ([], sym (append-nil c.args.freed.now.items));
  fits = subst (All FitsHead) (sym c.from_vec-left.ensures.items) c.requires.fits;
  front = (
    [],
    c.from_vec-left.ensures.items,
    touches_none c.args.self.now.changes,
    no_places c.args.store.now (HasHeadDemands c.args.store.now.spaces c.args.group),
    λ stored planned bound objects own blocks pool readings plain writes plans are tell le spelled written. (
      planned,
      plans,
      λ block bytes known. known,
      pool,
      readings,
      [],
      sym (append-nil c.args.freed.now.items),
      none_written planned c.args.group objects c.args.self.now pool readings plain writes spelled,
    ),
  );
}

pub write-requires-clause-fits : goal.write-requires-clause-fits
write-requires-clause-fits g c = All-head FitsHead c.in-Some.head c.pop_front.new.self.items (subst (All FitsHead) c.in-Some.ensures.items c.writing.invariant.fits)

-- the next head stands behind those that are done
parts : (done left rest all : List WrittenHead) (next : WrittenHead) → done ++ left ≡ all → left ≡ next ∷ rest → all ≡ done ++ next ∷ rest
parts done left rest all next are is = sym are ∙ ap (λ (xs : List WrittenHead). done ++ xs) is

-- what is freed of the next comes behind what was
freed_on : (before gone more mid new : List Block) → mid ≡ before ++ gone → new ≡ mid ++ more → new ≡ before ++ (gone ++ more)
freed_on before gone more mid new first next = next ∙ (ap (λ (bs : List Block). bs ++ more) first ∙ append_assoc before gone more)

pub writing-preserved : goal.writing-preserved
writing-preserved g c =
    let i = c.writing.invariant in
    let front = i.front in
    let next : WrittenHead = c.in-Some.head in
    let rest : List WrittenHead = c.pop_front.new.self.items in
    let done : List WrittenHead = front.0 in
    let is_next = parts done c.writing.left.items rest c.args.written.items next front.1 c.in-Some.ensures.items in
    let places = c.in_ok-write.ensures.places in
    record {
      steps = steps_on _ _ _ _ i.steps c.write.ensures.steps;
      directory = c.write.ensures.directory ∙ i.directory;
      next = c.write.ensures.next ∙ i.next;
      bounds = c.write.ensures.bounds ∙ i.bounds;
      one_set = one_set_on c.args.self.now.changes c.writing.self.changes c.write.new.self.changes i.one_set c.write.ensures.one_set;
      behind =
          let more = c.in_ok-write.ensures.behind in (
            i.behind.0 ++ more.0,
            freed_on c.args.freed.now.items i.behind.0 more.0 c.writing.freed.items c.write.new.freed.items i.behind.1 more.1,
          );
      fits = All-tail FitsHead next rest (subst (All FitsHead) c.in-Some.ensures.items i.fits);
      front = (
        done ++ next ∷ [],
        append_assoc done (next ∷ []) rest ∙ sym is_next,
        touches_more c.args.self.now.changes c.writing.self.changes c.write.new.self.changes done next c.in_ok-write.ensures.kept front.2 c.in_ok-write.ensures.touched,
        places_more c.args.store.now c.writing.store c.write.new.store (HasHeadDemands c.args.store.now.spaces c.args.group) done next front.3 (
          places.0,
          volume_demands_in c.args.store.now.spaces c.writing.store.spaces i.steps.shapes c.args.group next places.0 places.1,
          places.2,
        ),
        λ stored planned bound objects own blocks pool readings plain writes plans are tell le spelled written.
            let before = front.4 stored planned bound objects own blocks pool readings plain writes plans are
            (tell_before c.args.store.now c.writing.store c.write.new.store [] i.steps c.write.ensures.steps tell) le spelled written in
            let mid = before.0 in
            let at = before.3 in
            let reads = before.4 in
            let old = c.args.self.now in
            let so_far = c.writing.self in
            let new = c.write.new.self in
            let heads = c.args.written.items in
            let bytes = array stored planned mid bound c.args.group objects old so_far pool at readings reads plain writes heads done rest next before.5 spelled written is_next before.7 in
            let to = written_to stored planned mid bound c.args.group objects old so_far pool at readings reads plain writes heads done rest next before.5 spelled written is_next before.7 in
            let step = c.in_ok-write.ensures.value stored mid bound objects own blocks at reads bytes before.1
            (objects_on stored objects own blocks old.changes so_far.changes i.one_set are)
            (tell_after c.args.store.now c.writing.store c.write.new.store [] i.steps c.write.ensures.steps tell) le before.7.chains to in (
              step.0,
              step.1,
              λ block b known. step.2 block b (before.2 block b known),
              step.5,
              updated reads next.number (reading_with (reads next.number) bytes),
              before.5 ++ step.3,
              freed_on c.args.freed.now.items before.5 step.3 c.writing.freed.items c.write.new.freed.items before.6 step.4,
              one_more stored planned mid bound c.args.group objects old so_far pool at readings reads plain writes heads done rest next before.5 spelled written is_next before.7
                  step.0 new before.2 step.2 step.5 step.3 step.6 c.in_ok-write.ensures.touched (c.write.ensures.next, c.write.ensures.bounds),
            ),
      );
    }

pub returns-in_err-write-clause-steps : goal.returns-in_err-write-clause-steps
returns-in_err-write-clause-steps g c = steps_on _ _ _ _ c.writing.invariant.steps c.write.ensures.steps

pub returns-in_err-write-clause-directory : goal.returns-in_err-write-clause-directory
returns-in_err-write-clause-directory g c = c.write.ensures.directory ∙ c.writing.invariant.directory

pub returns-in_err-write-clause-next : goal.returns-in_err-write-clause-next
returns-in_err-write-clause-next g c = c.write.ensures.next ∙ c.writing.invariant.next

pub returns-in_err-write-clause-bounds : goal.returns-in_err-write-clause-bounds
returns-in_err-write-clause-bounds g c = c.write.ensures.bounds ∙ c.writing.invariant.bounds

pub returns-in_err-write-clause-one_set : goal.returns-in_err-write-clause-one_set
returns-in_err-write-clause-one_set g c =
    one_set_on c.args.self.now.changes c.writing.self.changes c.write.new.self.changes c.writing.invariant.one_set c.write.ensures.one_set

pub returns-in_err-write-clause-known : goal.returns-in_err-write-clause-known
returns-in_err-write-clause-known g c =
    let i = c.writing.invariant in
    let front = i.front in
    let next : WrittenHead = c.in-Some.head in
    let rest : List WrittenHead = c.pop_front.new.self.items in
    let done : List WrittenHead = front.0 in
    let is_next = parts done c.writing.left.items rest c.args.written.items next front.1 c.in-Some.ensures.items in
    passed_on _ _ _ c.from_residual.ensures.1 (λ stored planned bound objects own blocks pool readings plain writes plans are tell le spelled written.
    let before = front.4 stored planned bound objects own blocks pool readings plain writes plans are
    (tell_before c.args.store.now c.writing.store c.write.new.store [] i.steps c.write.ensures.steps tell) le spelled written in
    let mid = before.0 in
    let at = before.3 in
    let reads = before.4 in
    let old = c.args.self.now in
    let so_far = c.writing.self in
    let heads = c.args.written.items in
    let bytes = array stored planned mid bound c.args.group objects old so_far pool at readings reads plain writes heads done rest next before.5 spelled written is_next before.7 in
    let to = written_to stored planned mid bound c.args.group objects old so_far pool at readings reads plain writes heads done rest next before.5 spelled written is_next before.7 in
    c.in_err-write.ensures.known stored mid bound objects own blocks at reads bytes before.1
    (objects_on stored objects own blocks old.changes so_far.changes i.one_set are)
    (tell_after c.args.store.now c.writing.store c.write.new.store [] i.steps c.write.ensures.steps tell) le before.7.chains to)

-- why it is refused, behind others
refused_on : (mid new : Store) (old so_far : DatasetChanges) (group : ℕ) (head : WrittenHead) (refusal : Refusal) → AreOfOneSet old so_far → IsHeadRefused mid new so_far group head refusal
    → IsHeadRefused mid new old group head refusal
refused_on mid new old so_far group head refusal same (inl why) = inl why
refused_on mid new old so_far group head refusal same (inr it) =
    inr (record { placed = it.placed; before = it.before; far = it.far; one_set = one_set_on old so_far it.far same it.one_set; last = it.last; why = it.why })

pub returns-in_err-write-clause-refused : goal.returns-in_err-write-clause-refused
returns-in_err-write-clause-refused g c =
    let i = c.writing.invariant in
    passed_on _ _ _ c.from_residual.ensures.1
    (inr (record {
      first = i.front.0;
      next = c.in-Some.head;
      left = c.pop_front.new.self.items;
      are = parts i.front.0 c.writing.left.items c.pop_front.new.self.items c.args.written.items c.in-Some.head i.front.1 c.in-Some.ensures.items;
      mid = c.writing.store;
      before = i.steps;
      places = i.front.3;
      why = refused_on c.writing.store c.write.new.store c.args.self.now.changes c.writing.self.changes c.args.group c.in-Some.head _ i.one_set c.in_err-write.ensures.refused;
    }))

-- nothing is left of them
all_done : (done left rest all : List WrittenHead) → left ≡ rest → rest ≡ drop 1 left → done ++ left ≡ all → done ≡ all
all_done done left rest all same dropped are =
    let none : left ≡ [] = drops_nothing left (same ∙ dropped) in
    sym (append-nil done) ∙ (ap (λ (xs : List WrittenHead). done ++ xs) (sym none) ∙ are)

pub returns-clause-value : goal.returns-clause-value
returns-clause-value g c = λ stored planned bound objects own blocks pool readings plain writes plans are tell le spelled written.
    let i = c.writing.invariant in
    let front = i.front in
    let heads = c.args.written.items in
    let old = c.args.self.now in
    let new = c.writing.self in
    let last = front.4 stored planned bound objects own blocks pool readings plain writes plans are tell le spelled written in
    let all = subst (λ (done : List WrittenHead). AreHeadsWritten planned last.0 c.args.group objects old new pool last.3 readings last.4 writes done last.5)
    (all_done front.0 c.writing.left.items _ heads c.in_default.ensures.items c.pop_front.ensures.rest front.1) last.7 in (
      last.0,
      last.1,
      last.2,
      last.3,
      last.4,
      spelled_after stored planned last.0 bound c.args.group objects old new pool last.3 readings last.4 plain writes heads last.5 spelled written all i.directory,
      last.5,
      last.6,
      reach_given stored planned last.0 bound c.args.group objects old new pool last.3 readings last.4 plain writes heads last.5 spelled written all i.directory c.reach_has_each_block_once.ensures,
      all.adds,
    )

pub returns-clause-touched : goal.returns-clause-touched
returns-clause-touched g c =
    let front = c.writing.invariant.front in
    subst (λ (done : List WrittenHead). TouchesHeads c.args.self.now.changes c.writing.self.changes (numbers_of done))
    (all_done front.0 c.writing.left.items _ c.args.written.items c.in_default.ensures.items c.pop_front.ensures.rest front.1) front.2

pub returns-clause-places : goal.returns-clause-places
returns-clause-places g c =
    let front = c.writing.invariant.front in
    subst (λ (done : List WrittenHead). HavePlacesFor c.args.store.now c.writing.store (HasHeadDemands c.args.store.now.spaces c.args.group) done)
    (all_done front.0 c.writing.left.items _ c.args.written.items c.in_default.ensures.items c.pop_front.ensures.rest front.1) front.3

pub returns-in_err-write-clause-caused : goal.returns-in_err-write-clause-caused
returns-in_err-write-clause-caused g c =
    passed_on _ _ _ c.from_residual.ensures.1
    (caused_behind c.args.store.now c.writing.store c.write.new.store [] _ c.writing.invariant.steps c.in_err-write.ensures.caused)
