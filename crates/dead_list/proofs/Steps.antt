-- Any operation.
use Rattle.std.proofs.Common.{ℕ, ◌≡◌, ◌⊎◌, inl, List, [], Contains, sym, subst}
use Rattle.block_pointer.specs.declared.block.Block.{Block}
use Rattle.dead_list.specs.Datasets.{Dataset, Datasets, Pool, IsReached, AreFreed, nothing, updated}
use Rattle.dead_list.specs.Operations.{Operation, NextGroup, Create, Overwrite, TakeSnapshot, MakeClone, DestroyHead, DestroySnapshot, MayDo, Makes, new_volume, clone_of}
use Rattle.dead_list.specs.Runs.{entered_by}
use Rattle.dead_list.specs.Sound.{IsSound}
use Rattle.dead_list.proofs.Fitting.{freed_none}
use Rattle.dead_list.proofs.Heads.{head_gone, head_freed}
use Rattle.dead_list.proofs.Making.{volume_made, clone_made, made_freed, sound_later}
use Rattle.dead_list.proofs.Parts.{none_in}
use Rattle.dead_list.proofs.Removing.{snapshot_removed, removed_freed, removed_back}
use Rattle.dead_list.proofs.Taking.{snapshot_taken, taken_freed, taken_back}
use Rattle.dead_list.proofs.Updates.{at_each}
use Rattle.dead_list.proofs.Writing.{head_written, written_freed, written_back}

pub stays_sound : (old new : Pool) (operation : Operation) (freed : List Block) → IsSound old → MayDo old operation → Makes old operation freed new → IsSound new
stays_sound old new NextGroup freed sound may made = subst IsSound (sym made.1) (sound_later old sound)
stays_sound old new (Create n) freed sound may made = subst IsSound (sym made.1) (volume_made old sound n may.0 may.1)
stays_sound old new (Overwrite head left entered) freed sound may made =
    subst IsSound (sym made.new_is) (head_written old sound head may.0 may.1 left entered freed may.2 new made)
stays_sound old new (TakeSnapshot head n) freed sound may made = subst IsSound (sym made.1) (snapshot_taken old sound head may.0 n may.1.0 may.1.1)
stays_sound old new (MakeClone snapshot n) freed sound may made = subst IsSound (sym made.1) (clone_made old sound n may.1.0 may.1.1 snapshot may.0)
stays_sound old new (DestroyHead head) freed sound may made = subst IsSound (sym made.new_is) (head_gone old sound head may.0 may.1)
stays_sound old new (DestroySnapshot snapshot) freed sound may made =
    subst IsSound (sym made.new_is) (snapshot_removed old sound snapshot may.0 may.1 freed new made)

-- where a pool is that one and frees that
frees_in : (old new is : Pool) (freed gone : List Block) → freed ≡ gone → new ≡ is → AreFreed old.datasets is.datasets gone → AreFreed old.datasets new.datasets freed
frees_in old new is freed gone same e h = subst (λ (p : Pool). AreFreed old.datasets p.datasets freed) (sym e) (subst (AreFreed old.datasets is.datasets) (sym same) h)

pub frees : (old new : Pool) (operation : Operation) (freed : List Block) → IsSound old → MayDo old operation → Makes old operation freed new → AreFreed old.datasets new.datasets freed
frees old new NextGroup freed sound may made = frees_in old new _ freed [] made.0 made.1 (freed_none old.datasets old.datasets (λ b was. was))
frees old new (Create n) freed sound may made = frees_in old new _ freed [] made.0 made.1 (made_freed old sound n may.0 may.1 (new_volume old))
frees old new (Overwrite head left entered) freed sound may made =
    frees_in old new _ freed freed (λ i. freed) made.new_is (written_freed old sound head may.0 may.1 left entered freed may.2 new made)
frees old new (TakeSnapshot head n) freed sound may made = frees_in old new _ freed [] made.0 made.1 (taken_freed old sound head may.0 n may.1.0 may.1.1)
frees old new (MakeClone snapshot n) freed sound may made = frees_in old new _ freed [] made.0 made.1 (made_freed old sound n may.1.0 may.1.1 (clone_of old snapshot))
frees old new (DestroyHead head) freed sound may made = frees_in old new _ freed freed (λ i. freed) made.new_is (head_freed old sound head may.0 freed made.older made.split)
frees old new (DestroySnapshot snapshot) freed sound may made =
    frees_in old new _ freed freed (λ i. freed) made.new_is (removed_freed old sound snapshot may.0 may.1 freed new made)

-- what is reached with another dataset at a number was reached, if that dataset reaches nothing else
back_from : (s : Datasets) (n : ℕ) (d : Dataset) (b : Block) → (Contains d.blocks b → IsReached s b) → IsReached (updated s n d) b → IsReached s b
back_from s n d b here (m, now) = at_each s n d (λ k x. Contains x.blocks b → IsReached s b) here (λ k ne there. (k, there)) m now

-- what is reached then was reached or entered
pub reached_before : (old new : Pool) (operation : Operation) (freed : List Block) → IsSound old → MayDo old operation → Makes old operation freed new
    → (b : Block) → IsReached new.datasets b → IsReached old.datasets b ⊎ Contains (entered_by operation) b
reached_before old new NextGroup freed sound may made b now = inl (subst (λ (p : Pool). IsReached p.datasets b) made.1 now)
reached_before old new (Create n) freed sound may made b now =
    inl (back_from old.datasets n (new_volume old) b (λ none. none_in b none) (subst (λ (p : Pool). IsReached p.datasets b) made.1 now))
reached_before old new (Overwrite head left entered) freed sound may made b now =
    written_back old sound head may.0 may.1 left entered freed may.2 new made b (subst (λ (p : Pool). IsReached p.datasets b) made.new_is now)
reached_before old new (TakeSnapshot head n) freed sound may made b now =
    inl (taken_back old sound head may.0 n may.1.0 may.1.1 b (subst (λ (p : Pool). IsReached p.datasets b) made.1 now))
reached_before old new (MakeClone snapshot n) freed sound may made b now =
    inl (back_from old.datasets n (clone_of old snapshot) b (λ here. (snapshot, here)) (subst (λ (p : Pool). IsReached p.datasets b) made.1 now))
reached_before old new (DestroyHead head) freed sound may made b now =
    inl (back_from old.datasets head nothing b (λ none. none_in b none) (subst (λ (p : Pool). IsReached p.datasets b) made.new_is now))
reached_before old new (DestroySnapshot snapshot) freed sound may made b now =
    inl (removed_back old sound snapshot may.0 may.1 freed new made b (subst (λ (p : Pool). IsReached p.datasets b) made.new_is now))
