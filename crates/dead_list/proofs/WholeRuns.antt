-- Runs of operations.
use Rattle.std.proofs.Common.{inl, inr, List, [], ◌∷◌, Contains, sym, subst}
use Rattle.std.proofs.lemmas.List.Elements.{Contains-append_left, Contains-append_right, Contains-append_cases}
use Rattle.block_pointer.specs.declared.block.Block.{Block}
use Rattle.dead_list.specs.Datasets.{Pool, IsReached, AreFreed}
use Rattle.dead_list.specs.Operations.{Operation, MayDo, Makes}
use Rattle.dead_list.specs.Runs.{Step, Run, entered_by, all_entered, all_freed, NoneComesBack, IsFreedForGood}
use Rattle.dead_list.specs.Sound.{IsSound, IsEmpty}
use Rattle.dead_list.proofs.Distinct.{distinct_none, distinct_both}
use Rattle.dead_list.proofs.Making.{sound_empty}
use Rattle.dead_list.proofs.Parts.{none_in}
use Rattle.dead_list.proofs.Steps.{stays_sound, frees, reached_before}

pub runs_sound : (start last : Pool) (steps : List Step) → IsSound start → Run start steps last → IsSound last
runs_sound start last [] sound run = subst IsSound (sym run) sound
runs_sound start last (step ∷ steps) sound run = runs_sound run.0 last steps (stays_sound start run.0 step.operation step.freed sound run.1 run.2) run.3

pub run_from_empty : (start last : Pool) (steps : List Step) → IsEmpty start → Run start steps last → IsSound last
run_from_empty start last steps none run = runs_sound start last steps (sound_empty start none) run

pub run_frees : (start last new : Pool) (steps : List Step) (operation : Operation) (freed : List Block) → IsEmpty start → Run start steps last → MayDo last operation → Makes last operation freed new
    → AreFreed last.datasets new.datasets freed
run_frees start last new steps operation freed none run may made = frees last new operation freed (run_from_empty start last steps none run) may made

-- what isn't reached and doesn't enter again is neither freed nor reached
record StaysGone (steps : List Step) (last : Pool) (b : Block) : Type 0 where
  pub unfreed : ¬ Contains (all_freed steps) b
  pub unreached : ¬ IsReached last.datasets b

stays_gone : (start last : Pool) (steps : List Step) (b : Block) → IsSound start → Run start steps last → ¬ IsReached start.datasets b → ¬ Contains (all_entered steps) b → StaysGone steps last b
stays_gone start last [] b sound run gone out = record {
  unfreed = λ held. none_in b held;
  unreached = λ now. gone (subst (λ (p : Pool). IsReached p.datasets b) run now);
}
stays_gone start last (step ∷ steps) b sound run gone out =
    let (mid, may, made, more) = run in
    let rest = stays_gone mid last steps b (stays_sound start mid step.operation step.freed sound may made) more
    (λ now. elim (reached_before start mid step.operation step.freed sound may made b now) [
      | inl was ↦ gone was
      | inr came ↦ out (Contains-append_left (entered_by step.operation) (all_entered steps) b came)
    ])
    (λ came. out (Contains-append_right (entered_by step.operation) (all_entered steps) b came)) in
    record {
      unfreed = λ held. elim (Contains-append_cases step.freed (all_freed steps) b held) [
        | inl here ↦ gone (((frees start mid step.operation step.freed sound may made).which b).0 here).0
        | inr later ↦ rest.unfreed later
      ];
      unreached = rest.unreached;
    }

pub freed_for_good : (start last : Pool) (steps : List Step) → IsSound start → Run start steps last → NoneComesBack steps → IsFreedForGood steps last
freed_for_good start last [] sound run out = record { once = distinct_none; never = λ b held. none_in b held }
freed_for_good start last (step ∷ steps) sound run out =
    let (mid, may, made, more) = run in
    let here = frees start mid step.operation step.freed sound may made in
    let after = stays_sound start mid step.operation step.freed sound may made in
    let rest = freed_for_good mid last steps after more out.1 in
    let gone = λ (b : Block) (held : Contains step.freed b). stays_gone mid last steps b after more ((here.which b).0 held).1 (out.0 b held) in
    record {
      once = distinct_both step.freed (all_freed steps) here.once rest.once (λ b held. (gone b held).unfreed);
      never = λ b held. elim (Contains-append_cases step.freed (all_freed steps) b held) [
        | inl first ↦ (gone b first).unreached
        | inr later ↦ rest.never b later
      ];
    }
