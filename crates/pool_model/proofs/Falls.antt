-- The groups of a writer's items never fall.
use Rattle.std.proofs.Common.{◌≡◌, ◌⊎◌, ⊎_elim, inl, inr, ℕ, ◌≤◌, List, [], ◌∷◌, ◌++◌, Bool, true, false, Option, Some, None, refl, sym, ◌∙◌, subst, arith}
use Rattle.std.specs.Prelude.{cond, find, ◌==◌}
use Rattle.std.specs.Option.{option_map}
use Rattle.std.proofs.lemmas.Bool.Decides.{nat_tests}
use Rattle.pool_model.specs.declared.group.Holder.{Holder}
use Rattle.pool_model.specs.declared.step.Step.{Step}
use Rattle.pool_model.specs.declared.step.Reply.{Reply}
use Rattle.pool_model.specs.View.{hold_group}
use Rattle.pool_model.specs.Flow.{Flow, opened, FlowRun, IsSoundFlow}
use Rattle.pool_model.specs.Accepted.{Accepted, with_item, accepted, groups_of, NeverFalls, OnceInOrder}
use Rattle.pool_model.proofs.Flows.{EachFlow, by_flow}
use Rattle.pool_model.proofs.SoundFlows.{sound_flow, taken_hold, takes_below}
use Rattle.pool_model.proofs.Told.{refused_item, hold_filter, told_ledger, told_numbers, told_holds, told_shut, told_quiesced, was_shut}

-- what the writer's next item is for is not below low
pub record IsLow (v : Flow) (writer low : ℕ) : Type 0 where
  pub below : low ≤ opened v
  pub held : (group : ℕ) → hold_group writer v.holds ≡ Some group → low ≤ group

snoc_cases : (b : Bool) (writer group : ℕ) (x h : Holder) (hs : List Holder) → (hold_group writer (hs ++ h ∷ []) ≡ Some group → (hold_group writer hs ≡ Some group) ⊎ (group ≡ h.group)) → option_map (λ k. k.group) (cond b (Some x) (find (λ k. k.writer == writer) (hs ++ h ∷ []))) ≡ Some group → (option_map (λ k. k.group) (cond b (Some x) (find (λ k. k.writer == writer) hs)) ≡ Some group) ⊎ (group ≡ h.group)
snoc_cases true writer group x h hs rest e = inl e
snoc_cases false writer group x h hs rest e = rest e

last_cases : (b : Bool) (group : ℕ) (h : Holder) → option_map (λ (k : Holder). k.group) (cond b (Some h) None) ≡ Some group → group ≡ h.group
last_cases true group h e = cc
last_cases false group h e = absurd (cc)

hold_snoc : (writer group : ℕ) (h : Holder) (hs : List Holder) → hold_group writer (hs ++ h ∷ []) ≡ Some group → (hold_group writer hs ≡ Some group) ⊎ (group ≡ h.group)
hold_snoc writer group h [] e = inr (last_cases (h.writer == writer) group h e)
hold_snoc writer group h (x ∷ hs) e = snoc_cases (x.writer == writer) writer group x h hs (hold_snoc writer group h hs) e

filter_cases : (b : Bool) (group : ℕ) (o : Option ℕ) → cond b None o ≡ Some group → o ≡ Some group
filter_cases true group o e = absurd (cc)
filter_cases false group o e = e

fall_one : (low by g writer : ℕ) (gs : List ℕ) → ((by == writer) ≡ true → low ≤ g) → ((by == writer) ≡ true → NeverFalls g gs) → ((by == writer) ≡ false → NeverFalls low gs) → NeverFalls low (cond (by == writer) (g ∷ gs) gs)
fall_one low by g writer gs f h k = cases (by == writer) refl
  where
    cases : (b : Bool) → (by == writer) ≡ b → NeverFalls low (cond b (g ∷ gs) gs)
    cases true e = (f e, h e)
    cases false e = k e

took_low : (v : Flow) (by g writer low : ℕ) (gs : List ℕ) → IsSoundFlow v → hold_group by v.holds ≡ Some g → IsLow v writer low → ((low' : ℕ) → IsLow v writer low' → NeverFalls low' gs) → NeverFalls low (cond (by == writer) (g ∷ gs) gs)
took_low v by g writer low gs s h l f =
    fall_one low by g writer gs
    (λ e. l.held g (mine e))
    (λ e. f g (record { below = takes_below v g (taken_hold v by g v.holds s.holds h); held = λ group k. let same : Some g ≡ Some group = sym (mine e) ∙ k in let eq : g ≡ group = cc in omega arith }))
    (λ e. f low l)
  where
    mine : (by == writer) ≡ true → hold_group writer v.holds ≡ Some g
    mine e = let same : by ≡ writer = grind (arith, nat_tests, e) in subst (λ x. hold_group x v.holds ≡ Some g) same h

-- what follows does not fall below what is low after the step, so what the step adds does not either
abbrev KeepsFrom : Flow → Step → Reply → Flow → Type 0
KeepsFrom v step reply w = (writer low : ℕ) (items : List Accepted) → IsSoundFlow v → IsLow v writer low → ((low' : ℕ) → IsLow w writer low' → NeverFalls low' (groups_of writer items)) → NeverFalls low (groups_of writer (with_item step reply items))

fall_moves : EachFlow KeepsFrom
fall_moves = record {
  stays = λ v step cause writer low items s l f. subst (λ xs. NeverFalls low (groups_of writer xs)) (sym (refused_item step cause items)) (f low l);
  begun = λ v t cause writer low items s l f. f low (record { below = l.below; held = l.held });
  replanned = λ v disk writer low items s l f. f low (record { below = l.below; held = l.held });
  out = λ v disk writer low items s l f. f low (record { below = l.below; held = l.held });
  moved = λ v phase writer low items s l f. f low (record { below = l.below; held = l.held });
  read = λ v name offset len bytes writer low items s l f. f low l;
  read_under = λ v g name offset len bytes writer low items s l f. f low l;
  held = λ v by n writer low items s l f. f low (record { below = l.below; held = λ group e. ⊎_elim (λ old. l.held group old) (λ new. let b = l.below in omega arith) (hold_snoc writer group (record { writer = by; group = opened v }) v.holds e) });
  wrote = λ v x g h n le writer low items s l f. took_low v x.writer g writer low (groups_of writer items) s h l (λ low' k. f low' (record { below = k.below; held = k.held }));
  acted = λ v a g h n le writer low items s l f. took_low v a.writer g writer low (groups_of writer items) s h l (λ low' k. f low' (record { below = k.below; held = k.held }));
  released = λ v by writer low items s l f. f low (record { below = l.below; held = λ group e. l.held group (filter_cases (writer == by) group _ (sym (hold_filter writer by v.holds) ∙ e)) });
  closed = λ v b writer low items s l f. f low (record { below = let lt = l.below in omega arith; held = l.held });
  quiesced = λ v free writer low items s l f. f low (record { below = l.below; held = l.held });
  planned = λ v t writer low items s l f. f low (record { below = l.below; held = l.held });
  replanned_group = λ v t writer low items s l f. f low (record { below = l.below; held = l.held });
  committed = λ v writer low items s l f. f low (record { below = l.below; held = l.held });
}

pub told_groups : (v : Flow) (steps : List Step) (replies : List Reply) (w : Flow) → FlowRun v steps replies w → IsSoundFlow v → (writer low : ℕ) → IsLow v writer low → NeverFalls low (groups_of writer (accepted steps replies))
told_groups v [] [] w r s writer low l = tt
told_groups v (step ∷ steps) (reply ∷ replies) w r s writer low l =
    by_flow KeepsFrom fall_moves v step reply r.0 r.1 writer low (accepted steps replies) s l (told_groups r.0 steps replies w r.2 (sound_flow v step reply r.0 s r.1) writer)
told_groups v steps replies w r s writer low l = absurd r

pub once_in_order : (f : Flow) (steps : List Step) (replies : List Reply) (g : Flow) → IsSoundFlow f → FlowRun f steps replies g → OnceInOrder f steps replies g
once_in_order f steps replies g s r = record {
  ledger = told_ledger f steps replies g r;
  numbers = told_numbers f steps replies g r;
  groups = λ writer. told_groups f steps replies g r s writer 0 (record { below = omega arith; held = λ k h. omega arith });
  holds = told_holds f steps replies g r;
  shut = λ group t. (told_shut f steps replies g r group (was_shut f group s t)).0;
  quiesced = told_quiesced f steps replies g r;
}
