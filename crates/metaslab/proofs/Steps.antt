-- Each step keeps the space sound.
use Rattle.std.proofs.Common.{◌≡◌, ℕ, suc, ◌≤◌, ◌⊎◌, inl, inr, Bool, true, false, ◌&&◌, ◌||◌, not, eqb, Option, Some, None, List, [], ◌∷◌, ◌++◌, refl, sym, ap, ◌∙◌, subst, arith}
use Rattle.std.proofs.lemmas.Bool.Decides.{nat_tests}
use Rattle.std.specs.Prelude.{IsSomeAnd, ◌==◌, ◌≢◌, if◌then◌else◌}
use Rattle.std.specs.Option.{option_map}
use Rattle.metaslab.specs.State.{State, Free, InUse, Released, is_due, settled}
use Rattle.metaslab.specs.Pool.{Pool, Plan, Step, Begin, Take, Give, Commit, Drop, Settle, Pin, Unpin, is_pinned, IsReadable, MayStep, begun, kept_states, with_taken, with_given, after, after_all, Run, IsOpened}
use Rattle.metaslab.proofs.Pins.{cases, cases_le, both, either, or_true, not_true, due, still_pinned, pinned_or_was}
use Rattle.metaslab.proofs.Sound.{IsSoundPlan, IsSound}

-- a plan that is there
pub there : (o : Option Plan) (P : Plan → Type 0) → IsSomeAnd o P → (plan : Plan) × (o ≡ Some plan) × P plan
there None P h = elim h [ ]
there (Some plan) P h = (plan, refl, h)

-- what is settled: it was free, or it was released and is due
pub settled_free : (pins : List ℕ) (g : ℕ) (state : State) → settled pins g state ≡ Free → (state ≡ Free) ⊎ ((m : ℕ) × (state ≡ Released m) × (is_due pins g m ≡ true))
settled_free pins g Free h = inl refl
settled_free pins g InUse h = absurd cc
settled_free pins g (Released m) h =
    elim (cases (is_due pins g m)) [
      | inl now ↦ inr (m, refl, now)
      | inr not_now ↦ let same : Released m ≡ Free = rw not_now at h in absurd cc
    ]

pub settled_in_use : (pins : List ℕ) (g : ℕ) (state : State) → settled pins g state ≡ InUse → state ≡ InUse
settled_in_use pins g Free h = absurd cc
settled_in_use pins g InUse h = refl
settled_in_use pins g (Released m) h =
    elim (cases (is_due pins g m)) [
      | inl now ↦ let same : Free ≡ InUse = rw now at h in absurd cc
      | inr not_now ↦ let same : Released m ≡ InUse = rw not_now at h in absurd cc
    ]

pub settled_released : (pins : List ℕ) (g n : ℕ) (state : State) → settled pins g state ≡ Released n → (state ≡ Released n) × (is_due pins g n ≡ false)
settled_released pins g n Free h = absurd cc
settled_released pins g n InUse h = absurd cc
settled_released pins g n (Released m) h =
    elim (cases (is_due pins g m)) [
      | inl now ↦ let same : Free ≡ Released n = rw now at h in absurd cc
      | inr not_now ↦ let same : Released m ≡ Released n = rw not_now at h in let number : m ≡ n = cc in (same, ap (is_due pins g) (sym number) ∙ not_now)
    ]

-- what the next plan may take is in no tree that may be read
pub settled_apart : (pool : Pool) (s k : ℕ) → IsSound pool → settled pool.pins (suc pool.last) (pool.states s) ≡ Free → IsReadable pool k → pool.reach k s ≡ false
settled_apart pool s k sound h readable =
    elim (settled_free pool.pins (suc pool.last) (pool.states s) h) [
      | inl free ↦ sound.free s k free readable
      | inr (m, released, is_due_now) ↦
          let gone = sound.released s m released in
          let by = due pool.pins (suc pool.last) m is_due_now in
          let late = by.0 in
          elim readable [
            | inl kept ↦ gone.5 k (omega arith) (omega arith)
            | inr pinned ↦ let from = by.1 k pinned in let to = sound.pins k pinned in gone.5 k from to.1
          ]
    ]

begins : (pool : Pool) → IsSound pool → IsSoundPlan pool (begun pool)
begins pool sound = record {
  in_use = λ s h. inr (sound.in_use s (settled_in_use pool.pins (suc pool.last) (pool.states s) h), refl);
  reached = λ s h none. rw (sound.reached s h) refl;
  taken = λ s h. absurd cc;
  apart = λ s k h readable. absurd cc;
  given = λ s h. absurd cc;
  free = λ s k h readable. settled_apart pool s k sound h readable;
  released = λ s m h. inr (sound.released s m (settled_released pool.pins (suc pool.last) m (pool.states s) h).0);
}

-- ---- what a step leaves as it is

-- a sound plan is one beside any other state of the plan
beside : (pool : Pool) (o : Option Plan) (plan : Plan) → IsSoundPlan pool plan → IsSoundPlan (record pool { plan = o }) plan
beside pool o plan p = record { in_use = p.in_use; reached = p.reached; taken = p.taken; apart = p.apart; given = p.given; free = p.free; released = p.released }

with_plan : (pool : Pool) (o : Option Plan) → IsSound pool → ((plan : Plan) → o ≡ Some plan → IsSoundPlan pool plan) → IsSound (record pool { plan = o })
with_plan pool o sound by = record {
  order = sound.order;
  pins = sound.pins;
  in_use = sound.in_use;
  reached = sound.reached;
  free = sound.free;
  released = sound.released;
  plan = λ plan is. beside pool o plan (by plan is);
}

-- the same plan
this_one : (pool : Pool) (o : Option Plan) (plan : Plan) → o ≡ Some plan → IsSoundPlan pool plan → (other : Plan) → o ≡ Some other → IsSoundPlan pool other
this_one pool o plan is sound other is_other = let same : plan ≡ other = cc in subst (IsSoundPlan pool) same sound

-- no other groups may be read
repinned : (pool : Pool) (pins : List ℕ) → ((k : ℕ) → is_pinned pins k ≡ true → IsReadable pool k) → IsSound pool → IsSound (record pool { pins = pins })
repinned pool pins by sound =
    let readable : (k : ℕ) → IsReadable (record pool { pins = pins }) k → IsReadable pool k = λ k r. elim r [ inl kept ↦ inl kept | inr pinned ↦ by k pinned ] in
    record {
      order = sound.order;
      pins = λ p pinned. elim (by p pinned) [ inl kept ↦ (kept.0, kept.1) | inr before ↦ sound.pins p before ];
      in_use = sound.in_use;
      reached = sound.reached;
      free = λ s k free r. sound.free s k free (readable k r);
      released = sound.released;
      plan = λ plan is. let p = sound.plan plan is in
          record { in_use = p.in_use; reached = p.reached; taken = p.taken; apart = λ s k h r. p.apart s k h (readable k r); given = p.given; free = λ s k h r. p.free s k h (readable k r); released = p.released };
    }

-- ---- a plan goes on

or_false : (a b : Bool) → (a || b) ≡ false → (a ≡ false) × (b ≡ false)
or_false true b h = absurd cc
or_false false b h = (refl, h)

takes : (pool : Pool) (set : ℕ → Bool) (plan : Plan) → IsSoundPlan pool plan → ((s : ℕ) → set s ≡ true → plan.states s ≡ Free) → IsSoundPlan pool (with_taken set plan)
takes pool set plan p may = record {
  in_use = λ s h. elim (cases (set s)) [
    | inl named ↦ inl (ap (λ (b : Bool). plan.taken s || b) named ∙ or_true (plan.taken s))
    | inr other ↦
        let was : plan.states s ≡ InUse = rw other at h in
        elim (p.in_use s was) [ inl taken ↦ inl (ap (λ (b : Bool). b || set s) taken) | inr reached ↦ inr reached ]
  ];
  reached = λ s h not_given. elim (cases (set s)) [ inl named ↦ rw named refl | inr other ↦ rw other (p.reached s h not_given) ];
  taken = λ s h. elim (cases (set s)) [
    | inl named ↦ rw named refl
    | inr other ↦ elim (either (plan.taken s) (set s) h) [ inl taken ↦ rw other (p.taken s taken) | inr named ↦ absurd cc ]
  ];
  apart = λ s k h readable. elim (either (plan.taken s) (set s) h) [ inl taken ↦ p.apart s k taken readable | inr named ↦ p.free s k (may s named) readable ];
  given = λ s h. let g = p.given s h in elim (cases (set s)) [ inl named ↦ let f = may s named in let r = g.0 in absurd cc | inr other ↦ (rw other g.0, g.1) ];
  free = λ s k h readable. elim (cases (set s)) [
    | inl named ↦ let same : InUse ≡ Free = rw named at h in absurd cc
    | inr other ↦ let was : plan.states s ≡ Free = rw other at h in p.free s k was readable
  ];
  released = λ s m h. elim (cases (set s)) [
    | inl named ↦ let same : InUse ≡ Released m = rw named at h in absurd cc
    | inr other ↦ let was : plan.states s ≡ Released m = rw other at h in p.released s m was
  ];
}

last_is_readable : (pool : Pool) → pool.opened ≤ pool.last → IsReadable pool pool.last
last_is_readable pool order = inl (order, omega arith, omega arith)

gives : (pool : Pool) (set : ℕ → Bool) (plan : Plan) → pool.opened ≤ pool.last → IsSoundPlan pool plan → ((s : ℕ) → set s ≡ true → (plan.states s ≡ InUse) × (pool.reach pool.last s ≡ true))
    → IsSoundPlan pool (with_given (suc pool.last) set plan)
gives pool set plan order p may = record {
  in_use = λ s h. elim (cases (set s)) [
    | inl named ↦ let same : Released (suc pool.last) ≡ InUse = rw named at h in absurd cc
    | inr other ↦
        let was : plan.states s ≡ InUse = rw other at h in
        elim (p.in_use s was) [ inl taken ↦ inl taken | inr reached ↦ inr (reached.0, ap (λ (b : Bool). b || set s) reached.1 ∙ other) ]
  ];
  reached = λ s h not_given. let b = or_false (plan.given s) (set s) not_given in rw b.1 (p.reached s h b.0);
  taken = λ s h. elim (cases (set s)) [
    | inl named ↦ let reached = (may s named).1 in let none = p.apart s pool.last h (last_is_readable pool order) in absurd cc
    | inr other ↦ rw other (p.taken s h)
  ];
  apart = p.apart;
  given = λ s h. elim (cases (set s)) [
    | inl named ↦ (rw named refl, (may s named).1)
    | inr other ↦ elim (either (plan.given s) (set s) h) [ inl given ↦ (rw other (p.given s given).0, (p.given s given).1) | inr named ↦ absurd cc ]
  ];
  free = λ s k h readable. elim (cases (set s)) [
    | inl named ↦ let same : Released (suc pool.last) ≡ Free = rw named at h in absurd cc
    | inr other ↦ let was : plan.states s ≡ Free = rw other at h in p.free s k was readable
  ];
  released = λ s m h. elim (cases (set s)) [
    | inl named ↦ let same : Released (suc pool.last) ≡ Released m = rw named at h in inl (cc, ap (λ (b : Bool). plan.given s || b) named ∙ or_true (plan.given s))
    | inr other ↦
        let was : plan.states s ≡ Released m = rw other at h in
        elim (p.released s m was) [ inl now ↦ inl (now.0, ap (λ (b : Bool). b || set s) now.1) | inr gone ↦ inr gone ]
  ];
}

-- ---- a group is committed

abbrev committed : Pool → (ℕ → Bool) → (ℕ → State) → Pool
committed pool tree states = record pool { last = suc pool.last; reach = λ group s. if group == suc pool.last then tree s else pool.reach group s; states = states; plan = None }

commits : (pool : Pool) (tree : ℕ → Bool) (plan : Plan) → IsSound pool → IsSoundPlan pool plan → ((s : ℕ) → tree s ≡ (plan.taken s || (pool.reach pool.last s && not (plan.given s))))
    → IsSound (committed pool tree plan.states)
commits pool tree plan sound p may =
    let order = sound.order in
    let newest : (j s : ℕ) → j ≡ suc pool.last → (if j == suc pool.last then tree s else pool.reach j s) ≡ tree s =
    λ j s same. let test : eqb j (suc pool.last) ≡ true = grind (arith, nat_tests) in rw test refl in
    let older : (j s : ℕ) → j ≤ pool.last → (if j == suc pool.last then tree s else pool.reach j s) ≡ pool.reach j s =
    λ j s below. let test : eqb j (suc pool.last) ≡ false = grind (arith, nat_tests) in rw test refl in
    let in_tree : (s : ℕ) → plan.states s ≡ InUse → tree s ≡ true =
    λ s h. elim (p.in_use s h) [
      | inl taken ↦ may s ∙ ap (λ (b : Bool). b || (pool.reach pool.last s && not (plan.given s))) taken
      | inr stays ↦ may s ∙ rw (stays.0, stays.1) (or_true (plan.taken s))
    ] in
    let of_tree : (s : ℕ) → tree s ≡ true → plan.states s ≡ InUse =
    λ s h. elim (either (plan.taken s) (pool.reach pool.last s && not (plan.given s)) (sym (may s) ∙ h)) [
      | inl taken ↦ p.taken s taken
      | inr stays ↦ let b = both (pool.reach pool.last s) (not (plan.given s)) stays in p.reached s b.0 (not_true (plan.given s) b.1)
    ] in
    let out_of_tree : (s : ℕ) (state : State) → plan.states s ≡ state → state ≢ InUse → tree s ≡ false =
    λ s state is other. elim (cases (tree s)) [ inl inside ↦ absurd (other (sym is ∙ of_tree s inside)) | inr outside ↦ outside ] in
    record {
      order = omega arith;
      pins = λ q pinned. let b = sound.pins q pinned in (b.0, omega arith);
      in_use = λ s h. newest (suc pool.last) s refl ∙ in_tree s h;
      reached = λ s h. of_tree s (sym (newest (suc pool.last) s refl) ∙ h);
      free = λ s k h readable.
          elim (cases_le k pool.last) [
            | inl below ↦
                let before : IsReadable pool k = elim readable [ inl kept ↦ inl (kept.0, below, omega arith) | inr pinned ↦ inr pinned ] in
                older k s below ∙ p.free s k h before
            | inr above ↦
                let same : k ≡ suc pool.last = elim readable [ inl kept ↦ let to = kept.1 in omega arith | inr pinned ↦ let b = sound.pins k pinned in omega arith ] in
                newest k s same ∙ out_of_tree s Free h (λ e. cc)
          ];
      released = λ s m h. let none = out_of_tree s (Released m) h (λ e. cc) in
          elim (p.released s m h) [
            | inl now ↦ let is = now.0 in
                (pool.last, is, order, omega arith, older pool.last s (omega arith) ∙ (p.given s now.1).1, λ j from to. newest j s (omega arith) ∙ none)
            | inr (before, next, since, to_last, was, gone) ↦ (
              before,
              next,
              since,
              omega arith,
              older before s (omega arith) ∙ was,
              λ j from to. elim (cases_le j pool.last) [ inl below ↦ older j s below ∙ gone j from below | inr above ↦ newest j s (omega arith) ∙ none ],
            )
          ];
      plan = λ other is. absurd cc;
    }

-- ---- what is due becomes free early

settles : (pool : Pool) → IsSound pool → IsSound (record pool { states = λ s. settled pool.pins (suc pool.last) (pool.states s) })
settles pool sound = record {
  order = sound.order;
  pins = sound.pins;
  in_use = λ s h. sound.in_use s (settled_in_use pool.pins (suc pool.last) (pool.states s) h);
  reached = λ s h. rw (sound.reached s h) refl;
  free = λ s k h readable. settled_apart pool s k sound h readable;
  released = λ s m h. sound.released s m (settled_released pool.pins (suc pool.last) m (pool.states s) h).0;
  plan = λ plan is. let p = sound.plan plan is in
      record { in_use = p.in_use; reached = p.reached; taken = p.taken; apart = p.apart; given = p.given; free = p.free; released = p.released };
}

-- ---- any step

pub sound_step : (pool : Pool) (step : Step) → IsSound pool → MayStep pool step → IsSound (after pool step)
sound_step pool Begin sound may = with_plan pool (Some (begun pool)) sound (this_one pool (Some (begun pool)) (begun pool) refl (begins pool sound))
sound_step pool (Take set) sound may =
    let (plan, is, by) = there pool.plan _ may in
    let new : option_map (with_taken set) pool.plan ≡ Some (with_taken set plan) = ap (option_map (with_taken set)) is in
    with_plan pool (option_map (with_taken set) pool.plan) sound (this_one pool _ (with_taken set plan) new (takes pool set plan (sound.plan plan is) by))
sound_step pool (Give set) sound may =
    let (plan, is, by) = there pool.plan _ may in
    let new : option_map (with_given (suc pool.last) set) pool.plan ≡ Some (with_given (suc pool.last) set plan) = ap (option_map (with_given (suc pool.last) set)) is in
    with_plan pool (option_map (with_given (suc pool.last) set) pool.plan) sound (this_one pool _ (with_given (suc pool.last) set plan) new (gives pool set plan sound.order (sound.plan plan is) by))
sound_step pool (Commit tree) sound may =
    let (plan, is, by) = there pool.plan _ may in
    subst IsSound (ap (λ (o : Option Plan). committed pool tree (kept_states pool.states o)) (sym is)) (commits pool tree plan sound (sound.plan plan is) by)
sound_step pool Drop sound may = with_plan pool None sound (λ plan is. absurd cc)
sound_step pool Settle sound may = settles pool sound
sound_step pool (Pin group) sound may =
    repinned pool (pool.pins ++ group ∷ []) (λ k h. elim (pinned_or_was pool.pins group k h) [ inl same ↦ subst (IsReadable pool) same may | inr before ↦ inr before ]) sound
sound_step pool (Unpin group) sound may = repinned pool _ (λ k h. inr (still_pinned pool.pins group k h)) sound

pub sound_run : (pool : Pool) (steps : List Step) → IsSound pool → Run pool steps → IsSound (after_all pool steps)
sound_run pool [] sound run = sound
sound_run pool (step ∷ steps) sound run = sound_run (after pool step) steps (sound_step pool step sound run.0) run.1

pub opened_is_sound : (pool : Pool) → IsOpened pool → IsSound pool
opened_is_sound pool o =
    let first = o.first in
    let one : (s : ℕ) (state : State) → pool.states s ≡ state → (if pool.reach pool.last s then InUse else Free) ≡ state = λ s state h. sym (o.states s) ∙ h in
    record {
      order = omega arith;
      pins = λ p h. let none : is_pinned [] p ≡ true = rw o.none_pinned at h in absurd cc;
      in_use = λ s h. elim (cases (pool.reach pool.last s)) [ inl reached ↦ reached | inr other ↦ let same : Free ≡ InUse = rw other at (one s InUse h) in absurd cc ];
      reached = λ s h. o.states s ∙ rw h refl;
      free = λ s k h readable.
          let last : k ≡ pool.last = elim readable [ inl kept ↦ let from = kept.0 in let to = kept.1 in omega arith | inr pinned ↦ let none : is_pinned [] k ≡ true = rw o.none_pinned at pinned in absurd cc ] in
          elim (cases (pool.reach pool.last s)) [ inl reached ↦ let same : InUse ≡ Free = rw reached at (one s Free h) in absurd cc | inr other ↦ rw last other ];
      released = λ s m h.
          elim (cases (pool.reach pool.last s)) [ inl reached ↦ let same : InUse ≡ Released m = rw reached at (one s (Released m) h) in absurd cc | inr other ↦ let same : Free ≡ Released m = rw other at (one s (Released m) h) in absurd cc ];
      plan = λ plan is. absurd cc;
    }
