-- From a plan to its commit.
use Rattle.std.proofs.Common.{◌≡◌, ◌⊎◌, ⊎_elim, inl, inr, ℕ, ◌<◌, List, [], ◌∷◌, Bool, true, false, true≢false, refl, sym, ap, ◌∙◌, subst, arith}
use Rattle.std.specs.Prelude.{Contains, filter, not, ◌==◌, ◌||◌}
use Rattle.std.proofs.lemmas.List.Elements.{Contains-append_left, Contains-append_right}
use Rattle.pool_model.specs.declared.refusal.Refusal.{Refusal}
use Rattle.pool_model.specs.declared.step.Step.{Step}
use Rattle.pool_model.specs.declared.step.Step.TheVariants.{Hold, Plan, Device, DiskOut}
use Rattle.pool_model.specs.declared.step.Reply.{Reply}
use Rattle.pool_model.specs.declared.step.Reply.TheVariants.{Held, Planned, Moved, Committed, Out, Refused}
use Rattle.pool_model.specs.View.{View, Given, DueCall, Due, is_planned, is_fault_on}
use Rattle.pool_model.specs.Machine.{IsPlan, without_disk, StepOf, Run}
use Rattle.pool_model.specs.Headline.{OutsBy}
use Rattle.pool_model.specs.Plans.{made_in, NonePlanned, IsWhollyMade}
use Rattle.pool_model.proofs.Answered.{out_moves}
use Rattle.pool_model.proofs.Leaving.{moves_leave, commits_leave, same_due, stays_left, still_in_use}
use Rattle.pool_model.proofs.Moves.{EachMove, by_move}

-- ---- disks that are out stay out

or_false : (a b : Bool) → (a || b) ≡ false → b ≡ false
or_false true b e = absurd (true≢false e)
or_false false b e = e

in_use_before : (out after : ℕ → Bool) (step : Step) (given : Given) (reply : Reply) (disk : ℕ) → OutsBy out step given reply after → after disk ≡ false → out disk ≡ false
in_use_before out after Device given reply disk by e = or_false (is_fault_on given.fault disk) (out disk) (sym (by disk) ∙ e)
in_use_before out after (DiskOut gone) given Out disk by e = or_false (disk == gone) (out disk) (sym (by disk) ∙ e)
in_use_before out after (DiskOut gone) given reply disk by e = sym (by disk) ∙ e
in_use_before out after (Hold writer) given reply disk by e = sym (by disk) ∙ e
in_use_before out after step given reply disk by e = sym (by disk) ∙ e

in_use_in_run : (v : View) (steps : List Step) (givens : List Given) (replies : List Reply) (w : View) (disk : ℕ) → Run v steps givens replies w → w.out disk ≡ false → v.out disk ≡ false
in_use_in_run v [] [] [] w disk r e = sym (ap (λ (x : View). x.out disk) r) ∙ e
in_use_in_run v (step ∷ steps) (given ∷ givens) (reply ∷ replies) w disk r e =
    in_use_before v.out r.0.out step given reply disk (by_move (λ v given step reply w. OutsBy v.out step given reply w.out) out_moves v given step reply r.0 r.1)
    (in_use_in_run r.0 steps givens replies w disk r.2 e)
in_use_in_run v steps givens replies w disk r e = absurd r

-- ---- without a plan no group is committed

abbrev StaysUnplanned : View → Given → Step → Reply → View → Type 0
StaysUnplanned v given step reply w = is_planned v.sync ≡ false → ((group : ℕ) → ¬ (reply ≡ Planned group)) → (w.committed ≡ v.committed) × (is_planned w.sync ≡ false)

unplanned_moves : EachMove StaysUnplanned
unplanned_moves = record {
  stays = λ v given step cause may e p n. (refl, p);
  begun = λ v given t cause is p n. (refl, refl);
  again = λ v given t cause is p n. (refl, refl);
  failed = λ v given disk left e p n. (refl, refl);
  replanned = λ v given disk left e p n. (refl, refl);
  out_unplanned = λ v given disk e p n. (refl, p);
  out_early = λ v given disk left p n. (refl, refl);
  out_late = λ v given disk left p n. absurd (true≢false p);
  moved = λ v given phase left rest out e p n. absurd (true≢false p);
  read = λ v given name offset len bytes a p n. (refl, p);
  read_under = λ v given g name offset len bytes k a p n. (refl, p);
  held = λ v given by o p n. (refl, p);
  wrote = λ v given x g h m le p n. (refl, p);
  acted = λ v given a g h m le op p n. (refl, p);
  released = λ v given by p n. (refl, p);
  closed = λ v given b p n. (refl, p);
  quiesced = λ v given e p n. (refl, p);
  planned = λ v given t calls p n. absurd (n _ refl);
  replanned_group = λ v given t calls p n. absurd (n _ refl);
  committed = λ v given left out e p n. absurd (true≢false p);
}

stays_unplanned : (v : View) (steps : List Step) (givens : List Given) (replies : List Reply) (w : View) → Run v steps givens replies w → NonePlanned replies → is_planned v.sync ≡ false → w.committed ≡ v.committed
stays_unplanned v [] [] [] w r none p = ap (λ (x : View). x.committed) r
stays_unplanned v (step ∷ steps) (given ∷ givens) (reply ∷ replies) w r none p =
    let one = by_move StaysUnplanned unplanned_moves v given step reply r.0 r.1 p none.0 in
    stays_unplanned r.0 steps givens replies w r.2 none.1 one.1 ∙ one.0
stays_unplanned v steps givens replies w r none p = absurd r

-- ---- with one its calls stay, but where they are made or the plan is dropped

abbrev IsOther : Reply → Type 0
IsOther (Moved phase) = ⊥
IsOther (Committed group) = ⊥
IsOther (Planned group) = ⊥
IsOther Out = ⊥
IsOther reply = Unit {0}

abbrev KeepsPlan : View → Given → Step → Reply → View → Type 0
KeepsPlan v given step reply w = IsOther reply → (w.committed ≡ v.committed) × ((w.sync ≡ v.sync) ⊎ (is_planned w.sync ≡ false))

other_moves : EachMove KeepsPlan
other_moves = record {
  stays = λ v given step cause may e o. (refl, inl refl);
  begun = λ v given t cause is o. (refl, inr refl);
  again = λ v given t cause is o. (refl, inr refl);
  failed = λ v given disk left e o. (refl, inr refl);
  replanned = λ v given disk left e o. (refl, inr refl);
  out_unplanned = λ v given disk e o. absurd o;
  out_early = λ v given disk left o. absurd o;
  out_late = λ v given disk left o. absurd o;
  moved = λ v given phase left rest out e o. absurd o;
  read = λ v given name offset len bytes a o. (refl, inl refl);
  read_under = λ v given g name offset len bytes k a o. (refl, inl refl);
  held = λ v given by n o. (refl, inl refl);
  wrote = λ v given x g h n le o. (refl, inl refl);
  acted = λ v given a g h n le op o. (refl, inl refl);
  released = λ v given by o. (refl, inl refl);
  closed = λ v given b o. (refl, inl refl);
  quiesced = λ v given e o. (refl, inl refl);
  planned = λ v given t calls o. absurd o;
  replanned_group = λ v given t calls o. absurd o;
  committed = λ v given left out e o. absurd o;
}

-- A disk that is taken out leaves the calls on other disks, or no plan.
abbrev LeavesOthers : View → Given → Step → Reply → View → Type 0
LeavesOthers v given step Out w = (w.committed ≡ v.committed)
    × ((is_planned w.sync ≡ false) ⊎ ((left : List DueCall) → v.sync ≡ Due left → (call : DueCall) → Contains left call → w.out call.disk ≡ false
    → (rest : List DueCall) × (w.sync ≡ Due rest) × Contains rest call))
LeavesOthers v given step reply w = Unit {0}

stay_due : (v : View) (disk : ℕ) (calls left : List DueCall) → Due calls ≡ Due left → (call : DueCall) → Contains left call → (without_disk v disk).out call.disk ≡ false
    → (rest : List DueCall) × (Due (filter (λ c. not (c.disk == disk)) calls) ≡ Due rest) × Contains rest call
stay_due v disk calls left e call held in_use =
    (filter (λ c. not (c.disk == disk)) calls, refl, stays_left disk calls call (subst (λ cs. Contains cs call) (sym (same_due calls left e)) held) (still_in_use v disk call.disk in_use))

out_leaves : EachMove LeavesOthers
out_leaves = record {
  stays = λ v given step cause may e. tt;
  begun = λ v given t cause is. tt;
  again = λ v given t cause is. tt;
  failed = λ v given disk left e. tt;
  replanned = λ v given disk left e. tt;
  out_unplanned = λ v given disk e. (refl, inl e);
  out_early = λ v given disk left. (refl, inl refl);
  out_late = λ v given disk left. (refl, inr (λ calls e call held in_use. stay_due v disk left calls e call held in_use));
  moved = λ v given phase left rest out e. tt;
  read = λ v given name offset len bytes a. tt;
  read_under = λ v given g name offset len bytes k a. tt;
  held = λ v given by n. tt;
  wrote = λ v given x g h n le. tt;
  acted = λ v given a g h n le op. tt;
  released = λ v given by. tt;
  closed = λ v given b. tt;
  quiesced = λ v given e. tt;
  planned = λ v given t calls. tt;
  replanned_group = λ v given t calls. tt;
  committed = λ v given left out e. tt;
}

-- only a Device step moves or commits
abbrev IsDevices : View → Given → Step → Reply → View → Type 0
IsDevices v given step (Moved phase) w = (step ≡ Device) × (w.committed ≡ v.committed)
IsDevices v given step (Committed group) w = step ≡ Device
IsDevices v given step reply w = Unit {0}

device_moves : EachMove IsDevices
device_moves = record {
  stays = λ v given step cause may e. tt;
  begun = λ v given t cause is. tt;
  again = λ v given t cause is. tt;
  failed = λ v given disk left e. tt;
  replanned = λ v given disk left e. tt;
  out_unplanned = λ v given disk e. tt;
  out_early = λ v given disk left. tt;
  out_late = λ v given disk left. tt;
  moved = λ v given phase left rest out e. (refl, refl);
  read = λ v given name offset len bytes a. tt;
  read_under = λ v given g name offset len bytes k a. tt;
  held = λ v given by n. tt;
  wrote = λ v given x g h n le. tt;
  acted = λ v given a g h n le op. tt;
  released = λ v given by. tt;
  closed = λ v given b. tt;
  quiesced = λ v given e. tt;
  planned = λ v given t calls. tt;
  replanned_group = λ v given t calls. tt;
  committed = λ v given left out e. refl;
}

front : (given : Given) (givens : List Given) (call : DueCall) → Contains given.made call → Contains (made_in (given ∷ givens)) call
front given givens call held = Contains-append_left given.made (made_in givens) call held

behind : (given : Given) (givens : List Given) (call : DueCall) → Contains (made_in givens) call → Contains (made_in (given ∷ givens)) call
behind given givens call held = Contains-append_right given.made (made_in givens) call held

-- each call that is left is made, up to a commit
all_made : (v : View) (steps : List Step) (givens : List Given) (replies : List Reply) (w : View) → Run v steps givens replies w → NonePlanned replies → v.committed < w.committed
    → (left : List DueCall) → v.sync ≡ Due left → (call : DueCall) → Contains left call → w.out call.disk ≡ false → Contains (made_in givens) call
all_made v [] [] [] w r none later left planned call held in_use = absurd (let same = ap (λ (x : View). x.committed) r in omega (arith, later, same))
all_made v (step ∷ steps) (given ∷ givens) (reply ∷ replies) w r none later left planned call held in_use =
    by_reply reply r.1 none.0 (λ rest same is there. all_made r.0 steps givens replies w r.2 none.1 (omega (arith, later, same)) rest is call there in_use)
  where
    there : r.0.out call.disk ≡ false
    there = in_use_in_run r.0 steps givens replies w call.disk r.2 in_use

    Again : Type 0
    Again = (rest : List DueCall) → r.0.committed ≡ v.committed → r.0.sync ≡ Due rest → Contains rest call → Contains (made_in givens) call

    other : (reply : Reply) → StepOf v given step reply r.0 → IsOther reply → Again → Contains (made_in (given ∷ givens)) call
    other reply s o again =
        let one = by_move KeepsPlan other_moves v given step reply r.0 s o in
        ⊎_elim
        (λ same. behind given givens call (again left one.0 (same ∙ planned) held))
        (λ dropped. absurd (let e = one.0 in let f = stays_unplanned r.0 steps givens replies w r.2 none.1 dropped in omega (arith, later, e, f)))
        one.1

    by_reply : (reply : Reply) → StepOf v given step reply r.0 → ((group : ℕ) → ¬ (reply ≡ Planned group)) → Again → Contains (made_in (given ∷ givens)) call
    by_reply (Moved phase) s n again =
        let is = by_move IsDevices device_moves v given step (Moved phase) r.0 s in
        let goes = moves_leave v given phase r.0 left call (subst (λ x. StepOf v given x (Moved phase) r.0) is.0 s) planned held there in
        ⊎_elim (λ made. front given givens call made)
        (λ rest. behind given givens call (again goes.0 is.1 goes.1 rest))
        goes.2
    by_reply (Committed group) s n again =
        let is = by_move IsDevices device_moves v given step (Committed group) r.0 s in
        front given givens call (commits_leave v given group r.0 left call (subst (λ x. StepOf v given x (Committed group) r.0) is s) planned held there)
    by_reply (Planned group) s n again = absurd (n group refl)
    by_reply Out s n again =
        let leaves = by_move LeavesOthers out_leaves v given step Out r.0 s in
        ⊎_elim
        (λ dropped. absurd (let e = leaves.0 in let f = stays_unplanned r.0 steps givens replies w r.2 none.1 dropped in omega (arith, later, e, f)))
        (λ stay. let kept = stay left planned call held there in behind given givens call (again kept.0 leaves.0 kept.1 kept.2))
        leaves.1
    by_reply (Held group) s n again = other (Held group) s tt again
    by_reply reply s n again = other reply s tt again
all_made v steps givens replies w r none later left planned call held in_use = absurd r

-- ---- the plan

no_plan : (group : ℕ) (cause : Refusal) → ¬ (Planned group ≡ Refused cause)
no_plan group cause e = cc

pub wholly_made : (v : View) (given : Given) (timestamp group : ℕ) (mid : View) (steps : List Step) (givens : List Given) (replies : List Reply) (w : View) → StepOf v given (Plan timestamp) (Planned group) mid
    → Run mid steps givens replies w → NonePlanned replies → w.committed ≡ group → IsWhollyMade mid givens w
wholly_made v given timestamp group mid steps givens replies w s run none committed = ⊎_elim
    (λ r. absurd (no_plan group r.cause r.answer))
    (λ s. ⊎_elim
    (λ l. absurd (no_plan group _ l.answer))
    (λ a. let is = a.answered in
    let sync : mid.sync ≡ Due is.1 = ap (λ (x : View). x.sync) is.3 in
    let same : mid.committed ≡ v.committed = ap (λ (x : View). x.committed) is.3 in
    let next = is.0.0 in
    record {
      calls = is.1;
      planned = sync;
      is_plan = subst (λ (x : View). IsPlan x is.1) (sym is.3) (record { in_use = is.2.in_use; numbered = is.2.numbered; behind = is.2.behind; flushes = is.2.flushes; slots = is.2.slots; slot_flushes = is.2.slot_flushes });
      made = λ call held in_use. all_made mid steps givens replies w run none (omega (arith, committed, same, next)) is.1 sync call held in_use;
    })
    s)
    s
