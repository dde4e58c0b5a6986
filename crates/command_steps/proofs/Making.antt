-- What sessions have made, by their last reply.
use Rattle.std.proofs.Common.{◌≡◌, ◌∙◌, ◌≤◌, ◌+◌, ◌==◌, ℕ, suc, nat_le, List, [], ◌∷◌, ◌++◌, length, Bool, true, false, Some, None, cond, refl, ap, subst, arith}
use Rattle.std.specs.List.{last_or}
use Rattle.std.proofs.lemmas.Bool.Decides.{nat_tests}
use Rattle.pool_model.specs.declared.group.Holder.{Holder}
use Rattle.pool_model.specs.declared.step.Step.{Step}
use Rattle.pool_model.specs.declared.step.Step.TheVariants as step
use Rattle.pool_model.specs.declared.step.Reply.{Reply}
use Rattle.pool_model.specs.declared.step.Reply.TheVariants as reply
use Rattle.pool_model.specs.Accepted.{Accepted, CountsFrom, accepted, ledger_with}
use Rattle.pool_model.specs.Flow.{Flow, FlowRun, flow_of, opened, released_by}
use Rattle.pool_model.specs.Groups.{commits}
use Rattle.pool_model.specs.Headline.{Headline}
use Rattle.pool_model.specs.Pools.{Entry, Ledger, applied, no_items, upto}
use Rattle.pool_model.specs.Sound.{IsSound}
use Rattle.pool_model.specs.View.{View, Given}
use Rattle.pool_model.proofs.Uptos.{upto_one}
use Rattle.command_steps.specs.Changes.{steps_of}
use Rattle.command_steps.specs.Due.{AreTaken}
use Rattle.command_steps.specs.Made.{IsAtRest, IsItem, IsKept, IsMade, IsNextGroup, IsSame, entry_of}
use Rattle.command_steps.proofs.Accepting.{GoesOn, accepts_item, accepts_none, goes_on, held, held_by, item_taken, released}
use Rattle.command_steps.proofs.Courses.{item_not_device}
use Rattle.command_steps.proofs.Resting.{RestsWith, commit_rests, idle_of}

-- ---- a session that commits

-- behind the item the hold is given back, and the commit leaves none
released_rests : (t group n : ℕ) (f g : Flow) (steps : List Step) (replies : List Reply) (left : List Step) → f.syncing ≡ false → f.holds ≡ held_by n → GoesOn t (step.Release 1) (step.Close ∷ []) f g steps replies left group
    → RestsWith [] g
released_rests t group n f g steps replies left unsynced one_hold c =
    let has_none = released f c.mid c.first c.accepts c.step in
    let none_held : (c.mid).holds ≡ [] = ap (λ (x : Flow). x.holds) has_none ∙ ap (λ (l : List Holder). released_by l 1) one_hold in
    let still : (c.mid).syncing ≡ false = ap (λ (x : Flow). x.syncing) has_none ∙ unsynced in
    subst (λ (l : List Holder). RestsWith l g) none_held (commit_rests t step.Close c.mid g c.rest c.others left group still c.taken c.run c.last)

record Tells (item : Step) (n : ℕ) (g : Flow) (steps : List Step) (replies : List Reply) : Type 0 where
  items : accepted steps replies ≡ accepted (item ∷ []) (reply.Receipt n ∷ [])
  rests : RestsWith [] g

-- under the one hold of this group the item joins it
item_tells : (t group n : ℕ) (item : Step) (f g : Flow) (steps : List Step) (replies : List Reply) (left : List Step) → IsItem item → f.syncing ≡ false → f.holds ≡ held_by n
    → GoesOn t item (step.Release 1 ∷ step.Close ∷ []) f g steps replies left group → Tells item n g steps replies
item_tells t group n item f g steps replies left is unsynced one_hold b =
    let it = item_taken f b.mid n item b.first is one_hold b.accepts b.step in
    let all : replies ≡ reply.Receipt n ∷ b.others = b.replies_are ∙ ap (λ (r : Reply). r ∷ b.others) it.receipt in
    record {
      items = (λ i. accepted (b.steps_are i) (all i)) ∙ accepts_item t n item b.rest b.others left is b.taken;
      rests = released_rests t group n b.mid g b.rest b.others left (it.syncing ∙ unsynced) (it.holds ∙ one_hold) (goes_on t (step.Release 1) step.Close [] b.mid g b.rest b.others left group tt b.taken b.run b.last);
    }

hold_tells : (t group : ℕ) (item : Step) (f g : Flow) (steps : List Step) (replies : List Reply) (left : List Step) → IsItem item → f.syncing ≡ false → f.holds ≡ []
    → GoesOn t (step.Hold 1) (item ∷ step.Release 1 ∷ step.Close ∷ []) f g steps replies left group → Tells item (opened f) g steps replies
hold_tells t group item f g steps replies left is unsynced no_holds a =
    let has_hold = held f a.mid a.first a.accepts a.step in
    let one_hold : (a.mid).holds ≡ held_by (opened f) = ap (λ (x : Flow). x.holds) has_hold ∙ ap (λ (l : List Holder). l ++ held_by (opened f)) no_holds in
    let still : (a.mid).syncing ≡ false = ap (λ (x : Flow). x.syncing) has_hold ∙ unsynced in
    let more = item_tells t group (opened f) item a.mid g a.rest a.others left is still one_hold
    (goes_on t item (step.Release 1) (step.Close ∷ []) a.mid g a.rest a.others left group (item_not_device item is) a.taken a.run a.last) in
    record { items = (λ i. accepted (a.steps_are i) (a.replies_are i)) ∙ more.items; rests = more.rests }

told : (t group : ℕ) (item : Step) (f g : Flow) (steps : List Step) (replies : List Reply) (left : List Step) → IsItem item → f.syncing ≡ false → f.holds ≡ [] → AreTaken t (steps_of item) steps replies left
    → FlowRun f steps replies g → last_or None replies ≡ Some (reply.Committed group) → Tells item (opened f) g steps replies
told t group item f g steps replies left is unsynced no_holds taken run e =
    hold_tells t group item f g steps replies left is unsynced no_holds (goes_on t (step.Hold 1) item (step.Release 1 ∷ step.Close ∷ []) f g steps replies left group tt taken run e)

-- ---- its group

not_le : (c : ℕ) → nat_le (suc c) c ≡ false
not_le c = grind (arith, nat_tests)

is_le : (n c : ℕ) → n ≤ c → nat_le n c ≡ true
is_le n c h = grind (arith, nat_tests, h)

same_number : (n : ℕ) → (n == n) ≡ true
same_number n = grind (arith, nat_tests)

next_number : (n : ℕ) → (suc n == n) ≡ false
next_number n = grind (arith, nat_tests)

opens_next : (v : View) → IsAtRest v → opened (flow_of v) ≡ suc v.committed
opens_next v rest = rw (rest.idle, rest.none_waits) refl

alone : (item : Step) (n : ℕ) (ledger : Ledger) → IsItem item → ledger n ≡ no_items → ledger_with ledger (accepted (item ∷ []) (reply.Receipt n ∷ [])) n ≡ entry_of item
alone (step.Write x) n ledger h none = rw (none, same_number n) refl
alone (step.Act x) n ledger h none = rw (none, same_number n) refl
alone _ n ledger h none = absurd h

none_above : (item : Step) (n : ℕ) (ledger : Ledger) → IsItem item → ledger (suc n) ≡ no_items → ledger_with ledger (accepted (item ∷ []) (reply.Receipt n ∷ [])) (suc n) ≡ no_items
none_above (step.Write x) n ledger h none = rw (none, next_number n) refl
none_above (step.Act x) n ledger h none = rw (none, next_number n) refl
none_above _ n ledger h none = absurd h

count_one : (v w : View) (group : ℕ) (groups : List ℕ) → groups ≡ group ∷ [] → CountsFrom (suc v.committed) groups → w.committed ≡ v.committed + length groups → (group ≡ suc v.committed) × (w.committed ≡ suc v.committed)
count_one v w group groups e counts all =
    let one : length groups ≡ 1 = ap length e in
    ((subst (CountsFrom (suc v.committed)) e counts).0, omega (arith, one, all))

-- the pools that were there stay
stays : (v w : View) (steps : List Step) (givens : List Given) (replies : List Reply) → Headline v steps givens replies w → v.committed ≤ w.committed → (n : ℕ) → n ≤ v.committed → w.pools n ≡ v.pools n
stays v w steps givens replies h more n le =
    h.pools n (omega (arith, more, le)) ∙ ap (λ (b : Bool). cond b (v.pools n) (upto v.committed (v.pools v.committed) w.ledger n)) (is_le n v.committed le)

-- the one group is committed with what it has accepted
next_group : (v w : View) (entry : Entry) (steps : List Step) (givens : List Given) (replies : List Reply) (group : ℕ) → commits replies ≡ group ∷ [] → Headline v steps givens replies w
    → w.ledger (suc v.committed) ≡ entry → w.ledger (suc (suc v.committed)) ≡ no_items → RestsWith [] (flow_of w) → IsNextGroup v (applied (suc v.committed) (v.pools v.committed) entry) group w
next_group v w entry steps givens replies group one h ledger above rests =
    let c = v.committed in
    let counts = count_one v w group (commits replies) one h.commit_order h.committed in
    record {
      next = counts.0;
      committed = counts.1;
      pool = h.pools (suc c) (omega (arith, counts.1)) ∙ (ap (λ (b : Bool). cond b (v.pools (suc c)) (upto c (v.pools c) w.ledger (suc c))) (not_le c)
          ∙ (upto_one c (v.pools c) w.ledger ∙ ap (applied (suc c) (v.pools c)) ledger));
      stay = stays v w steps givens replies h (omega (arith, counts.1));
      rests = record {
        idle = idle_of w.sync rests.syncing;
        none_waits = rests.waiting;
        no_holds = rests.holds;
        nothing = ap (λ (n : ℕ). w.ledger (suc n)) counts.1 ∙ above;
      };
    }

-- nothing is accepted above the open group
unused : (v : View) → IsSound v → IsAtRest v → v.ledger (suc (suc v.committed)) ≡ no_items
unused v sound rest = sound.flow.beyond (suc (suc v.committed)) (omega (arith, opens_next v rest))

pub made : (t : ℕ) (v w : View) (item : Step) (steps : List Step) (givens : List Given) (replies : List Reply) (left : List Step) (group : ℕ) → IsSound v → AreTaken t (steps_of item) steps replies left
    → FlowRun (flow_of v) steps replies (flow_of w) → last_or None replies ≡ Some (reply.Committed group) → commits replies ≡ group ∷ [] → Headline v steps givens replies w → IsItem item → IsAtRest v → IsMade v item group w
made t v w item steps givens replies left group sound taken run last one h is rest =
    let c = v.committed in
    let tells = told t group item (flow_of v) (flow_of w) steps replies left is (rw rest.idle refl) rest.no_holds taken run last in
    let receipt : accepted steps replies ≡ accepted (item ∷ []) (reply.Receipt (suc c) ∷ []) = tells.items ∙ ap (λ (n : ℕ). accepted (item ∷ []) (reply.Receipt n ∷ [])) (opens_next v rest) in
    let ledger : w.ledger (suc c) ≡ entry_of item = h.once.ledger (suc c) ∙ (ap (λ (l : List Accepted). ledger_with v.ledger l (suc c)) receipt ∙ alone item (suc c) v.ledger is rest.nothing) in
    let above : w.ledger (suc (suc c)) ≡ no_items =
    h.once.ledger (suc (suc c)) ∙ (ap (λ (l : List Accepted). ledger_with v.ledger l (suc (suc c))) receipt ∙ none_above item (suc c) v.ledger is (unused v sound rest)) in
    next_group v w (entry_of item) steps givens replies group one h ledger above tells.rests

-- ---- a session that commits what the open group has

still_none : (n : ℕ) (ledger : Ledger) → ledger n ≡ no_items → ledger_with ledger [] n ≡ no_items
still_none n ledger none = rw none refl

pub same : (t : ℕ) (v w : View) (steps : List Step) (givens : List Given) (replies : List Reply) (left : List Step) (group : ℕ) → IsSound v → AreTaken t (step.Close ∷ []) steps replies left
    → FlowRun (flow_of v) steps replies (flow_of w) → last_or None replies ≡ Some (reply.Committed group) → commits replies ≡ group ∷ [] → Headline v steps givens replies w → IsAtRest v → IsSame v group w
same t v w steps givens replies left group sound taken run last one h rest =
    let c = v.committed in
    let none = accepts_none t (step.Close ∷ []) steps replies left (tt, tt) taken in
    let none_in : (n : ℕ) → v.ledger n ≡ no_items → w.ledger n ≡ no_items = λ n empty. h.once.ledger n ∙ (ap (λ (l : List Accepted). ledger_with v.ledger l n) none ∙ still_none n v.ledger empty) in
    let rests = commit_rests t step.Close (flow_of v) (flow_of w) steps replies left group (rw rest.idle refl) taken run last in
    next_group v w no_items steps givens replies group one h (none_in (suc c) rest.nothing) (none_in (suc (suc c)) (unused v sound rest)) (subst (λ (l : List Holder). RestsWith l (flow_of w)) rest.no_holds rests)

-- ---- a session that commits nothing

pub kept : (v w : View) (steps : List Step) (givens : List Given) (replies : List Reply) → commits replies ≡ [] → Headline v steps givens replies w → IsKept v w
kept v w steps givens replies none h =
    let no_more : length (commits replies) ≡ 0 = ap length none in
    let same : w.committed ≡ v.committed = omega (arith, no_more, h.committed) in
    record { committed = same; stay = stays v w steps givens replies h (omega (arith, same)) }
