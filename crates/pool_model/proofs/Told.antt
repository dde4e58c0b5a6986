-- What a run tells of items: once, in order, for the hold's group and for good.
use Rattle.std.proofs.Common.{◌≡◌, ◌≢◌, ⊎_elim, ℕ, suc, ◌<◌, ◌≤◌, List, [], ◌∷◌, ◌++◌, Bool, true, false, Option, Some, None, refl, sym, ap, ◌∙◌, subst, arith, append_assoc}
use Rattle.std.specs.Prelude.{cond, find, filter, not, is_some, ◌==◌}
use Rattle.std.specs.List.{AllByRecursion}
use Rattle.std.specs.Option.{option_map}
use Rattle.std.proofs.lemmas.Bool.Decides.{nat_tests}
use Rattle.pool_model.specs.declared.group.Holder.{Holder}
use Rattle.pool_model.specs.declared.group.Stage.TheVariants.{Quiescing, Quiesced as QuiescedStage}
use Rattle.pool_model.specs.declared.item.Item.{Item}
use Rattle.pool_model.specs.declared.item.Item.TheVariants.{Write as WriteItem, Action as ActionItem}
use Rattle.pool_model.specs.declared.step.Step.{Step}
use Rattle.pool_model.specs.declared.step.Step.TheVariants.{Hold, Write as WriteStep, Act, Release}
use Rattle.pool_model.specs.declared.step.Reply.{Reply}
use Rattle.pool_model.specs.declared.step.Reply.TheVariants.{Receipt, Refused}
use Rattle.pool_model.specs.declared.refusal.Refusal.{Refusal}
use Rattle.pool_model.specs.Pools.{Ledger, Entry}
use Rattle.pool_model.specs.View.{hold_group, is_held}
use Rattle.pool_model.specs.Flow.{Flow, waiting_in, opened, added, FlowRun, Takes, IsSoundFlow}
use Rattle.pool_model.specs.Accepted.{Accepted, with_item, accepted, with_front, items_in, ledger_with, numbers_of, CountsFrom, hold_then, IsForHold, AreForHold, NoReceipt, StaysQuiesced, WasShut}
use Rattle.pool_model.proofs.Flows.{EachFlow, by_flow}

-- ---- the ledger

item_joins : (e rest : Entry) (item : Item) (b : Bool) → ◌≡◌ {A = Entry} (record { writes = (cond b (added e item) e).writes ++ rest.writes; actions = (cond b (added e item) e).actions ++ rest.actions }) (record { writes = e.writes ++ (cond b (with_front item rest) rest).writes; actions = e.actions ++ (cond b (with_front item rest) rest).actions })
item_joins e rest (WriteItem w) true = ap (λ ws. record { writes = ws; actions = e.actions ++ rest.actions }) (append_assoc e.writes (w ∷ []) rest.writes)
item_joins e rest (ActionItem a) true = ap (λ xs. record { writes = e.writes ++ rest.writes; actions = xs }) (append_assoc e.actions (a ∷ []) rest.actions)
item_joins e rest item false = refl

pub refused_item : (step : Step) (cause : Refusal) (items : List Accepted) → with_item step (Refused cause) items ≡ items
refused_item (Hold writer) cause items = refl
refused_item step cause items = refl

pub ledger_moves : EachFlow (λ v step reply w. (items : List Accepted) (group : ℕ) → ledger_with w.ledger items group ≡ ledger_with v.ledger (with_item step reply items) group)
ledger_moves = record {
  stays = λ v step cause items group. ap (λ xs. ledger_with v.ledger xs group) (sym (refused_item step cause items));
  begun = λ v t cause items group. refl;
  replanned = λ v disk items group. refl;
  out = λ v disk items group. refl;
  moved = λ v phase items group. refl;
  read = λ v name offset len bytes items group. refl;
  read_under = λ v g name offset len bytes items group. refl;
  held = λ v writer n items group. refl;
  wrote = λ v x g h n le items group. item_joins (v.ledger group) (items_in group items) (WriteItem x) (group == g);
  acted = λ v a g h n le items group. item_joins (v.ledger group) (items_in group items) (ActionItem a) (group == g);
  released = λ v writer items group. refl;
  closed = λ v b items group. refl;
  quiesced = λ v f items group. refl;
  planned = λ v t items group. refl;
  replanned_group = λ v t items group. refl;
  committed = λ v items group. refl;
}

append_none : {A : Type 0} (xs : List A) → xs ++ [] ≡ xs
append_none [] = refl
append_none (x ∷ xs) = ap (λ ys. x ∷ ys) (append_none xs)

pub no_more : (ledger : Ledger) (group : ℕ) → ledger group ≡ ledger_with ledger [] group
no_more ledger group = sym ((λ i. record { writes = append_none (ledger group).writes i; actions = append_none (ledger group).actions i }))

pub told_ledger : (v : Flow) (steps : List Step) (replies : List Reply) (w : Flow) → FlowRun v steps replies w → (group : ℕ) → w.ledger group ≡ ledger_with v.ledger (accepted steps replies) group
told_ledger v [] [] w r group = ap (λ (x : Flow). x.ledger group) r ∙ no_more v.ledger group
told_ledger v (step ∷ steps) (reply ∷ replies) w r group =
    told_ledger r.0 steps replies w r.2 group
    ∙ by_flow (λ v step reply w. (items : List Accepted) (group : ℕ) → ledger_with w.ledger items group ≡ ledger_with v.ledger (with_item step reply items) group) ledger_moves v step reply r.0 r.1 (accepted steps replies) group
told_ledger v steps replies w r group = absurd r

-- ---- numbers

count_cases : (next : ℕ → ℕ) (by number writer : ℕ) (ns : List ℕ) (b : Bool) → (b ≡ true → by ≡ writer) → number ≡ next by → CountsFrom (cond b (suc (next writer)) (next writer)) ns → CountsFrom (next writer) (cond b (number ∷ ns) ns)
count_cases next by number writer ns true same e h = (e ∙ ap next (same refl), h)
count_cases next by number writer ns false same e h = h

count_one : (next : ℕ → ℕ) (by number writer : ℕ) (ns : List ℕ) → number ≡ next by → CountsFrom (cond (writer == by) (suc (next writer)) (next writer)) ns → CountsFrom (next writer) (cond (by == writer) (number ∷ ns) ns)
count_one next by number writer ns e h =
    let s : (by == writer) ≡ (writer == by) = grind (arith, nat_tests) in
    subst (λ b. CountsFrom (next writer) (cond b (number ∷ ns) ns)) (sym s) (count_cases next by number writer ns (writer == by) (λ t. grind (arith, nat_tests, t)) e h)

number_moves : EachFlow (λ v step reply w. (writer : ℕ) (items : List Accepted) → CountsFrom (w.next writer) (numbers_of writer items) → CountsFrom (v.next writer) (numbers_of writer (with_item step reply items)))
number_moves = record {
  stays = λ v step cause writer items h. subst (λ xs. CountsFrom (v.next writer) (numbers_of writer xs)) (sym (refused_item step cause items)) h;
  begun = λ v t cause writer items h. h;
  replanned = λ v disk writer items h. h;
  out = λ v disk writer items h. h;
  moved = λ v phase writer items h. h;
  read = λ v name offset len bytes writer items h. h;
  read_under = λ v g name offset len bytes writer items h. h;
  held = λ v by n writer items h. h;
  wrote = λ v x g h n le writer items c. count_one v.next x.writer x.number writer (numbers_of writer items) n c;
  acted = λ v a g h n le writer items c. count_one v.next a.writer a.number writer (numbers_of writer items) n c;
  released = λ v by writer items h. h;
  closed = λ v b writer items h. h;
  quiesced = λ v f writer items h. h;
  planned = λ v t writer items h. h;
  replanned_group = λ v t writer items h. h;
  committed = λ v writer items h. h;
}

pub told_numbers : (v : Flow) (steps : List Step) (replies : List Reply) (w : Flow) → FlowRun v steps replies w → (writer : ℕ) → CountsFrom (v.next writer) (numbers_of writer (accepted steps replies))
told_numbers v [] [] w r writer = tt
told_numbers v (step ∷ steps) (reply ∷ replies) w r writer =
    by_flow (λ v step reply w. (writer : ℕ) (items : List Accepted) → CountsFrom (w.next writer) (numbers_of writer items) → CountsFrom (v.next writer) (numbers_of writer (with_item step reply items))) number_moves v step reply r.0 r.1 writer (accepted steps replies) (told_numbers r.0 steps replies w r.2 writer)
told_numbers v steps replies w r writer = absurd r

-- ---- the group of the hold

for_refused : (writer : ℕ) (hold : Option ℕ) (step : Step) (cause : Refusal) → IsForHold writer hold step (Refused cause) × (hold_then writer hold step (Refused cause) ≡ hold)
for_refused writer hold (Hold by) cause = (tt, refl)
for_refused writer hold (WriteStep w) cause = (tt, refl)
for_refused writer hold (Act a) cause = (tt, refl)
for_refused writer hold (Release by) cause = (tt, refl)
for_refused writer hold step cause = (tt, refl)

snoc_first : (writer : ℕ) (h x : Holder) (hs : List Holder) (b : Bool) → (x.writer == h.writer) ≡ b → option_map (λ k. k.group) (cond b (Some x) (find (λ k. k.writer == h.writer) hs)) ≡ None → (hold_group h.writer hs ≡ None → hold_group writer (hs ++ h ∷ []) ≡ cond (h.writer == writer) (Some h.group) (hold_group writer hs)) → hold_group writer ((x ∷ hs) ++ h ∷ []) ≡ cond (h.writer == writer) (Some h.group) (hold_group writer (x ∷ hs))
snoc_first writer h x hs true e m f = absurd (cc)
snoc_first writer h x hs false e m f = let rest = f m in grind (arith, nat_tests, rest, e)

snoc_is : (writer : ℕ) (h : Holder) (hs : List Holder) → hold_group h.writer hs ≡ None → hold_group writer (hs ++ h ∷ []) ≡ cond (h.writer == writer) (Some h.group) (hold_group writer hs)
snoc_is writer h [] n = grind (arith, nat_tests)
snoc_is writer h (x ∷ hs) n = snoc_first writer h x hs (x.writer == h.writer) refl n (λ m. snoc_is writer h hs m)

pub hold_filter : (writer by : ℕ) (hs : List Holder) → hold_group writer (filter (λ h. not (h.writer == by)) hs) ≡ cond (writer == by) None (hold_group writer hs)
hold_filter writer by [] = grind (arith, nat_tests)
hold_filter writer by (x ∷ hs) = let rest = hold_filter writer by hs in grind (arith, nat_tests, rest)

turned : (writer by : ℕ) (o : Option ℕ) → cond (by == writer) None o ≡ cond (writer == by) None o
turned writer by o = grind (arith, nat_tests)

hold_moves : EachFlow (λ v step reply w. (writer : ℕ) → IsForHold writer (hold_group writer v.holds) step reply × (hold_then writer (hold_group writer v.holds) step reply ≡ hold_group writer w.holds))
hold_moves = record {
  stays = λ v step cause writer. for_refused writer (hold_group writer v.holds) step cause;
  begun = λ v t cause writer. (tt, refl);
  replanned = λ v disk writer. (tt, refl);
  out = λ v disk writer. (tt, refl);
  moved = λ v phase writer. (tt, refl);
  read = λ v name offset len bytes writer. (tt, refl);
  read_under = λ v g name offset len bytes writer. (tt, refl);
  held = λ v by n writer. (tt, sym (snoc_is writer (record { writer = by; group = opened v }) v.holds n));
  wrote = λ v x g h n le writer. ((λ e. subst (λ y. hold_group y v.holds ≡ Some g) e h), refl);
  acted = λ v a g h n le writer. ((λ e. subst (λ y. hold_group y v.holds ≡ Some g) e h), refl);
  released = λ v by writer. (tt, turned writer by (hold_group writer v.holds) ∙ sym (hold_filter writer by v.holds));
  closed = λ v b writer. (tt, refl);
  quiesced = λ v f writer. (tt, refl);
  planned = λ v t writer. (tt, refl);
  replanned_group = λ v t writer. (tt, refl);
  committed = λ v writer. (tt, refl);
}

pub told_holds : (v : Flow) (steps : List Step) (replies : List Reply) (w : Flow) → FlowRun v steps replies w → (writer : ℕ) → AreForHold writer (hold_group writer v.holds) steps replies
told_holds v [] [] w r writer = tt
told_holds v (step ∷ steps) (reply ∷ replies) w r writer =
    let m = by_flow (λ v step reply w. (writer : ℕ) → IsForHold writer (hold_group writer v.holds) step reply × (hold_then writer (hold_group writer v.holds) step reply ≡ hold_group writer w.holds)) hold_moves v step reply r.0 r.1 writer in
    (m.0, subst (λ hold. AreForHold writer hold steps replies) (sym m.1) (told_holds r.0 steps replies w r.2 writer))
told_holds v steps replies w r writer = absurd r

-- ---- groups that are shut

-- below the open group, with no hold left
pub record IsShut (v : Flow) (group : ℕ) : Type 0 where
  pub below : group < opened v
  pub free : is_held group v.holds ≡ false

held_snoc : (group : ℕ) (hs : List Holder) (h : Holder) → is_held group hs ≡ false → group < h.group → is_held group (hs ++ h ∷ []) ≡ false
held_snoc group [] h e lt = grind (arith, nat_tests, lt)
held_snoc group (x ∷ hs) h e lt = let k = held_snoc group hs h in grind (arith, nat_tests, lt, e, k)

held_filter : (group writer : ℕ) (hs : List Holder) → is_held group hs ≡ false → is_held group (filter (λ h. not (h.writer == writer)) hs) ≡ false
held_filter group writer [] e = refl
held_filter group writer (x ∷ hs) e = let k = held_filter group writer hs in grind (arith, nat_tests, e, k)

-- a writer's hold isn't of a group that has none
other_cases : (b : Bool) (writer group shut : ℕ) (x : Holder) (hs : List Holder) → (x.group == shut) ≡ false → (hold_group writer hs ≡ Some group → group ≢ shut) → option_map (λ k. k.group) (cond b (Some x) (find (λ k. k.writer == writer) hs)) ≡ Some group → group ≢ shut
other_cases true writer group shut x hs f rest h = λ q. let same : x.group ≡ group = cc in grind (arith, nat_tests, f, same, q)
other_cases false writer group shut x hs f rest h = rest h

other_group : (writer group shut : ℕ) (hs : List Holder) → is_held shut hs ≡ false → hold_group writer hs ≡ Some group → group ≢ shut
other_group writer group shut [] e h = absurd (cc)
other_group writer group shut (x ∷ hs) e h = other_cases (x.writer == writer) writer group shut x hs (grind (arith, nat_tests, e)) (other_group writer group shut hs (grind (arith, nat_tests, e))) h

-- another group's items stay
pub stays : (ledger : Ledger) (group g : ℕ) (new : Entry) → g ≢ group → (cond (group == g) new (ledger group)) ≡ ledger group
stays ledger group g new n = let off : (group == g) ≡ false = grind (arith, nat_tests, n) in ap (λ b. cond b new (ledger group)) off

shut_moves : EachFlow (λ v step reply w. (group : ℕ) → IsShut v group → (reply ≢ Receipt group) × ((w.ledger group ≡ v.ledger group) × IsShut w group))
shut_moves = record {
  stays = λ v step cause group s. ((λ e. cc), (refl, s));
  begun = λ v t cause group s. ((λ e. cc), (refl, record { below = s.below; free = s.free }));
  replanned = λ v disk group s. ((λ e. cc), (refl, record { below = s.below; free = s.free }));
  out = λ v disk group s. ((λ e. cc), (refl, record { below = s.below; free = s.free }));
  moved = λ v phase group s. ((λ e. cc), (refl, record { below = s.below; free = s.free }));
  read = λ v name offset len bytes group s. ((λ e. cc), (refl, s));
  read_under = λ v g name offset len bytes group s. ((λ e. cc), (refl, s));
  held = λ v by n group s. ((λ e. cc), (refl, record { below = s.below; free = held_snoc group v.holds (record { writer = by; group = opened v }) s.free s.below }));
  wrote = λ v x g h n le group s. let other = other_group x.writer g group v.holds s.free h in ((λ e. other (cc)), (stays v.ledger group g _ other, record { below = s.below; free = s.free }));
  acted = λ v a g h n le group s. let other = other_group a.writer g group v.holds s.free h in ((λ e. other (cc)), (stays v.ledger group g _ other, record { below = s.below; free = s.free }));
  released = λ v by group s. ((λ e. cc), (refl, record { below = s.below; free = held_filter group by v.holds s.free }));
  closed = λ v b group s. ((λ e. cc), (refl, record { below = let lt = s.below in omega arith; free = s.free }));
  quiesced = λ v f group s. ((λ e. cc), (refl, record { below = s.below; free = s.free }));
  planned = λ v t group s. ((λ e. cc), (refl, record { below = s.below; free = s.free }));
  replanned_group = λ v t group s. ((λ e. cc), (refl, record { below = s.below; free = s.free }));
  committed = λ v group s. ((λ e. cc), (refl, record { below = s.below; free = s.free }));
}

pub told_shut : (v : Flow) (steps : List Step) (replies : List Reply) (w : Flow) → FlowRun v steps replies w → (group : ℕ) → IsShut v group → NoReceipt group replies × (w.ledger group ≡ v.ledger group)
told_shut v [] [] w r group s = (tt, ap (λ (x : Flow). x.ledger group) r)
told_shut v (step ∷ steps) (reply ∷ replies) w r group s =
    let m = by_flow (λ v step reply w. (group : ℕ) → IsShut v group → (reply ≢ Receipt group) × ((w.ledger group ≡ v.ledger group) × IsShut w group)) shut_moves v step reply r.0 r.1 group s in
    let h = told_shut r.0 steps replies w r.2 group m.1.1 in
    ((m.0, h.0), h.1 ∙ m.1.0)
told_shut v steps replies w r group s = absurd r

-- ---- no receipt after a group is quiesced

quiesced_moves : EachFlow (λ v step reply w. (replies : List Reply) → ((group : ℕ) → IsShut w group → NoReceipt group replies) → StaysQuiesced replies → StaysQuiesced (reply ∷ replies))
quiesced_moves = record {
  stays = λ v step cause replies f h. h;
  begun = λ v t cause replies f h. h;
  replanned = λ v disk replies f h. h;
  out = λ v disk replies f h. h;
  moved = λ v phase replies f h. h;
  read = λ v name offset len bytes replies f h. h;
  read_under = λ v g name offset len bytes replies f h. h;
  held = λ v by n replies f h. h;
  wrote = λ v x g h n le replies f c. c;
  acted = λ v a g h n le replies f c. c;
  released = λ v by replies f h. h;
  closed = λ v b replies f h. h;
  quiesced = λ v free replies f h. (f (waiting_in v) (record { below = omega arith; free = free }), h);
  planned = λ v t replies f h. h;
  replanned_group = λ v t replies f h. h;
  committed = λ v replies f h. h;
}

pub told_quiesced : (v : Flow) (steps : List Step) (replies : List Reply) (w : Flow) → FlowRun v steps replies w → StaysQuiesced replies
told_quiesced v [] [] w r = tt
told_quiesced v (step ∷ steps) (reply ∷ replies) w r =
    by_flow (λ v step reply w. (replies : List Reply) → ((group : ℕ) → IsShut w group → NoReceipt group replies) → StaysQuiesced replies → StaysQuiesced (reply ∷ replies)) quiesced_moves v step reply r.0 r.1 replies (λ group s. (told_shut r.0 steps replies w r.2 group s).0) (told_quiesced r.0 steps replies w r.2)
told_quiesced v steps replies w r = absurd r

-- ---- groups that were shut at the start

-- no hold is in a group that takes nothing
pub free_of : (v : Flow) (group : ℕ) → ((g : ℕ) → Takes v g → g ≢ group) → (hs : List Holder) → AllByRecursion (λ h. Takes v h.group) hs → is_held group hs ≡ false
free_of v group f [] a = refl
free_of v group f (h ∷ hs) a = let rest = free_of v group f hs a.1 in let off = f h.group a.0 in grind (arith, nat_tests, rest, off)

waiting_below : (v : Flow) → waiting_in v ≤ opened v
waiting_below v = elim (is_some v.waiting) as (λ b. waiting_in v ≤ cond b (suc (waiting_in v)) (waiting_in v)) [ true ↦ omega arith | false ↦ omega arith ]

some_quiesced : (v : Flow) → v.waiting ≡ Some QuiescedStage → waiting_in v < opened v
some_quiesced v e = rw e (omega arith)

not_quiescing : (v : Flow) → v.waiting ≡ Some QuiescedStage → v.waiting ≡ Some Quiescing → ⊥
not_quiescing v e f = different (sym e ∙ f)
  where
    different : Some QuiescedStage ≡ Some Quiescing → ⊥
    different g = cc

pub was_shut : (v : Flow) (group : ℕ) → IsSoundFlow v → WasShut v group → IsShut v group
was_shut v group s t = ⊎_elim
    (λ lt. let low = waiting_below v in record { below = omega arith; free = free_of v group (λ g h e. ⊎_elim (λ o. absurd (omega arith)) (λ q. absurd (let f = q.1 in omega arith)) h) v.holds s.holds })
    (λ q. let lt = some_quiesced v q.0 in let e = q.1 in record { below = omega arith; free = free_of v group (λ g h k. ⊎_elim (λ o. absurd (omega arith)) (λ p. absurd (not_quiescing v q.0 p.0)) h) v.holds s.holds })
    t
