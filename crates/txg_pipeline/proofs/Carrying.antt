-- What a pipeline carries after each call.
use Rattle.std.proofs.Common.{◌≡◌, ⊎_elim, ℕ, suc, ◌+◌, ◌<◌, ◌≤◌, Bool, true, false, true≢false, Option, Some, None, refl, sym, ap, ◌∙◌, arith}
use Rattle.std.specs.Prelude.{cond, is_some, is_ok, nat_eq, unwrap_or, Result, Ok, Err, OnOk, ◌==◌, ◌&&◌, not}
use Rattle.std.proofs.lemmas.Bool.Decides.{nat_tests}
use Rattle.pool_model.specs.declared.group.Stage.{Stage}
use Rattle.pool_model.specs.declared.group.Stage.TheVariants.{Quiescing, Quiesced as QuiescedStage}
use Rattle.pool_model.specs.View.{is_quiescing, is_quiesced}
use Rattle.pool_model.specs.declared.item.Item.{Item}
use Rattle.pool_model.specs.Pools.{Entry}
use Rattle.pool_model.specs.View.{waiting_after, open_after}
use Rattle.pool_model.specs.Refusals.{greatest}
use Rattle.pool_model.specs.Flow.{Flow, opened, waiting_in, added, counted_on, ledger_accepted, Takes}

pub quiescing_is : (waiting : Option Stage) → is_quiescing waiting ≡ true → waiting ≡ Some Quiescing
quiescing_is (Some Quiescing) e = refl
quiescing_is (Some QuiescedStage) e = absurd (true≢false (sym e))
quiescing_is None e = absurd (true≢false (sym e))

pub quiesced_is : (waiting : Option Stage) → is_quiesced waiting ≡ true → waiting ≡ Some QuiescedStage
quiesced_is (Some QuiescedStage) e = refl
quiesced_is (Some Quiescing) e = absurd (true≢false (sym e))
quiesced_is None e = absurd (true≢false (sym e))

pub none_is : {A : Type 0} (o : Option A) → is_some o ≡ false → o ≡ None
none_is None e = refl
none_is (Some x) e = absurd (true≢false e)

pub waits_open : (f : Flow) (o : Option Stage) → f.waiting ≡ o → is_some o ≡ true → opened f ≡ suc (waiting_in f)
waits_open f None e s = absurd (true≢false (sym s))
waits_open f (Some stage) e s = rw e refl

pub none_open : (f : Flow) → f.waiting ≡ None → opened f ≡ waiting_in f
none_open f e = rw e refl

pub on_ok : {T E P : Type 0} (r : Result T E) → is_ok r ≡ true → OnOk r P → P
on_ok (Ok x) e p = p
on_ok (Err y) e p = absurd (true≢false (sym e))

-- the writer's next number is one more, and each other's stays
pub next_taken : (new old : ℕ → Option ℕ) (next : ℕ → ℕ) (writer number : ℕ) → ((q : ℕ) → new q ≡ cond (nat_eq writer q) (Some (number + 1)) (old q)) → ((q : ℕ) → unwrap_or (old q) 1 ≡ next q) → number ≡ next writer → (w : ℕ) → unwrap_or (new w) 1 ≡ counted_on next writer w
next_taken new old next writer number u h e w = cases (nat_eq writer w) refl
  where
    cases : (b : Bool) → nat_eq writer w ≡ b → unwrap_or (new w) 1 ≡ counted_on next writer w
    cases true t =
        let same : writer ≡ w = grind (arith, nat_tests, t) in
        let test : (w == writer) ≡ true = grind (arith, nat_tests, t) in
        ap (λ o. unwrap_or o 1) (u w ∙ ap (λ b. cond b (Some (number + 1)) (old w)) t) ∙ (let n : number + 1 ≡ suc (next w) = (let f = ap next same in omega arith) in n) ∙ sym (ap (λ b. cond b (suc (next w)) (next w)) test)
    cases false t =
        let test : (w == writer) ≡ false = grind (arith, nat_tests, t) in
        ap (λ o. unwrap_or o 1) (u w ∙ ap (λ b. cond b (Some (number + 1)) (old w)) t) ∙ (h w ∙ sym (ap (λ b. cond b (suc (next w)) (next w)) test))

-- an item joins a group's entry, or leaves it
joined : (ledger : ℕ → Entry) (g group : ℕ) (item : Item) (old new : Entry) (b : Bool) → (g == group) ≡ b → new ≡ cond b (added old item) old → old ≡ ledger g → new ≡ ledger_accepted ledger group item g
joined ledger g group item old new b t n k = n ∙ (ap (λ x. cond b (added x item) x) k ∙ sym (ap (λ b. cond b (added (ledger g) item) (ledger g)) t))

pub kept_accepting : (f : Flow) (group : ℕ) (item : Item) (old new : Entry) (kept is_open : Bool) → kept ≡ true → is_open ≡ (group == opened f) → new ≡ cond (kept && is_open) (added old item) old → old ≡ f.ledger (opened f) → new ≡ ledger_accepted f.ledger group item (opened f)
kept_accepting f group item old new true is_open e o n k = joined f.ledger (opened f) group item old new is_open (let t : (opened f == group) ≡ (group == opened f) = grind (arith, nat_tests) in t ∙ sym o) n k
kept_accepting f group item old new false is_open e o n k = absurd (true≢false (sym e))

-- the group of an item is the open one or the waiting one
pub kept_waited : (f : Flow) (group : ℕ) (item : Item) (old new : Entry) (kept is_open : Bool) → Takes f group → is_some f.waiting ≡ true → kept ≡ true → is_open ≡ (group == opened f) → new ≡ cond (kept && not is_open) (added old item) old → old ≡ f.ledger (waiting_in f) → new ≡ ledger_accepted f.ledger group item (waiting_in f)
kept_waited f group item old new true is_open t some e o n k = joined f.ledger (waiting_in f) group item old new (not is_open) (test is_open o) n k
  where
    next : opened f ≡ suc (waiting_in f)
    next = waits_open f f.waiting refl some

    test : (b : Bool) → b ≡ (group == opened f) → (waiting_in f == group) ≡ not b
    test true q = let same : group ≡ opened f = grind (arith, nat_tests, q) in let h = next in grind (arith, nat_tests, same, h)
    test false q = ⊎_elim (λ same. absurd (let f' : (group == opened f) ≡ true = grind (arith, nat_tests, same) in true≢false (sym f' ∙ sym q))) (λ w. let same = w.1 in grind (arith, nat_tests, same)) t
kept_waited f group item old new false is_open t some e o n k = absurd (true≢false (sym e))

-- the group that is synced takes nothing
pub kept_synced : (f : Flow) (group : ℕ) (item : Item) (old : Entry) → Takes f group → f.syncing ≡ true → old ≡ f.ledger (suc f.committed) → old ≡ ledger_accepted f.ledger group item (suc f.committed)
kept_synced f group item old t s k = joined f.ledger (suc f.committed) group item old old false off refl k
  where
    high : waiting_in f ≡ suc (suc f.committed)
    high = rw s refl

    low : waiting_in f ≤ opened f
    low = elim (is_some f.waiting) as (λ b. waiting_in f ≤ cond b (suc (waiting_in f)) (waiting_in f)) [ true ↦ omega arith | false ↦ omega arith ]

    off : (suc f.committed == group) ≡ false
    off = let h = high in let l = low in let ne : suc f.committed < group = ⊎_elim (λ same. omega arith) (λ w. let same = w.1 in omega arith) t in grind (arith, nat_tests, ne)

-- the numbers that a pipeline counts are those of the flow
pub opened_is : (f : Flow) (committed : ℕ) (syncing : Bool) (waiting : Option Stage) → committed ≡ f.committed → syncing ≡ f.syncing → waiting ≡ f.waiting → open_after committed syncing (is_some waiting) ≡ opened f
opened_is f committed syncing waiting a b c = λ i. open_after (a i) (b i) (is_some (c i))

-- the next group may be opened
pub may_close : (committed : ℕ) (syncing : Bool) (waiting : Option Stage) (group : ℕ) → is_some waiting ≡ false → group ≡ open_after committed syncing (is_some waiting) → group < greatest → open_after committed syncing true ≤ greatest
may_close committed syncing waiting group n e lt = let h : group ≡ waiting_after committed syncing = e ∙ ap (open_after committed syncing) n in omega arith
