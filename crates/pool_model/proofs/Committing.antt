-- The pools of committed groups are made by what was accepted.
use Rattle.std.proofs.Common.{◌≡◌, inl, ℕ, suc, ◌<◌, ◌≤◌, List, [], ◌∷◌, Bool, true, false, refl, sym, ap, ◌∙◌, arith}
use Rattle.std.specs.Prelude.{cond, nat_le}
use Rattle.std.proofs.lemmas.Bool.Decides.{nat_tests}
use Rattle.pool_model.specs.declared.step.Step.{Step}
use Rattle.pool_model.specs.declared.step.Step.TheVariants.{ReadUnder}
use Rattle.pool_model.specs.declared.step.Reply.{Reply}
use Rattle.pool_model.specs.declared.step.Reply.TheVariants.{Refused}
use Rattle.pool_model.specs.declared.refusal.Refusal.{Refusal}
use Rattle.pool_model.specs.Pools.{PlainPool, Ledger, applied, upto, volume_at}
use Rattle.pool_model.specs.View.{View, Given, DueCall, Due, is_kept}
use Rattle.pool_model.specs.Machine.{committed_next, StepOf, Run}
use Rattle.pool_model.specs.Flow.{flow_of}
use Rattle.pool_model.specs.Sound.{IsSound}
use Rattle.pool_model.specs.Headline.{pool_by, ReadsUnder}
use Rattle.pool_model.proofs.Moves.{EachMove, by_move}
use Rattle.pool_model.proofs.Sounds.{sound_step, flow_run}
use Rattle.pool_model.proofs.Told.{IsShut, told_shut, was_shut}
use Rattle.pool_model.proofs.Uptos.{upto_from, upto_one, itself, not_above, above}

-- the group that is synced is shut
shut_next : (v : View) (left : List DueCall) → IsSound (record v { sync = Due left }) → IsShut (flow_of (committed_next v)) (suc v.committed)
shut_next v left s = let h = was_shut (flow_of (record v { sync = Due left })) (suc v.committed) s.flow (inl (omega arith)) in record { below = h.below; free = h.free }

-- the new pool is made by its items
at_next : (v : View) (ledger : Ledger) → ledger (suc v.committed) ≡ v.ledger (suc v.committed) → pool_by (committed_next v) ledger (suc v.committed) ≡ pool_by v ledger (suc v.committed)
at_next v ledger l =
    (λ i. cond (not_above (suc v.committed) i) (cond (itself (suc v.committed) i) (applied (suc v.committed) (v.pools v.committed) (v.ledger (suc v.committed))) (v.pools (suc v.committed))) (upto (suc v.committed) ((committed_next v).pools (suc v.committed)) ledger (suc v.committed)))
    ∙ (ap (applied (suc v.committed) (v.pools v.committed)) (sym l) ∙ (sym (upto_one v.committed (v.pools v.committed) ledger) ∙ sym (ap (λ b. cond b (v.pools (suc v.committed)) (upto v.committed (v.pools v.committed) ledger (suc v.committed))) (above v.committed))))

-- a commit changes no pool that was there, and the new one is made by its items
next_cases : (v : View) (ledger : Ledger) (n : ℕ) (b d : Bool) → nat_le n v.committed ≡ b → nat_le n (suc v.committed) ≡ d → ledger (suc v.committed) ≡ v.ledger (suc v.committed) → pool_by (committed_next v) ledger n ≡ pool_by v ledger n
next_cases v ledger n true d e f l = let le : n ≤ v.committed = grind (arith, nat_tests, e) in grind (arith, nat_tests, le)
next_cases v ledger n false true e f l =
    let same : n ≡ suc v.committed = let low : v.committed < n = grind (arith, nat_tests, e) in let high : n ≤ suc v.committed = grind (arith, nat_tests, f) in omega arith in
    rw same (at_next v ledger l)
next_cases v ledger n false false e f l =
    let high : suc v.committed ≤ n = let low : suc v.committed < n = grind (arith, nat_tests, f) in omega arith in
    let from = upto_from v.committed (v.pools v.committed) ledger n high in
    (λ i. cond (f i) ((committed_next v).pools n) (upto (suc v.committed) (cond (itself (suc v.committed) i) (applied (suc v.committed) (v.pools v.committed) (v.ledger (suc v.committed))) (v.pools (suc v.committed))) ledger n))
    ∙ (ap (λ entry. upto (suc v.committed) (applied (suc v.committed) (v.pools v.committed) entry) ledger n) (sym l) ∙ (from ∙ sym (ap (λ b. cond b (v.pools n) (upto v.committed (v.pools v.committed) ledger n)) e)))

abbrev KeepsPools : View → Given → Step → Reply → View → Type 0
KeepsPools v given step reply w = (ledger : Ledger) → ((group : ℕ) → IsShut (flow_of w) group → ledger group ≡ w.ledger group) → IsSound v → (n : ℕ) → pool_by w ledger n ≡ pool_by v ledger n

pool_moves : EachMove KeepsPools
pool_moves = record {
  stays = λ v given step cause may e ledger f s n. refl;
  begun = λ v given t cause is ledger f s n. refl;
  again = λ v given t cause is ledger f s n. refl;
  failed = λ v given disk left e ledger f s n. refl;
  replanned = λ v given disk left e ledger f s n. refl;
  out_unplanned = λ v given disk e ledger f s n. refl;
  out_early = λ v given disk left ledger f s n. refl;
  out_late = λ v given disk left ledger f s n. refl;
  moved = λ v given phase left rest out e ledger f s n. refl;
  read = λ v given name offset len bytes a ledger f s n. refl;
  read_under = λ v given g name offset len bytes k a ledger f s n. refl;
  held = λ v given by h ledger f s n. refl;
  wrote = λ v given x g h m le ledger f s n. refl;
  acted = λ v given a g h m le op ledger f s n. refl;
  released = λ v given by ledger f s n. refl;
  closed = λ v given b ledger f s n. refl;
  quiesced = λ v given e ledger f s n. refl;
  planned = λ v given t calls ledger f s n. refl;
  replanned_group = λ v given t calls ledger f s n. refl;
  committed = λ v given left out e ledger f s n. next_cases v ledger n (nat_le n v.committed) (nat_le n (suc v.committed)) refl refl (f (suc v.committed) (shut_next v left s));
}

pool_step : (v : View) (given : Given) (step : Step) (reply : Reply) (mid : View) (steps : List Step) (givens : List Given) (replies : List Reply) (w : View) → StepOf v given step reply mid → Run mid steps givens replies w → IsSound v → (n : ℕ) → pool_by mid w.ledger n ≡ pool_by v w.ledger n
pool_step v given step reply mid steps givens replies w a r s n = by_move KeepsPools pool_moves v given step reply mid a w.ledger (λ group h. (told_shut (flow_of mid) steps replies (flow_of w) (flow_run mid steps givens replies w r) group h).1) s n

pub told_pools : (v : View) (steps : List Step) (givens : List Given) (replies : List Reply) (w : View) → Run v steps givens replies w → IsSound v → (n : ℕ) → n ≤ w.committed → w.pools n ≡ pool_by v w.ledger n
told_pools v [] [] [] w r s n le =
    let low : n ≤ v.committed = let c = ap (λ (x : View). x.committed) r in omega arith in
    let test : nat_le n v.committed ≡ true = grind (arith, nat_tests, low) in
    ap (λ (x : View). x.pools n) r ∙ sym (ap (λ b. cond b (v.pools n) (upto v.committed (v.pools v.committed) w.ledger n)) test)
told_pools v (step ∷ steps) (given ∷ givens) (reply ∷ replies) w r s n le =
    told_pools r.0 steps givens replies w r.2 (sound_step v given step reply r.0 s r.1) n le ∙ pool_step v given step reply r.0 steps givens replies w r.1 r.2 s n
told_pools v steps givens replies w r s n le = absurd r

-- ---- reads under a group

kept_below : (v : View) (group : ℕ) → is_kept v group ≡ true → nat_le group v.committed ≡ true
kept_below v group e = grind (arith, nat_tests, e)

reads_refused : (pool : ℕ → PlainPool) (step : Step) (given : Given) (cause : Refusal) (steps : List Step) (givens : List Given) (replies : List Reply) → ReadsUnder pool steps givens replies
    → ReadsUnder pool (step ∷ steps) (given ∷ givens) (Refused cause ∷ replies)
reads_refused pool (ReadUnder group name offset len) given cause steps givens replies h = h
reads_refused pool step given cause steps givens replies h = h

abbrev ReadsOn : View → Given → Step → Reply → View → Type 0
ReadsOn v given step reply w = (pool : ℕ → PlainPool) (steps : List Step) (givens : List Given) (replies : List Reply) → ((n : ℕ) → nat_le n v.committed ≡ true → pool n ≡ v.pools n)
    → ReadsUnder pool steps givens replies → ReadsUnder pool (step ∷ steps) (given ∷ givens) (reply ∷ replies)

read_moves : EachMove ReadsOn
read_moves = record {
  stays = λ v given step cause may e pool steps givens replies f h. reads_refused pool step given cause steps givens replies h;
  begun = λ v given t cause is pool steps givens replies f h. h;
  again = λ v given t cause is pool steps givens replies f h. h;
  failed = λ v given disk left e pool steps givens replies f h. h;
  replanned = λ v given disk left e pool steps givens replies f h. h;
  out_unplanned = λ v given disk e pool steps givens replies f h. h;
  out_early = λ v given disk left pool steps givens replies f h. h;
  out_late = λ v given disk left pool steps givens replies f h. h;
  moved = λ v given phase left rest out e pool steps givens replies f h. h;
  read = λ v given name offset len bytes a pool steps givens replies f h. h;
  read_under = λ v given g name offset len bytes kept a pool steps givens replies f h.
      ((λ trusted. let b = a trusted in (b.0, ap (volume_at name) (f g (kept_below v g kept)) ∙ b.1, b.2)), h);
  held = λ v given by o pool steps givens replies f h. h;
  wrote = λ v given x g m o le pool steps givens replies f h. h;
  acted = λ v given a g m o le op pool steps givens replies f h. h;
  released = λ v given by pool steps givens replies f h. h;
  closed = λ v given b pool steps givens replies f h. h;
  quiesced = λ v given e pool steps givens replies f h. h;
  planned = λ v given t calls pool steps givens replies f h. h;
  replanned_group = λ v given t calls pool steps givens replies f h. h;
  committed = λ v given left out e pool steps givens replies f h. h;
}

pub told_reads : (v : View) (steps : List Step) (givens : List Given) (replies : List Reply) (w : View) → Run v steps givens replies w → IsSound v → (pool : ℕ → PlainPool) → ((n : ℕ) → pool n ≡ pool_by v w.ledger n) → ReadsUnder pool steps givens replies
told_reads v [] [] [] w r s pool e = tt
told_reads v (step ∷ steps) (given ∷ givens) (reply ∷ replies) w r s pool e =
    by_move ReadsOn read_moves v given step reply r.0 r.1 pool steps givens replies
    (λ n low. e n ∙ ap (λ b. cond b (v.pools n) (upto v.committed (v.pools v.committed) w.ledger n)) low)
    (told_reads r.0 steps givens replies w r.2 (sound_step v given step reply r.0 s r.1) pool (λ n. e n ∙ sym (pool_step v given step reply r.0 steps givens replies w r.1 r.2 s n)))
told_reads v steps givens replies w r s pool e = absurd r
