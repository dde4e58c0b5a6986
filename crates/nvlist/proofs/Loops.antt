-- Reading lists or pairs one after the other, as a loop does.
use Rattle.std.proofs.Common.{◌≡◌, ℕ, suc, ◌-◌, ◌+◌, ◌≤◌, ◌<◌, List, [], ◌∷◌, ◌++◌, Option, Some, None, option_map, refl, sym, ap, ◌∙◌, arith}
use Rattle.nvlist.specs.declared.refusal.Refusal.{Refusal}
use Rattle.nvlist.specs.declared.refusal.Refusal.TheVariants as refusals
use Rattle.nvlist.specs.Plain.{PlainList, no_pairs, pair, PlainLists, no_lists, next, last_from}
use Rattle.nvlist.specs.Reading.{◌>>=◌, Parse, Fails, pair_at, pairs_at, lists_at}
use Rattle.nvlist.specs.View.{PlainPair, pairs_of, lists_of}

-- lists in front of others
abbrev pub lists_before : List PlainList → PlainLists → PlainLists
lists_before [] others = others
lists_before (l ∷ ls) others = next l (lists_before ls others)

abbrev pub pairs_before : List PlainPair → PlainList → PlainList
pairs_before [] others = others
pairs_before (p ∷ ps) others = pair p.0 p.1 (pairs_before ps others)

-- what was read before, and what is still read
abbrev pub with_lists : List PlainList → Option (PlainLists × List ℕ) → Option (PlainLists × List ℕ)
with_lists front read = option_map (λ x. (lists_before front x.0, x.1)) read

abbrev pub with_pairs : List PlainPair → Option (PlainList × List ℕ) → Option (PlainList × List ℕ)
with_pairs front read = option_map (λ x. (pairs_before front x.0, x.1)) read

lists_before-push : (front : List PlainList) (l : PlainList) (others : PlainLists) → lists_before front (next l others) ≡ lists_before (front ++ l ∷ []) others
lists_before-push [] l others = refl
lists_before-push (k ∷ front) l others = ap (next k) (lists_before-push front l others)

pairs_before-push : (front : List PlainPair) (p : PlainPair) (others : PlainList) → pairs_before front (pair p.0 p.1 others) ≡ pairs_before (front ++ p ∷ []) others
pairs_before-push [] p others = refl
pairs_before-push (q ∷ front) p others = ap (pair q.0 q.1) (pairs_before-push front p others)

lists_before-nothing : (front : List PlainList) → lists_before front no_lists ≡ lists_of front
lists_before-nothing [] = refl
lists_before-nothing (l ∷ front) = ap (next l) (lists_before-nothing front)

pairs_before-nothing : (front : List PlainPair) → pairs_before front no_pairs ≡ pairs_of front
pairs_before-nothing [] = refl
pairs_before-nothing (p ∷ front) = ap (pair p.0 p.1) (pairs_before-nothing front)

pub last_name-push : (last : List ℕ) (front : List PlainPair) (p : PlainPair) → last_from last (pairs_of (front ++ p ∷ [])) ≡ p.0
last_name-push last [] p = refl
last_name-push last (q ∷ front) p = last_name-push q.0 front p

-- one more list
regroup_lists : (front : List PlainList) (l : PlainList) (read : Option (PlainLists × List ℕ)) → with_lists front (read >>= λ x. Some (next l x.0, x.1)) ≡ with_lists (front ++ l ∷ []) read
regroup_lists front l (Some x) = ap (λ (ls : PlainLists). Some (ls, x.1)) (lists_before-push front l x.0)
regroup_lists front l None = refl

regroup_pairs : (front : List PlainPair) (p : PlainPair) (read : Option (PlainList × List ℕ)) → with_pairs front (read >>= λ x. Some (pair p.0 p.1 x.0, x.1)) ≡ with_pairs (front ++ p ∷ []) read
regroup_pairs front p (Some x) = ap (λ (ps : PlainList). Some (ps, x.1)) (pairs_before-push front p x.0)
regroup_pairs front p None = refl

pub lists_start : (read : Option (PlainLists × List ℕ)) → with_lists [] read ≡ read
lists_start (Some x) = refl
lists_start None = refl

pub pairs_start : (read : Option (PlainList × List ℕ)) → with_pairs [] read ≡ read
pairs_start (Some x) = refl
pairs_start None = refl

pub lists_go_on : (read : Parse PlainList) (front : List PlainList) (count i : ℕ) (bytes : List ℕ) (l : PlainList) (after : List ℕ) (total : Option (PlainLists × List ℕ)) → i < count → read bytes ≡ Some (l, after)
    → with_lists front (lists_at read (count - i) bytes) ≡ total → with_lists (front ++ l ∷ []) (lists_at read (count - (i + 1)) after) ≡ total
unfolding lists_at
lists_go_on read front count i bytes l after total below h so_far =
    let k : count - i ≡ suc (count - (i + 1)) = omega arith in
    let one : with_lists front (lists_at read (count - i) bytes) ≡ with_lists (front ++ l ∷ []) (lists_at read (count - (i + 1)) after) = rw (k, h) (regroup_lists front l (lists_at read (count - (i + 1)) after)) in
    sym one ∙ so_far

pub lists_end : (read : Parse PlainList) (refusal : Refusal) (front : List PlainList) (count i : ℕ) (bytes : List ℕ) (total : Option (PlainLists × List ℕ)) → i < count → Fails refusal (read bytes)
    → with_lists front (lists_at read (count - i) bytes) ≡ total → Fails refusal total
unfolding lists_at
lists_end read refusals.NoMemory front count i bytes total below h so_far = tt
lists_end read refusals.BadLabel front count i bytes total below h so_far =
    let k : count - i ≡ suc (count - (i + 1)) = omega arith in
    let one : with_lists front (lists_at read (count - i) bytes) ≡ None = rw (k, h) refl in
    sym so_far ∙ one

pub lists_done : (read : Parse PlainList) (front : List PlainList) (count i : ℕ) (bytes : List ℕ) (total : Option (PlainLists × List ℕ)) → count ≤ i → with_lists front (lists_at read (count - i) bytes) ≡ total → total ≡ Some (lists_of front, bytes)
unfolding lists_at
lists_done read front count i bytes total above so_far =
    let k : count - i ≡ 0 = omega arith in
    let one : with_lists front (lists_at read (count - i) bytes) ≡ Some (lists_of front, bytes) = rw k (ap (λ (ls : PlainLists). Some (ls, bytes)) (lists_before-nothing front)) in
    sym so_far ∙ one

pub pairs_go_on : (read : Parse PlainList) (front : List PlainPair) (count i : ℕ) (last bytes : List ℕ) (p : PlainPair) (after : List ℕ) (total : Option (PlainList × List ℕ)) → i < count → pair_at read last bytes ≡ Some (p, after)
    → with_pairs front (pairs_at read (count - i) last bytes) ≡ total → with_pairs (front ++ p ∷ []) (pairs_at read (count - (i + 1)) p.0 after) ≡ total
unfolding pairs_at
pairs_go_on read front count i last bytes p after total below h so_far =
    let k : count - i ≡ suc (count - (i + 1)) = omega arith in
    let one : with_pairs front (pairs_at read (count - i) last bytes) ≡ with_pairs (front ++ p ∷ []) (pairs_at read (count - (i + 1)) p.0 after) = rw (k, h) (regroup_pairs front p (pairs_at read (count - (i + 1)) p.0 after)) in
    sym one ∙ so_far

pub pairs_end : (read : Parse PlainList) (refusal : Refusal) (front : List PlainPair) (count i : ℕ) (last bytes : List ℕ) (total : Option (PlainList × List ℕ)) → i < count → Fails refusal (pair_at read last bytes)
    → with_pairs front (pairs_at read (count - i) last bytes) ≡ total → Fails refusal total
unfolding pairs_at
pairs_end read refusals.NoMemory front count i last bytes total below h so_far = tt
pairs_end read refusals.BadLabel front count i last bytes total below h so_far =
    let k : count - i ≡ suc (count - (i + 1)) = omega arith in
    let one : with_pairs front (pairs_at read (count - i) last bytes) ≡ None = rw (k, h) refl in
    sym so_far ∙ one

pub pairs_done : (read : Parse PlainList) (front : List PlainPair) (count i : ℕ) (last bytes : List ℕ) (total : Option (PlainList × List ℕ)) → count ≤ i → with_pairs front (pairs_at read (count - i) last bytes) ≡ total → total ≡ Some (pairs_of front, bytes)
unfolding pairs_at
pairs_done read front count i last bytes total above so_far =
    let k : count - i ≡ 0 = omega arith in
    let one : with_pairs front (pairs_at read (count - i) last bytes) ≡ Some (pairs_of front, bytes) = rw k (ap (λ (ps : PlainList). Some (ps, bytes)) (pairs_before-nothing front)) in
    sym so_far ∙ one
