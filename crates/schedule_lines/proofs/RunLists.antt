-- Lists of runs, made from the front.
use Rattle.std.proofs.Common.{◌≡◌, ◌≢◌, ℕ, zero, suc, ◌+◌, ◌<◌, ◌≤◌, Bool, true, false, cond, nat_eq, List, [], ◌∷◌, ◌++◌, length, drop, get_or, replicate, refl, sym, ap, subst, ◌∙◌, arith}
use Rattle.std.specs.List.{AllByRecursion, flat_map, prefix_len}
use Rattle.std.proofs.lemmas.Bool.{eqb-true, eqb-false, eq-eqb, ne_eqb}
use Rattle.std.proofs.lemmas.List.{append-nil, append_cancel_left}
use Rattle.schedule_lines.specs.declared.equal_bytes.Run.{Run}
use Rattle.schedule_lines.specs.Runs.{bytes_of, NeighboursDiffer, AreRuns, BeginsOtherwise, BeginsWithRun}

abbrev equals : ℕ → ℕ → Bool
equals byte b = nat_eq b byte

-- the bytes in front that are equal to one, and the others
record Front (byte count : ℕ) (bytes : List ℕ) : Type 0 where
  within : count ≤ length bytes
  expanded : bytes ≡ replicate count byte ++ drop count bytes
  longest : BeginsOtherwise byte (drop count bytes)

front_onto : (t : Bool) (b byte n : ℕ) (bytes : List ℕ) → equals byte b ≡ t → Front byte n bytes → Front byte (cond t (1 + n) 0) (b ∷ bytes)
front_onto true b byte n bytes e front =
    let more : Front byte (suc n) (b ∷ bytes) = record { within = omega (arith, front.within); expanded = ap (λ (x : ℕ). x ∷ bytes) (eqb-true b byte e) ∙ ap (λ (x : List ℕ). byte ∷ x) front.expanded; longest = front.longest } in
    let count : suc n ≡ 1 + n = omega arith in
    subst (λ (k : ℕ). Front byte k (b ∷ bytes)) count more
front_onto false b byte n bytes e front = record { within = omega arith; expanded = refl; longest = eqb-false b byte e }

front : (byte : ℕ) (bytes : List ℕ) → Front byte (prefix_len (equals byte) bytes) bytes
front byte [] = record { within = omega arith; expanded = refl; longest = tt }
front byte (b ∷ bytes) = front_onto (equals byte b) b byte (prefix_len (equals byte) bytes) bytes refl (front byte bytes)

some_in_front : (byte : ℕ) (bytes : List ℕ) → 0 < length bytes → get_or bytes 0 0 ≡ byte → 0 < prefix_len (equals byte) bytes
some_in_front byte [] full e = absurd (omega arith)
some_in_front byte (b ∷ bytes) full e = subst (λ (t : Bool). 0 < cond t (1 + prefix_len (equals byte) bytes) 0) (sym (eq-eqb b byte e)) (omega arith)

pub begins_with_run : (bytes : List ℕ) (run : Run) → 0 < length bytes → get_or bytes 0 0 ≡ run.byte → run.count ≡ prefix_len (equals run.byte) bytes → BeginsWithRun run bytes
begins_with_run bytes run full first count =
    let f : Front run.byte run.count bytes = subst (λ (k : ℕ). Front run.byte k bytes) (sym count) (front run.byte bytes) in
    record { count = subst (λ (k : ℕ). 0 < k) (sym count) (some_in_front run.byte bytes full first); within = f.within; expanded = f.expanded; longest = f.longest }

-- ---- one run more

begins_as_next : (next : Run) (n : ℕ) (byte : ℕ) (others bytes : List ℕ) → n ≡ next.count → 0 < n → replicate n next.byte ++ others ≡ bytes → BeginsOtherwise byte bytes → byte ≢ next.byte
begins_as_next next zero byte others bytes e some spelled other = absurd (omega arith)
begins_as_next next (suc n) byte others [] e some spelled other = absurd cc
begins_as_next next (suc n) byte others (b ∷ bytes) e some spelled other = λ same. other (let head : next.byte ≡ b = cc in sym head ∙ sym same)

differ_onto : (run : Run) (runs : List Run) (bytes : List ℕ) → AreRuns bytes runs → BeginsOtherwise run.byte bytes → NeighboursDiffer (run ∷ runs)
differ_onto run [] bytes are other = tt
differ_onto run (next ∷ runs) bytes are other = (begins_as_next next next.count run.byte (flat_map bytes_of runs) bytes refl are.counts.0 are.expanded other, are.longest)

pub run_more : (run : Run) (runs : List Run) (bytes : List ℕ) → BeginsWithRun run bytes → AreRuns (drop run.count bytes) runs → AreRuns bytes (run ∷ runs)
run_more run runs bytes begins are =
    record {
      expanded = ap (λ (others : List ℕ). bytes_of run ++ others) are.expanded ∙ sym begins.expanded;
      counts = (begins.count, are.counts);
      longest = differ_onto run runs (drop run.count bytes) are begins.longest;
    }

pub no_runs : AreRuns [] []
no_runs = record { expanded = refl; counts = tt; longest = tt }

-- nothing is left
pub all_runs : (runs : List Run) (rest bytes : List ℕ) → rest ≡ [] → ((others : List Run) → AreRuns rest others → AreRuns bytes (runs ++ others)) → AreRuns bytes runs
all_runs runs rest bytes e complete = subst (AreRuns bytes) (append-nil runs) (complete [] (subst (λ (left : List ℕ). AreRuns left []) (sym e) no_runs))

-- ---- no other runs

counted : (byte n : ℕ) (others : List ℕ) → BeginsOtherwise byte others → prefix_len (equals byte) (replicate n byte ++ others) ≡ n
counted byte zero [] other = refl
counted byte zero (b ∷ others) other = rw (ne_eqb b byte other) refl
counted byte (suc n) others other = rw (eq-eqb byte byte refl, counted byte n others other) (omega arith)

begins_next : (byte other n : ℕ) (others : List ℕ) → 0 < n → byte ≢ other → BeginsOtherwise byte (replicate n other ++ others)
begins_next byte other zero others some differ = absurd (omega arith)
begins_next byte other (suc n) others some differ = λ same. differ (sym same)

-- what a list of runs spells behind its first begins otherwise
behind_first : (run : Run) (runs : List Run) → AllByRecursion (λ run. 0 < run.count) runs → NeighboursDiffer (run ∷ runs) → BeginsOtherwise run.byte (flat_map bytes_of runs)
behind_first run [] counts longest = tt
behind_first run (next ∷ runs) counts longest = begins_next run.byte next.byte next.count (flat_map bytes_of runs) counts.0 longest.0

same_heads : (a b n m : ℕ) (xs ys : List ℕ) → 0 < n → 0 < m → replicate n a ++ xs ≡ replicate m b ++ ys → a ≡ b
same_heads a b zero m xs ys some other e = absurd (omega arith)
same_heads a b (suc n) zero xs ys some other e = absurd (omega arith)
same_heads a b (suc n) (suc m) xs ys some other e = cc

not_spelled : (a n : ℕ) (xs : List ℕ) → 0 < n → replicate n a ++ xs ≡ [] → ⊥
not_spelled a zero xs some e = omega arith
not_spelled a (suc n) xs some e = cc

abbrev made : ℕ → ℕ → Run
made byte count = record { byte = byte; count = count }

-- runs of the same bytes
record Same (a b : List Run) : Type 0 where
  expanded : flat_map bytes_of a ≡ flat_map bytes_of b
  counts_a : AllByRecursion (λ run. 0 < run.count) a
  counts_b : AllByRecursion (λ run. 0 < run.count) b
  longest_a : NeighboursDiffer a
  longest_b : NeighboursDiffer b

differ_tail : (run : Run) (runs : List Run) → NeighboursDiffer (run ∷ runs) → NeighboursDiffer runs
differ_tail run [] h = tt
differ_tail run (next ∷ runs) h = h.1

same_run : (r s : Run) → r.byte ≡ s.byte → r.count ≡ s.count → r ≡ s
same_run r s byte count = ap (λ (b : ℕ). made b r.count) byte ∙ ap (made s.byte) count

same_runs : (a b : List Run) → Same a b → a ≡ b
same_runs [] [] h = refl
same_runs [] (s ∷ b) h = absurd (not_spelled s.byte s.count (flat_map bytes_of b) h.counts_b.0 (sym h.expanded))
same_runs (r ∷ a) [] h = absurd (not_spelled r.byte r.count (flat_map bytes_of a) h.counts_a.0 h.expanded)
same_runs (r ∷ a) (s ∷ b) h =
    let byte = same_heads r.byte s.byte r.count s.count (flat_map bytes_of a) (flat_map bytes_of b) h.counts_a.0 h.counts_b.0 h.expanded in
    let one = counted r.byte r.count (flat_map bytes_of a) (behind_first r a h.counts_a.1 h.longest_a) in
    let other = counted s.byte s.count (flat_map bytes_of b) (behind_first s b h.counts_b.1 h.longest_b) in
    let count : r.count ≡ s.count = sym one ∙ ap (prefix_len (equals r.byte)) h.expanded ∙ ap (λ (x : ℕ). prefix_len (equals x) (bytes_of s ++ flat_map bytes_of b)) byte ∙ other in
    let first : r ≡ s = same_run r s byte count in
    let left : bytes_of s ++ flat_map bytes_of a ≡ bytes_of s ++ flat_map bytes_of b = ap (λ (x : Run). bytes_of x ++ flat_map bytes_of a) (sym first) ∙ h.expanded in
    let behind = append_cancel_left (bytes_of s) (flat_map bytes_of a) (flat_map bytes_of b) left in
    let others = same_runs a b (record { expanded = behind; counts_a = h.counts_a.1; counts_b = h.counts_b.1; longest_a = differ_tail r a h.longest_a; longest_b = differ_tail s b h.longest_b }) in
    ap (λ (x : Run). x ∷ a) first ∙ ap (λ (x : List Run). s ∷ x) others

pub one_list_of_runs : (a b : List Run) (bytes : List ℕ) → AreRuns bytes a → AreRuns bytes b → a ≡ b
one_list_of_runs a b bytes first second = same_runs a b (record { expanded = first.expanded ∙ sym second.expanded; counts_a = first.counts; counts_b = second.counts; longest_a = first.longest; longest_b = second.longest })
