-- Plans and device calls of a core that keeps what is left in a list.
use Rattle.std.proofs.Common.{◌≡◌, ℕ, zero, suc, ◌+◌, ◌≤◌, ◌<◌, ◌==◌, ◌&&◌, if◌then◌else◌, Bool, true, false, true≢false, List, [], ◌∷◌, ◌++◌, length, refl, sym, ap, ◌∙◌, subst, arith, lit≤}
use Rattle.std.specs.Prelude.{map, filter, flat_map, replicate, not, Contains, IsPermutation}
use Rattle.std.proofs.lemmas.List.{append-nil, map-append}
use Rattle.std.proofs.lemmas.List.Elements.{filter-append}
use Rattle.std.proofs.lemmas.Bool.{eq-eqb, eqb-true}
use Rattle.std.proofs.lemmas.Bool.Decides.{nat_tests}
use Rattle.std.specs.List.{AllByRecursion}
use Rattle.pool_model.specs.declared.step.Phase.{Phase}
use Rattle.pool_model.specs.declared.step.Phase.TheVariants.{Blocks, BlocksFlush, Slots, SlotsFlush}
use Rattle.pool_model.specs.declared.step.Step.{Step}
use Rattle.pool_model.specs.declared.step.Step.TheVariants.{Hold, Device, Plan, Read, ReadUnder}
use Rattle.pool_model.specs.View.{View, DueCall, nothing_given, counted, disks_in_use}
use Rattle.pool_model.specs.Flow.{counted_on}
use Rattle.pool_model.specs.Machine.{due_flush, rank, in_phase, is_flush, numbers_on, disks_called, disks_with_slots, IsPlan, Makes, IsQuiet, MayCall}

-- ---- where nothing was called

pub nothing_quiet : IsQuiet nothing_given
nothing_quiet = record { made = refl; fault = refl }

pub may_nothing : (step : Step) → MayCall step nothing_given
may_nothing Device = refl
may_nothing (Plan timestamp) = nothing_quiet
may_nothing (Read name offset len) = nothing_quiet
may_nothing (ReadUnder group name offset len) = nothing_quiet
may_nothing (Hold writer) = (nothing_quiet, refl)
may_nothing step = (nothing_quiet, refl)

-- ---- the same elements

pub same_elements : {A : Type 0} (xs ys : List A) → xs ≡ ys → IsPermutation xs ys
same_elements xs ys e = record { moves = []; below = tt; is = sym e }

-- ---- the calls of a plan: writes, a flush of each disk in use, and where commits end in slots their writes and a flush of each

pub all_append : {A : Type 0} (P : A → Type 0) (xs ys : List A) → AllByRecursion P xs → AllByRecursion P ys → AllByRecursion P (xs ++ ys)
all_append P [] ys h k = k
all_append P (x ∷ xs) ys h k = (h.0, all_append P xs ys h.1 k)

all_themselves : (xs : List ℕ) (P : ℕ → Type 0) → ((x : ℕ) → Contains xs x → P x) → AllByRecursion P xs
all_themselves [] P h = tt
all_themselves (x ∷ xs) P h = (h x (0, omega arith, refl), all_themselves xs P (λ y c. h y (later y c)))
  where
    later : (y : ℕ) → Contains xs y → Contains (x ∷ xs) y
    later y c = (suc c.0, omega (arith, c.1), c.2)

-- the writes of a phase to these disks, one after the other: how many each disk had before is counted on
abbrev pub writes_in : Phase → (ℕ → ℕ) → List ℕ → List DueCall
writes_in phase counts [] = []
writes_in phase counts (disk ∷ disks) = record { disk = disk; phase = phase; number = counts disk } ∷ writes_in phase (counted_on counts disk) disks

abbrev pub writes_on : (ℕ → ℕ) → List ℕ → List DueCall
writes_on counts disks = writes_in Blocks counts disks

abbrev pub flushes_in : Phase → List ℕ → List DueCall
flushes_in phase disks = map (λ disk. record { disk = disk; phase = phase; number = 0 }) disks

-- how many writes each disk had after these
abbrev pub counts_after : (ℕ → ℕ) → List ℕ → ℕ → ℕ
counts_after counts [] = counts
counts_after counts (disk ∷ disks) = counts_after (counted_on counts disk) disks

abbrev pub four_times : List ℕ → List ℕ
four_times disks = flat_map (λ disk. replicate 4 disk) disks

abbrev pub plan_calls : List ℕ → List ℕ → List ℕ → List DueCall
plan_calls writes flushes slots = writes_on (λ disk. 0) writes ++ (flushes_in BlocksFlush flushes ++ (writes_in Slots (counts_after (λ disk. 0) writes) (four_times slots) ++ flushes_in SlotsFlush slots))

-- ---- on disks in use

on_writes : (P : ℕ → Type 0) (phase : Phase) (counts : ℕ → ℕ) (disks : List ℕ) → AllByRecursion P disks → AllByRecursion (λ (call : DueCall). P call.disk) (writes_in phase counts disks)
on_writes P phase counts [] h = tt
on_writes P phase counts (disk ∷ disks) h = (h.0, on_writes P phase (counted_on counts disk) disks h.1)

on_flushes : (P : ℕ → Type 0) (phase : Phase) (disks : List ℕ) → AllByRecursion P disks → AllByRecursion (λ (call : DueCall). P call.disk) (flushes_in phase disks)
on_flushes P phase [] h = tt
on_flushes P phase (disk ∷ disks) h = (h.0, on_flushes P phase disks h.1)

all_four : (P : ℕ → Type 0) (disks : List ℕ) → AllByRecursion P disks → AllByRecursion P (four_times disks)
all_four P [] h = tt
all_four P (disk ∷ disks) h = (h.0, (h.0, (h.0, (h.0, all_four P disks h.1))))

-- ---- the disks that are called in a phase

writes_are_in : (phase : Phase) (counts : ℕ → ℕ) (disks : List ℕ) → AllByRecursion (λ (call : DueCall). call.phase ≡ phase) (writes_in phase counts disks)
writes_are_in phase counts [] = tt
writes_are_in phase counts (disk ∷ disks) = (refl, writes_are_in phase (counted_on counts disk) disks)

flushes_are_in : (phase : Phase) (disks : List ℕ) → AllByRecursion (λ (call : DueCall). call.phase ≡ phase) (flushes_in phase disks)
flushes_are_in phase [] = tt
flushes_are_in phase (disk ∷ disks) = (refl, flushes_are_in phase disks)

not_same : (m n : ℕ) → ¬ (m ≡ n) → (m == n) ≡ false
not_same m n h = grind (arith, nat_tests, h)

called_all : (phase : Phase) (calls : List DueCall) → AllByRecursion (λ (call : DueCall). call.phase ≡ phase) calls → disks_called phase calls ≡ map (λ (call : DueCall). call.disk) calls
called_all phase [] h = refl
called_all phase (call ∷ calls) h =
    ap (λ b. map (λ (call : DueCall). call.disk) (if b then call ∷ filter (in_phase phase) calls else filter (in_phase phase) calls)) (eq-eqb (rank call.phase) (rank phase) (ap rank h.0))
    ∙ ap (λ disks. call.disk ∷ disks) (called_all phase calls h.1)

called_none : (phase other : Phase) → ¬ (rank phase ≡ rank other) → (calls : List DueCall) → AllByRecursion (λ (call : DueCall). call.phase ≡ phase) calls → disks_called other calls ≡ []
called_none phase other differ [] h = refl
called_none phase other differ (call ∷ calls) h =
    ap (λ b. map (λ (call : DueCall). call.disk) (if b then call ∷ filter (in_phase other) calls else filter (in_phase other) calls))
    (not_same (rank call.phase) (rank other) (λ e. differ (sym (ap rank h.0) ∙ e)))
    ∙ called_none phase other differ calls h.1

disks_of_writes : (phase : Phase) (counts : ℕ → ℕ) (disks : List ℕ) → map (λ (call : DueCall). call.disk) (writes_in phase counts disks) ≡ disks
disks_of_writes phase counts [] = refl
disks_of_writes phase counts (disk ∷ disks) = ap (λ ds. disk ∷ ds) (disks_of_writes phase (counted_on counts disk) disks)

disks_of_flushes : (phase : Phase) (disks : List ℕ) → map (λ (call : DueCall). call.disk) (flushes_in phase disks) ≡ disks
disks_of_flushes phase [] = refl
disks_of_flushes phase (disk ∷ disks) = ap (λ ds. disk ∷ ds) (disks_of_flushes phase disks)

called_append : (phase : Phase) (xs ys : List DueCall) → disks_called phase (xs ++ ys) ≡ disks_called phase xs ++ disks_called phase ys
called_append phase xs ys = ap (map (λ (call : DueCall). call.disk)) (filter-append (in_phase phase) xs ys) ∙ map-append (λ (call : DueCall). call.disk) (filter (in_phase phase) xs) (filter (in_phase phase) ys)

called_in_parts : (phase : Phase) (ws xs ys zs : List DueCall) → disks_called phase (ws ++ (xs ++ (ys ++ zs))) ≡ disks_called phase ws ++ (disks_called phase xs ++ (disks_called phase ys ++ disks_called phase zs))
called_in_parts phase ws xs ys zs =
    called_append phase ws (xs ++ (ys ++ zs))
    ∙ ap (λ ds. disks_called phase ws ++ ds) (called_append phase xs (ys ++ zs) ∙ ap (λ ds. disks_called phase xs ++ ds) (called_append phase ys zs))

no_write : (phase other : Phase) → ¬ (rank phase ≡ rank other) → (counts : ℕ → ℕ) (disks : List ℕ) → disks_called other (writes_in phase counts disks) ≡ []
no_write phase other differ counts disks = called_none phase other differ (writes_in phase counts disks) (writes_are_in phase counts disks)

no_flush : (phase other : Phase) → ¬ (rank phase ≡ rank other) → (disks : List ℕ) → disks_called other (flushes_in phase disks) ≡ []
no_flush phase other differ disks = called_none phase other differ (flushes_in phase disks) (flushes_are_in phase disks)

each_write : (phase : Phase) (counts : ℕ → ℕ) (disks : List ℕ) → disks_called phase (writes_in phase counts disks) ≡ disks
each_write phase counts disks = called_all phase (writes_in phase counts disks) (writes_are_in phase counts disks) ∙ disks_of_writes phase counts disks

each_flush : (phase : Phase) (disks : List ℕ) → disks_called phase (flushes_in phase disks) ≡ disks
each_flush phase disks = called_all phase (flushes_in phase disks) (flushes_are_in phase disks) ∙ disks_of_flushes phase disks

plan_flushes : (writes flushes slots : List ℕ) → disks_called BlocksFlush (plan_calls writes flushes slots) ≡ flushes
plan_flushes writes flushes slots =
    called_in_parts BlocksFlush (writes_on (λ disk. 0) writes) (flushes_in BlocksFlush flushes) (writes_in Slots (counts_after (λ disk. 0) writes) (four_times slots)) (flushes_in SlotsFlush slots)
    ∙ (λ i. no_write Blocks BlocksFlush (λ e. omega (arith, e)) (λ disk. 0) writes i
    ++ (each_flush BlocksFlush flushes i ++ (no_write Slots BlocksFlush (λ e. omega (arith, e)) (counts_after (λ disk. 0) writes) (four_times slots) i ++ no_flush SlotsFlush BlocksFlush (λ e. omega (arith, e)) slots i)))
    ∙ append-nil flushes

plan_slots : (writes flushes slots : List ℕ) → disks_called Slots (plan_calls writes flushes slots) ≡ four_times slots
plan_slots writes flushes slots =
    called_in_parts Slots (writes_on (λ disk. 0) writes) (flushes_in BlocksFlush flushes) (writes_in Slots (counts_after (λ disk. 0) writes) (four_times slots)) (flushes_in SlotsFlush slots)
    ∙ (λ i. no_write Blocks Slots (λ e. omega (arith, e)) (λ disk. 0) writes i
    ++ (no_flush BlocksFlush Slots (λ e. omega (arith, e)) flushes i ++ (each_write Slots (counts_after (λ disk. 0) writes) (four_times slots) i ++ no_flush SlotsFlush Slots (λ e. omega (arith, e)) slots i)))
    ∙ append-nil (four_times slots)

plan_slot_flushes : (writes flushes slots : List ℕ) → disks_called SlotsFlush (plan_calls writes flushes slots) ≡ slots
plan_slot_flushes writes flushes slots =
    called_in_parts SlotsFlush (writes_on (λ disk. 0) writes) (flushes_in BlocksFlush flushes) (writes_in Slots (counts_after (λ disk. 0) writes) (four_times slots)) (flushes_in SlotsFlush slots)
    ∙ (λ i. no_write Blocks SlotsFlush (λ e. omega (arith, e)) (λ disk. 0) writes i
    ++ (no_flush BlocksFlush SlotsFlush (λ e. omega (arith, e)) flushes i ++ (no_write Slots SlotsFlush (λ e. omega (arith, e)) (counts_after (λ disk. 0) writes) (four_times slots) i ++ each_flush SlotsFlush slots i)))

-- ---- numbers

numbers_append : (disk : ℕ) (xs ys : List DueCall) → numbers_on disk (xs ++ ys) ≡ numbers_on disk xs ++ numbers_on disk ys
numbers_append disk xs ys =
    ap (map (λ (call : DueCall). call.number)) (filter-append (λ call. not (is_flush call) && (call.disk == disk)) xs ys)
    ∙ map-append (λ (call : DueCall). call.number) (filter (λ call. not (is_flush call) && (call.disk == disk)) xs) (filter (λ call. not (is_flush call) && (call.disk == disk)) ys)

abbrev flushes_by : Phase → Bool
flushes_by phase = is_flush (record { disk = 0; phase = phase; number = 0 })

no_numbers : (disk : ℕ) (phase : Phase) → flushes_by phase ≡ true → (disks : List ℕ) → numbers_on disk (flushes_in phase disks) ≡ []
no_numbers disk phase e [] = refl
no_numbers disk phase e (d ∷ disks) =
    ap (λ b. map (λ (call : DueCall). call.number) (if (not b && (d == disk)) then record { disk = d; phase = phase; number = 0 } ∷ filter (λ call. not (is_flush call) && (call.disk == disk)) (flushes_in phase disks)
    else filter (λ call. not (is_flush call) && (call.disk == disk)) (flushes_in phase disks))) e
    ∙ no_numbers disk phase e disks

-- from the first on, first to last
abbrev count_up : ℕ → ℕ → List ℕ
count_up first zero = []
count_up first (suc n) = first ∷ count_up (suc first) n

counts_up : (first n : ℕ) → count_up first n ≡ counted first n
counts_up first zero = refl
counts_up first (suc n) = ap (λ ns. first ∷ ns) (counts_up (suc first) n) ∙ front first n
  where
    front : (first n : ℕ) → first ∷ counted (suc first) n ≡ counted first n ++ (first + n) ∷ []
    front first zero = ap (λ k. k ∷ []) (omega arith)
    front first (suc n) = ap (λ ns. ns ++ (suc first + n) ∷ []) (front first n) ∙ ap (λ k. (counted first n ++ (first + n) ∷ []) ++ k ∷ []) (omega arith)

length_up : (first n : ℕ) → length (count_up first n) ≡ n
length_up first zero = refl
length_up first (suc n) = ap suc (length_up (suc first) n)

-- numbers that follow on others
joined : (first n m next sum : ℕ) → next ≡ first + n → sum ≡ n + m → count_up first n ++ count_up next m ≡ count_up first sum
joined first zero m next sum e f =
    let same : next ≡ first = omega (arith, e) in
    let all : m ≡ sum = omega (arith, f) in
    λ i. count_up (same i) (all i)
joined first (suc n) m next zero e f = absurd (omega (arith, f))
joined first (suc n) m next (suc sum) e f = ap (λ ns. first ∷ ns) (joined (suc first) n m next sum (omega (arith, e)) (omega (arith, f)))

record CountsOn (phase : Phase) (counts : ℕ → ℕ) (disks : List ℕ) (disk : ℕ) : Type 0 where
  pub n : ℕ
  pub numbers : numbers_on disk (writes_in phase counts disks) ≡ count_up (counts disk) n
  pub later : counts_after counts disks disk ≡ counts disk + n

counts_on : (phase : Phase) → flushes_by phase ≡ false → (counts : ℕ → ℕ) (disks : List ℕ) (disk : ℕ) → CountsOn phase counts disks disk
counts_on phase w counts [] disk = record { n = 0; numbers = refl; later = omega arith }
counts_on phase w counts (d ∷ disks) disk = one (d == disk) refl (counts_on phase w (counted_on counts d) disks disk)
  where
    behind : List DueCall
    behind = filter (λ call. not (is_flush call) && (call.disk == disk)) (writes_in phase (counted_on counts d) disks)

    first : (same : Bool) → (d == disk) ≡ same → numbers_on disk (writes_in phase counts (d ∷ disks))
        ≡ map (λ (call : DueCall). call.number) (if same then record { disk = d; phase = phase; number = counts d } ∷ behind else behind)
    first same e = λ i. map (λ (call : DueCall). call.number) (if (not (w i) && e i) then record { disk = d; phase = phase; number = counts d } ∷ behind else behind)

    one : (same : Bool) → (d == disk) ≡ same → CountsOn phase (counted_on counts d) disks disk → CountsOn phase counts (d ∷ disks) disk
    one true e rest =
        let is : d ≡ disk = eqb-true d disk e in
        let more : counted_on counts d disk ≡ suc (counts disk) = ap (λ b. if b then suc (counts disk) else counts disk) (eq-eqb disk d (sym is)) in
        let sum = rest.later in
        record {
          n = suc rest.n;
          numbers = first true e ∙ ap (λ ns. counts d ∷ ns) (rest.numbers ∙ ap (λ k. count_up k rest.n) more) ∙ ap (λ k. k ∷ count_up (suc (counts disk)) rest.n) (ap counts is);
          later = omega (arith, sum, more);
        }
    one false e rest =
        let same : counted_on counts d disk ≡ counts disk = ap (λ b. if b then suc (counts disk) else counts disk) (not_same disk d (λ same. true≢false (sym (eq-eqb d disk (sym same)) ∙ e))) in
        let sum = rest.later in
        record {
          n = rest.n;
          numbers = first false e ∙ rest.numbers ∙ ap (λ k. count_up k rest.n) same;
          later = omega (arith, sum, same);
        }

plan_numbers : (writes flushes slots : List ℕ) (disk : ℕ) → (n : ℕ) × (numbers_on disk (plan_calls writes flushes slots) ≡ count_up 0 n)
plan_numbers writes flushes slots disk =
    let blocks = counts_on Blocks refl (λ d. 0) writes disk in
    let behind = counts_on Slots refl (counts_after (λ d. 0) writes) (four_times slots) disk in (
      blocks.n + behind.n,
      numbers_append disk (writes_on (λ d. 0) writes) (flushes_in BlocksFlush flushes ++ (writes_in Slots (counts_after (λ d. 0) writes) (four_times slots) ++ flushes_in SlotsFlush slots))
          ∙ ap (λ ns. numbers_on disk (writes_on (λ d. 0) writes) ++ ns)
          (numbers_append disk (flushes_in BlocksFlush flushes) (writes_in Slots (counts_after (λ d. 0) writes) (four_times slots) ++ flushes_in SlotsFlush slots)
          ∙ ap (λ ns. numbers_on disk (flushes_in BlocksFlush flushes) ++ ns) (numbers_append disk (writes_in Slots (counts_after (λ d. 0) writes) (four_times slots)) (flushes_in SlotsFlush slots)))
          ∙ (λ i. blocks.numbers i ++ (no_numbers disk BlocksFlush refl flushes i ++ (behind.numbers i ++ no_numbers disk SlotsFlush refl slots i)))
          ∙ ap (λ ns. count_up 0 blocks.n ++ ns) (append-nil (count_up (counts_after (λ d. 0) writes disk) behind.n))
          ∙ joined 0 blocks.n behind.n (counts_after (λ d. 0) writes disk) (blocks.n + behind.n) blocks.later refl,
    )

plan_numbered : (writes flushes slots : List ℕ) (disk : ℕ) → IsPermutation (numbers_on disk (plan_calls writes flushes slots)) (counted 0 (length (numbers_on disk (plan_calls writes flushes slots))))
plan_numbered writes flushes slots disk =
    let up = plan_numbers writes flushes slots disk in
    same_elements _ _ (up.1 ∙ counts_up 0 up.0 ∙ ap (counted 0) (sym (ap length up.1 ∙ length_up 0 up.0)))

-- ---- the writes of slots behind those of blocks

-- where a disk had so many writes before its slots
record IsParted (counts : ℕ → ℕ) (call : DueCall) : Type 0 where
  pub block : call.phase ≡ Blocks → call.number < counts call.disk
  pub slot : call.phase ≡ Slots → counts call.disk ≤ call.number

counted_more : (counts : ℕ → ℕ) (d disk : ℕ) → counts disk ≤ counted_on counts d disk
counted_more counts d disk = elim (disk == d) as (λ b. counts disk ≤ (if b then suc (counts disk) else counts disk)) [ true ↦ omega arith | false ↦ omega arith ]

rises : (counts : ℕ → ℕ) (disks : List ℕ) (disk : ℕ) → counts disk ≤ counts_after counts disks disk
rises counts [] disk = omega arith
rises counts (d ∷ disks) disk = let rest = rises (counted_on counts d) disks disk in let one = counted_more counts d disk in omega (arith, rest, one)

differ : (one other : Phase) → ¬ (rank one ≡ rank other) → ¬ (one ≡ other)
differ one other ranks e = ranks (ap rank e)

parted_blocks : (counts : ℕ → ℕ) (disks : List ℕ) → AllByRecursion (IsParted (counts_after counts disks)) (writes_in Blocks counts disks)
parted_blocks counts [] = tt
parted_blocks counts (d ∷ disks) =
    let rest = rises (counted_on counts d) disks d in
    let one : counted_on counts d d ≡ suc (counts d) = ap (λ b. if b then suc (counts d) else counts d) (eq-eqb d d refl) in
    (record { block = λ e. omega (arith, rest, one); slot = λ e. absurd (differ Blocks Slots (λ r. omega (arith, r)) e) }, parted_blocks (counted_on counts d) disks)

parted_slots : (before counts : ℕ → ℕ) (disks : List ℕ) → ((disk : ℕ) → before disk ≤ counts disk) → AllByRecursion (IsParted before) (writes_in Slots counts disks)
parted_slots before counts [] up = tt
parted_slots before counts (d ∷ disks) up = (
  record { block = λ e. absurd (differ Slots Blocks (λ r. omega (arith, r)) e); slot = λ e. up d },
  parted_slots before (counted_on counts d) disks (λ disk. let one = counted_more counts d disk in let low = up disk in omega (arith, one, low)),
)

parted_flushes : (before : ℕ → ℕ) (phase : Phase) (disks : List ℕ) → ¬ (rank phase ≡ rank Blocks) → ¬ (rank phase ≡ rank Slots) → AllByRecursion (IsParted before) (flushes_in phase disks)
parted_flushes before phase [] no_block no_slot = tt
parted_flushes before phase (d ∷ disks) no_block no_slot = (
  record { block = λ e. absurd (differ phase Blocks no_block e); slot = λ e. absurd (differ phase Slots no_slot e) },
  parted_flushes before phase disks no_block no_slot,
)

plan_parted : (writes flushes slots : List ℕ) → AllByRecursion (IsParted (counts_after (λ disk. 0) writes)) (plan_calls writes flushes slots)
plan_parted writes flushes slots =
    let before = counts_after (λ (disk : ℕ). 0) writes in
    all_append _ (writes_on (λ disk. 0) writes) _ (parted_blocks (λ disk. 0) writes)
    (all_append _ (flushes_in BlocksFlush flushes) _ (parted_flushes before BlocksFlush flushes (λ e. omega (arith, e)) (λ e. omega (arith, e)))
    (all_append _ (writes_in Slots before (four_times slots)) _ (parted_slots before before (four_times slots) (λ disk. omega arith))
    (parted_flushes before SlotsFlush slots (λ e. omega (arith, e)) (λ e. omega (arith, e)))))

at_call : (P : DueCall → Type 0) (calls : List DueCall) (call : DueCall) → AllByRecursion P calls → Contains calls call → P call
at_call P [] call all (k, within, is) = absurd (omega (arith, within))
at_call P (first ∷ calls) call all (zero, within, is) = subst P is all.0
at_call P (first ∷ calls) call all (suc k, within, is) = at_call P calls call all.1 (k, omega (arith, within), is)

plan_behind : (writes flushes slots : List ℕ) (block slot : DueCall) → Contains (plan_calls writes flushes slots) block → Contains (plan_calls writes flushes slots) slot
    → block.phase ≡ Blocks → slot.phase ≡ Slots → block.disk ≡ slot.disk → block.number < slot.number
plan_behind writes flushes slots block slot first second is_block is_slot same =
    let calls = plan_calls writes flushes slots in
    let before = counts_after (λ (disk : ℕ). 0) writes in
    let low = (at_call (IsParted before) calls block (plan_parted writes flushes slots) first).block is_block in
    let high = (at_call (IsParted before) calls slot (plan_parted writes flushes slots) second).slot is_slot in
    let there = ap before same in
    omega (arith, low, high, there)

-- ---- plans

with_slots : (v : View) → AllByRecursion (Contains (disks_in_use v)) (disks_with_slots v)
with_slots v = elim v.slots as (λ b. AllByRecursion (Contains (disks_in_use v)) (if b then disks_in_use v else []))
    [ true ↦ all_themselves (disks_in_use v) (Contains (disks_in_use v)) (λ x c. c) | false ↦ tt ]

-- block writes to these disks, and what each plan has behind them
pub is_plan_of : (v : View) (writes : List ℕ) → AllByRecursion (Contains (disks_in_use v)) writes → IsPlan v (plan_calls writes (disks_in_use v) (disks_with_slots v))
is_plan_of v writes h =
    let flushes = disks_in_use v in
    let slots = disks_with_slots v in
    record {
      in_use = all_append _ (writes_on (λ disk. 0) writes) _ (on_writes (Contains flushes) Blocks (λ disk. 0) writes h)
          (all_append _ (flushes_in BlocksFlush flushes) _ (on_flushes (Contains flushes) BlocksFlush flushes (all_themselves flushes (Contains flushes) (λ x c. c)))
          (all_append _ (writes_in Slots (counts_after (λ disk. 0) writes) (four_times slots)) _ (on_writes (Contains flushes) Slots (counts_after (λ disk. 0) writes) (four_times slots) (all_four (Contains flushes) slots (with_slots v)))
          (on_flushes (Contains flushes) SlotsFlush slots (with_slots v))));
      numbered = plan_numbered writes flushes slots;
      behind = plan_behind writes flushes slots;
      flushes = same_elements _ flushes (plan_flushes writes flushes slots);
      slots = same_elements _ (four_times slots) (plan_slots writes flushes slots);
      slot_flushes = same_elements _ slots (plan_slot_flushes writes flushes slots);
    }

-- where commits end without slots
pub is_plan : (v : View) (writes : List ℕ) → v.slots ≡ false → AllByRecursion (Contains (disks_in_use v)) writes → IsPlan v (writes_on (λ d. 0) writes ++ map due_flush (disks_in_use v))
is_plan v writes none h =
    subst (IsPlan v) (ap (λ b. plan_calls writes (disks_in_use v) (if b then disks_in_use v else [])) none
    ∙ ap (λ (calls : List DueCall). writes_on (λ d. 0) writes ++ calls) (append-nil (flushes_in BlocksFlush (disks_in_use v))))
    (is_plan_of v writes h)

-- ---- calls from the front of what is left

pub any_writes : (calls : List DueCall) → AllByRecursion (λ call. rank Blocks ≤ rank call.phase) calls
any_writes [] = tt
any_writes (call ∷ calls) = (omega arith, any_writes calls)

pub only_flushes : (disks : List ℕ) → AllByRecursion (λ (call : DueCall). rank BlocksFlush ≤ rank call.phase) (map due_flush disks)
only_flushes [] = tt
only_flushes (disk ∷ disks) = (lit≤ tt, only_flushes disks)

pub makes_writes : (left made rest : List DueCall) → left ≡ made ++ rest → 0 < length made → length made ≤ 4 → AllByRecursion (λ call. call.phase ≡ Blocks) made → Makes left made rest Blocks
makes_writes left made rest order some few same = record { parts = same_elements left (made ++ rest) order; some = some; few = few; same = same; next = any_writes left }

pub makes_flushes : (left made rest : List DueCall) (disks : List ℕ) → left ≡ map due_flush disks → left ≡ made ++ rest → 0 < length made → length made ≤ 4
    → AllByRecursion (λ call. call.phase ≡ BlocksFlush) made → Makes left made rest BlocksFlush
makes_flushes left made rest disks only order some few same = record {
  parts = same_elements left (made ++ rest) order;
  some = some;
  few = few;
  same = same;
  next = subst (AllByRecursion (λ (call : DueCall). rank BlocksFlush ≤ rank call.phase)) (sym only) (only_flushes disks);
}
