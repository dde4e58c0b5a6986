-- What a read of a block gives.
use Rattle.std.proofs.Common.{ℕ, ◌≡◌, ◌⊎◌, inl, inr, ◌-◌, Some, Ok, Err, Result, IfOk, IfErr, OnOk, List, Vec, Global, [], ◌++◌, length, Contains, append-nil, sym, ap, subst, ◌∙◌, arith}
use Rattle.std.proofs.lemmas.List.Elements.{Contains-append_left, Contains-append_right, Contains-append_cases}
use Rattle.model_disk.specs.Joint.{content, failed_since}
use Rattle.model_disk.specs.Laws.{PartsAreHonest}
use Rattle.block_pointer.specs.declared.block.Block.{Block}
use Rattle.block_pointer.specs.declared.dva.Dva.{Dva}
use Rattle.block_pointer.specs.Copies.{dvas}
use Rattle.raidz_io.specs.declared.vdev.Extent.{Extent}
use Rattle.raidz_io.specs.Elsewhere.{StandsWhileKept, StandsWithMoreAbsent}
use Rattle.raidz_io.specs.Reads.{OnlyReads, AreUntouched, absent_since, FewAreLost, HonestDisksGiveTruly, PartsGiveTruly, ReadsKeepContents}
use Rattle.raidz_io.specs.Choices.{LaterChoicesStay}
use Rattle.raidz_io.specs.Stands.{ExtentStands}
use Rattle.block_store.specs.declared.block.Asked.{Asked}
use Rattle.block_store.specs.declared.refusal.Refusal.{Refusal}
use Rattle.block_store.specs.declared.refusal.Refusal.TheVariants.{NoMemory, BadPointer, DiskFault, BadDigest}
use Rattle.block_store.specs.Blocks.{Contents}
use Rattle.block_store.specs.Losses.{IsForLoss}
use Rattle.block_store.specs.Reading.{Asks, IsReadable, IsLastFault, IsFirstRead, IsFailedCopy, HaveFailed, IsReadUpTo}
use Rattle.block_store.specs.Steps.{AnswersTell, FewLie}
use Rattle.block_store.specs.Store.{Store, outs, missed, lost, Holds}
use Rattle.block_store.proofs.Lost.{lose_same, lost_is_out}
use Rattle.block_store.proofs.Kept.{IsKept}
use Rattle.block_store.proofs.ReadingLost.{absent_earlier, few_lost, honest_later, stands_later}
use Rattle.block_store.proofs.ReadingSteps.{reads_on, untouched_on, failed_by}

-- the laws of blocks that are read
pub record Laws : Type 0 where
  pub reads_keep : ReadsKeepContents
  pub kept : StandsWhileKept
  pub more_absent : StandsWithMoreAbsent
  pub parts_honest : PartsAreHonest
  pub honest_truly : HonestDisksGiveTruly
  pub parts_truly : PartsGiveTruly
  pub later_choices : LaterChoicesStay

-- the copies of a block were read, and nothing but the disks is another
pub record IsBlockRead (old new : Store) (missing : List ℕ) (block : Block) (result : Result (Vec ℕ Global) Refusal) : Type 0 where
  pub rest : new ≡ record old { disks = new.disks }
  pub read : IsReadUpTo old.spaces ((outs old ++ missing) ++ missed old block.birth) block (length (dvas block.copies)) old.disks new.disks result

pub block_read : (old new : Store) (missing : List ℕ) (block : Block) (result : Result (Vec ℕ Global) Refusal) (absent : List ℕ) (places : List Dva)
    → absent ≡ (outs old ++ missing) ++ missed old block.birth → places ≡ dvas block.copies → new ≡ record old { disks = new.disks }
    → IsReadUpTo old.spaces absent block (length places) old.disks new.disks result → IsBlockRead old new missing block result
block_read old new missing block result absent places absent_is places_are rest read = record {
  rest = rest;
  read =
      subst (λ (absent : List ℕ). IsReadUpTo old.spaces absent block (length (dvas block.copies)) old.disks new.disks result) absent_is
      (subst (λ (places : List Dva). IsReadUpTo old.spaces absent block (length places) old.disks new.disks result) places_are read);
}

pub reads : (old new : Store) (missing : List ℕ) (block : Block) (result : Result (Vec ℕ Global) Refusal) → IsBlockRead old new missing block result
    → OnlyReads old.disks new.disks
reads old new missing block result is = reads_on old.disks is.read.mid new.disks is.read.before is.read.read.reads

pub untouched : (old new : Store) (missing : List ℕ) (block : Block) (result : Result (Vec ℕ Global) Refusal) → IsBlockRead old new missing block result
    → AreUntouched ((outs old ++ missing) ++ missed old block.birth) old.disks new.disks
untouched old new missing block result is =
    untouched_on ((outs old ++ missing) ++ missed old block.birth) old.disks is.read.mid new.disks is.read.untouched is.read.read.untouched

pub is_kept : Laws → (old new : Store) (missing : List ℕ) (block : Block) (result : Result (Vec ℕ Global) Refusal) → IsBlockRead old new missing block result
    → IsKept old new
is_kept laws old new missing block result is = record {
  spaces = ap (λ (s : Store). s.spaces) is.rest;
  due = ap (λ (s : Store). s.due) is.rest;
  stray = ap (λ (s : Store). s.stray) is.rest;
  contents = λ disk i for. laws.reads_keep old.disks new.disks (reads old new missing block result is) disk i;
  more_out = λ disk held.
      let out : new.out ≡ old.out = ap (λ (s : Store). s.out) is.rest in
      rw out held;
  more_lost = lose_same old new (ap (λ (s : Store). s.out) is.rest) (ap (λ (s : Store). s.spans) is.rest);
  group = let same : new.spans.group ≡ old.spans.group = ap (λ (s : Store). s.spans.group) is.rest in omega (arith, same);
}

-- a block that is stored stands where the last copy was read
pub stands_there : Laws → (old new : Store) (missing : List ℕ) (block : Block) (result : Result (Vec ℕ Global) Refusal) (stored : Contents) (bytes : List ℕ)
    → (is : IsBlockRead old new missing block result) → Holds old stored → stored block ≡ Some bytes
    → ExtentStands (content is.read.mid) (absent_since is.read.mid new.disks ((outs old ++ missing) ++ missed old block.birth)) is.read.read.extent bytes
stands_there laws old new missing block result stored bytes is holds known =
    stands_later laws.reads_keep laws.kept laws.more_absent old.disks is.read.mid (lost old block.birth) (absent_since is.read.mid new.disks ((outs old ++ missing) ++ missed old block.birth)) is.read.read.extent
    bytes is.read.before
    (λ disk held.
    Contains-append_left ((outs old ++ missing) ++ missed old block.birth) (failed_since (length is.read.mid.calls) new.disks.calls) disk
    (elim (lost_is_out old block.birth disk held) [
      | inl out ↦ Contains-append_left (outs old ++ missing) (missed old block.birth) disk (Contains-append_left (outs old) missing disk out)
      | inr stale ↦ Contains-append_right (outs old ++ missing) (missed old block.birth) disk stale
    ]))
    (holds.stand block bytes is.read.i is.read.read.extent known is.read.read.is_copy)

-- where few disks lie, few columns of the copy that was read last are lost or lie
few_lie : (old new : Store) (missing : List ℕ) (block : Block) (result : Result (Vec ℕ Global) Refusal) (fewer : List ℕ) → (is : IsBlockRead old new missing block result)
    → (lie : FewLie old new missing)
    → ((disk : ℕ) → Contains fewer disk
    → Contains lie.liars disk ⊎ Contains (absent_since old.disks new.disks ((outs old ++ missing) ++ missed old block.birth)) disk)
    → FewAreLost is.read.read.extent fewer
few_lie old new missing block result fewer is lie among =
    let at = is.read.read.is_copy.extent_is in
    let liars : List ℕ = lie.liars in
    let gone : List ℕ = (outs old ++ (missing ++ liars)) ++ missed old block.birth in
    let failed : List ℕ = failed_since (length old.disks.calls) new.disks.calls in
    let named : (disk : ℕ) → Contains (missing ++ liars) disk → Contains (gone ++ failed) disk = λ disk held.
    Contains-append_left gone failed disk (Contains-append_left (outs old ++ (missing ++ liars)) (missed old block.birth) disk
    (Contains-append_right (outs old) (missing ++ liars) disk held)) in
    few_lost at.space.shape.vdev is.read.read.extent (gone ++ failed) fewer at.vdev
    (λ disk held. elim (among disk held) [
      | inl lies ↦ named disk (Contains-append_right missing liars disk lies)
      | inr lost ↦ elim (Contains-append_cases ((outs old ++ missing) ++ missed old block.birth) failed disk lost) [
        | inl away ↦ elim (Contains-append_cases (outs old ++ missing) (missed old block.birth) disk away) [
          | inl there ↦ elim (Contains-append_cases (outs old) missing disk there) [
            | inl out ↦
                Contains-append_left gone failed disk (Contains-append_left (outs old ++ (missing ++ liars)) (missed old block.birth) disk
                (Contains-append_left (outs old) (missing ++ liars) disk out))
            | inr asked ↦ named disk (Contains-append_left missing liars disk asked)
          ]
          | inr stale ↦
              Contains-append_left gone failed disk (Contains-append_right (outs old ++ (missing ++ liars)) (missed old block.birth) disk stale)
        ]
        | inr fails ↦ Contains-append_right gone failed disk fails
      ]
    ])
    (lie.few block.birth is.read.read.is_copy.place.vdev at.space at.found)

pub bytes_right : Laws → (old new : Store) (missing : List ℕ) (block : Block) (result : Result (Vec ℕ Global) Refusal) → IsBlockRead old new missing block result
    → IfOk result (λ read. (stored : Contents) (bytes : List ℕ) → Holds old stored → stored block ≡ Some bytes → AnswersTell old new missing → read.items ≡ bytes)
bytes_right laws old new missing block (Ok read) is = λ stored bytes holds known tell. elim tell [
  | inl honest ↦
      is.read.read.right (honest_later laws.parts_honest old.disks is.read.mid new.disks is.read.before honest) bytes
      (stands_there laws old new missing block (Ok read) stored bytes is holds known) ((holds.blocks block bytes known).digest)
  | inr lie ↦
      let away : List ℕ = (outs old ++ missing) ++ missed old block.birth in
      let failed : List ℕ = failed_since (length old.disks.calls) new.disks.calls in
      lie.told is.read.read.extent (lost old block.birth) bytes read.items
      (few_lie old new missing block (Ok read) (lost old block.birth) is lie
      (λ disk held. inr (Contains-append_left away failed disk
      (elim (lost_is_out old block.birth disk held) [
        | inl out ↦ Contains-append_left (outs old ++ missing) (missed old block.birth) disk (Contains-append_left (outs old) missing disk out)
        | inr stale ↦ Contains-append_right (outs old ++ missing) (missed old block.birth) disk stale
      ]))))
      (holds.stand block bytes is.read.i is.read.read.extent known is.read.read.is_copy)
      (laws.later_choices old.disks is.read.mid new.disks is.read.read.extent read.items is.read.before is.read.read.choice)
      (is.read.read.digest ∙ sym (holds.blocks block bytes known).digest)
]
bytes_right laws old new missing block (Err refusal) is = tt

pub last_fault : (old new : Store) (missing : List ℕ) (block : Block) (asked : Asked) (result : Result (Vec ℕ Global) Refusal) → IsBlockRead old new missing block result
    → IfErr result (λ refusal. (refusal ≡ NoMemory)
    ⊎ (((refusal ≡ BadPointer) × ¬ IsReadable old.spaces asked block) ⊎ IsLastFault old new (outs old ++ missing) block refusal))
last_fault old new missing block asked (Ok read) is = tt
last_fault old new missing block asked (Err refusal) is =
    elim is.read.read.refused [
      | inl none ↦ inl none
      | inr (inl (fault, more)) ↦ inr (inr (fault_of (inl fault)))
      | inr (inr (digest, none)) ↦ inr (inr (fault_of (inr digest)))
    ]
  where
    fault_of : (refusal ≡ DiskFault) ⊎ (refusal ≡ BadDigest) → IsLastFault old new (outs old ++ missing) block refusal
    fault_of fault =
        let last : is.read.i ≡ length (dvas block.copies) - 1 = omega (arith, is.read.last fault) in
        let failed = failed_by old.spaces ((outs old ++ missing) ++ missed old block.birth) block is.read.i is.read.mid new.disks refusal fault is.read.read in
        record {
          mid = is.read.mid;
          earlier = subst (λ n. HaveFailed old.spaces ((outs old ++ missing) ++ missed old block.birth) block n old.disks is.read.mid) last is.read.earlier;
          last = subst (λ n. IsFailedCopy old.spaces ((outs old ++ missing) ++ missed old block.birth) block n is.read.mid new.disks refusal) last failed;
        }

-- the copies before the one that was read failed
pub first_read : (old new : Store) (missing : List ℕ) (block : Block) (result : Result (Vec ℕ Global) Refusal) → IsBlockRead old new missing block result
    → OnOk result (IsFirstRead old new (outs old ++ missing) block)
first_read old new missing block (Ok read) is = record {
  i = is.read.i;
  below = is.read.below;
  mid = is.read.mid;
  earlier = is.read.earlier;
  reads = is.read.read.reads;
}
first_read old new missing block (Err refusal) is = tt

-- a block that is stored is read, unless it lacks too many columns
pub is_known : Laws → (old new : Store) (missing : List ℕ) (block : Block) (asked : Asked) (result : Result (Vec ℕ Global) Refusal) → IsBlockRead old new missing block result
    → IfErr result (λ refusal. (stored : Contents) (bytes : List ℕ) → Holds old stored → stored block ≡ Some bytes → Asks asked block → AnswersTell old new missing
    → IsForLoss refusal)
is_known laws old new missing block asked (Ok read) is = tt
is_known laws old new missing block asked (Err refusal) is = λ stored bytes holds known asks tell.
    let absent : List ℕ = absent_since is.read.mid new.disks ((outs old ++ missing) ++ missed old block.birth) in
    let extent : Extent = is.read.read.extent in
    elim is.read.read.refused [
      | inl none ↦ inl none
      | inr (inl (fault, more)) ↦ inr fault
      | inr (inr (digest, none)) ↦
          let stands = stands_there laws old new missing block (Err refusal) stored bytes is holds known in
          let digest_is = (holds.blocks block bytes known).digest in
          absurd (elim tell [
            | inl honest ↦
                let nil : absent ++ [] ≡ absent = append-nil absent in
                none.none_stands bytes []
                (λ disk there. laws.honest_truly is.read.mid new.disks is.read.read.reads
                (honest_later laws.parts_honest old.disks is.read.mid new.disks is.read.before honest) disk)
                (subst (λ (xs : List ℕ). ExtentStands (content is.read.mid) xs extent bytes) (sym nil) stands)
                (subst (λ (xs : List ℕ). FewAreLost extent xs) (sym nil) none.enough) digest_is
            | inr lie ↦
                none.none_stands bytes lie.liars
                (λ disk there. (laws.parts_truly old.disks is.read.mid new.disks is.read.before is.read.read.reads disk (lie.truly disk there)).1)
                (laws.more_absent (content is.read.mid) absent (absent ++ lie.liars) extent bytes (λ disk held. Contains-append_left absent lie.liars disk held) stands)
                (few_lie old new missing block (Err refusal) (absent ++ lie.liars) is lie
                (λ disk held. elim (Contains-append_cases absent lie.liars disk held) [
                  | inl lost ↦
                      inr (absent_earlier old.disks is.read.mid new.disks ((outs old ++ missing) ++ missed old block.birth) disk is.read.before lost)
                  | inr lies ↦ inl lies
                ])) digest_is
          ])
    ]

-- the pointer of a block that is stored may be read
pub stored_is_readable : (store : Store) (stored : Contents) (block : Block) (bytes : List ℕ) (asked : Asked) → Holds store stored → stored block ≡ Some bytes
    → Asks asked block → IsReadable store.spaces asked block
stored_is_readable store stored block bytes asked holds known asks = record {
  some = (holds.blocks block bytes known).fits.property.not_empty;
  asks = asks;
  places = holds.places block bytes known;
}
