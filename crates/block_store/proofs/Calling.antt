-- Device calls.
use Rattle.std.proofs.Common.{ℕ, ◌≡◌, ◌⊎◌, inl, inr, ◌+◌, ◌<◌, ◌≤◌, false, List, ◌∷◌, length, Contains, Result, Ok, Err, OnOk, IfErr, refl, sym, ap, subst, arith}
use Rattle.std.proofs.lemmas.Bool.{cases_eq}
use Rattle.model_disk.specs.Call.{write_call, flush_call}
use Rattle.model_disk.specs.Contents.{touches}
use Rattle.model_disk.specs.Joint.{Disks, on, content}
use Rattle.model_disk.proofs.ContentsLemmas.{covers-outside}
use Rattle.model_disk.proofs.LawLemmas.{written_bytes_stand, other_bytes_stay}
use Rattle.raidz_io.specs.Writes.{ColumnWrite}
use Rattle.raidz_io.specs.Elsewhere.{ChangesOnlyWritten}
use Rattle.raidz_io.specs.Stands.{IsDone}
use Rattle.disk_set.specs.declared.device.FailedDisk.{FailedDisk}
use Rattle.block_store.specs.Store.{Store, Spans, outs, outs_from, IsOutToo, GoesOut, Spares}
use Rattle.raidz_io.proofs.Kept.{stands_while_kept}
use Rattle.block_store.specs.Blocks.{Contents}
use Rattle.block_store.specs.Elsewhere.{IsForBlocks, IsAside}
use Rattle.block_store.proofs.Kept.{IsKept}
use Rattle.block_store.proofs.Lost.{LoseMore, lose_same, lose_one, same_group}
use Rattle.block_store.proofs.Outs.{more_out, this_is_out}
use Rattle.block_store.proofs.Writing.{Makes}

-- what is so of the disk that failed
pub on_disk : (result : Result (Unit {0}) FailedDisk) (disk : ℕ) (P : ℕ → Type 0) → IfErr result (λ failed. failed.disk ≡ disk)
    → IfErr result (λ failed. P failed.disk) → IfErr result (λ failed. P disk)
on_disk (Ok x) disk P same holds = tt
on_disk (Err e) disk P same holds = subst P same holds

-- after a call on this disk those that were out are so, and this one too where the call failed
pub outs_after : (old new : Store) (result : Result (Unit {0}) FailedDisk) (disk : ℕ) → OnOk result (new.out ≡ old.out)
    → IfErr result (λ failed. IsOutToo old.out disk new.out) → (other : ℕ) → Contains (outs old) other → Contains (outs new) other
outs_after old new (Ok x) disk ok err other held = subst (λ out. Contains (outs_from 0 out) other) (sym ok) held
outs_after old new (Err e) disk ok err other held = more_out old new disk err other held

outside_or_in : (at n i : ℕ) → ((i < at) ⊎ (at + n ≤ i)) ⊎ ((at ≤ i) × (i < at + n))
outside_or_in at n i = grind arith

untouched : (result : Result (Unit {0}) FailedDisk) (at : ℕ) (bytes : List ℕ) (i : ℕ) → (i < at) ⊎ (at + length bytes ≤ i) → touches (write_call result at bytes) i ≡ false
untouched (Ok x) at bytes i out = covers-outside at (length bytes) i out
untouched (Err e) at bytes i out = covers-outside at (length bytes) i out

changes_only : (old new : Disks) (write : ColumnWrite) (result : Result (Unit {0}) FailedDisk) → new.starts ≡ old.starts
    → new.calls ≡ on write.disk (write_call result write.offset write.bytes) ∷ old.calls → ChangesOnlyWritten (content old) (content new) write
changes_only old new write result starts calls disk i outside =
    other_bytes_stay old new write.disk (write_call result write.offset write.bytes) starts calls disk i (elim (cases_eq disk write.disk) [
      | inr differ ↦ inl differ
      | inl same ↦ elim (outside_or_in write.offset (length write.bytes) i) [
        | inl out ↦ inr (untouched result write.offset write.bytes i out)
        | inr (from, before) ↦ absurd (outside (record { which = same; from_first = from; before_end = before }))
      ]
    ])

done_or_out : (old new : Store) (write : ColumnWrite) (result : Result (Unit {0}) FailedDisk) → new.disks.starts ≡ old.disks.starts
    → new.disks.calls ≡ on write.disk (write_call result write.offset write.bytes) ∷ old.disks.calls
    → IfErr result (λ failed. IsOutToo old.out write.disk new.out) → ¬ Contains (outs new) write.disk → IsDone (content new.disks) write
done_or_out old new write (Ok x) starts calls err present = written_bytes_stand old.disks new.disks write.disk write.offset write.bytes starts calls
done_or_out old new write (Err e) starts calls err present = absurd (present (this_is_out old new write.disk err))

pub lost_after : (old new : Store) (result : Result (Unit {0}) FailedDisk) (disk : ℕ) → OnOk result (new.out ≡ old.out)
    → IfErr result (λ failed. IsOutToo old.out disk new.out) → OnOk result (new.spans ≡ old.spans) → IfErr result (λ failed. GoesOut old disk new) → LoseMore old new
lost_after old new (Ok x) disk out too spans gone = lose_same old new out spans
lost_after old new (Err e) disk out too spans gone = lose_one old new disk too gone

group_after : (old new : Store) (result : Result (Unit {0}) FailedDisk) (disk : ℕ) → OnOk result (new.spans ≡ old.spans)
    → IfErr result (λ failed. GoesOut old disk new) → new.spans.group ≤ old.spans.group
group_after old new (Ok x) disk spans gone = let same : new.spans.group ≡ old.spans.group = ap (λ (s : Spans). s.group) spans in omega (arith, same)
group_after old new (Err e) disk spans gone = same_group old new disk gone

-- the first write that was due was made
pub made : (old new : Store) (write : ColumnWrite) (result : Result (Unit {0}) FailedDisk) → new.disks.starts ≡ old.disks.starts → new.spaces ≡ old.spaces
    → old.due ≡ write ∷ new.due → new.disks.calls ≡ on write.disk (write_call result write.offset write.bytes) ∷ old.disks.calls
    → OnOk result (new.out ≡ old.out) → IfErr result (λ failed. IsOutToo old.out write.disk new.out)
    → OnOk result (new.spans ≡ old.spans) → IfErr result (λ failed. GoesOut old write.disk new) → new.stray ≡ old.stray → Makes old new write
made old new write result starts spaces due calls ok err spans gone stray = record {
  stray = stray;
  starts = starts;
  spaces = spaces;
  due = due;
  others = changes_only old.disks new.disks write result starts calls;
  done = done_or_out old new write result starts calls err;
  more_out = outs_after old new result write.disk ok err;
  more_lost = lost_after old new result write.disk ok err spans gone;
  group = group_after old new result write.disk spans gone;
}

untouched_by_flush : (result : Result (Unit {0}) FailedDisk) (i : ℕ) → touches (flush_call result) i ≡ false
untouched_by_flush (Ok x) i = refl
untouched_by_flush (Err e) i = refl

-- a flush changes no byte
pub flushed : (old new : Store) (disk : ℕ) (result : Result (Unit {0}) FailedDisk) → new.disks.starts ≡ old.disks.starts → new.spaces ≡ old.spaces
    → new.due ≡ old.due → new.disks.calls ≡ on disk (flush_call result) ∷ old.disks.calls
    → OnOk result (new.out ≡ old.out) → IfErr result (λ failed. IsOutToo old.out disk new.out)
    → OnOk result (new.spans ≡ old.spans) → IfErr result (λ failed. GoesOut old disk new) → new.stray ≡ old.stray → IsKept old new
flushed old new disk result starts spaces due calls ok err spans gone stray = record {
  stray = stray;
  spaces = spaces;
  due = due;
  contents = λ other i for. other_bytes_stay old.disks new.disks disk (flush_call result) starts calls other i (inr (untouched_by_flush result i));
  more_out = outs_after old new result disk ok err;
  more_lost = lost_after old new result disk ok err spans gone;
  group = group_after old new result disk spans gone;
}

-- a disk that goes out with no call changes no byte
pub put_out : (old new : Store) (disk : ℕ) → new.disks ≡ old.disks → new.spaces ≡ old.spaces → new.due ≡ old.due
    → IsOutToo old.out disk new.out → GoesOut old disk new → new.stray ≡ old.stray → IsKept old new
put_out old new disk disks spaces due too gone stray = record {
  stray = stray;
  spaces = spaces;
  due = due;
  contents = λ other i for. ap (λ (d : Disks). content d other i) disks;
  more_out = λ other held. more_out old new disk too other held;
  more_lost = lose_one old new disk too gone;
  group = same_group old new disk gone;
}

-- a write of bytes that are for no block changes none that is
pub wrote_aside : (old new : Store) (disk offset : ℕ) (bytes : List ℕ) (result : Result (Unit {0}) FailedDisk) → new.disks.starts ≡ old.disks.starts
    → new.spaces ≡ old.spaces → new.due ≡ old.due → new.disks.calls ≡ on disk (write_call result offset bytes) ∷ old.disks.calls
    → IsAside old.spaces disk offset (length bytes)
    → OnOk result (new.out ≡ old.out) → IfErr result (λ failed. IsOutToo old.out disk new.out)
    → OnOk result (new.spans ≡ old.spans) → IfErr result (λ failed. GoesOut old disk new) → new.stray ≡ old.stray → IsKept old new
wrote_aside old new disk offset bytes result starts spaces due calls aside ok err spans gone stray = record {
  stray = stray;
  spaces = spaces;
  due = due;
  contents = λ other i for. other_bytes_stay old.disks new.disks disk (write_call result offset bytes) starts calls other i (elim (cases_eq other disk) [
    | inr differ ↦ inl differ
    | inl same ↦ elim (outside_or_in offset (length bytes) i) [
      | inl out ↦ inr (untouched result offset bytes i out)
      | inr (from, before) ↦ absurd (aside i from before (subst (λ d. IsForBlocks old.spaces d i) same for))
    ]
  ]);
  more_out = outs_after old new result disk ok err;
  more_lost = lost_after old new result disk ok err spans gone;
  group = group_after old new result disk spans gone;
}

-- and spares all that stood
pub flush_spares : (old new : Store) (disk : ℕ) (result : Result (Unit {0}) FailedDisk) → new.disks.starts ≡ old.disks.starts
    → new.disks.calls ≡ on disk (flush_call result) ∷ old.disks.calls → (known : Contents) → Spares known old new
flush_spares old new disk result starts calls known block bytes i extent absent is copy stands =
    stands_while_kept (content old.disks) (content new.disks) absent extent bytes
    (λ other j of. other_bytes_stay old.disks new.disks disk (flush_call result) starts calls other j (inr (untouched_by_flush result j))) stands
