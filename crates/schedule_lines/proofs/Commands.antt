-- The two laws of commands: what is read is spelled so, and what is spelled so is read.
use Rattle.std.proofs.Common.{◌≡◌, ℕ, ◌^◌, ◌<◌, ◌⊎◌, inl, inr, Bool, true, false, cond, List, [], ◌∷◌, ◌++◌, drop, map, Option, Some, None, codes, lit<, refl, sym, ap, subst, ◌∙◌, arith}
use Rattle.std.specs.List.{AllByRecursion}
use Rattle.std.specs.Fmt.{decimal}
use Rattle.std.specs.Str.{bytes_eq}
use Rattle.std.proofs.lemmas.Slice.Eq.{bytes_eq-Decides}
use Rattle.schedule_lines.specs.declared.command.PoolLine.{PoolLine}
use Rattle.schedule_lines.specs.declared.command.WriteLine.{WriteLine}
use Rattle.schedule_lines.specs.declared.command.CreateLine.{CreateLine}
use Rattle.schedule_lines.specs.declared.command.SnapshotLine.{SnapshotLine}
use Rattle.schedule_lines.specs.declared.command.CloneLine.{CloneLine}
use Rattle.schedule_lines.specs.declared.command.DestroyLine.{DestroyLine}
use Rattle.schedule_lines.specs.declared.command.ReadLine.{ReadLine}
use Rattle.schedule_lines.specs.declared.command.UnderLine.{UnderLine}
use Rattle.schedule_lines.specs.declared.command.ReopenLine.{ReopenLine}
use Rattle.schedule_lines.specs.declared.command.StopPoint.{StopPoint}
use Rattle.schedule_lines.specs.declared.command.StopPoint.TheVariants.{Blocks, Slots, Claim}
use Rattle.schedule_lines.specs.declared.command.Command.{Command}
use Rattle.schedule_lines.specs.declared.command.Command.TheVariants.{Pool, Write, Create, Snapshot, Clone, Destroy, Read, Under, Stop, Reopen}
use Rattle.schedule_lines.specs.Hexadecimal.{byte_text}
use Rattle.schedule_lines.specs.Grammar.{words_of_stop, words_of, StopFits, NumbersFit}
use Rattle.schedule_lines.specs.Reading.{word_at, number_at, pool_at, write_at, create_at, snapshot_at, clone_at, destroy_at, read_at, under_at, of_read, point_at, stop_at, reopen_at}
use Rattle.schedule_lines.proofs.Fields.{bind_some, some, some_is, Words, IsFull, word_taken, Number, number_taken, number_then, number_read, Byte, byte_then, byte_read, NameWord, name_then, name_read}
use Rattle.schedule_lines.proofs.Numbers.{Numbers, numbers_then, numbers_read}

-- words are those of a command, and then these
pub record Taken (words : Words) (c : Command) (rest : Words) : Type 0 where
  pub parts : words ≡ words_of c ++ rest
  pub fits : NumbersFit c
  pub full : AllByRecursion IsFull (words_of c)

pub onto : (word : List ℕ) (words others : Words) → words ≡ others → word ∷ words ≡ word ∷ others
onto word words others e = ap (λ (w : Words). word ∷ w) e

pool_made : (words : Words) (a b c d e : ℕ × Words) → Number words (2 ^ 32) a → Number a.1 (2 ^ 32) b → Number b.1 (2 ^ 64) c → Number c.1 (2 ^ 32) d → Number d.1 (2 ^ 32) e
    → Taken (codes "pool" ∷ words) (Pool (record { parities = a.0; disks = b.0; bytes = c.0; metaslab_shift = d.0; meta_metaslabs = e.0 })) e.1
pool_made words a b c d e is_parities is_disks is_bytes is_metaslab_shift is_meta_metaslabs =
    record {
      parts = onto _ _ _ (is_parities.word ∙ onto _ _ _ (is_disks.word ∙ onto _ _ _ (is_bytes.word ∙ onto _ _ _ (is_metaslab_shift.word ∙ onto _ _ _ (is_meta_metaslabs.word)))));
      fits = (is_parities.fits, is_disks.fits, is_bytes.fits, is_metaslab_shift.fits, is_meta_metaslabs.fits);
      full = (lit< tt, (is_parities.full, (is_disks.full, (is_bytes.full, (is_metaslab_shift.full, (is_meta_metaslabs.full, tt))))));
    }

pub pool_taken : (words : Words) (pool : PoolLine) (rest : Words) → pool_at words ≡ Some (pool, rest) → Taken (codes "pool" ∷ words) (Pool pool) rest
unfolding pool_at
pool_taken words pool rest e =
    let a = number_then (2 ^ 32) words _ (pool, rest) (omega arith) e in
    let b = number_then (2 ^ 32) a.0.1 _ (pool, rest) (omega arith) a.2 in
    let c = number_then (2 ^ 64) b.0.1 _ (pool, rest) (omega arith) b.2 in
    let d = number_then (2 ^ 32) c.0.1 _ (pool, rest) (omega arith) c.2 in
    let e = number_then (2 ^ 32) d.0.1 _ (pool, rest) (omega arith) d.2 in
    let same = some_is (record { parities = a.0.0; disks = b.0.0; bytes = c.0.0; metaslab_shift = d.0.0; meta_metaslabs = e.0.0 }, e.0.1) (pool, rest) e.2 in
    subst (λ (x : PoolLine × Words). Taken (codes "pool" ∷ words) (Pool x.0) x.1) same (pool_made words a.0 b.0 c.0 d.0 e.0 a.1 b.1 c.1 d.1 e.1)

pub pool_read : (pool : PoolLine) → NumbersFit (Pool pool) → AllByRecursion IsFull (words_of (Pool pool)) → pool_at (drop 1 (words_of (Pool pool))) ≡ Some (pool, [])
unfolding pool_at
pool_read pool fits full =
    let from_meta_metaslabs : Words = decimal pool.meta_metaslabs ∷ [] in
    let from_metaslab_shift : Words = decimal pool.metaslab_shift ∷ from_meta_metaslabs in
    let from_bytes : Words = decimal pool.bytes ∷ from_metaslab_shift in
    let from_disks : Words = decimal pool.disks ∷ from_bytes in
    rw (number_read (2 ^ 32) pool.parities from_disks (omega arith) fits.0, number_read (2 ^ 32) pool.disks from_bytes (omega arith) fits.1, number_read (2 ^ 64) pool.bytes from_metaslab_shift (omega arith) fits.2, number_read (2 ^ 32) pool.metaslab_shift from_meta_metaslabs (omega arith) fits.3, number_read (2 ^ 32) pool.meta_metaslabs [] (omega arith) fits.4) refl

write_made : (words : Words) (a b d e f : ℕ × Words) (c : List ℕ × Words) → Number words (2 ^ 32) a → Number a.1 (2 ^ 64) b → NameWord b.1 c → Number c.1 (2 ^ 64) d → Number d.1 (2 ^ 64) e → Byte e.1 f
    → Taken (codes "write" ∷ words) (Write (record { writer = a.0; number = b.0; volume = c.0; offset = d.0; len = e.0; byte = f.0 })) f.1
write_made words a b d e f c is_writer is_number is_volume is_offset is_len is_byte =
    record {
      parts = onto _ _ _ (is_writer.word ∙ onto _ _ _ (is_number.word ∙ onto _ _ _ (is_volume.word ∙ onto _ _ _ (is_offset.word ∙ onto _ _ _ (is_len.word ∙ onto _ _ _ (is_byte.word))))));
      fits = (is_writer.fits, is_number.fits, is_offset.fits, is_len.fits, is_byte.fits);
      full = (lit< tt, (is_writer.full, (is_number.full, (is_volume.full, (is_offset.full, (is_len.full, (lit< tt, tt)))))));
    }

pub write_taken : (words : Words) (write : WriteLine) (rest : Words) → write_at words ≡ Some (write, rest) → Taken (codes "write" ∷ words) (Write write) rest
unfolding write_at
write_taken words write rest e =
    let a = number_then (2 ^ 32) words _ (write, rest) (omega arith) e in
    let b = number_then (2 ^ 64) a.0.1 _ (write, rest) (omega arith) a.2 in
    let c = name_then b.0.1 _ (write, rest) b.2 in
    let d = number_then (2 ^ 64) c.0.1 _ (write, rest) (omega arith) c.2 in
    let e = number_then (2 ^ 64) d.0.1 _ (write, rest) (omega arith) d.2 in
    let f = byte_then e.0.1 _ (write, rest) e.2 in
    let same = some_is (record { writer = a.0.0; number = b.0.0; volume = c.0.0; offset = d.0.0; len = e.0.0; byte = f.0.0 }, f.0.1) (write, rest) f.2 in
    subst (λ (x : WriteLine × Words). Taken (codes "write" ∷ words) (Write x.0) x.1) same (write_made words a.0 b.0 d.0 e.0 f.0 c.0 a.1 b.1 c.1 d.1 e.1 f.1)

pub write_read : (write : WriteLine) → NumbersFit (Write write) → AllByRecursion IsFull (words_of (Write write)) → write_at (drop 1 (words_of (Write write))) ≡ Some (write, [])
unfolding write_at
write_read write fits full =
    let from_byte : Words = byte_text write.byte ∷ [] in
    let from_len : Words = decimal write.len ∷ from_byte in
    let from_offset : Words = decimal write.offset ∷ from_len in
    let from_volume : Words = write.volume ∷ from_offset in
    let from_number : Words = decimal write.number ∷ from_volume in
    rw (number_read (2 ^ 32) write.writer from_number (omega arith) fits.0, number_read (2 ^ 64) write.number from_volume (omega arith) fits.1, name_read write.volume from_offset full.1.1.1.0, number_read (2 ^ 64) write.offset from_len (omega arith) fits.2, number_read (2 ^ 64) write.len from_byte (omega arith) fits.3, byte_read write.byte [] fits.4) refl

create_made : (words : Words) (a b d e : ℕ × Words) (c : List ℕ × Words) → Number words (2 ^ 32) a → Number a.1 (2 ^ 64) b → NameWord b.1 c → Number c.1 (2 ^ 64) d → Number d.1 (2 ^ 64) e
    → Taken (codes "create" ∷ words) (Create (record { writer = a.0; number = b.0; volume = c.0; size = d.0; block_size = e.0 })) e.1
create_made words a b d e c is_writer is_number is_volume is_size is_block_size =
    record {
      parts = onto _ _ _ (is_writer.word ∙ onto _ _ _ (is_number.word ∙ onto _ _ _ (is_volume.word ∙ onto _ _ _ (is_size.word ∙ onto _ _ _ (is_block_size.word)))));
      fits = (is_writer.fits, is_number.fits, is_size.fits, is_block_size.fits);
      full = (lit< tt, (is_writer.full, (is_number.full, (is_volume.full, (is_size.full, (is_block_size.full, tt))))));
    }

pub create_taken : (words : Words) (create : CreateLine) (rest : Words) → create_at words ≡ Some (create, rest) → Taken (codes "create" ∷ words) (Create create) rest
unfolding create_at
create_taken words create rest e =
    let a = number_then (2 ^ 32) words _ (create, rest) (omega arith) e in
    let b = number_then (2 ^ 64) a.0.1 _ (create, rest) (omega arith) a.2 in
    let c = name_then b.0.1 _ (create, rest) b.2 in
    let d = number_then (2 ^ 64) c.0.1 _ (create, rest) (omega arith) c.2 in
    let e = number_then (2 ^ 64) d.0.1 _ (create, rest) (omega arith) d.2 in
    let same = some_is (record { writer = a.0.0; number = b.0.0; volume = c.0.0; size = d.0.0; block_size = e.0.0 }, e.0.1) (create, rest) e.2 in
    subst (λ (x : CreateLine × Words). Taken (codes "create" ∷ words) (Create x.0) x.1) same (create_made words a.0 b.0 d.0 e.0 c.0 a.1 b.1 c.1 d.1 e.1)

pub create_read : (create : CreateLine) → NumbersFit (Create create) → AllByRecursion IsFull (words_of (Create create)) → create_at (drop 1 (words_of (Create create))) ≡ Some (create, [])
unfolding create_at
create_read create fits full =
    let from_block_size : Words = decimal create.block_size ∷ [] in
    let from_size : Words = decimal create.size ∷ from_block_size in
    let from_volume : Words = create.volume ∷ from_size in
    let from_number : Words = decimal create.number ∷ from_volume in
    rw (number_read (2 ^ 32) create.writer from_number (omega arith) fits.0, number_read (2 ^ 64) create.number from_volume (omega arith) fits.1, name_read create.volume from_size full.1.1.1.0, number_read (2 ^ 64) create.size from_block_size (omega arith) fits.2, number_read (2 ^ 64) create.block_size [] (omega arith) fits.3) refl

snapshot_made : (words : Words) (a b : ℕ × Words) (c d : List ℕ × Words) → Number words (2 ^ 32) a → Number a.1 (2 ^ 64) b → NameWord b.1 c → NameWord c.1 d
    → Taken (codes "snapshot" ∷ words) (Snapshot (record { writer = a.0; number = b.0; volume = c.0; part = d.0 })) d.1
snapshot_made words a b c d is_writer is_number is_volume is_part =
    record {
      parts = onto _ _ _ (is_writer.word ∙ onto _ _ _ (is_number.word ∙ onto _ _ _ (is_volume.word ∙ onto _ _ _ (is_part.word))));
      fits = (is_writer.fits, is_number.fits);
      full = (lit< tt, (is_writer.full, (is_number.full, (is_volume.full, (is_part.full, tt)))));
    }

pub snapshot_taken : (words : Words) (snapshot : SnapshotLine) (rest : Words) → snapshot_at words ≡ Some (snapshot, rest) → Taken (codes "snapshot" ∷ words) (Snapshot snapshot) rest
unfolding snapshot_at
snapshot_taken words snapshot rest e =
    let a = number_then (2 ^ 32) words _ (snapshot, rest) (omega arith) e in
    let b = number_then (2 ^ 64) a.0.1 _ (snapshot, rest) (omega arith) a.2 in
    let c = name_then b.0.1 _ (snapshot, rest) b.2 in
    let d = name_then c.0.1 _ (snapshot, rest) c.2 in
    let same = some_is (record { writer = a.0.0; number = b.0.0; volume = c.0.0; part = d.0.0 }, d.0.1) (snapshot, rest) d.2 in
    subst (λ (x : SnapshotLine × Words). Taken (codes "snapshot" ∷ words) (Snapshot x.0) x.1) same (snapshot_made words a.0 b.0 c.0 d.0 a.1 b.1 c.1 d.1)

pub snapshot_read : (snapshot : SnapshotLine) → NumbersFit (Snapshot snapshot) → AllByRecursion IsFull (words_of (Snapshot snapshot)) → snapshot_at (drop 1 (words_of (Snapshot snapshot))) ≡ Some (snapshot, [])
unfolding snapshot_at
snapshot_read snapshot fits full =
    let from_part : Words = snapshot.part ∷ [] in
    let from_volume : Words = snapshot.volume ∷ from_part in
    let from_number : Words = decimal snapshot.number ∷ from_volume in
    rw (number_read (2 ^ 32) snapshot.writer from_number (omega arith) fits.0, number_read (2 ^ 64) snapshot.number from_volume (omega arith) fits.1, name_read snapshot.volume from_part full.1.1.1.0, name_read snapshot.part [] full.1.1.1.1.0) refl

clone_made : (words : Words) (a b : ℕ × Words) (c d : List ℕ × Words) → Number words (2 ^ 32) a → Number a.1 (2 ^ 64) b → NameWord b.1 c → NameWord c.1 d
    → Taken (codes "clone" ∷ words) (Clone (record { writer = a.0; number = b.0; snapshot = c.0; name = d.0 })) d.1
clone_made words a b c d is_writer is_number is_snapshot is_name =
    record {
      parts = onto _ _ _ (is_writer.word ∙ onto _ _ _ (is_number.word ∙ onto _ _ _ (is_snapshot.word ∙ onto _ _ _ (is_name.word))));
      fits = (is_writer.fits, is_number.fits);
      full = (lit< tt, (is_writer.full, (is_number.full, (is_snapshot.full, (is_name.full, tt)))));
    }

pub clone_taken : (words : Words) (clone : CloneLine) (rest : Words) → clone_at words ≡ Some (clone, rest) → Taken (codes "clone" ∷ words) (Clone clone) rest
unfolding clone_at
clone_taken words clone rest e =
    let a = number_then (2 ^ 32) words _ (clone, rest) (omega arith) e in
    let b = number_then (2 ^ 64) a.0.1 _ (clone, rest) (omega arith) a.2 in
    let c = name_then b.0.1 _ (clone, rest) b.2 in
    let d = name_then c.0.1 _ (clone, rest) c.2 in
    let same = some_is (record { writer = a.0.0; number = b.0.0; snapshot = c.0.0; name = d.0.0 }, d.0.1) (clone, rest) d.2 in
    subst (λ (x : CloneLine × Words). Taken (codes "clone" ∷ words) (Clone x.0) x.1) same (clone_made words a.0 b.0 c.0 d.0 a.1 b.1 c.1 d.1)

pub clone_read : (clone : CloneLine) → NumbersFit (Clone clone) → AllByRecursion IsFull (words_of (Clone clone)) → clone_at (drop 1 (words_of (Clone clone))) ≡ Some (clone, [])
unfolding clone_at
clone_read clone fits full =
    let from_name : Words = clone.name ∷ [] in
    let from_snapshot : Words = clone.snapshot ∷ from_name in
    let from_number : Words = decimal clone.number ∷ from_snapshot in
    rw (number_read (2 ^ 32) clone.writer from_number (omega arith) fits.0, number_read (2 ^ 64) clone.number from_snapshot (omega arith) fits.1, name_read clone.snapshot from_name full.1.1.1.0, name_read clone.name [] full.1.1.1.1.0) refl

destroy_made : (words : Words) (a b : ℕ × Words) (c : List ℕ × Words) → Number words (2 ^ 32) a → Number a.1 (2 ^ 64) b → NameWord b.1 c
    → Taken (codes "destroy" ∷ words) (Destroy (record { writer = a.0; number = b.0; name = c.0 })) c.1
destroy_made words a b c is_writer is_number is_name =
    record {
      parts = onto _ _ _ (is_writer.word ∙ onto _ _ _ (is_number.word ∙ onto _ _ _ (is_name.word)));
      fits = (is_writer.fits, is_number.fits);
      full = (lit< tt, (is_writer.full, (is_number.full, (is_name.full, tt))));
    }

pub destroy_taken : (words : Words) (destroy : DestroyLine) (rest : Words) → destroy_at words ≡ Some (destroy, rest) → Taken (codes "destroy" ∷ words) (Destroy destroy) rest
unfolding destroy_at
destroy_taken words destroy rest e =
    let a = number_then (2 ^ 32) words _ (destroy, rest) (omega arith) e in
    let b = number_then (2 ^ 64) a.0.1 _ (destroy, rest) (omega arith) a.2 in
    let c = name_then b.0.1 _ (destroy, rest) b.2 in
    let same = some_is (record { writer = a.0.0; number = b.0.0; name = c.0.0 }, c.0.1) (destroy, rest) c.2 in
    subst (λ (x : DestroyLine × Words). Taken (codes "destroy" ∷ words) (Destroy x.0) x.1) same (destroy_made words a.0 b.0 c.0 a.1 b.1 c.1)

pub destroy_read : (destroy : DestroyLine) → NumbersFit (Destroy destroy) → AllByRecursion IsFull (words_of (Destroy destroy)) → destroy_at (drop 1 (words_of (Destroy destroy))) ≡ Some (destroy, [])
unfolding destroy_at
destroy_read destroy fits full =
    let from_name : Words = destroy.name ∷ [] in
    let from_number : Words = decimal destroy.number ∷ from_name in
    rw (number_read (2 ^ 32) destroy.writer from_number (omega arith) fits.0, number_read (2 ^ 64) destroy.number from_name (omega arith) fits.1, name_read destroy.name [] full.1.1.1.0) refl

read_made : (words : Words) (b c : ℕ × Words) (a : List ℕ × Words) → NameWord words a → Number a.1 (2 ^ 64) b → Number b.1 (2 ^ 64) c
    → Taken (codes "read" ∷ words) (Read (record { name = a.0; offset = b.0; len = c.0 })) c.1
read_made words b c a is_name is_offset is_len =
    record {
      parts = onto _ _ _ (is_name.word ∙ onto _ _ _ (is_offset.word ∙ onto _ _ _ (is_len.word)));
      fits = (is_offset.fits, is_len.fits);
      full = (lit< tt, (is_name.full, (is_offset.full, (is_len.full, tt))));
    }

pub read_taken : (words : Words) (read : ReadLine) (rest : Words) → read_at words ≡ Some (read, rest) → Taken (codes "read" ∷ words) (Read read) rest
unfolding read_at
read_taken words read rest e =
    let a = name_then words _ (read, rest) e in
    let b = number_then (2 ^ 64) a.0.1 _ (read, rest) (omega arith) a.2 in
    let c = number_then (2 ^ 64) b.0.1 _ (read, rest) (omega arith) b.2 in
    let same = some_is (record { name = a.0.0; offset = b.0.0; len = c.0.0 }, c.0.1) (read, rest) c.2 in
    subst (λ (x : ReadLine × Words). Taken (codes "read" ∷ words) (Read x.0) x.1) same (read_made words b.0 c.0 a.0 a.1 b.1 c.1)

pub read_read : (read : ReadLine) → NumbersFit (Read read) → AllByRecursion IsFull (words_of (Read read)) → read_at (drop 1 (words_of (Read read))) ≡ Some (read, [])
unfolding read_at
read_read read fits full =
    let from_len : Words = decimal read.len ∷ [] in
    let from_offset : Words = decimal read.offset ∷ from_len in
    rw (name_read read.name from_offset full.1.0, number_read (2 ^ 64) read.offset from_len (omega arith) fits.0, number_read (2 ^ 64) read.len [] (omega arith) fits.1) refl

under_made : (words : Words) (a c d : ℕ × Words) (b : List ℕ × Words) → Number words (2 ^ 64) a → NameWord a.1 b → Number b.1 (2 ^ 64) c → Number c.1 (2 ^ 64) d
    → Taken (codes "under" ∷ words) (Under (record { group = a.0; name = b.0; offset = c.0; len = d.0 })) d.1
under_made words a c d b is_group is_name is_offset is_len =
    record {
      parts = onto _ _ _ (is_group.word ∙ onto _ _ _ (is_name.word ∙ onto _ _ _ (is_offset.word ∙ onto _ _ _ (is_len.word))));
      fits = (is_group.fits, is_offset.fits, is_len.fits);
      full = (lit< tt, (is_group.full, (is_name.full, (is_offset.full, (is_len.full, tt)))));
    }

pub under_taken : (words : Words) (under : UnderLine) (rest : Words) → under_at words ≡ Some (under, rest) → Taken (codes "under" ∷ words) (Under under) rest
unfolding under_at
under_taken words under rest e =
    let a = number_then (2 ^ 64) words _ (under, rest) (omega arith) e in
    let b = name_then a.0.1 _ (under, rest) a.2 in
    let c = number_then (2 ^ 64) b.0.1 _ (under, rest) (omega arith) b.2 in
    let d = number_then (2 ^ 64) c.0.1 _ (under, rest) (omega arith) c.2 in
    let same = some_is (record { group = a.0.0; name = b.0.0; offset = c.0.0; len = d.0.0 }, d.0.1) (under, rest) d.2 in
    subst (λ (x : UnderLine × Words). Taken (codes "under" ∷ words) (Under x.0) x.1) same (under_made words a.0 c.0 d.0 b.0 a.1 b.1 c.1 d.1)

pub under_read : (under : UnderLine) → NumbersFit (Under under) → AllByRecursion IsFull (words_of (Under under)) → under_at (drop 1 (words_of (Under under))) ≡ Some (under, [])
unfolding under_at
under_read under fits full =
    let from_len : Words = decimal under.len ∷ [] in
    let from_offset : Words = decimal under.offset ∷ from_len in
    let from_name : Words = under.name ∷ from_offset in
    rw (number_read (2 ^ 64) under.group from_name (omega arith) fits.0, name_read under.name from_offset full.1.1.0, number_read (2 ^ 64) under.offset from_len (omega arith) fits.1, number_read (2 ^ 64) under.len [] (omega arith) fits.2) refl

-- ---- a point of stop

pub of_read_some : {A B : Type 0} (f : A → B) (read : Option (A × Words)) (x : B × Words) → of_read f read ≡ Some x → (y : A × Words) × (read ≡ Some y) × ((f y.0, y.1) ≡ x)
of_read_some f (Some y) x e = (y, refl, some_is (f y.0, y.1) x e)
of_read_some f None x e = absurd cc

-- which way a test went
pub chosen : {A : Type 0} (b : Bool) (x y z : A) → cond b x y ≡ z → ((b ≡ true) × (x ≡ z)) ⊎ ((b ≡ false) × (y ≡ z))
chosen true x y z e = inl (refl, e)
chosen false x y z e = inr (refl, e)

-- words are those behind "stop", and then these
record StopTaken (words : Words) (stop : StopPoint) (rest : Words) : Type 0 where
  parts : words ≡ words_of_stop stop ++ rest
  fits : StopFits stop
  full : AllByRecursion IsFull (words_of_stop stop)

-- a point with a number of disks
point_made : (word text : List ℕ) (words : Words) (point : ℕ → StopPoint) (x : StopPoint × Words) → bytes_eq word text ≡ true → IsFull text
    → ((n : ℕ) → words_of_stop (point n) ≡ text ∷ decimal n ∷ []) → ((n : ℕ) → n < 2 ^ 32 → StopFits (point n)) → of_read point (number_at (2 ^ 32) words) ≡ Some x → StopTaken (word ∷ words) x.0 x.1
point_made word text words point x same full spelled fits e =
    let a = of_read_some point (number_at (2 ^ 32) words) x e in
    let number = number_taken (2 ^ 32) words a.0 (omega arith) a.1 in
    let made : StopTaken (word ∷ words) (point a.0.0) a.0.1 = record {
      parts = ap (λ (w : List ℕ). w ∷ words) ((bytes_eq-Decides word text).0 same) ∙ onto text words _ number.word ∙ ap (λ (w : Words). w ++ a.0.1) (sym (spelled a.0.0));
      fits = fits a.0.0 number.fits;
      full = subst (AllByRecursion IsFull) (sym (spelled a.0.0)) (full, (number.full, tt));
    } in
    subst (λ (y : StopPoint × Words). StopTaken (word ∷ words) y.0 y.1) a.2 made

blocks_made : (word : List ℕ) (words : Words) (x : StopPoint × Words) → bytes_eq word (codes "blocks") ≡ true → some (Blocks, words) ≡ Some x → StopTaken (word ∷ words) x.0 x.1
blocks_made word words x same e =
    subst (λ (y : StopPoint × Words). StopTaken (word ∷ words) y.0 y.1) (some_is (Blocks, words) x e)
    (record { parts = ap (λ (w : List ℕ). w ∷ words) ((bytes_eq-Decides word (codes "blocks")).0 same); fits = tt; full = (lit< tt, tt) })

none_is_some : {A : Type 0} (x : A) → None ≡ some x → ⊥
none_is_some x e = cc

point_taken : (word : List ℕ) (words : Words) (x : StopPoint × Words) → point_at word words ≡ Some x → StopTaken (word ∷ words) x.0 x.1
point_taken word words x e =
    elim (chosen (bytes_eq word (codes "blocks")) _ _ (Some x) e) [
      | inl blocks ↦ blocks_made word words x blocks.0 blocks.1
      | inr other ↦ elim (chosen (bytes_eq word (codes "slots")) _ _ (Some x) other.1) [
        | inl slots ↦ point_made word (codes "slots") words Slots x slots.0 (lit< tt) (λ n. refl) (λ n small. small) slots.1
        | inr last ↦ elim (chosen (bytes_eq word (codes "claim")) _ _ (Some x) last.1) [
          | inl claim ↦ point_made word (codes "claim") words Claim x claim.0 (lit< tt) (λ n. refl) (λ n small. small) claim.1
          | inr nothing ↦ absurd (none_is_some x nothing.1)
        ]
      ]
    ]

pub stop_taken : (words : Words) (stop : StopPoint) (rest : Words) → stop_at words ≡ Some (stop, rest) → Taken (codes "stop" ∷ words) (Stop stop) rest
unfolding stop_at
stop_taken words stop rest e =
    let a = bind_some (word_at words) _ (stop, rest) e in
    let taken = point_taken a.0.0 a.0.1 (stop, rest) a.2 in
    record { parts = onto _ _ _ (word_taken words a.0 a.1 ∙ taken.parts); fits = taken.fits; full = (lit< tt, taken.full) }

pub stop_read : (stop : StopPoint) → StopFits stop → stop_at (words_of_stop stop) ≡ Some (stop, [])
unfolding stop_at
stop_read Blocks fits = refl
stop_read (Slots disks) fits = ap (of_read Slots) (number_read (2 ^ 32) disks [] (omega arith) fits)
stop_read (Claim disks) fits = ap (of_read Claim) (number_read (2 ^ 32) disks [] (omega arith) fits)

-- ---- opened again

reopen_made : (words : Words) (a : ℕ × Words) (b : List ℕ × Words) → Number words 3 a → Numbers a.1 b → Taken (codes "reopen" ∷ words) (Reopen (record { rewind = a.0; absent = b.0 })) b.1
reopen_made words a b is_rewind are_absent =
    record {
      parts = onto _ _ _ (is_rewind.word ∙ onto _ _ _ (are_absent.parts));
      fits = (omega (arith, is_rewind.fits), are_absent.fits);
      full = (lit< tt, (is_rewind.full, are_absent.full));
    }

pub reopen_taken : (words : Words) (reopen : ReopenLine) (rest : Words) → reopen_at words ≡ Some (reopen, rest) → Taken (codes "reopen" ∷ words) (Reopen reopen) rest
unfolding reopen_at
reopen_taken words reopen rest e =
    let a = number_then 3 words _ (reopen, rest) (omega arith) e in
    let b = numbers_then a.0.1 _ (reopen, rest) a.2 in
    let same = some_is (record { rewind = a.0.0; absent = b.0.0 }, b.0.1) (reopen, rest) b.2 in
    subst (λ (x : ReopenLine × Words). Taken (codes "reopen" ∷ words) (Reopen x.0) x.1) same (reopen_made words a.0 b.0 a.1 b.1)

pub reopen_read : (reopen : ReopenLine) → NumbersFit (Reopen reopen) → reopen_at (drop 1 (words_of (Reopen reopen))) ≡ Some (reopen, [])
unfolding reopen_at
reopen_read reopen fits =
    let from_absent : Words = map decimal reopen.absent in
    rw (number_read 3 reopen.rewind from_absent (omega arith) (omega (arith, fits.0)), numbers_read reopen.absent fits.1) refl
