-- A volume reads as one array.
use Rattle.std.proofs.Common.{◌≡◌, ℕ, ◌+◌, ◌*◌, ◌/◌, ◌%◌, ◌<◌, List, length, get_or, Option, Some, sym, ap, subst, ◌∙◌, arith}
use Rattle.std.proofs.lemmas.List.{same_lists}
use Rattle.std.proofs.lemmas.List.Edits.{get_or-between}
use Rattle.dnode.specs.declared.object_set.ObjectSet.{ObjectSet}
use Rattle.objset.proofs.NodeReadings.{set_block_once}
use Rattle.objset.proofs.Readings.{objects_are_one}
use Rattle.objset.specs.Objects.{Object, AreObjects}
use Rattle.volume.specs.Laws.{VolumesReadAsOne}
use Rattle.volume.specs.Volume.{HasBytes, IsData, part}
use Rattle.volume.proofs.BlockData.{same_bytes}
use Rattle.volume.proofs.Ranges.{block_below}

-- arrays of whole blocks are the same where each block is
blocks_tell : (array other : List ℕ) (size block_size : ℕ) → 0 < block_size → size % block_size ≡ 0 → length array ≡ size → length other ≡ size
    → ((id : ℕ) → id < size / block_size → part array block_size id ≡ part other block_size id) → array ≡ other
blocks_tell array other size block_size some whole len length_too each = same_lists array other (len ∙ sym length_too) byte
  where
    byte : (k : ℕ) (d : ℕ) → k < length array → get_or array k d ≡ get_or other k d
    byte k d lt =
        let low : k / block_size < size / block_size = block_below k size block_size some whole (omega (arith, lt, len)) in
        let within : k % block_size < block_size = omega (arith, some) in
        let place : k / block_size * block_size + k % block_size ≡ k = omega (arith, some) in
        ap (λ n. get_or array n d) (sym place)
        ∙ sym (get_or-between array (k / block_size * block_size) (k / block_size * block_size + block_size) (k % block_size) d (omega (arith, within)))
        ∙ ap (λ (bytes : List ℕ). get_or bytes (k % block_size) d) (each (k / block_size) low)
        ∙ get_or-between other (k / block_size * block_size) (k / block_size * block_size + block_size) (k % block_size) d (omega (arith, within))
        ∙ ap (λ n. get_or other n d) place

-- objects have one array of data
data_is_one : (size block_size : ℕ) (objects : ℕ → Option Object) (array other : List ℕ) → size % block_size ≡ 0 → IsData size block_size objects array → IsData size block_size objects other → array ≡ other
data_is_one size block_size objects array other whole one two =
    let there : one.there ≡ two.there = let e : Some one.there ≡ Some two.there = sym one.there_is ∙ two.there_is in cc in
    blocks_tell array other size block_size (some block_size one.highest) whole one.size_is two.size_is
    (λ id lt. same_bytes block_size (two.there.array id) (part array block_size id) (part other block_size id)
    (subst (λ (o : Object). HasBytes block_size (o.array id) (part array block_size id)) there (one.blocks id lt)) (two.blocks id lt))
  where
    some : (n : ℕ) → one.there.highest < size / n → 0 < n
    some n low = omega (arith, low)

pub volumes_read_as_one : VolumesReadAsOne
volumes_read_as_one stored birth later set_block size block_size array other whole one two =
    let set = set_block_once stored birth later set_block one.set two.set one.is_set two.is_set in
    let are : AreObjects stored set_block.birth two.set one.has.objects one.has.own one.has.blocks =
    subst (λ (s : ObjectSet). AreObjects stored set_block.birth s one.has.objects one.has.own one.has.blocks) set one.has.are in
    let same = objects_are_one stored set_block.birth set_block.birth two.set one.has.objects two.has.objects one.has.own two.has.own one.has.blocks two.has.blocks two.is_set.spelled.0.0.0.highest are two.has.are in
    let found = subst (λ objects. IsData size block_size objects array) same.0 one.has.data_is in
    (data_is_one size block_size two.has.objects array other whole found two.has.data_is, set, same.1, same.2)
