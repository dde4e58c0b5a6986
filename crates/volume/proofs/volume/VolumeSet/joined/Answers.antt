use Rattle.std.proofs.Common.{◌≡◌, ℕ, ◌+◌, ◌-◌, ◌*◌, ◌%◌, ◌/◌, ◌<◌, ◌≤◌, List, Vec, ◌++◌, length, length-append, get_or, refl, sym, ap, ◌∙◌, subst, arith}
use Rattle.std.specs.declared.alloc.Global.{Global}
use Rattle.std.specs.Prelude.{slice_range}
use Rattle.std.proofs.lemmas.Slice.{pushed}
use Rattle.std.proofs.lemmas.List.Edits.{length-between}
use Rattle.volume.specs.Volume.{part}
use Rattle.volume.proofs.RangeIds.{block_at, place_within}
use Rattle.volume.proofs.Ranges.{read_more, block_at_below, block_fits}
use Rattle.volume.proofs.volume.VolumeSet.joined.Goals as goal

pub parts-preserved : goal.parts-preserved
parts-preserved c =
    let done : ℕ = c.len-done.result in
    let start : ℕ = (c.args.offset + done) % c.block_size-block_size.result in
    let block_id : ℕ = (c.args.offset + done) / c.block_size-block_size.result in
    let size : c.block_size-block_size.result ≡ c.args.self.now.block_size = c.block_size-block_size.ensures.value in
    let wide : 0 < c.args.self.now.block_size = omega (arith, size, c.block_size-block_size.ensures.least) in
    let more : done < c.args.len = omega (arith, c.len-done.ensures) in
    let all = c.requires.all (omega (arith, more)) in
    let place : ℕ = (c.args.offset + done) / c.args.self.now.block_size - c.args.offset / c.args.self.now.block_size in
    let here_is : c.index-blocks-at.result ≡ get_or c.args.blocks.now place c.index-blocks-at.result =
    subst (λ n. c.index-blocks-at.result ≡ get_or c.args.blocks.now ((c.args.offset + done) / n - c.args.offset / n) c.index-blocks-at.result) size c.index-blocks-at.is in
    let block : List ℕ = c.index-blocks-at.result.items in
    let next : c.extend_from_slice.new.self.items ≡ c.parts.read.items ++ slice_range block start (start + c.min-count.result) =
    pushed (slice_range c.deref.result.now start (start + c.min-count.result)) refl c.in_ok-extend_from_slice.was c.extend_from_slice.ensures.items ∙ ap (λ (xs : List ℕ). c.parts.read.items ++ slice_range xs start (start + c.min-count.result)) c.deref.ensures.value in
    let count : c.min-count.result ≤ c.block_size-block_size.result - start = omega (arith, c.min-count.ensures) in
    let low : start < c.block_size-block_size.result = omega (arith, c.block_size-block_size.ensures.least) in
    let size_of_block : length block ≡ c.args.self.now.block_size =
    ap (λ (bytes : Vec ℕ Global). length bytes.items) here_is
    ∙ c.requires.whole place c.index-blocks-at.result (place_within c.args.offset c.args.len done c.args.self.now.block_size (length c.args.blocks.now) wide more all) in
    let fits : start + c.min-count.result ≤ c.args.self.now.block_size = omega (arith, low, count, size) in
    let here : block_id * c.args.self.now.block_size + start ≡ c.args.offset + length c.parts.read.items =
    ap (λ n. block_id * n + start) (sym size) ∙ (let e : block_id * c.block_size-block_size.result + start ≡ c.args.offset + length c.parts.read.items = omega (arith, c.len-done.ensures, c.block_size-block_size.ensures.least) in e) in
    let len : length c.extend_from_slice.new.self.items ≡ length c.parts.read.items + c.min-count.result =
    ap length next ∙ length-append c.parts.read.items (slice_range block start (start + c.min-count.result))
    ∙ ap (λ n. length c.parts.read.items + n) (length-between block start (start + c.min-count.result) (omega (arith, fits, size_of_block))
    ∙ (let e : start + c.min-count.result - start ≡ c.min-count.result = omega arith in e)) in
    let below : block_id < c.args.self.now.size / c.args.self.now.block_size =
    block_at_below (c.args.offset + done) c.block_size-block_size.result c.args.self.now size (omega (arith, more, c.requires.within)) in
    record {
      within = omega (arith, c.min-count.ensures, len);
      value = λ array sized zip.
          let is : block ≡ part array c.args.self.now.block_size block_id =
          block_at c.args.offset c.args.len done c.args.self.now.block_size (length c.args.blocks.now) wide more all array c.args.blocks.now c.index-blocks-at.result refl here_is zip
          ∙ ap (λ n. part array c.args.self.now.block_size ((c.args.offset + done) / n)) (sym size) in
          next ∙ read_more array c.parts.read.items block c.args.offset block_id c.args.self.now.block_size start c.min-count.result here fits
          (subst (λ (n : ℕ). block_id * c.args.self.now.block_size + c.args.self.now.block_size ≤ n) (sym sized) (block_fits block_id c.args.self.now.size c.args.self.now.block_size below))
          (c.parts.invariant.value array sized zip) is
          ∙ ap (λ n. slice_range array c.args.offset (c.args.offset + n)) (sym len);
    }
