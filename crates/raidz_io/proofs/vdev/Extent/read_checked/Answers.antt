use Rattle.std.proofs.Common.{ℕ, ◌≡◌, ◌+◌, length, drop, inl, inr, refl, sym, ap, ◌∙◌, arith}
use Rattle.std.specs.List.{sum}
use Rattle.std.proofs.lemmas.Bool.Decides.{nat_tests}
use Rattle.raidz_io.specs.Places.{sizes_of}
use Rattle.raidz_io.specs.Stripe.{stripe_sizes}
use Rattle.raidz_io.proofs.Agree.{IsSoFar, whole_read, more_lost, all_below}
use Rattle.raidz_io.proofs.Found.{some_at, none_at}
use Rattle.raidz_io.proofs.ChoiceReads.{found_is_choice, data_is_choice, whole_size, all_read, has_no_choice, found_at, first_at, first_is_block}
use Rattle.raidz_io.proofs.vdev.Extent.read_checked.Goals as goal

pub returns-then-has_digest-clause-block : goal.returns-then-has_digest-clause-block
returns-then-has_digest-clause-block g c honest block stands digest =
    let so_far : IsSoFar c.args.disks.now c.read_data.new.disks c.args.self c.args.missing.now c.as_slice-layout.result.now c.in_ok-read.read.count
    c.in_ok-read.read.bytes.items c.in_ok-read.read.lost.items = record {
      is_layout = rw c.as_slice-layout.ensures.value c.layout-layout.ensures.columns;
      shape = rw c.as_slice-layout.ensures.value c.layout-layout.ensures.shape;
      read = c.in_ok-read.ensures.read;
    } in
    let none : length c.in_ok-read.read.lost.items ≡ 0 = grind (arith, nat_tests, c.is_empty.ensures, c.if-is_empty.true) in
    whole_read c.child_holds_one_column.ensures _ _ _ _ _ _ _ _ block so_far honest none c.in_ok-read.ensures.count stands

pub returns-then-has_digest-clause-choice : goal.returns-then-has_digest-clause-choice
returns-then-has_digest-clause-choice g c =
    let so_far : IsSoFar c.args.disks.now c.read_data.new.disks c.args.self c.args.missing.now c.as_slice-layout.result.now c.in_ok-read.read.count
    c.in_ok-read.read.bytes.items c.in_ok-read.read.lost.items = record {
      is_layout = rw c.as_slice-layout.ensures.value c.layout-layout.ensures.columns;
      shape = rw c.as_slice-layout.ensures.value c.layout-layout.ensures.shape;
      read = c.in_ok-read.ensures.read;
    } in
    let none : length c.in_ok-read.read.lost.items ≡ 0 = grind (arith, nat_tests, c.is_empty.ensures, c.if-is_empty.true) in
    data_is_choice _ _ _ _ _ _ _ _ so_far c.in_ok-read.ensures.count none (rw c.as_slice.ensures.value at c.has_digest.ensures.bytes)

pub returns-then-parity-len-clause-refused : goal.returns-then-parity-len-clause-refused
returns-then-parity-len-clause-refused g c =
    let so_far : IsSoFar c.args.disks.now c.read_parity.new.disks c.args.self c.args.missing.now c.as_slice-layout.result.now c.read_parity.new.read.count
    c.read_parity.new.read.bytes.items c.read_parity.new.read.lost.items = record {
      is_layout = rw c.as_slice-layout.ensures.value c.layout-layout.ensures.columns;
      shape = rw c.as_slice-layout.ensures.value c.layout-layout.ensures.shape;
      read = c.in_ok-read_parity.ensures.read c.args.disks.now c.in_ok-read.ensures.read;
    } in
    inr (inl (refl, more_lost c.child_holds_one_column.ensures _ _ _ _ _ _ _ _ so_far (omega (arith, c.if-parity-len.true, c.parity.ensures, c.len.ensures.value))))

pub find_choice-requires-clause-whole : goal.find_choice-requires-clause-whole
find_choice-requires-clause-whole g c =
    let so_far : IsSoFar c.args.disks.now c.read_parity.new.disks c.args.self c.args.missing.now c.as_slice-layout.result.now c.read_parity.new.read.count
    c.read_parity.new.read.bytes.items c.read_parity.new.read.lost.items = record {
      is_layout = rw c.as_slice-layout.ensures.value c.layout-layout.ensures.columns;
      shape = rw c.as_slice-layout.ensures.value c.layout-layout.ensures.shape;
      read = c.in_ok-read_parity.ensures.read c.args.disks.now c.in_ok-read.ensures.read;
    } in
    let all = all_read c.args.self c.as_slice-layout.result.now c.read_parity.new.read.count _ _ so_far.is_layout (omega arith)
    c.in_ok-read_parity.ensures.most c.in_ok-read_parity.ensures.ended in
    let p : ℕ = c.args.self.vdev.geometry.parity in
    let back : c.split_at.result.1.now ≡ drop p c.as_slice-layout.result.now = rw (c.split_at.ensures.back, c.parity-2.ensures) refl in
    ap (length {A = ℕ}) c.as_slice-bytes.ensures.value ∙ whole_size _ _ _ _ _ _ _ _ so_far all
    ∙ ap (λ n. sum (stripe_sizes n (sizes_of (drop p c.as_slice-layout.result.now)))) (sym c.parity-3.ensures)
    ∙ ap (λ cs. sum (stripe_sizes c.parity-3.result (sizes_of cs))) (sym back)

pub find_choice-requires-clause-below : goal.find_choice-requires-clause-below
find_choice-requires-clause-below g c =
    let so_far : IsSoFar c.args.disks.now c.read_parity.new.disks c.args.self c.args.missing.now c.as_slice-layout.result.now c.read_parity.new.read.count
    c.read_parity.new.read.bytes.items c.read_parity.new.read.lost.items = record {
      is_layout = rw c.as_slice-layout.ensures.value c.layout-layout.ensures.columns;
      shape = rw c.as_slice-layout.ensures.value c.layout-layout.ensures.shape;
      read = c.in_ok-read_parity.ensures.read c.args.disks.now c.in_ok-read.ensures.read;
    } in
    let total : length c.split_at.result.1.now + c.parity-3.result ≡ length c.as_slice-layout.result.now =
    omega (arith, c.split_at.ensures.back_len, c.parity-2.ensures, c.parity-3.ensures) in
    rw (total, c.as_slice-lost.ensures.value) (all_below _ _ _ _ _ _ (length c.as_slice-layout.result.now) _ _ so_far refl)

pub returns-in-Some-clause-block : goal.returns-in-Some-clause-block
returns-in-Some-clause-block g c =
    let so_far : IsSoFar c.args.disks.now c.read_parity.new.disks c.args.self c.args.missing.now c.as_slice-layout.result.now c.read_parity.new.read.count
    c.read_parity.new.read.bytes.items c.read_parity.new.read.lost.items = record {
      is_layout = rw c.as_slice-layout.ensures.value c.layout-layout.ensures.columns;
      shape = rw c.as_slice-layout.ensures.value c.layout-layout.ensures.shape;
      read = c.in_ok-read_parity.ensures.read c.args.disks.now c.in_ok-read.ensures.read;
    } in
    let all = all_read c.args.self c.as_slice-layout.result.now c.read_parity.new.read.count _ _ so_far.is_layout (omega arith)
    c.in_ok-read_parity.ensures.most c.in_ok-read_parity.ensures.ended in
    first_is_block c.in-Some.block (λ it. it.items) c.child_holds_one_column.ensures _ _ _ _ _ _ _ _ c.args.digest.now so_far all
    (first_at c.in-Some.block (λ it. it.items) c.args.digest.now c.args.self c.as_slice-layout.result.now c.split_at.result.1.now c.parity-3.result
    _ c.as_slice-bytes.result.now _ c.as_slice-lost.result.now c.parity-3.ensures (rw (c.split_at.ensures.back, c.parity-2.ensures) refl)
    c.as_slice-bytes.ensures.value c.as_slice-lost.ensures.value
    (some_at c.in_ok-block.field-0 c.in-Some.block _ c.in-Some.is c.in_ok-block.ensures.first))

pub returns-in-Some-clause-choice : goal.returns-in-Some-clause-choice
returns-in-Some-clause-choice g c =
    let so_far : IsSoFar c.args.disks.now c.read_parity.new.disks c.args.self c.args.missing.now c.as_slice-layout.result.now c.read_parity.new.read.count
    c.read_parity.new.read.bytes.items c.read_parity.new.read.lost.items = record {
      is_layout = rw c.as_slice-layout.ensures.value c.layout-layout.ensures.columns;
      shape = rw c.as_slice-layout.ensures.value c.layout-layout.ensures.shape;
      read = c.in_ok-read_parity.ensures.read c.args.disks.now c.in_ok-read.ensures.read;
    } in
    let all = all_read c.args.self c.as_slice-layout.result.now c.read_parity.new.read.count _ _ so_far.is_layout (omega arith)
    c.in_ok-read_parity.ensures.most c.in_ok-read_parity.ensures.ended in
    found_is_choice _ _ _ _ _ _ _ _ c.in-Some.block.items c.args.digest.now so_far all
    (found_at c.args.digest.now c.args.self c.as_slice-layout.result.now c.split_at.result.1.now c.parity-3.result _ c.as_slice-bytes.result.now
    _ c.as_slice-lost.result.now c.in-Some.block.items c.parity-3.ensures (rw (c.split_at.ensures.back, c.parity-2.ensures) refl)
    c.as_slice-bytes.ensures.value c.as_slice-lost.ensures.value
    (some_at c.in_ok-block.field-0 c.in-Some.block _ c.in-Some.is c.in_ok-block.ensures.found))

pub returns-clause-refused : goal.returns-clause-refused
returns-clause-refused g c =
    let so_far : IsSoFar c.args.disks.now c.read_parity.new.disks c.args.self c.args.missing.now c.as_slice-layout.result.now c.read_parity.new.read.count
    c.read_parity.new.read.bytes.items c.read_parity.new.read.lost.items = record {
      is_layout = rw c.as_slice-layout.ensures.value c.layout-layout.ensures.columns;
      shape = rw c.as_slice-layout.ensures.value c.layout-layout.ensures.shape;
      read = c.in_ok-read_parity.ensures.read c.args.disks.now c.in_ok-read.ensures.read;
    } in
    let all = all_read c.args.self c.as_slice-layout.result.now c.read_parity.new.read.count _ _ so_far.is_layout (omega arith)
    c.in_ok-read_parity.ensures.most c.in_ok-read_parity.ensures.ended in
    inr (inr (
      refl,
      has_no_choice c.child_holds_one_column.ensures _ _ _ _ _ c.split_at.result.1.now _ c.parity-3.result _ c.as_slice-bytes.result.now _
          c.as_slice-lost.result.now c.args.digest.now so_far all (omega (arith, c.if-parity-len.false, c.parity.ensures, c.len.ensures.value))
          c.parity-3.ensures (rw (c.split_at.ensures.back, c.parity-2.ensures) refl) c.as_slice-bytes.ensures.value c.as_slice-lost.ensures.value
          (none_at c.in_ok-block.field-0 _ c.in-None.is c.in_ok-block.ensures.none),
    ))

pub returns-in_err-read_parity-clause-reads : goal.returns-in_err-read_parity-clause-reads
returns-in_err-read_parity-clause-reads g c = (c.read_parity.ensures.reads c.args.disks.now c.in_ok-read.ensures.read).0

pub returns-in_err-read_parity-clause-untouched : goal.returns-in_err-read_parity-clause-untouched
returns-in_err-read_parity-clause-untouched g c = (c.read_parity.ensures.reads c.args.disks.now c.in_ok-read.ensures.read).1

pub returns-then-parity-len-clause-reads : goal.returns-then-parity-len-clause-reads
returns-then-parity-len-clause-reads g c = (c.read_parity.ensures.reads c.args.disks.now c.in_ok-read.ensures.read).0

pub returns-then-parity-len-clause-untouched : goal.returns-then-parity-len-clause-untouched
returns-then-parity-len-clause-untouched g c = (c.read_parity.ensures.reads c.args.disks.now c.in_ok-read.ensures.read).1

pub returns-in_err-block-clause-reads : goal.returns-in_err-block-clause-reads
returns-in_err-block-clause-reads g c = (c.read_parity.ensures.reads c.args.disks.now c.in_ok-read.ensures.read).0

pub returns-in_err-block-clause-untouched : goal.returns-in_err-block-clause-untouched
returns-in_err-block-clause-untouched g c = (c.read_parity.ensures.reads c.args.disks.now c.in_ok-read.ensures.read).1

pub returns-in-Some-clause-reads : goal.returns-in-Some-clause-reads
returns-in-Some-clause-reads g c = (c.read_parity.ensures.reads c.args.disks.now c.in_ok-read.ensures.read).0

pub returns-in-Some-clause-untouched : goal.returns-in-Some-clause-untouched
returns-in-Some-clause-untouched g c = (c.read_parity.ensures.reads c.args.disks.now c.in_ok-read.ensures.read).1

pub returns-clause-reads : goal.returns-clause-reads
returns-clause-reads g c = (c.read_parity.ensures.reads c.args.disks.now c.in_ok-read.ensures.read).0

pub returns-clause-untouched : goal.returns-clause-untouched
returns-clause-untouched g c = (c.read_parity.ensures.reads c.args.disks.now c.in_ok-read.ensures.read).1
