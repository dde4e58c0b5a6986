use Rattle.std.proofs.Common.{ap, ◌∙◌}
use Rattle.std.specs.List.{sum}
use Rattle.raidz_io.specs.Places.{sizes_of}
use Rattle.raidz_io.proofs.Found.{whole_length, none_agrees, found_choice, none_has_digest, none_fits, false_not_true}
use Rattle.raidz_io.proofs.choice.try_choice.Goals as goal

pub returns-then-len-size-clause-none : goal.returns-then-len-size-clause-none
returns-then-len-size-clause-none c =
    none_fits c.args.parity c.total-size.result c.len.result (sizes_of c.args.data.now) c.args.bytes.now c.args.wrong.now
    c.in_ok-block.block.items c.args.digest.now c.in_ok-block.ensures (c.total-size.ensures ∙ ap sum (c.as_slice.ensures.value ∙ c.sizes.ensures))
    (c.len.ensures ∙ c.in_ok-block.block.ok.0) c.if-len-size.true

pub agree-requires-clause-whole : goal.agree-requires-clause-whole
agree-requires-clause-whole c =
    let found = c.in_ok-whole.ensures in
    whole_length c.args.parity (sizes_of c.args.data.now) c.as_slice-3.result.now c.as_slice-2.result.now found.0 found.1.has_sizes
    (c.as_slice-3.ensures.value ∙ found.2) (c.as_slice-2.ensures.value ∙ c.all_sizes.ensures)

pub returns-then-not-agree-clause-none : goal.returns-then-not-agree-clause-none
returns-then-not-agree-clause-none c =
    let found = c.in_ok-whole.ensures in
    none_agrees c.args.parity (sizes_of c.args.data.now) c.args.bytes.now c.args.wrong.now c.in_ok-block.block.items c.as_slice-3.result.now
    c.as_slice-2.result.now c.args.digest.now found.0 c.in_ok-block.ensures
    found.1
    (c.as_slice-3.ensures.value ∙ found.2) (c.as_slice-2.ensures.value ∙ c.all_sizes.ensures)
    (λ same. false_not_true c.agree.result c.if-not-agree.true (c.agree.ensures.no same))

pub returns-then-has_digest-clause-found : goal.returns-then-has_digest-clause-found
returns-then-has_digest-clause-found c =
    let found = c.in_ok-whole.ensures in
    found_choice c.args.parity c.total-size.result (sizes_of c.args.data.now) c.args.bytes.now c.args.wrong.now c.in_ok-block.block.items
    c.truncate.new.self.items c.as_slice-3.result.now c.as_slice-2.result.now c.args.digest.now found.0 c.in_ok-block.ensures
    found.1
    (c.as_slice-3.ensures.value ∙ found.2) (c.as_slice-2.ensures.value ∙ c.all_sizes.ensures)
    (c.total-size.ensures ∙ ap sum (c.as_slice.ensures.value ∙ c.sizes.ensures))
    (rw c.as_slice-3.ensures.value c.truncate.ensures.items)
    (c.agree.ensures.yes c.if-not-agree.false)
    (rw c.as_slice-4.ensures.value at (c.has_digest.ensures.digest.0 c.if-has_digest.true))

pub returns-else-has_digest-clause-none : goal.returns-else-has_digest-clause-none
returns-else-has_digest-clause-none c =
    let found = c.in_ok-whole.ensures in
    none_has_digest c.args.parity c.total-size.result (sizes_of c.args.data.now) c.args.bytes.now c.args.wrong.now c.in_ok-block.block.items
    c.truncate.new.self.items c.as_slice-3.result.now c.args.digest.now found.0 c.in_ok-block.ensures
    found.1
    (c.as_slice-3.ensures.value ∙ found.2)
    (c.total-size.ensures ∙ ap sum (c.as_slice.ensures.value ∙ c.sizes.ensures))
    (rw c.as_slice-3.ensures.value c.truncate.ensures.items)
    (λ same. false_not_true c.has_digest.result c.if-has_digest.false (c.has_digest.ensures.digest.1 (rw c.as_slice-4.ensures.value same)))
