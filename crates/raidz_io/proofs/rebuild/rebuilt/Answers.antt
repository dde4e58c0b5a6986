use Rattle.std.proofs.Common.{ℕ, ◌≡◌, List, length, IsOk, sym, ap, ◌∙◌}
use Rattle.raidz_parity.specs.Layout.{Block, joined}
use Rattle.raidz_io.specs.Places.{sizes_of}
use Rattle.raidz_io.proofs.Sizes.{length-sizes}
use Rattle.raidz_io.proofs.Rebuilt.{AreIn, rebuilds_below, not_more, rebuilt, ok_unless, at_ok}
use Rattle.raidz_io.proofs.rebuild.rebuilt.Goals as goal

pub rebuild-requires : goal.rebuild-requires
rebuild-requires c =
    rebuilds_below c.args.parity (length c.args.data.now) (sizes_of c.args.data.now) c.args.bytes.now c.args.wrong.now _ c.in_ok-columns.columns
    (record { parity = c.in_ok-columns.ensures.parity; block = c.in_ok-columns.ensures.block })
    (sym (length-sizes c.args.data.now)) (c.as_slice.ensures.value ∙ c.numbers_of.ensures) c.requires.below

pub unwrap-requires : goal.unwrap-requires
unwrap-requires c =
    ok_unless c.rebuild.result (λ err.
    not_more c.args.parity (length c.args.data.now) (sizes_of c.args.data.now) c.args.bytes.now c.args.wrong.now _ c.in_ok-columns.columns
    (record { parity = c.in_ok-columns.ensures.parity; block = c.in_ok-columns.ensures.block })
    (c.as_slice.ensures.value ∙ c.numbers_of.ensures) c.requires.few (c.rebuild.ensures.refused.0 err))

pub returns : goal.returns
returns c =
    let n = length c.args.data.now in
    let sizes : List ℕ = sizes_of c.args.data.now in
    let are : AreIn c.args.parity sizes c.args.bytes.now c.in_ok-columns.columns =
    record { parity = c.in_ok-columns.ensures.parity; block = c.in_ok-columns.ensures.block } in
    let same : c.as_slice.result.now ≡ _ = c.as_slice.ensures.value ∙ c.numbers_of.ensures in
    let ok : IsOk c.rebuild.result =
    ok_unless c.rebuild.result (λ err.
    not_more c.args.parity n sizes c.args.bytes.now c.args.wrong.now _ c.in_ok-columns.columns are same c.requires.few (c.rebuild.ensures.refused.0 err)) in
    λ right bytes parity has matches.
    let again : c.rebuild.new.self ≡ right =
    rebuilt c.args.parity n sizes c.args.bytes.now c.args.wrong.now _ c.in_ok-columns.columns c.rebuild.new.self right are
    (sym (length-sizes c.args.data.now)) c.requires.whole same has matches
    (λ changed. at_ok c.rebuild.result (c.rebuild.new.self ≡ right) ok (c.rebuild.ensures.rebuilt right bytes parity changed)) in
    c.into_parts-block.ensures.block ∙ ap (λ (b : Block). joined b.data_columns) again
