use Rattle.std.proofs.Common.{rules, ◌≡◌, ◌∙◌, ◌-◌, length, take, drop, refl, ap, arith, Err}
use Rattle.nvlist.specs.View.{list_view}
use Rattle.words.proofs.SealLemmas.{length-sealed}
use Rattle.words.specs.Seal.{sealed}
use Rattle.vdev_label.proofs.Areas.{found_label, only_label, not_both}
use Rattle.vdev_label.specs.Area.{front_of}
use Rattle.vdev_label.specs.Pairs.{label_pairs}
use Rattle.vdev_label.proofs.decoding.decode_area.Goals as goal

pub returns-in-Err-Word-clause-only : goal.returns-in-Err-Word-clause-only
returns-in-Err-Word-clause-only c label spells = absurd (c.in-Err-Word.ensures.only (front_of (label_pairs label)) spells.bytes)

pub returns-in-Err-Word-clause-cause : goal.returns-in-Err-Word-clause-cause
returns-in-Err-Word-clause-cause c is =
    let place : length c.args.area.now - 40 ≡ 114648 = omega (arith, c.requires) in
    c.in-Err-Word.ensures.word.0 (ap Err c.in-Err-Word.field-0-is) (ap (λ n. take 8 (drop n c.args.area.now)) place ∙ is)

pub returns-in-Err-Digest-clause-only : goal.returns-in-Err-Digest-clause-only
returns-in-Err-Digest-clause-only c label spells = absurd (c.in-Err-Digest.ensures.only (front_of (label_pairs label)) spells.bytes)

pub returns-in-Err-Digest-clause-cause : goal.returns-in-Err-Digest-clause-cause
returns-in-Err-Digest-clause-cause c =
    let place : 114648 ≡ length c.args.area.now - 40 = omega (arith, c.requires) in (
      λ other. not_both _ _ c.in-Err-Digest.field-0 c.in-Err-Digest.field-0-is (c.in-Err-Digest.ensures.word.1 (λ is. other (ap (λ n. take 8 (drop n c.args.area.now)) place ∙ is))) refl refl,
      c.in-Err-Digest.ensures.only,
    )

pub front_list-requires : goal.front_list-requires
front_list-requires c = omega (arith, c.requires, length-sealed c.in-Ok.front.now, ap length c.in-Ok.ensures.found)

pub returns-in_err-list-clause-only : goal.returns-in_err-list-clause-only
returns-in_err-list-clause-only c label spells =
    let front = c.in-Ok.ensures.only (front_of (label_pairs label)) spells.bytes in
    let none = c.in_err-list.ensures.only (label_pairs label) spells.room front in
    search (rules, none)

pub returns-clause-found : goal.returns-clause-found
returns-clause-found c =
    found_label c.label_of.result c.args.area.now (list_view c.in_ok-list.list) (c.in-Ok.ensures.found ∙ ap sealed c.in_ok-list.ensures.found)
    c.in_ok-list.ensures.room c.label_of.ensures.found c.label_of.ensures.in_range

pub returns-clause-only : goal.returns-clause-only
returns-clause-only c label spells =
    let front = c.in-Ok.ensures.only (front_of (label_pairs label)) spells.bytes in
    only_label c.label_of.result (list_view c.in_ok-list.list) label spells.in_range
    (c.in_ok-list.ensures.only (label_pairs label) spells.room front) c.label_of.ensures.found c.label_of.ensures.bad
