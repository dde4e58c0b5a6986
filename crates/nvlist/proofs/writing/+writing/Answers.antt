use Rattle.std.proofs.Common.{◌≡◌, ◌+◌, ◌++◌, length, drop, [], List, ℕ, refl, sym, subst, ap, ◌∙◌, append_assoc, arith}
use Rattle.std.specs.Int.{w32, to_be_bytes}
use Rattle.std.specs.Prelude.{string_bytes}
use Rattle.nvlist.specs.Grammar.{text_bytes, value_bytes, pairs_bytes, lists_bytes, spelling, FitsBehind, FitsLists}
use Rattle.nvlist.specs.Plain.{PlainList, PlainLists}
use Rattle.nvlist.specs.View.{value_view, list_view, pairs_view, lists_view}
use Rattle.nvlist.specs.declared.list.NvList.{NvList, out-NvList}
use Rattle.nvlist.specs.declared.list.Pair.{Pair}
use Rattle.nvlist.proofs.Appends.{fits_text, fits_lists, three_appended, pairs_from, lists_from, number_appended, text_appended, list_appended, lists_appended, counted, pairs_appended}
use Rattle.nvlist.proofs.writing.+writing.Goals as goal

pub put_value-overflow_cast-len : goal.put_value-overflow_cast-len
put_value-overflow_cast-len t c =
    let f = fits_lists c.args.value.now c.in-Lists.lists c.in-Lists.is c.requires in
    omega (arith, f.0, c.in-Lists.lists.ok.0)

pub put_value-returns-in_ok-extend_from_slice-in-Number : goal.put_value-returns-in_ok-extend_from_slice-in-Number
put_value-returns-in_ok-extend_from_slice-in-Number t c =
    number_appended c.args.value.now c.in-Number.number c.args.out.now.items c.put_word.new.out.items c.extend_from_slice.new.self.items c.in-Number.is c.in_ok-put_word-in-Number.ensures (c.in_ok-extend_from_slice-in-Number.ensures.items ∙ ap (λ (x : List ℕ). c.put_word.new.out.items ++ x) c.to_be_bytes.ensures)

pub put_value-returns-in_ok-put_text-in-Text : goal.put_value-returns-in_ok-put_text-in-Text
put_value-returns-in_ok-put_text-in-Text t c =
    text_appended c.args.value.now c.in-Text.text c.args.out.now.items c.put_word-in-Text.new.out.items c.put_text.new.out.items c.in-Text.is c.in_ok-put_word-in-Text.ensures (c.in_ok-put_text-in-Text.ensures ∙ ap (λ (x : List ℕ). c.put_word-in-Text.new.out.items ++ text_bytes x) c.as_str.ensures.value)

pub put_value-returns-in_ok-put_list-in-List : goal.put_value-returns-in_ok-put_list-in-List
put_value-returns-in_ok-put_list-in-List t c =
    list_appended c.args.value.now c.in-List.list c.args.out.now.items c.put_word-in-List.new.out.items c.put_list.new.out.items c.in-List.is c.in_ok-put_word-in-List.ensures c.in_ok-put_list-in-List.ensures

pub put_value-returns-in_ok-put_lists-in-Lists : goal.put_value-returns-in_ok-put_lists-in-Lists
put_value-returns-in_ok-put_lists-in-Lists t c =
    let count : c.len.result ≡ length c.in-Lists.lists.items = omega (arith, c.len.ensures, c.in-Lists.lists.ok.0) in
    let second = c.in_ok-put_word-in-Lists-2.ensures ∙ ap (λ (n : ℕ). c.put_word-in-Lists.new.out.items ++ to_be_bytes w32 n) count in
    let third = c.in_ok-put_lists-in-Lists.ensures ∙ ap (λ (x : List NvList). c.put_word-in-Lists-2.new.out.items ++ lists_bytes (lists_view x)) c.deref.ensures.value in
    lists_appended c.args.value.now c.in-Lists.lists c.args.out.now.items c.put_word-in-Lists.new.out.items c.put_word-in-Lists-2.new.out.items c.put_lists.new.out.items c.in-Lists.is c.in_ok-put_word-in-Lists.ensures second third

pub put_list-overflow_cast-len : goal.put_list-overflow_cast-len
put_list-overflow_cast-len t c =
    let pairs = (out-NvList c.args.list.now).pairs in
    omega (arith, c.requires.0, counted c.args.list.now, c.len.ensures, pairs.ok.0)

pub put_list-returns : goal.put_list-returns
put_list-returns t c =
    let pairs = (out-NvList c.args.list.now).pairs in
    let count : c.len.result ≡ length (out-NvList c.args.list.now).pairs.items = omega (arith, c.len.ensures, pairs.ok.0) in
    let second = c.in_ok-put_pairs.ensures ∙ ap (λ (x : List Pair). c.put_word.new.out.items ++ pairs_bytes (pairs_view x)) c.deref.ensures.value in
    pairs_appended c.args.list.now c.len.result c.args.out.now.items c.put_word.new.out.items c.put_pairs.new.out.items count c.in_ok-put_word.ensures second

pub put_value-put_text-requires : goal.put_value-put_text-requires
put_value-put_text-requires t c =
    omega (arith, (fits_text c.args.value.now c.in-Text.text c.in-Text.is c.requires).len, ap length c.as_str.ensures.value)

pub put_lists-loop-list-init : goal.put_lists-loop-list-init
put_lists-loop-list-init t c = (refl, c.requires)

pub put_lists-loop-list-preserved : goal.put_lists-loop-list-preserved
put_lists-loop-list-preserved t c =
    let from = lists_from c.args.lists.now c.loop-list.list-index c.list-item.result c.loop-list-test.true c.list-item.is in
    let fits = subst FitsLists from c.loop-list.invariant.1 in
    let rest : List ℕ = lists_bytes (lists_view (drop (c.loop-list.list-index + 1) c.args.lists.now)) in
    let out : List ℕ = c.loop-list.out.items in (
      ap (λ (x : List ℕ). x ++ rest) c.in_ok-put_list.ensures ∙ append_assoc out (spelling (list_view c.list-item.result)) rest
          ∙ ap (λ (ls : PlainLists). out ++ lists_bytes ls) (sym from) ∙ c.loop-list.invariant.0,
      fits.2,
    )

pub put_pairs-loop-pair-init : goal.put_pairs-loop-pair-init
put_pairs-loop-pair-init t c = (refl, ([], c.requires))

pub put_pairs-put_text-requires : goal.put_pairs-put_text-requires
put_pairs-put_text-requires t c =
    let from = pairs_from c.args.pairs.now c.loop-pair.pair-index c.pair-item.result c.loop-pair-test.true c.pair-item.is in
    let fits = subst (FitsBehind c.loop-pair.invariant.1.0) from c.loop-pair.invariant.1.1 in
    omega (arith, fits.0.len, ap length c.as_str.ensures.value)

pub put_pairs-loop-pair-preserved : goal.put_pairs-loop-pair-preserved
put_pairs-loop-pair-preserved t c =
    let from = pairs_from c.args.pairs.now c.loop-pair.pair-index c.pair-item.result c.loop-pair-test.true c.pair-item.is in
    let fits = subst (FitsBehind c.loop-pair.invariant.1.0) from c.loop-pair.invariant.1.1 in
    let name : List ℕ = string_bytes c.pair-item.result.name in
    let value : List ℕ = value_bytes (value_view c.pair-item.result.value) in
    let rest : List ℕ = pairs_bytes (pairs_view (drop (c.loop-pair.pair-index + 1) c.args.pairs.now)) in
    let out : List ℕ = c.loop-pair.out.items in
    let named = c.in_ok-put_text.ensures ∙ ap (λ (x : List ℕ). out ++ text_bytes x) c.as_str.ensures.value in (
      three_appended out c.put_text.new.out.items c.put_value.new.out.items (c.put_value.new.out.items ++ rest) (text_bytes name) value rest named c.in_ok-put_value.ensures refl
          ∙ ap (λ (ps : PlainList). out ++ pairs_bytes ps) (sym from) ∙ c.loop-pair.invariant.0,
      (name, fits.2),
    )
