use Rattle.std.proofs.Common.{◌≡◌, length, drop, sym, ◌∙◌, arith}
use Rattle.std.proofs.lemmas.Result.{IfOk-weaker}
use Rattle.dnode.specs.Node.{SpellsNode, IsRead, node_words}
use Rattle.dnode.proofs.Nodes.{no_bytes, own_zeros, their_zeros, fields_of, IsReadFrom, node_made, AreWords-node}
use Rattle.dnode.proofs.node.ObjectNode.from_bytes.Goals as goal

pub returns-then-not-is_zero-clause-only : goal.returns-then-not-is_zero-clause-only
returns-then-not-is_zero-clause-only c = λ n spells.
    let cut = fields_of c.args.bytes.now n c.told-bytes spells.1 in
    let rest = c.split_at.result.1.now in
    let len : length rest ≡ 320 = omega (arith, c.split_at.ensures.back_len, c.told-bytes) in
    let test = c.is_zero.ensures.zeros.1 (own_zeros 320 rest len (c.split_at.ensures.back ∙ cut.zeros_are)) in
    absurd cc

pub returns-in_default-clause-only : goal.returns-in_default-clause-only
returns-in_default-clause-only c = λ n spells.
    let cut = fields_of c.args.bytes.now n c.told-bytes spells.1 in
    let read = c.in_default.ensures.only n.pointer (spells.0.1, c.bytes_at.ensures ∙ cut.pointer_is) in
    absurd cc

pub returns-clause-found : goal.returns-clause-found
returns-clause-found c =
    let bytes = c.args.bytes.now in
    let rest = c.split_at.result.1.now in
    let len : length rest ≡ 320 = omega (arith, c.split_at.ensures.back_len, c.told-bytes) in
    let zeros : drop 192 bytes ≡ no_bytes 320 = sym c.split_at.ensures.back ∙ their_zeros 320 rest len (c.is_zero.ensures.zeros.0 c.if-not-is_zero.false) in
    let from : IsReadFrom bytes c.bytes_at-2.result c.words_at.result c.in-Ok.pointer c.bytes_at.result = record {
      head_at = c.bytes_at-2.ensures;
      words_at = c.words_at.ensures.found;
      pointer_at = c.bytes_at.ensures;
      spelled = c.in-Ok.ensures.found;
      zeros = zeros;
    } in
    IfOk-weaker c.from_fields.result (IsRead c.bytes_at-2.result c.words_at.result c.in-Ok.pointer) (SpellsNode bytes) (λ n is. node_made bytes c.bytes_at-2.result c.words_at.result c.in-Ok.pointer c.bytes_at.result n from is) c.from_fields.ensures.found

pub returns-clause-only : goal.returns-clause-only
returns-clause-only c = λ n spells.
    let cut = fields_of c.args.bytes.now n c.told-bytes spells.1 in
    let read = c.in-Ok.ensures.only n.pointer (spells.0.1, c.bytes_at.ensures ∙ cut.pointer_is) in
    let pointer : c.in-Ok.pointer ≡ n.pointer = cc in
    c.from_fields.ensures.only n (record {
      node = spells.0.0;
      head_is = c.bytes_at-2.ensures ∙ cut.head_is;
      words_are = c.words_at.ensures.only (node_words n) (AreWords-node n spells.0) cut.words_are;
      pointer_is = pointer;
    })
