use Rattle.std.proofs.Common.{◌≡◌, length, drop, sym, ap, ◌∙◌, arith}
use Rattle.std.specs.Prelude.{replicate}
use Rattle.std.proofs.lemmas.Result.{IfOk-weaker}
use Rattle.block_pointer.specs.declared.pointer.BlockPtr.TheVariants as pointers
use Rattle.uberblock_ring.specs.Uberblock.{Fits, IsRead, head_words}
use Rattle.uberblock_ring.specs.Slot.{front_bytes}
use Rattle.uberblock_ring.proofs.Fronts.{fields_of, IsReadFrom, front_made, AreWords-head, no_bytes}
use Rattle.uberblock_ring.proofs.slot.read_front.Goals as goal

pub returns-then-not-is_zero-clause-only : goal.returns-then-not-is_zero-clause-only
returns-then-not-is_zero-clause-only c = λ u fits e.
    let cut = fields_of c.args.front.now u fits e in
    let len : length c.split_at.result.1.now ≡ 776 = omega (arith, c.split_at.ensures.back_len, c.requires) in
    let test = c.is_zero.ensures.zeros.1 (c.split_at.ensures.back ∙ cut.zeros_are ∙ ap (λ n. replicate n 0) (sym len)) in
    absurd cc

pub returns-in_default-clause-only : goal.returns-in_default-clause-only
returns-in_default-clause-only c = λ u fits e.
    let cut = fields_of c.args.front.now u fits e in
    let read = c.in_default.ensures.only (pointers.Block u.root) (fits.root_fits, c.bytes_at.ensures ∙ cut.root_is) in
    absurd cc

pub returns-clause-found : goal.returns-clause-found
returns-clause-found c =
    let front = c.args.front.now in
    let len : length c.split_at.result.1.now ≡ 776 = omega (arith, c.split_at.ensures.back_len, c.requires) in
    let zeros : drop 208 front ≡ no_bytes = sym c.split_at.ensures.back ∙ c.is_zero.ensures.zeros.0 c.if-not-is_zero.false ∙ ap (λ n. replicate n 0) len in
    let from : IsReadFrom front c.words_at-head.result c.in-Ok.root c.bytes_at.result c.word_at-claim.result c.bytes_at-2.result = record {
      head_is = c.words_at-head.ensures.found;
      words = c.words_at-head.ensures.words;
      root_at = c.bytes_at.ensures;
      root_spelled = c.in-Ok.ensures.found;
      claim_is = c.word_at-claim.ensures.found;
      digest_is = c.bytes_at-2.ensures;
      zeros = zeros;
    } in
    IfOk-weaker c.from_fields.result (IsRead c.words_at-head.result c.in-Ok.root c.word_at-claim.result c.bytes_at-2.result) (λ u. Fits u × (front ≡ front_bytes u))
    (λ u is. front_made front c.words_at-head.result c.in-Ok.root c.bytes_at.result c.word_at-claim.result c.bytes_at-2.result u c.requires from is) c.from_fields.ensures.found

pub returns-clause-only : goal.returns-clause-only
returns-clause-only c = λ u fits e.
    let cut = fields_of c.args.front.now u fits e in
    let read = c.in-Ok.ensures.only (pointers.Block u.root) (fits.root_fits, c.bytes_at.ensures ∙ cut.root_is) in
    let root : c.in-Ok.root ≡ pointers.Block u.root = cc in
    c.from_fields.ensures.only u (record {
      group = fits.group;
      claim_fits = fits.claim;
      root_fits = fits.root;
      head_is = c.words_at-head.ensures.only (head_words u) (AreWords-head u fits) cut.head_is;
      root_is = root;
      claim_is = c.word_at-claim.ensures.only u.claim (omega (arith, fits.claim.1)) cut.claim_is;
      digest_is = c.bytes_at-2.ensures ∙ cut.digest_is;
    })
