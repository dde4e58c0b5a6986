use Rattle.std.proofs.Common.{List, ℕ, ◌≡◌, ◌∙◌, ◌++◌, [], subst, append-nil}
use Rattle.std.proofs.lemmas.Result.{err_from_is_err_and}
use Rattle.std.specs.Io.KnownBytes.{Appends}
use Rattle.nbd_serve.specs.Options.{IsDealt, dealing}
use Rattle.nbd_serve.proofs.Dealing.{IsUndealt, undealt, unread}
use Rattle.nbd_serve.proofs.haggling.deal_one.Goals as goal

pub returns-in_err-wished : goal.returns-in_err-wished
returns-in_err-wished g c =
    let p = err_from_is_err_and c.from_residual.result c.from_residual.ensures.1 in
    rw (p.1, p.2)
    (unread c.args.export.now c.args.no_zeroes (g.R.Read.remaining c.args.input.now) (g.R.Read.remaining c.read_option.new.input) (g.W.Write.contents c.args.output.now) c.in_err-wished.field-0.0
    (c.in_err-wished.ensures.failed c.args.export.now))

pub returns-in_err-dealt : goal.returns-in_err-dealt
returns-in_err-dealt g c =
    let p = err_from_is_err_and c.from_residual-in_err-dealt.result c.from_residual-in_err-dealt.ensures.1 in
    let wished = c.in_ok-wished.wished in
    let content : c.as_slice-content.result.now ≡ wished.content.items = c.as_slice-content.ensures.value in
    rw (p.1, p.2)
    (undealt c.args.export.now c.args.no_zeroes (g.R.Read.remaining c.args.input.now) (g.R.Read.remaining c.read_option.new.input) (g.W.Write.contents c.args.output.now) wished.option wished.content.items c.in_err-dealt.field-0.0
    c.in_ok-wished.ensures.read.1 (subst (λ (x : List ℕ). IsUndealt c.args.export.now c.args.no_zeroes wished.option x c.in_err-dealt.field-0.0) content c.in_err-dealt.ensures.failed))

pub returns : goal.returns
returns g c =
    let wished = c.in_ok-wished.wished in
    let dealt = c.in_ok-dealt.dealt in
    let content : c.as_slice-content.result.now ≡ wished.content.items = c.as_slice-content.ensures.value in
    let answer : c.as_slice.result.now ++ [] ≡ dealt.answer.items = append-nil c.as_slice.result.now ∙ c.as_slice.ensures.value in record {
      dealing = dealing wished.option wished.content.items dealt;
      is_settled = record {
        short = c.in_ok-wished.ensures.read.0;
        dealt = subst (λ (x : List ℕ). IsDealt c.args.export.now c.args.no_zeroes (dealing wished.option x dealt) dealt.course) content c.in_ok-dealt.ensures.dealt;
      };
      asked = c.in_ok-wished.ensures.read.1;
      told = subst (Appends (g.W.Write.contents c.args.output.now) (g.W.Write.contents c.send.new.output)) answer c.in_ok-send.ensures.sent;
    }
