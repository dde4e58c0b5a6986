use Rattle.std.proofs.Common.{length, sym, subst, arith}
use Rattle.meta_objset.specs.Names.{IsNamed}
use Rattle.meta_objset.proofs.Naming.{first_zero_is, padded_len, taken_named, zero_behind}
use Rattle.meta_objset.proofs.names.unpadded.Goals as goal

pub returns-in_default : goal.returns-in_default
returns-in_default c =
    let padded = c.args.padded.now in
    let name = c.requires.0 in
    absurd (c.in_default.ensures (length name) (omega (arith, padded_len padded name c.requires.1, c.requires.1.few)) (zero_behind padded name c.requires.1))

pub returns : goal.returns
returns c =
    let padded = c.args.padded.now in
    let name = c.requires.0 in
    let end = c.in-Some.end in
    subst (IsNamed padded) (sym c.split_at.ensures.front)
    (taken_named padded name end c.requires.1 (first_zero_is padded name end c.requires.1 c.in-Some.ensures.1 c.in-Some.ensures.2))
