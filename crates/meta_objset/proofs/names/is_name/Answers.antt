use Rattle.std.proofs.Common.{◌≡◌, ℕ, List, length, sym, subst, arith}
use Rattle.std.specs.Prelude.{replicate}
use Rattle.meta_objset.proofs.Naming.{named, first_zero_is, zeros_behind}
use Rattle.meta_objset.proofs.names.is_name.Goals as goal

pub returns-then-end-gt0 : goal.returns-then-end-gt0
returns-then-end-gt0 c =
    let padded = c.args.padded.now in
    let end = c.in-Some.end in (
      λ test. named padded end c.told-padded c.if-end-gt0.true (omega (arith, c.in-Some.ensures.0, c.told-padded)) c.in-Some.ensures.2
          (subst (λ (x : List ℕ). x ≡ replicate (length x) 0) c.split_at.ensures.back (c.is_zero.ensures.zeros.0 test)),
      λ is. c.is_zero.ensures.zeros.1
          (subst (λ (x : List ℕ). x ≡ replicate (length x) 0) (sym c.split_at.ensures.back)
          (zeros_behind padded is.0 end is.1 (first_zero_is padded is.0 end is.1 c.in-Some.ensures.1 c.in-Some.ensures.2))),
    )
