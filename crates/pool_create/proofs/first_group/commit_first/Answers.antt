use Rattle.std.proofs.Common.{inl, inr, sym, ap, ◌∙◌}
use Rattle.pool_open.specs.CoreStateOf.{state_of}
use Rattle.pool_create.specs.FirstGroup.{cause_in}
use Rattle.pool_create.proofs.FirstGroup.{done_of, tested_of}
use Rattle.pool_create.proofs.first_group.commit_first.Goals as goal

pub returns-then-not-is_done-clause-refused : goal.returns-then-not-is_done-clause-refused
returns-then-not-is_done-clause-refused g c =
    let new = state_of c.run_first.new.core in
    let replies = c.in_ok-replies.replies.items in
    inr (record {
      replies = replies;
      ran = c.in_ok-replies.ensures.ran;
      uncommitted = inl (λ done.
          let yes = c.is_done.ensures.1 (tested_of c.args.pool.now new replies c.deref.result.now c.in_ok-shapes.shapes.items c.deref-2.result.now c.deref-3.result.now
          c.deref.ensures.value c.deref-2.ensures.value c.deref-3.ensures.value c.in_ok-shapes.ensures done) in
          let fails = c.if-not-is_done.true in cc);
      whole = c.is_whole-whole.result;
      is_whole = c.is_whole-whole.ensures;
      cause_is = c.cause_of.ensures ∙ ap (λ them. cause_in them c.is_whole-whole.result) c.deref-then-not-is_done.ensures.value;
    })

pub returns-in-Some-clause-committed : goal.returns-in-Some-clause-committed
returns-in-Some-clause-committed g c =
    let new = state_of c.run_first.new.core in
    let replies = c.in_ok-replies.replies.items in
    record {
      replies = replies;
      ran = c.in_ok-replies.ensures.ran;
      done = done_of c.args.pool.now new replies c.deref.result.now c.in_ok-shapes.shapes.items c.deref-2.result.now c.deref-3.result.now
          c.deref.ensures.value c.deref-2.ensures.value c.deref-3.ensures.value c.in_ok-shapes.ensures (c.is_done.ensures.0 c.if-not-is_done.false);
      root_is = sym c.last_root.ensures ∙ c.in-Some.is;
    }

pub returns-clause-refused : goal.returns-clause-refused
returns-clause-refused g c =
    inr (record {
      replies = c.in_ok-replies.replies.items;
      ran = c.in_ok-replies.ensures.ran;
      uncommitted = inr (sym c.last_root.ensures ∙ c.in-None.is);
      whole = c.is_whole-whole.result;
      is_whole = c.is_whole-whole.ensures;
      cause_is = c.cause_of-in-None.ensures ∙ ap (λ them. cause_in them c.is_whole-whole.result) c.deref-in-None.ensures.value;
    })
