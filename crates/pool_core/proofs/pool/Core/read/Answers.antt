use Rattle.std.proofs.Common.{rules, ◌≡◌, ◌⊎◌, List, ℕ, Option, Some, None, true, ap, sym, ◌∙◌, subst, arith, length}
use Rattle.std.specs.Prelude.{is_some}
use Rattle.pool_model.specs.declared.step.Step.TheVariants as steps
use Rattle.pool_model.specs.Pools.{volume_at}
use Rattle.pool_model.specs.View.{now_of}
use Rattle.volume_rules.specs.Overlay.{base_of, HasRange, HasRangeAt, StandsThere}
use Rattle.volume_rules.proofs.Laying.{base_stands}
use Rattle.pool_commit.proofs.ReadCauses.{in_range, shape_within}
use Rattle.pool_commit.specs.declared.refusal.Refusal.TheVariants.{NoMemory}
use Rattle.pool_commit.specs.Reading.{IsLostAt}
use Rattle.pool_commit.specs.StateOf.{state_of as commit_state}
use Rattle.pool_core.specs.StateOf.{state_of}
use Rattle.std.proofs.lemmas.List.{with_items_is}
use Rattle.pool_model.specs.declared.step.Reply.TheVariants as replies
use Rattle.pool_core.specs.Steps.{Goes}
use Rattle.pool_core.proofs.Fronting.{refused}
use Rattle.pool_core.proofs.ReadSteps.{shape_there, reads_now, refuses_now}
use Rattle.pool_core.proofs.Telling.{tell_read}
use Rattle.pool_core.proofs.pool.Core.read.Goals as goal

pub returns-in-Some-clause-goes : goal.returns-in-Some-clause-goes
returns-in-Some-clause-goes g c v trusted r tell plans =
    refused (state_of c.args.self.now) v trusted (steps.Read c.args.name.now c.args.offset c.args.len) c.in-Some.cause r
    (sym (c.against_read.ensures (volume_at c.args.name.now (now_of v)) (c.find-found.ensures v r.follows)) ∙ c.in-Some.is)

pub returns-in_default-clause-goes : goal.returns-in_default-clause-goes
returns-in_default-clause-goes g c v trusted r tell plans = absurd (let no : None ≡ Some _ = sym c.in-None.is ∙ c.against_read.ensures None c.in_default.is in cc)

pub read_committed-requires : goal.read_committed-requires
read_committed-requires g c = record {
  few = (in_range c.args.offset c.args.len c.in-Some-found.shape c.against_read.result (λ volume is. c.against_read.ensures volume (c.in-Some-found.is ∙ is)) (ap is_some c.in-None.is)).1;
}

pub read_pending-requires : goal.read_pending-requires
read_pending-requires g c =
    let range = in_range c.args.offset c.args.len c.in-Some-found.shape c.against_read.result (λ volume is. c.against_read.ensures volume (c.in-Some-found.is ∙ is)) (ap is_some c.in-None.is) in
    let count : length c.as_mut_slice.result.now ≡ c.args.len = ap length c.as_mut_slice.ensures.value ∙ c.in-Ok.ensures.len in
    omega (arith, range.0, count)

pub returns-in-Ok-clause-goes : goal.returns-in-Ok-clause-goes
returns-in-Ok-clause-goes g c v trusted r tell plans =
    let found = shape_there c.args.name.now (now_of v) c.in-Some-found.shape (sym c.in-Some-found.is ∙ c.find-found.ensures v r.follows) in
    let buffer : List ℕ = c.read_pending.new.buffer in
    let whole : length buffer ≡ length c.as_mut_slice.result.now = c.read_pending.auto.buffer in
    let fits = in_range c.args.offset c.args.len c.in-Some-found.shape c.against_read.result (λ volume is. c.against_read.ensures volume (c.in-Some-found.is ∙ is)) (ap is_some c.in-None.is) in
    let range : trusted ≡ true → HasRange buffer found.0.bytes c.args.offset = λ e.
    let base : HasRange c.in-Ok.bytes.items (base_of v c.args.name.now found.0) c.args.offset =
    subst (λ (name : Option (List ℕ)). HasRangeAt c.in-Ok.bytes.items name (v.pools v.committed) (length found.0.bytes) c.args.offset) (c.base_name-base.ensures v r.follows)
    (c.in-Ok.ensures.bytes v (length found.0.bytes) r.backs (tell_read (state_of c.args.self.now) (record (state_of c.args.self.now) { commit = commit_state c.read_committed.new.self }) c.in-Ok.ensures.reads (tell e))
    (subst (λ (name : Option (List ℕ)). StandsThere name (v.pools v.committed) (length found.0.bytes)) (sym (c.base_name-base.ensures v r.follows)) (base_stands v c.args.name.now found.0 r.follows.effects found.1))
    (shape_within c.args.offset c.args.len c.in-Some-found.shape found.0 (sym found.2) fits.0)) in
    c.read_pending.ensures.laid v found.0 r.follows found.1 found.2 (subst (λ (xs : List ℕ). HasRange xs (base_of v c.args.name.now found.0) c.args.offset) (sym c.as_mut_slice.ensures.value) base) in
    let count : length buffer ≡ c.args.len = whole ∙ ap length c.as_mut_slice.ensures.value ∙ c.in-Ok.ensures.len in
    subst (λ (xs : List ℕ). Goes (state_of c.args.self.now) v trusted (steps.Read c.args.name.now c.args.offset c.args.len) (replies.Bytes xs) (record (state_of c.args.self.now) { commit = commit_state c.read_committed.new.self }))
    (sym (c.new.ensures ∙ with_items_is c.in-Ok.bytes buffer (whole ∙ c.as_mut_slice.ensures.len)))
    (reads_now (state_of c.args.self.now) (commit_state c.read_committed.new.self) v trusted c.args.name.now c.args.offset c.args.len buffer found.0 r c.in-Ok.ensures.reads
    (sym (c.against_read.ensures (volume_at c.args.name.now (now_of v)) (c.find-found.ensures v r.follows)) ∙ c.in-None.is) found.1 count range)

pub returns-in-Err-clause-goes : goal.returns-in-Err-clause-goes
returns-in-Err-clause-goes g c v trusted r tell plans =
    let found = shape_there c.args.name.now (now_of v) c.in-Some-found.shape (sym c.in-Some-found.is ∙ c.find-found.ensures v r.follows) in
    let fits = in_range c.args.offset c.args.len c.in-Some-found.shape c.against_read.result (λ volume is. c.against_read.ensures volume (c.in-Some-found.is ∙ is)) (ap is_some c.in-None.is) in
    refuses_now (state_of c.args.self.now) (commit_state c.read_committed.new.self) v trusted c.args.name.now c.args.offset c.args.len c.in-Err.refusal c.from.result c.from.ensures r c.in-Err.ensures.reads
    (sym (c.against_read.ensures (volume_at c.args.name.now (now_of v)) (c.find-found.ensures v r.follows)) ∙ c.in-None.is)
    (λ e. tell_read (state_of c.args.self.now) (record (state_of c.args.self.now) { commit = commit_state c.read_committed.new.self }) c.in-Err.ensures.reads (tell e))
    (subst (λ (name : Option (List ℕ)). (c.in-Err.refusal ≡ NoMemory) ⊎ IsLostAt v (commit_state c.args.self.now.commit) (commit_state c.read_committed.new.self) name c.args.offset c.args.len c.in-Err.refusal)
    (c.base_name-base.ensures v r.follows)
    (c.in-Err.ensures.refused v (length found.0.bytes) r.backs
    (subst (λ (name : Option (List ℕ)). StandsThere name (v.pools v.committed) (length found.0.bytes)) (sym (c.base_name-base.ensures v r.follows)) (base_stands v c.args.name.now found.0 r.follows.effects found.1))
    (shape_within c.args.offset c.args.len c.in-Some-found.shape found.0 (sym found.2) fits.0)))

pub returns-then-is_covered-clause-goes : goal.returns-then-is_covered-clause-goes
returns-then-is_covered-clause-goes g c v trusted r tell plans =
    let found = shape_there c.args.name.now (now_of v) c.in-Some-found.shape (sym c.in-Some-found.is ∙ c.find-found.ensures v r.follows) in
    c.read_covered.ensures v trusted found.0 r found.1 found.2
    (sym (c.against_read.ensures (volume_at c.args.name.now (now_of v)) (c.find-found.ensures v r.follows)) ∙ c.in-None.is)
    ((c.is_covered.ensures v r.follows).0 (search rules))

pub read_covered-requires : goal.read_covered-requires
read_covered-requires g c = record {
  within = (in_range c.args.offset c.args.len c.in-Some-found.shape c.against_read.result (λ volume is. c.against_read.ensures volume (c.in-Some-found.is ∙ is)) (ap is_some c.in-None.is)).0;
}
