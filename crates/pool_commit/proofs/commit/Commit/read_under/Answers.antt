use Rattle.std.proofs.Common.{⊎_elim, inl, inr, sym, ap, ◌∙◌, subst, rules, ℕ, List, length}
use Rattle.std.proofs.lemmas.Result.{IfOk-weaker, IfErr-weaker}
use Rattle.block_store.specs.Places.{shapes_of}
use Rattle.block_store.specs.Store.{Store}
use Rattle.pool_commit.specs.HasDisks.{HasDisks}
use Rattle.pool_commit.specs.StateOf.{state_of}
use Rattle.pool_commit.proofs.Backing.{kept_spelled, only_reads}
use Rattle.pool_commit.proofs.ReadCauses.{under_kept, under_cause}
use Rattle.pool_commit.proofs.Labels.{labels_still}
use Rattle.pool_commit.proofs.Suspending.{still}
use Rattle.pool_commit.proofs.Unread.{lost_under}
use Rattle.pool_commit.proofs.commit.Commit.read_under.Goals as goal

pub invariant_of-self-2 : goal.invariant_of-self-2
invariant_of-self-2 g c = record {
  disks = subst (λ (count : ℕ). HasDisks count c.args.self.now.planned) (sym (ap (λ (starts : List (List ℕ)). length starts) c.read_of.ensures.reads.reads.starts)) c.args.self.now.disks;
  suspension =
      c.args.self.now.suspension
      ∙ still c.args.self.now.store c.read_of.new.store (ap (λ (s : Store). s.out) c.read_of.ensures.reads.rest) (ap (λ (s : Store). shapes_of s.spaces) c.read_of.ensures.reads.rest);
  labels = labels_still c.args.self.now.store c.read_of.new.store c.read_of.ensures.reads.reads.starts (ap (λ (s : Store). shapes_of s.spaces) c.read_of.ensures.reads.rest)
      c.args.self.now.labels;
  claim = c.args.self.now.claim;
}

pub returns-clause-reads : goal.returns-clause-reads
returns-clause-reads g c = only_reads (state_of c.args.self.now) c.read_of.new.store c.args.missing.now c.read_of.ensures.reads

pub returns-clause-bytes : goal.returns-clause-bytes
returns-clause-bytes g c = IfOk-weaker c.read_of.result _ _ (λ bytes known v backs.
    let kept = kept_spelled (state_of c.args.self.now) v c.args.group c.in-Some.kept.now backs (search rules) in
    let there = known backs.blocks.stored (v.pools c.args.group) backs.blocks.plans.held kept.1 in
    (under_kept v c.args.group c.args.name.now c.args.offset c.args.len kept.0 ∙ there.0, there.1)) c.read_of.ensures.bytes

pub returns-clause-refused : goal.returns-clause-refused
returns-clause-refused g c = IfErr-weaker c.read_of.result _ _ (λ refusal known v backs.
    let kept = kept_spelled (state_of c.args.self.now) v c.args.group c.in-Some.kept.now backs (search rules) in
    ⊎_elim inl (λ other. inr (⊎_elim
    (λ cause. inl (under_cause v c.args.group c.args.name.now c.args.offset c.args.len refusal kept.0 cause))
    (λ fault. inr (
      under_kept v c.args.group c.args.name.now c.args.offset c.args.len kept.0 ∙ fault.0,
      lost_under v (state_of c.args.self.now) c.read_of.new.store c.args.group c.in-Some.kept.now c.args.name.now c.args.offset c.args.len c.args.missing.now refusal backs
          (search rules) c.read_of.ensures.reads.reads fault.1 fault.2,
    )) other))
    (known backs.blocks.stored (v.pools c.args.group) backs.blocks.plans.held kept.1)) c.read_of.ensures.refused

pub returns-clause-unread : goal.returns-clause-unread
returns-clause-unread g c =
    IfErr-weaker c.read_of.result _ _ (λ refusal known fault. record { under = c.in-Some.kept.now; kept = search rules; unread = known fault }) c.read_of.ensures.unread
