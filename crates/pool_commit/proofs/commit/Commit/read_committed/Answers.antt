use Rattle.std.proofs.Common.{◌≡◌, ⊎_elim, inl, inr, sym, ap, ◌∙◌, subst, rules, ℕ, List, [], length, Option, None}
use Rattle.std.specs.Prelude.{replicate}
use Rattle.std.specs.Option.{option_copied}
use Rattle.std.proofs.lemmas.Result.{IfErr-weaker}
use Rattle.volume_rules.specs.Overlay.{HasRangeAt, StandsThere}
use Rattle.raidz_io.proofs.Written.{IfOk-both}
use Rattle.pool_commit.specs.declared.kept.KeptGroup.{KeptGroup}
use Rattle.pool_commit.specs.Backs.{SpellsGroup}
use Rattle.block_store.specs.Places.{shapes_of}
use Rattle.block_store.specs.Store.{Store}
use Rattle.pool_commit.specs.HasDisks.{HasDisks}
use Rattle.pool_commit.specs.Reading.{IsUnreadAt, IsUnreadOf}
use Rattle.pool_commit.specs.State.{group_at}
use Rattle.pool_commit.specs.StateOf.{state_of}
use Rattle.pool_commit.proofs.Backing.{last_at, last_spelled, only_reads}
use Rattle.pool_commit.proofs.ReadCauses.{no_read_cause}
use Rattle.pool_commit.proofs.ReadingAt.{bytes_there, lost_at, no_cause_there, zeros_there}
use Rattle.pool_commit.proofs.Labels.{labels_still}
use Rattle.pool_commit.proofs.Suspending.{still}
use Rattle.pool_commit.proofs.Unread.{lost_under}
use Rattle.pool_commit.proofs.commit.Commit.read_committed.Goals as goal

pub invariant_of-self : goal.invariant_of-self
invariant_of-self g c = record {
  disks = subst (λ (count : ℕ). HasDisks count c.args.self.now.planned) (sym (ap (λ (starts : List (List ℕ)). length starts) c.read_of.ensures.reads.reads.starts)) c.args.self.now.disks;
  suspension =
      c.args.self.now.suspension
      ∙ still c.args.self.now.store c.read_of.new.store (ap (λ (s : Store). s.out) c.read_of.ensures.reads.rest) (ap (λ (s : Store). shapes_of s.spaces) c.read_of.ensures.reads.rest);
  labels = labels_still c.args.self.now.store c.read_of.new.store c.read_of.ensures.reads.reads.starts (ap (λ (s : Store). shapes_of s.spaces) c.read_of.ensures.reads.rest)
      c.args.self.now.labels;
  claim = c.args.self.now.claim;
}

pub returns-in_default-clause-bytes : goal.returns-in_default-clause-bytes
returns-in_default-clause-bytes g c = λ v size backs tell there within.
    let items : c.in_ok-vec.field-0.items ≡ replicate {A = ℕ} c.args.len 0 = search rules in
    subst (λ (name : Option (List ℕ)). HasRangeAt c.in_ok-vec.field-0.items name (v.pools v.committed) size c.args.offset) (sym (ap option_copied c.in_default.is))
    (subst (λ (bytes : List ℕ). HasRangeAt bytes None (v.pools v.committed) size c.args.offset) (sym items) (zeros_there (v.pools v.committed) size c.args.offset c.args.len within))

pub returns-clause-reads : goal.returns-clause-reads
returns-clause-reads g c = only_reads (state_of c.args.self.now) c.read_of.new.store [] c.read_of.ensures.reads

pub returns-clause-bytes : goal.returns-clause-bytes
returns-clause-bytes g c = IfOk-both c.read_of.result _ _ _ (λ bytes count known v size backs tell stands within.
    let there = known backs.blocks.stored (v.pools v.committed) backs.blocks.plans.held
    (subst (λ (kept : KeptGroup). SpellsGroup backs.blocks.stored c.committed-committed.result kept (v.pools v.committed)) (sym c.last-last.ensures)
    (subst (λ (group : ℕ). SpellsGroup backs.blocks.stored group c.args.self.now.kept.last (v.pools v.committed)) (sym (c.committed-committed.ensures ∙ backs.committed))
    (last_spelled (state_of c.args.self.now) v backs))) in
    subst (λ (name : Option (List ℕ)). HasRangeAt bytes.items name (v.pools v.committed) size c.args.offset) (sym (ap option_copied c.in-Some.is))
    (bytes_there (v.pools v.committed) c.in-Some.name.now size c.args.offset c.args.len bytes.items count (there.1 tell))) c.read_of.ensures.len c.read_of.ensures.bytes

pub returns-clause-refused : goal.returns-clause-refused
returns-clause-refused g c = IfErr-weaker c.read_of.result _ _ (λ refusal known v size backs stands within.
    let group = c.committed-committed.ensures ∙ backs.committed in
    let none = no_cause_there (v.pools v.committed) c.in-Some.name.now size c.args.offset c.args.len
    (subst (λ (name : Option (List ℕ)). StandsThere name (v.pools v.committed) size) (ap option_copied c.in-Some.is) stands) within c.requires.few in
    ⊎_elim inl (λ other. inr (⊎_elim
    (λ cause. absurd (no_read_cause _ refusal none cause))
    (λ fault. lost_at v (state_of c.args.self.now) (record (state_of c.args.self.now) { store = c.read_of.new.store }) (option_copied c.args.name) c.in-Some.name.now c.args.offset c.args.len refusal
    (ap option_copied c.in-Some.is)
    (lost_under v (state_of c.args.self.now) c.read_of.new.store v.committed c.args.self.now.kept.last c.in-Some.name.now c.args.offset c.args.len [] refusal backs
    (ap (group_at c.args.self.now.kept) (sym backs.committed) ∙ last_at c.args.self.now.kept) c.read_of.ensures.reads.reads
    (subst (λ (group : ℕ). IsUnreadOf c.args.self.now.store c.read_of.new.store c.args.self.now.kept.last group c.in-Some.name.now c.args.offset c.args.len [] refusal) group
    (subst (λ (kept : KeptGroup). IsUnreadOf c.args.self.now.store c.read_of.new.store kept c.committed-committed.result c.in-Some.name.now c.args.offset c.args.len [] refusal)
    c.last-last.ensures fault.1)) fault.2)) other))
    (known backs.blocks.stored (v.pools v.committed) backs.blocks.plans.held
    (subst (λ (kept : KeptGroup). SpellsGroup backs.blocks.stored c.committed-committed.result kept (v.pools v.committed)) (sym c.last-last.ensures)
    (subst (λ (group : ℕ). SpellsGroup backs.blocks.stored group c.args.self.now.kept.last (v.pools v.committed)) (sym group)
    (last_spelled (state_of c.args.self.now) v backs))))) c.read_of.ensures.refused

pub returns-clause-unread : goal.returns-clause-unread
returns-clause-unread g c = IfErr-weaker c.read_of.result _ _ (λ refusal known fault.
    let after = record (state_of c.args.self.now) { store = c.read_of.new.store } in
    subst (λ (name : Option (List ℕ)). IsUnreadAt (state_of c.args.self.now) after c.args.self.now.kept.committed name c.args.offset c.args.len refusal) (sym (ap option_copied c.in-Some.is))
    (record {
      under = c.args.self.now.kept.last;
      kept = last_at c.args.self.now.kept;
      unread = subst (λ (group : ℕ). IsUnreadOf c.args.self.now.store c.read_of.new.store c.args.self.now.kept.last group c.in-Some.name.now c.args.offset c.args.len [] refusal) c.committed-committed.ensures
          (subst (λ (kept : KeptGroup). IsUnreadOf c.args.self.now.store c.read_of.new.store kept c.committed-committed.result c.in-Some.name.now c.args.offset c.args.len [] refusal)
          c.last-last.ensures (known fault));
    })) c.read_of.ensures.unread
