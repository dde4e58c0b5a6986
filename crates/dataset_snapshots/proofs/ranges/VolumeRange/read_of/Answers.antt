use Rattle.std.proofs.Common.{inl, inr, refl, ⊎_elim}
use Rattle.std.proofs.lemmas.Result.{IfErr-weaker}
use Rattle.block_store.proofs.Steps.{reads_none}
use Rattle.raidz_io.proofs.Found.{false_not_true}
use Rattle.dataset_snapshots.proofs.FoundRanges.{is_past, range_within}
use Rattle.dataset_snapshots.proofs.ranges.VolumeRange.read_of.Goals as goal

pub returns-then-not-is_within-clause-reads : goal.returns-then-not-is_within-clause-reads
returns-then-not-is_within-clause-reads g c = reads_none c.args.store.now c.args.missing.now

pub returns-then-not-is_within-clause-refused : goal.returns-then-not-is_within-clause-refused
returns-then-not-is_within-clause-refused g c = inr (inl (refl, is_past c.is_within.result _ _ c.is_within.ensures.1 c.if-not-is_within.true))

pub returns-then-not-is_within-clause-known : goal.returns-then-not-is_within-clause-known
returns-then-not-is_within-clause-known g c = λ stored array held spells tell within.
    absurd (false_not_true c.is_within.result c.if-not-is_within.true (c.is_within.ensures.1 within))

pub read-requires-clause-within : goal.read-requires-clause-within
read-requires-clause-within g c = range_within c.args.dataset.now _ c.requires.volume (c.is_within.ensures.0 c.if-not-is_within.false)

pub returns-clause-refused : goal.returns-clause-refused
returns-clause-refused g c =
    IfErr-weaker c.read.result _ _ (λ refusal why. ⊎_elim (λ memory. inl memory) (λ unread. inr (inr unread)) why) c.read.ensures.refused

pub returns-clause-known : goal.returns-clause-known
returns-clause-known g c = IfErr-weaker c.read.result _ _ (λ refusal known stored array held spells tell within. known stored array held spells tell) c.read.ensures.known
