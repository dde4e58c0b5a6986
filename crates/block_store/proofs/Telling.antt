-- Answers that tell what was written, and those of their parts.
use Rattle.std.proofs.Common.{ℕ, ◌≡◌, inl, inr, List, ◌++◌, length, Contains, sym, subst}
use Rattle.std.proofs.lemmas.List.Elements.{Contains-append_left, Contains-append_right, Contains-append_cases}
use Rattle.model_disk.specs.Joint.{Disks, failed_since}
use Rattle.raidz_io.specs.Choices.{DigestsTell}
use Rattle.raidz_io.specs.Reads.{IsHonestSince, GivesTruly, absent_since}
use Rattle.raidz_io.proofs.Given.{parts_give_truly, parts_tell}
use Rattle.block_store.specs.Places.{shapes_of}
use Rattle.block_store.specs.Reading.{AreTolerable}
use Rattle.block_store.specs.Steps.{OnlyReadsBlocks, OnlyReadsAndPlans, AnswersTell, StaysLost}
use Rattle.block_store.specs.Store.{Store, missed, outs, outs_from, stale_from}
use Rattle.block_store.proofs.Steps.{true_before, true_after, few_before, few_after, fewer_absent, tolerable_shapes, steps_read}

-- ---- where answers tell, those of each part of the reads do

parts : (old mid new : Store) (missing : List ℕ) → OnlyReadsAndPlans old mid missing → OnlyReadsAndPlans mid new missing → AnswersTell old new missing
    → AnswersTell old mid missing × AnswersTell mid new missing
parts old mid new missing first rest tell = elim tell [
  | inl honest ↦ (inl (true_before old mid new rest.reads honest), inl (true_after old mid new first.reads honest))
  | inr lie ↦ (
    inr (record {
      liars = lie.liars;
      few = few_before old mid new (missing ++ lie.liars) rest.reads lie.few;
      truly = λ disk there. (parts_give_truly old.disks mid.disks new.disks first.reads rest.reads disk (lie.truly disk there)).0;
      told = (parts_tell old.disks mid.disks new.disks first.reads rest.reads lie.told).0;
    }),
    inr (record {
      liars = lie.liars;
      few = few_after old mid new (missing ++ lie.liars) first.reads first.out first.stale first.shapes lie.few;
      truly = λ disk there. (parts_give_truly old.disks mid.disks new.disks first.reads rest.reads disk (lie.truly disk there)).1;
      told = (parts_tell old.disks mid.disks new.disks first.reads rest.reads lie.told).1;
    }),
  )
]

module _ (old mid new : Store) (missing : List ℕ) (first : OnlyReadsAndPlans old mid missing) (rest : OnlyReadsAndPlans mid new missing) where
  pub tell_before : AnswersTell old new missing → AnswersTell old mid missing
  tell_before tell = (parts old mid new missing first rest tell).0

  pub tell_after : AnswersTell old new missing → AnswersTell mid new missing
  tell_after tell = (parts old mid new missing first rest tell).1

module _ (old mid new : Store) (missing : List ℕ) (first : OnlyReadsBlocks old mid missing) (rest : OnlyReadsBlocks mid new missing) where
  pub read_before : AnswersTell old new missing → AnswersTell old mid missing
  read_before tell = tell_before old mid new missing (steps_read old mid missing first) (steps_read mid new missing rest) tell

  pub read_after : AnswersTell old new missing → AnswersTell mid new missing
  read_after tell = tell_after old mid new missing (steps_read old mid missing first) (steps_read mid new missing rest) tell

-- ---- where they tell with more that is lost, they tell with less

less_lost : (less more : Store) (from to : Disks) (missing : List ℕ) → StaysLost less more
    → ((birth : ℕ) → AreTolerable more.spaces (absent_since from to ((outs more ++ missing) ++ missed more birth)))
    → (birth : ℕ) → AreTolerable less.spaces (absent_since from to ((outs less ++ missing) ++ missed less birth))
less_lost less more from to missing lost few birth =
    let failed : List ℕ = failed_since (length from.calls) to.calls in
    let fewer : List ℕ = (outs less ++ missing) ++ missed less birth in
    let all : List ℕ = (outs more ++ missing) ++ missed more birth in
    tolerable_shapes more.spaces less.spaces (fewer ++ failed) (sym lost.shapes)
    (fewer_absent more.spaces (all ++ failed) (fewer ++ failed)
    (λ disk held. elim (Contains-append_cases fewer failed disk held) [
      | inl away ↦ Contains-append_left all failed disk (elim (Contains-append_cases (outs less ++ missing) (missed less birth) disk away) [
        | inl there ↦ Contains-append_left (outs more ++ missing) (missed more birth) disk (elim (Contains-append_cases (outs less) missing disk there) [
          | inl out ↦ Contains-append_left (outs more) missing disk (lost.out disk out)
          | inr named ↦ Contains-append_right (outs more) missing disk named
        ])
        | inr stale ↦ Contains-append_right (outs more ++ missing) (missed more birth) disk (lost.stale birth disk stale)
      ])
      | inr fails ↦ Contains-append_right all failed disk fails
    ]) (few birth))

-- by the same reads, between other states of the store
pub tell_between : (old new less later : Store) (missing : List ℕ) → less.disks ≡ old.disks → later.disks ≡ new.disks → StaysLost less old
    → AnswersTell old new missing → AnswersTell less later missing
tell_between old new less later missing from to lost tell = elim tell [
  | inl honest ↦ inl (both (λ first last. IsHonestSince first last) honest)
  | inr lie ↦ inr (record {
    liars = lie.liars;
    few = less_lost less old less.disks later.disks (missing ++ lie.liars) lost (λ birth.
        both (λ first last. AreTolerable old.spaces (absent_since first last ((outs old ++ (missing ++ lie.liars)) ++ missed old birth))) (lie.few birth));
    truly = λ disk there. both (λ first last. GivesTruly first last disk) (lie.truly disk there);
    told = both (λ first last. DigestsTell first last) lie.told;
  })
]
  where
    both : (P : Disks → Disks → Type 0) → P old.disks new.disks → P less.disks later.disks
    both P p = subst (λ (last : Disks). P less.disks last) (sym to) (subst (λ (first : Disks). P first new.disks) (sym from) p)

-- where nothing more is lost
pub lost_same : (old new : Store) → shapes_of new.spaces ≡ shapes_of old.spaces → new.out ≡ old.out → new.spans.stale ≡ old.spans.stale → StaysLost old new
lost_same old new shapes out stale = record {
  shapes = shapes;
  out = λ disk held. subst (λ flags. Contains (outs_from 0 flags) disk) (sym out) held;
  stale = λ birth disk held. subst (λ spans. Contains (stale_from 0 spans birth) disk) (sym stale) held;
}
