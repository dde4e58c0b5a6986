-- Reads as steps of the machine.
use Rattle.std.proofs.Common.{rules, ◌≡◌, ◌⊎◌, ℕ, ◌+◌, Bool, true, false, true≢false, List, [], length, Option, Some, None, refl, sym, ap, ◌∙◌, subst, inl, inr}
use Rattle.std.specs.Option.{option_map}
use Rattle.std.specs.Prelude.{slice_range}
use Rattle.pool_model.specs.declared.refusal.Refusal.TheVariants as causes
use Rattle.pool_model.specs.declared.refusal.Refusal.{Refusal as Cause}
use Rattle.pool_model.specs.declared.step.Step.{Step}
use Rattle.pool_model.specs.declared.step.Reply.{Reply}
use Rattle.pool_model.specs.declared.step.Step.TheVariants.{Read, ReadUnder}
use Rattle.pool_model.specs.declared.step.Reply.TheVariants.{Bytes, Refused}
use Rattle.pool_model.specs.declared.volume.PlainVolume.{PlainVolume}
use Rattle.pool_model.specs.Pools.{PlainPool, volume_at}
use Rattle.pool_model.specs.View.{View, Loss, now_of}
use Rattle.pool_model.specs.Refusals.{refusal_of}
use Rattle.pool_model.specs.Machine.{AreBytesOf, StepOf}
use Rattle.volume_rules.specs.declared.shape.VolumeShape.{VolumeShape}
use Rattle.volume_rules.specs.Overlay.{HasRange}
use Rattle.volume_rules.specs.Shapes.{shape_of, shape_at}
use Rattle.volume_rules.specs.Sources.{base_name}
use Rattle.pool_commit.specs.declared.refusal.Refusal.{Refusal}
use Rattle.pool_commit.specs.declared.refusal.Refusal.TheVariants.{NoMemory, NoSuchName, OutOfRange, GroupGone}
use Rattle.pool_commit.specs.Reading.{PoolAnswersTell, HasNoCause, IsUnderCause, IsLostAt, IsLostUnder, OnlyReadsPool}
use Rattle.pool_commit.specs.State.{State}
use Rattle.pool_commit.specs.Causes.{cause_of}
use Rattle.pool_core.specs.Represents.{Represents}
use Rattle.pool_core.specs.State.{CoreState}
use Rattle.pool_core.specs.Steps.{LosesBlock, Goes}
use Rattle.pool_core.specs.Reading.{IsLostAnswer, LosesAt}
use Rattle.pool_core.proofs.Fronting.{IsFrontStep, front_commits_none, front_shows_none, front_calls}
use Rattle.pool_core.proofs.Phases.{GivesLost, given_by_reads, reads_are_given, reads_quiet, under_given, spares_outs}

-- ---- under a kept group

pub under_cause : (v : View) (group : ℕ) (name : List ℕ) (offset len : ℕ) (refusal : Refusal) → IsUnderCause v group name offset len refusal
    → refusal_of v (ReadUnder group name offset len) ≡ Some (cause_of refusal)
under_cause v group name offset len NoSuchName is = is
under_cause v group name offset len OutOfRange is = is
under_cause v group name offset len GroupGone is = is
under_cause v group name offset len refusal is = absurd is

abbrev pub IsUnderRefused : View → ℕ → List ℕ → ℕ → ℕ → List ℕ → State → State → Cause → Type 0
IsUnderRefused v group name offset len missing old new cause = (cause ≡ causes.NoMemory) ⊎ ((refusal_of v (ReadUnder group name offset len) ≡ Some cause)
    ⊎ ((refusal_of v (ReadUnder group name offset len) ≡ None) × IsLostAnswer v old new group name offset len missing cause))

pub under_refused : (v : View) (group : ℕ) (name : List ℕ) (offset len : ℕ) (missing : List ℕ) (old new : State) (refusal : Refusal) (named : Cause) → named ≡ cause_of refusal
    → (refusal ≡ NoMemory) ⊎ (IsUnderCause v group name offset len refusal ⊎ (HasNoCause v group name offset len × IsLostUnder v old new group name offset len missing refusal))
    → IsUnderRefused v group name offset len missing old new named
under_refused v group name offset len missing old new refusal named is why = elim why [
  | inl memory ↦ inl (is ∙ ap cause_of memory)
  | inr other ↦ elim other [
    | inl cause ↦ inr (inl (under_cause v group name offset len refusal cause ∙ ap Some (sym is)))
    | inr lost ↦ inr (inr (lost.0, record { refusal = refusal; answered = is; lost = lost.1 }))
  ]
]

-- a read, and what was given to it
read_goes : (s : CoreState) (commit : State) (v : View) (lost : Option Loss) (trusted : Bool) (step : Step) (reply : Reply) → Represents s v → OnlyReadsPool s.commit commit [] → IsFrontStep step
    → ((loss : Loss) → lost ≡ Some loss → LosesBlock s v step (record s { commit = commit }) loss)
    → StepOf v (given_by_reads s (record s { commit = commit }) lost trusted false) step reply v → Goes s v trusted step reply (record s { commit = commit })
read_goes s commit v lost trusted step reply r reads is_front loses is_step = record {
  given = given_by_reads s (record s { commit = commit }) lost trusted false;
  trust = λ e. e;
  after = v;
  link = record {
    is_given = reads_are_given s v step (record s { commit = commit }) lost trusted false reads.reads loses (λ e. absurd (true≢false (sym e)));
    is_step = is_step;
    represents = record { follows = r.follows; backs = reads.backs v r.backs };
    flushed = front_commits_none v (given_by_reads s (record s { commit = commit }) lost trusted false) step reply v (record s { commit = commit }) is_front is_step;
    shown = front_shows_none v (given_by_reads s (record s { commit = commit }) lost trusted false) step reply s v (record s { commit = commit }) is_front is_step;
    untouched = spares_outs s commit s.intake v [] r reads.untouched;
    only = front_calls step s (given_by_reads s (record s { commit = commit }) lost trusted false) (record s { commit = commit }) is_front;
  };
}

none_lost : (P : Loss → Type 0) (loss : Loss) → None ≡ Some loss → P loss
none_lost P loss e = absurd (cc)

pub reads_under : (s : CoreState) (commit : State) (v : View) (trusted : Bool) (group : ℕ) (name : List ℕ) (offset len : ℕ) (bytes : List ℕ) → Represents s v → OnlyReadsPool s.commit commit []
    → refusal_of v (ReadUnder group name offset len) ≡ None → (trusted ≡ true → AreBytesOf (v.pools group) name offset len bytes)
    → Goes s v trusted (ReadUnder group name offset len) (Bytes bytes) (record s { commit = commit })
reads_under s commit v trusted group name offset len bytes r reads none are =
    read_goes s commit v None trusted (ReadUnder group name offset len) (Bytes bytes) r reads tt (none_lost _)
    (inr (inr (record { none = none; answered = (are, refl); calls = reads_quiet s (record s { commit = commit }) None trusted false })))

pub refuses_under : (s : CoreState) (commit : State) (v : View) (trusted : Bool) (group : ℕ) (name : List ℕ) (offset len : ℕ) (cause : Cause) → Represents s v → OnlyReadsPool s.commit commit []
    → (trusted ≡ true → PoolAnswersTell s.commit commit []) → IsUnderRefused v group name offset len [] s.commit commit cause
    → Goes s v trusted (ReadUnder group name offset len) (Refused cause) (record s { commit = commit })
refuses_under s commit v trusted group name offset len cause r reads tell why =
    let new : CoreState = record s { commit = commit } in
    let step : Step = ReadUnder group name offset len in
    let quiet = reads_quiet s new None trusted false in elim why [
      | inl memory ↦ read_goes s commit v None trusted step (Refused cause) r reads tt (none_lost _) (inr (inl (record { may = refl; answer = ap Refused memory; leaves = refl; calls = quiet })))
      | inr other ↦ elim other [
        | inl first ↦ read_goes s commit v None trusted step (Refused cause) r reads tt (none_lost _)
            (inl (record { cause = cause; first = first; answer = refl; unchanged = refl; quiet = quiet; calls = quiet }))
        | inr lost ↦ let gives = under_given v s new trusted group name offset len lost.1.refusal lost.1.lost tell in
            subst (λ (c : Cause). Goes s v trusted step (Refused c) new) (sym lost.1.answered)
            (read_goes s commit v gives.lost trusted step (Refused (cause_of lost.1.refusal)) r reads tt gives.loses
            (inr (inr (record { none = lost.0; answered = (gives.unreadable, refl); calls = reads_quiet s new gives.lost trusted false }))))
      ]
    ]

-- ---- of NOW

-- a volume of that shape
pub shape_there : (name : List ℕ) (pool : PlainPool) (shape : VolumeShape) → Some shape ≡ shape_at name pool → (volume : PlainVolume) × (volume_at name pool ≡ Some volume) × (shape_of volume ≡ shape)
shape_there name pool shape is = go (volume_at name pool) refl is
  where
    go : (o : Option PlainVolume) → volume_at name pool ≡ o → Some shape ≡ option_map shape_of (volume_at name pool) → (volume : PlainVolume) × (volume_at name pool ≡ Some volume) × (shape_of volume ≡ shape)
    go (Some volume) e is = (volume, e, (let both : Some shape ≡ Some (shape_of volume) = is ∙ ap (option_map shape_of) e in let same : shape_of volume ≡ shape = cc in same))
    go None e is = absurd (let both : Some shape ≡ None = is ∙ ap (option_map shape_of) e in cc)

pub reads_now : (s : CoreState) (commit : State) (v : View) (trusted : Bool) (name : List ℕ) (offset len : ℕ) (bytes : List ℕ) (volume : PlainVolume) → Represents s v → OnlyReadsPool s.commit commit []
    → refusal_of v (Read name offset len) ≡ None → volume_at name (now_of v) ≡ Some volume → length bytes ≡ len → (trusted ≡ true → HasRange bytes volume.bytes offset)
    → Goes s v trusted (Read name offset len) (Bytes bytes) (record s { commit = commit })
reads_now s commit v trusted name offset len bytes volume r reads none at count range =
    read_goes s commit v None trusted (Read name offset len) (Bytes bytes) r reads tt (none_lost _) (inr (inr (record {
      none = none;
      answered = ((λ e. (volume, at, range e ∙ ap (λ n. slice_range volume.bytes offset (offset + n)) count)), refl);
      calls = reads_quiet s (record s { commit = commit }) None trusted false;
    })))

-- what could not be read are bytes that the committed pool has, where there are such
lost_given : (v : View) (old new : CoreState) (trusted : Bool) (base : Option (List ℕ)) (offset len : ℕ) (refusal : Refusal) → IsLostAt v old.commit new.commit base offset len refusal
    → (trusted ≡ true → PoolAnswersTell old.commit new.commit []) → GivesLost v old new trusted (cause_of refusal) (LosesAt v old.commit new.commit base offset len)
lost_given v old new trusted None offset len refusal lost tell = absurd lost
lost_given v old new trusted (Some name) offset len refusal lost tell = under_given v old new trusted v.committed name offset len refusal lost tell

pub refuses_now : (s : CoreState) (commit : State) (v : View) (trusted : Bool) (name : List ℕ) (offset len : ℕ) (refusal : Refusal) (named : Cause) → named ≡ cause_of refusal → Represents s v
    → OnlyReadsPool s.commit commit [] → refusal_of v (Read name offset len) ≡ None → (trusted ≡ true → PoolAnswersTell s.commit commit [])
    → (refusal ≡ NoMemory) ⊎ IsLostAt v s.commit commit (base_name v name) offset len refusal
    → Goes s v trusted (Read name offset len) (Refused named) (record s { commit = commit })
refuses_now s commit v trusted name offset len refusal named is r reads none tell why =
    let new : CoreState = record s { commit = commit } in
    let step : Step = Read name offset len in elim why [
      | inl memory ↦ read_goes s commit v None trusted step (Refused named) r reads tt (none_lost _)
          (inr (inl (record { may = refl; answer = ap Refused (is ∙ ap cause_of memory); leaves = refl; calls = reads_quiet s new None trusted false })))
      | inr lost ↦ let gives = lost_given v s new trusted (base_name v name) offset len refusal lost tell in
          subst (λ (c : Cause). Goes s v trusted step (Refused c) new) (sym is)
          (read_goes s commit v gives.lost trusted step (Refused (cause_of refusal)) r reads tt gives.loses
          (inr (inr (record { none = none; answered = (gives.unreadable, refl); calls = reads_quiet s new gives.lost trusted false }))))
    ]

-- no call was made
pub reads_nothing : (s : State) → OnlyReadsPool s s []
reads_nothing s = record { rest = refl; reads = search rules; untouched = search rules; backs = λ v backs. backs }

pub lacks_memory : (s : CoreState) (v : View) (trusted : Bool) (name : List ℕ) (offset len : ℕ) → Represents s v → Goes s v trusted (Read name offset len) (Refused causes.NoMemory) s
lacks_memory s v trusted name offset len r =
    read_goes s s.commit v None trusted (Read name offset len) (Refused causes.NoMemory) r (reads_nothing s.commit) tt (none_lost _)
    (inr (inl (record { may = refl; answer = refl; leaves = refl; calls = reads_quiet s s None trusted false })))
