-- Opens that go on without disks on which their claims failed.
use Rattle.std.proofs.Common.{◌≡◌, ◌⊎◌, inl, inr, ◌∙◌, ℕ, zero, suc, ◌<◌, ◌++◌, Bool, false, List, length, [], replicate, refl, sym, ap, subst, arith, append_assoc}
use Rattle.model_disk.specs.Joint.{Disks, JointCall, failed_since}
use Rattle.model_disk.specs.Runs.{Makes, no_write}
use Rattle.model_disk.proofs.FailureLemmas.{kept_through}
use Rattle.std.specs.Prelude.{Contains}
use Rattle.block_store.specs.Opened.{LieOn, MayBeOpened}
use Rattle.block_store.specs.Store.{is_out}
use Rattle.block_store.specs.declared.shape.VdevShape.{VdevShape}
use Rattle.pool_core.specs.State.{CoreState}
use Rattle.pool_core.specs.Slots.{LabelsLieAside}
use Rattle.pool_model.specs.View.{is_tolerable}
use Rattle.pool_slots.specs.Failures.{HasFailedOn}
use Rattle.pool_slots.specs.Slots.{HaveLabels, InUse}
use Rattle.pool_slots.proofs.Failing.{fails_later}
use Rattle.uberblock_ring.specs.declared.uberblock.Uberblock.{Uberblock}
use Rattle.pool_open.specs.Held.{IsLaidOver, IsStoreOver}
use Rattle.pool_open.specs.Opening.{AreClaimedThrough, IsNotOpenedOver, IsOpenedOver}
use Rattle.pool_open.specs.Retried.{AreFailedClaims, AreTooFewLeft, IsFailedClaim, IsNotOpenedAtLast, IsOpenedAtLast, UndiminishedOpensClaimOnce, UnfailingOpensClaimOnce}
use Rattle.pool_open.specs.Words.{vdevs_in}
use Rattle.pool_open.specs.declared.refusal.Refusal.{Refusal}
use Rattle.pool_open.specs.declared.refusal.Refusal.TheVariants.{TooManyMissing}
use Rattle.pool_open.proofs.Outs.{uses, uses_less}
use Rattle.pool_open.proofs.Through.{through_made}

-- ---- the disks that a failed claim leaves may be opened

module _ {old : Disks} {shapes : List VdevShape} {out : List Bool} {rewind : ℕ} {new : Disks} {left : List Bool} where
  starts_left : IsFailedClaim old shapes out rewind new left → new.starts ≡ old.starts
  starts_left it =
      it.settles.flushes.makes.starts ∙ it.through.claims.makes.starts ∙ it.through.before.blocks.only.starts ∙ it.through.before.absent.only.starts

  pub count_left : IsFailedClaim old shapes out rewind new left → length left ≡ length old.starts
  count_left it = it.settles.count ∙ it.count

  stays_left : IsFailedClaim old shapes out rewind new left → (which : ℕ) → InUse left which → InUse out which
  stays_left it which used = it.through.before.absent.stay which (it.settles.stay which used)

  pub may_left : IsFailedClaim old shapes out rewind new left → MayBeOpened old.starts shapes out → MayBeOpened new.starts shapes left
  may_left it may = record {
    some = may.some;
    few = may.few;
    lie = subst (λ (starts : List (List ℕ)). LieOn starts 0 shapes) (sym (starts_left it)) may.lie;
    flags = count_left it ∙ ap length (sym (starts_left it));
  }

  pub labels_left : IsFailedClaim old shapes out rewind new left → HaveLabels old.starts → HaveLabels new.starts
  labels_left it labels = subst (λ (starts : List (List ℕ)). HaveLabels starts) (sym (starts_left it)) labels

  pub laid_left : IsFailedClaim old shapes out rewind new left → IsLaidOver old shapes out → IsLaidOver new shapes left
  laid_left it laid =
      let over : IsStoreOver new shapes left [] (record laid.store { disks = new; out = left }) = record {
        disks_are = refl;
        shapes_are = laid.over.shapes_are;
        out_is = refl;
        since = subst (λ (starts : List (List ℕ)). laid.store.spans.since ≡ replicate (length starts) 0) (sym (starts_left it)) laid.over.since;
        stale_is = laid.over.stale_is;
      } in
      record {
        store = record laid.store { disks = new; out = left };
        over = over;
        lie = subst (λ (starts : List (List ℕ)). LabelsLieAside starts laid.store.spaces) (sym (starts_left it)) laid.lie;
      }

  -- and fewer are in use
  pub fewer_left : IsFailedClaim old shapes out rewind new left → length out ≡ length old.starts → uses left < uses out
  fewer_left it count =
      uses_less out left it.which (count_left it ∙ sym count) (stays_left it) (it.through.before.absent.stay it.which it.used) it.settles.gone

-- ---- where it ends

pub opened_first : (old : Disks) (shapes : List VdevShape) (out : List Bool) (rewind : ℕ) (claimed : Uberblock) (core : CoreState) → IsOpenedOver old shapes out rewind claimed core
    → IsOpenedAtLast old shapes out rewind claimed core
opened_first old shapes out rewind claimed core is = record { claims = 0; mid = old; left = out; failed = (refl, refl); last = is }

pub refused_first : (guids : List ℕ) (old : Disks) (shapes : List VdevShape) (out : List Bool) (rewind : ℕ) (new : Disks) (refusal : Refusal) → IsNotOpenedOver guids old shapes out rewind new refusal
    → IsNotOpenedAtLast guids old shapes out rewind new refusal
refused_first guids old shapes out rewind new refusal is = record { claims = 0; mid = old; left = out; failed = (refl, refl); why = inl is }

-- no other attempt is made where too few disks are left
pub refused_with_few : (guids : List ℕ) (old : Disks) (shapes : List VdevShape) (out : List Bool) (rewind : ℕ) (next : Disks) (fewer : List Bool) → IsFailedClaim old shapes out rewind next fewer
    → is_tolerable (vdevs_in shapes) (is_out fewer) ≡ false → IsNotOpenedAtLast guids old shapes out rewind next TooManyMissing
refused_with_few guids old shapes out rewind next fewer it few = record {
  claims = 1;
  mid = next;
  left = fewer;
  failed = (next, fewer, it, (refl, refl));
  why = inr (record { some = omega arith; cause = refl; intolerable = few; same = refl });
}

-- what comes of the next attempts comes of all
pub opened_next : (old : Disks) (shapes : List VdevShape) (out : List Bool) (rewind : ℕ) (next : Disks) (fewer : List Bool) (claimed : Uberblock) (core : CoreState)
    → IsFailedClaim old shapes out rewind next fewer → IsOpenedAtLast next shapes fewer rewind claimed core → IsOpenedAtLast old shapes out rewind claimed core
opened_next old shapes out rewind next fewer claimed core it is =
    record { claims = suc is.claims; mid = is.mid; left = is.left; failed = (next, fewer, it, is.failed); last = is.last }

pub refused_next : (guids : List ℕ) (old : Disks) (shapes : List VdevShape) (out : List Bool) (rewind : ℕ) (next : Disks) (fewer : List Bool) (new : Disks) (refusal : Refusal)
    → IsFailedClaim old shapes out rewind next fewer → IsNotOpenedAtLast guids next shapes fewer rewind new refusal → IsNotOpenedAtLast guids old shapes out rewind new refusal
refused_next guids old shapes out rewind next fewer new refusal it is = record {
  claims = suc is.claims;
  mid = is.mid;
  left = is.left;
  failed = (next, fewer, it, is.failed);
  why = elim is.why [
    | inl behind ↦ inl behind
    | inr few ↦ inr (record { some = omega arith; cause = few.cause; intolerable = few.intolerable; same = few.same })
  ];
}

-- ---- all disks that were in use still are

stay_through : (claims : ℕ) (old : Disks) (shapes : List VdevShape) (out : List Bool) (rewind : ℕ) (mid : Disks) (left : List Bool) (which : ℕ)
    → AreFailedClaims claims old shapes out rewind mid left → InUse left which → InUse out which
stay_through zero old shapes out rewind mid left which are used = subst (λ (xs : List Bool). InUse xs which) are.1 used
stay_through (suc claims) old shapes out rewind mid left which are used =
    stays_left are.2 which (stay_through claims are.0 shapes are.1 rewind mid left which are.3 used)

abbrev FirstOpens : Disks → List VdevShape → List Bool → ℕ → Uberblock → CoreState → Type 0
FirstOpens old shapes out rewind claimed core = (first : IsOpenedOver old shapes out rewind claimed core) × (first.later ≡ out)

opens_once : (claims : ℕ) (old : Disks) (shapes : List VdevShape) (out : List Bool) (rewind : ℕ) (mid : Disks) (left : List Bool) (claimed : Uberblock) (core : CoreState)
    → AreFailedClaims claims old shapes out rewind mid left → (last : IsOpenedOver mid shapes left rewind claimed core) → last.later ≡ out
    → FirstOpens old shapes out rewind claimed core
opens_once zero old shapes out rewind mid left claimed core are last same =
    let P : Disks × List Bool → Type 0 = λ x. (it : IsOpenedOver x.0 shapes x.1 rewind claimed core) → it.later ≡ out → FirstOpens old shapes out rewind claimed core in
    subst P (λ j. (sym are.0 j, sym are.1 j)) (λ it all. (it, all)) last same
opens_once (suc claims) old shapes out rewind mid left claimed core are last same =
    let it = are.2 in
    let used : InUse last.later it.which = subst (λ (xs : List Bool). InUse xs it.which) (sym same) (it.through.before.absent.stay it.which it.used) in
    absurd (it.settles.gone (stay_through claims are.0 shapes are.1 rewind mid left it.which are.3 (last.calls.before.absent.stay it.which used)))

pub undiminished_opens_claim_once : UndiminishedOpensClaimOnce
undiminished_opens_claim_once old shapes out rewind claimed core is same = opens_once is.claims old shapes out rewind is.mid is.left claimed core is.failed is.last same

-- ---- no call failed

-- calls were made since
record IsFurther (old new : Disks) : Type 0 where
  pub newer : List JointCall
  pub calls : new.calls ≡ newer ++ old.calls

made_further : (may : ℕ → ℕ → List ℕ → Type 0) (old new : Disks) → Makes may old new → IsFurther old new
made_further may old new makes = record { newer = makes.newer; calls = makes.calls }

further_on : (old mid new : Disks) → IsFurther old mid → IsFurther mid new → IsFurther old new
further_on old mid new first second = record {
  newer = second.newer ++ first.newer;
  calls = second.calls ∙ ap (λ (rest : List JointCall). second.newer ++ rest) first.calls ∙ sym (append_assoc second.newer first.newer old.calls);
}

fails_further : (old mid new : Disks) (disk : ℕ) → IsFurther mid new → HasFailedOn old mid disk → HasFailedOn old new disk
fails_further old mid new disk further failed =
    let P : List JointCall → Type 0 = λ them. Contains (failed_since (length old.calls) them) disk in
    subst P (sym further.calls) (kept_through (length old.calls) further.newer mid.calls disk failed)

claimed_further : (out later : List Bool) (claimed : Uberblock) (old new : Disks) → AreClaimedThrough out later claimed old new → IsFurther old new
claimed_further out later claimed old new through =
    further_on old through.read new (made_further no_write old through.read (through_made out later old through.read through.before))
    (made_further _ through.read new through.claims.makes)

claim_further : (old : Disks) (shapes : List VdevShape) (out : List Bool) (rewind : ℕ) (new : Disks) (left : List Bool) → IsFailedClaim old shapes out rewind new left → IsFurther old new
claim_further old shapes out rewind new left it =
    further_on old it.ended new (claimed_further out it.later it.claimed old it.ended it.through) (made_further no_write it.ended new it.settles.flushes.makes)

claims_further : (claims : ℕ) (old : Disks) (shapes : List VdevShape) (out : List Bool) (rewind : ℕ) (mid : Disks) (left : List Bool)
    → AreFailedClaims claims old shapes out rewind mid left → IsFurther old mid
claims_further zero old shapes out rewind mid left are = record { newer = []; calls = ap (λ (d : Disks). d.calls) are.0 }
claims_further (suc claims) old shapes out rewind mid left are =
    further_on old are.0 mid (claim_further old shapes out rewind are.0 are.1 are.2) (claims_further claims are.0 shapes are.1 rewind mid left are.3)

refused_further : (guids : List ℕ) (old : Disks) (shapes : List VdevShape) (out : List Bool) (rewind : ℕ) (new : Disks) (refusal : Refusal) → IsNotOpenedOver guids old shapes out rewind new refusal → IsFurther old new
refused_further guids old shapes out rewind new refusal is = elim is.cause [
  | inl it ↦ made_further no_write old new (through_made out is.later old new it.0)
  | inr it ↦ claimed_further out is.later it.0 old new it.1
]

ended_further : (guids : List ℕ) (claims : ℕ) (mid : Disks) (shapes : List VdevShape) (left : List Bool) (rewind : ℕ) (new : Disks) (refusal : Refusal)
    → IsNotOpenedOver guids mid shapes left rewind new refusal ⊎ AreTooFewLeft claims mid shapes left new refusal → IsFurther mid new
ended_further guids claims mid shapes left rewind new refusal (inl it) = refused_further guids mid shapes left rewind new refusal it
ended_further guids claims mid shapes left rewind new refusal (inr it) = record { newer = []; calls = ap (λ (d : Disks). d.calls) it.same }

-- the call that failed in a claim did since the old disks
claim_failed : (old : Disks) (shapes : List VdevShape) (out : List Bool) (rewind : ℕ) (next : Disks) (fewer : List Bool) (new : Disks)
    → (it : IsFailedClaim old shapes out rewind next fewer) → IsFurther next new → HasFailedOn old new it.which
claim_failed old shapes out rewind next fewer new it further =
    let since = fails_later no_write old it.through.read it.ended (through_made out it.later old it.through.read it.through.before) it.which it.failed in
    fails_further old it.ended new it.which (further_on it.ended next new (made_further no_write it.ended next it.settles.flushes.makes) further) since

refused_once : (guids : List ℕ) (claims : ℕ) (old : Disks) (shapes : List VdevShape) (out : List Bool) (rewind : ℕ) (mid : Disks) (left : List Bool) (new : Disks) (refusal : Refusal)
    → AreFailedClaims claims old shapes out rewind mid left
    → IsNotOpenedOver guids mid shapes left rewind new refusal ⊎ AreTooFewLeft claims mid shapes left new refusal → ((disk : ℕ) → ¬ HasFailedOn old new disk)
    → IsNotOpenedOver guids old shapes out rewind new refusal
refused_once guids zero old shapes out rewind mid left new refusal are (inl it) none =
    let P : Disks × List Bool → Type 0 = λ x. IsNotOpenedOver guids x.0 shapes x.1 rewind new refusal in
    subst P (λ j. (are.0 j, are.1 j)) it
refused_once guids zero old shapes out rewind mid left new refusal are (inr few) none = absurd (omega (arith, few.some))
refused_once guids (suc claims) old shapes out rewind mid left new refusal are why none =
    let rest = further_on are.0 mid new (claims_further claims are.0 shapes are.1 rewind mid left are.3) (ended_further guids (suc claims) mid shapes left rewind new refusal why) in
    absurd (none are.2.which (claim_failed old shapes out rewind are.0 are.1 new are.2 rest))

pub unfailing_opens_claim_once : UnfailingOpensClaimOnce
unfailing_opens_claim_once guids old shapes out rewind new refusal is none = refused_once guids is.claims old shapes out rewind is.mid is.left new refusal is.failed is.why none
