-- Claims rise in each tale.
use Rattle.std.proofs.Common.{◌≡◌, ⊎_elim, ◌<◌, ℕ, List, [], ◌∷◌, ap, subst, ◌∙◌}
use Rattle.uberblock_ring.specs.declared.uberblock.Uberblock.{Uberblock}
use Rattle.pool_slots.specs.Possible.{Possible}
use Rattle.pool_stops.specs.Reopening.{IsPossibleBehind}
use Rattle.pool_lives.specs.Lasting.{ClaimsRise}
use Rattle.pool_lives.specs.Lives.{Exports, FindsNone, HandsBack, Happening, Opens, Runs, StopsOpening, StopsRunning}
use Rattle.pool_lives.specs.Tales.{AreCommitted, IsTale, Known, Resting, Serving, Tells}

-- the claim of the uberblock that was last committed or opened
abbrev pub claim_of : Known → ℕ
claim_of (Serving v last before) = last.claim
claim_of (Resting p pools) = p.last.claim

same_claim : (last : Uberblock) (before us : List Uberblock) (later : Uberblock) (earlier : List Uberblock) → AreCommitted last before us later earlier
    → later.claim ≡ last.claim
same_claim last before [] later earlier are = ap (λ (u : Uberblock). u.claim) are.0
same_claim last before (u ∷ us) later earlier are = same_claim u (last ∷ before) us later earlier are.1 ∙ are.0.0

behind_claim : (p later : Possible) (rewind : ℕ) → IsPossibleBehind p rewind later → later.last.claim ≡ p.last.claim
behind_claim p later rewind is = ⊎_elim (λ same. ap (λ (q : Possible). q.last.claim) same) (λ claim. ap (λ (q : Possible). q.last.claim) claim.2) is

-- what happens raises a claim, or leaves it
abbrev Raises : ℕ → Happening → ℕ → Type 0
Raises claim (Opens rewind u) next = (claim < u.claim) × (next ≡ u.claim)
Raises claim (Runs steps replies) next = next ≡ claim
Raises claim (StopsRunning steps at) next = next ≡ claim
Raises claim HandsBack next = next ≡ claim
Raises claim Exports next = next ≡ claim
Raises claim (StopsOpening rewind) next = next ≡ claim
Raises claim (FindsNone rewind) next = next ≡ claim

raises : (known : Known) (it : Happening) (next : Known) → Tells known it next → Raises (claim_of known) it (claim_of next)
raises (Serving v last before) (Runs steps replies) (Serving w later earlier) tells = same_claim last before tells.commits later earlier tells.committed
raises (Serving v last before) (StopsRunning steps at) (Resting p pools) tells =
    ⊎_elim (λ only. ap (λ (q : Possible). q.last.claim) only) (λ either. ap (λ (q : Possible). q.last.claim) either.3) tells.which
    ∙ same_claim last before tells.takes.commits tells.later tells.earlier tells.takes.committed
raises (Serving v last before) HandsBack (Resting p pools) tells = ap (λ (q : Possible). q.last.claim) tells.0
raises (Serving v last before) Exports (Resting p pools) tells = ap (λ (q : Possible). q.last.claim) tells.1
raises (Resting p pools) (Opens rewind u) (Serving v last before) tells = (tells.0.claim.above, ap (λ (x : Uberblock). x.claim) tells.1)
raises (Resting p pools) (StopsOpening rewind) (Resting later others) tells = behind_claim p later rewind tells.0
raises (Resting p pools) (FindsNone rewind) (Resting later others) tells = ap (λ (q : Possible). q.last.claim) tells.0
raises _ _ _ tells = absurd tells

pub rise : (known : Known) (its : List Happening) (to : Known) → IsTale known its to → ClaimsRise (claim_of known) its
rise known [] to tale = tt
rise known (Opens rewind u ∷ its) to (next, tells, tale) =
    let raised = raises known (Opens rewind u) next tells in
    (raised.0, subst (λ (n : ℕ). ClaimsRise n its) raised.1 (rise next its to tale))
rise known (Runs steps replies ∷ its) to (next, tells, tale) = subst (λ (n : ℕ). ClaimsRise n its) (raises known (Runs steps replies) next tells) (rise next its to tale)
rise known (StopsRunning steps at ∷ its) to (next, tells, tale) =
    subst (λ (n : ℕ). ClaimsRise n its) (raises known (StopsRunning steps at) next tells) (rise next its to tale)
rise known (HandsBack ∷ its) to (next, tells, tale) = subst (λ (n : ℕ). ClaimsRise n its) (raises known HandsBack next tells) (rise next its to tale)
rise known (Exports ∷ its) to (next, tells, tale) = subst (λ (n : ℕ). ClaimsRise n its) (raises known Exports next tells) (rise next its to tale)
rise known (StopsOpening rewind ∷ its) to (next, tells, tale) =
    subst (λ (n : ℕ). ClaimsRise n its) (raises known (StopsOpening rewind) next tells) (rise next its to tale)
rise known (FindsNone rewind ∷ its) to (next, tells, tale) =
    subst (λ (n : ℕ). ClaimsRise n its) (raises known (FindsNone rewind) next tells) (rise next its to tale)
