-- A claim of what a survey took.
use Rattle.std.proofs.Common.{◌≡◌, inl, inr, ◌∙◌, ℕ, Bool, List, length, Option, ap, subst}
use Rattle.model_disk.specs.Joint.{Disks, content}
use Rattle.model_disk.specs.Runs.{Makes, no_write}
use Rattle.model_disk.proofs.RunLemmas.{Makes-more, Makes-wider}
use Rattle.uberblock_ring.specs.declared.uberblock.Uberblock.{Uberblock}
use Rattle.pool_slots.specs.Configs.{ClaimConfigures, OpenConfigures}
use Rattle.pool_slots.specs.Labels.{AreasStand, IsClaimWrite}
use Rattle.pool_slots.specs.Opens.{ClaimGives, ClaimKeeps, OpenGives, OpenKeeps, OpenMarks}
use Rattle.pool_slots.specs.Relabels.{AreFirst, AreMadeOf, IsRewrite, OpenMarksFirst, OpenRelabels, OpenRewrites, InAllLabels, of_areas}
use Rattle.pool_slots.specs.Surveys.{Surveyed, IsWholeOf, OfSurveyed}
use Rattle.pool_slots.specs.declared.found.Found.{Found}
use Rattle.pool_slots.specs.declared.labeled.Area.{Area}
use Rattle.pool_slots.proofs.ConfigLabels.{open_configures}
use Rattle.pool_slots.proofs.Opened.{claims_always, made_from, marked_by, marks_always, opened_from, opened_is, relabeled_by}
use Rattle.pool_slots.proofs.Phases.{settled_later}
use Rattle.pool_slots.proofs.Used.{are_there}

-- the survey's uberblock is claimed
made_as : (out : List Bool) (old new : Disks) (s : Surveyed) (u : Uberblock) → u ≡ s.claimed → Makes (IsClaimWrite old.starts out u) old new → Makes (IsClaimWrite old.starts out s.claimed) old new
made_as out old new s u is makes =
    let P : Uberblock → Type 0 = λ w. Makes (IsClaimWrite old.starts out w) old new in
    subst P is makes

kept_as : (out : List Bool) (old new : Disks) (s : Surveyed) (u : Uberblock) (given : List (Option Found)) (seen : List (Option Area)) → u ≡ s.claimed → ClaimKeeps out old u given seen new
    → ClaimKeeps out old s.claimed given seen new
kept_as out old new s u given seen is keeps =
    let P : Uberblock → Type 0 = λ w. ClaimKeeps out old w given seen new in
    subst P is keeps

-- ---- at each moment

pub claim_keeps : (out : List Bool) (old new : Disks) (s : Surveyed) (u : Uberblock) (given : List (Option Found)) (seen : List (Option Area)) → length out ≡ length old.starts → IsWholeOf out old.starts s
    → u ≡ s.claimed → given ≡ s.found → Makes (IsClaimWrite old.starts out u) old new → ClaimKeeps out old u given seen new
    → OfSurveyed out s old (λ rewind first. OpenKeeps out rewind first new)
claim_keeps out old new s u given seen count whole is same makes keeps rewind first few surveyed trees p can honest =
    let there = are_there out first.starts (count ∙ ap length surveyed.unwritten.starts) in
    inr (claims_always trees out rewind first old new p s given seen there can few whole.found_on surveyed (made_as out old new s u is makes) honest same (kept_as out old new s u given seen is keeps))

pub claim_marks : (out : List Bool) (old new : Disks) (s : Surveyed) (u : Uberblock) (given : List (Option Found)) (seen : List (Option Area)) → length out ≡ length old.starts → IsWholeOf out old.starts s
    → u ≡ s.claimed → given ≡ s.found → seen ≡ s.areas → Makes (IsClaimWrite old.starts out u) old new → ClaimKeeps out old u given seen new
    → OfSurveyed out s old (λ rewind first. OpenMarks out rewind first new)
claim_marks out old new s u given seen count whole is same also makes keeps rewind first few surveyed trees p claim can marked honest =
    let there = are_there out first.starts (count ∙ ap length surveyed.unwritten.starts) in
    marks_always trees out rewind first old new p claim s given seen there can marked few whole.found_on surveyed (made_as out old new s u is makes) honest same also
    (kept_as out old new s u given seen is keeps)

pub claim_configures : (out : List Bool) (old new : Disks) (s : Surveyed) (u : Uberblock) (seen : List (Option Area)) → length out ≡ length old.starts → IsWholeOf out old.starts s
    → u ≡ s.claimed → seen ≡ s.areas → Makes (IsClaimWrite old.starts out u) old new → ClaimConfigures out old seen new
    → OfSurveyed out s old (λ rewind first. OpenConfigures out rewind first new)
claim_configures out old new s u seen count whole is also makes configures rewind first few surveyed known settled four honest =
    let there = are_there out first.starts (count ∙ ap length surveyed.unwritten.starts) in
    let makes' = made_as out old new s u is makes in
    inr (
      s.claimed,
      opened_from out rewind first old new s whole.found_on surveyed makes' known honest,
      open_configures out first old new s.claimed s.areas seen there settled (λ which used. settled_later first old which surveyed.unwritten (settled which used)) four surveyed.unwritten
          (made_from out rewind first old new s surveyed makes' known honest) whole.fits makes' also configures,
    )

-- the areas are made of labels of their disks
rewrites_of : (out : List Bool) (first old new : Disks) (u : Uberblock) (areas : List (Option Area)) → Makes no_write first old → AreMadeOf out first u areas
    → Makes (of_areas old.starts out u areas) old new → Makes (IsRewrite out first u) first new
rewrites_of out first old new u areas scan made makes =
    let M : List (List ℕ) → Type 0 = λ them. Makes (of_areas them out u areas) old new in
    Makes-more (IsRewrite out first u) first old new
    (Makes-wider no_write (IsRewrite out first u) first old (λ which at bytes none. absurd none) scan)
    (Makes-wider (of_areas first.starts out u areas) (IsRewrite out first u) old new
    (λ which at bytes write. elim write [
      | inl slot ↦ inl slot
      | inr it ↦
          let mine = made which it.picked.area it.picked.has in
          inr (record {
            number = it.number;
            is_label = it.is_label;
            place = it.place;
            it = mine.it;
            read = mine.read;
            label = mine.label;
            source = mine.source;
            spells = it.picked.same ∙ mine.spells;
          })
    ])
    (subst M scan.starts makes))

pub claim_rewrites : (out : List Bool) (old new : Disks) (s : Surveyed) (u : Uberblock) (seen : List (Option Area)) → IsWholeOf out old.starts s → u ≡ s.claimed → seen ≡ s.areas
    → Makes (IsClaimWrite old.starts out u) old new → Makes (of_areas old.starts out u seen) old new → OfSurveyed out s old (λ rewind first. OpenRewrites out first new)
claim_rewrites out old new s u seen whole is also makes alone rewind first few surveyed known honest =
    let P : Uberblock → List (Option Area) → Type 0 = λ w xs. Makes (of_areas old.starts out w xs) old new in
    let alone' = subst (P s.claimed) also (subst (λ (w : Uberblock). P w seen) is alone) in
    inr (s.claimed, whole.fits, rewrites_of out first old new s.claimed s.areas surveyed.unwritten (made_from out rewind first old new s surveyed (made_as out old new s u is makes) known honest) alone')

-- ---- once it is done

pub claim_gives : (out : List Bool) (old new : Disks) (s : Surveyed) (u : Uberblock) (given : List (Option Found)) → IsWholeOf out old.starts s → u ≡ s.claimed → given ≡ s.found
    → Makes (IsClaimWrite old.starts out u) old new → ClaimGives out old u given new → OfSurveyed out s old (λ rewind first. OpenGives out rewind first s.claimed new)
claim_gives out old new s u given whole is same makes gives rewind first few surveyed trees p can honest =
    let P : Uberblock → Type 0 = λ w. ClaimGives out old w given new in
    opened_is trees out rewind first old new p s given can few whole.found_on surveyed (made_as out old new s u is makes) honest same (subst P is gives)

pub claim_relabels : (out : List Bool) (old new : Disks) (s : Surveyed) (u : Uberblock) (seen : List (Option Area)) → IsWholeOf out old.starts s → u ≡ s.claimed → seen ≡ s.areas
    → Makes (IsClaimWrite old.starts out u) old new → AreasStand (content new) old.starts (InAllLabels seen) → OfSurveyed out s old (λ rewind first. OpenRelabels out first s.claimed new)
claim_relabels out old new s u seen whole is also makes stand rewind first few surveyed known honest =
    let P : List (Option Area) → Type 0 = λ xs. AreasStand (content new) old.starts (InAllLabels xs) in
    let Q : List (List ℕ) → Type 0 = λ starts. AreasStand (content new) starts (InAllLabels s.areas) in
    let makes' = made_as out old new s u is makes in
    let same = surveyed.unwritten.starts in
    relabeled_by out first new s.claimed s.areas (made_from out rewind first old new s surveyed makes' known honest) whole.areas_on whole.fits (makes'.starts ∙ same) (subst Q same (subst P also stand))

pub claim_marks_first : (out : List Bool) (old new : Disks) (s : Surveyed) (u : Uberblock) (seen : List (Option Area)) → IsWholeOf out old.starts s → u ≡ s.claimed → seen ≡ s.areas
    → Makes (IsClaimWrite old.starts out u) old new → AreFirst out old seen new → OfSurveyed out s old (λ rewind first. OpenMarksFirst out first s.claimed new)
claim_marks_first out old new s u seen whole is also makes first_are rewind first few surveyed known honest =
    let P : List (Option Area) → Type 0 = λ xs. AreFirst out old xs new in
    let made = made_from out rewind first old new s surveyed (made_as out old new s u is makes) known honest in
    marked_by out first old new s.claimed s.areas surveyed.unwritten made whole.areas_on whole.fits (subst P also first_are)
