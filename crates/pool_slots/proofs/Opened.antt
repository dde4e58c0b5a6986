-- A whole open.
use Rattle.std.proofs.Common.{◌≡◌, inl, inr, ◌<◌, ◌≤◌, ◌∙◌, ℕ, Bool, true, List, [], ◌∷◌, length, slice_get, Option, refl, sym, ap, subst, arith}
use Rattle.uberblock_ring.specs.declared.uberblock.Uberblock.{Uberblock}
use Rattle.model_disk.specs.Joint.{JointCall, Disks, bytes_of, content, AreHonestSince}
use Rattle.model_disk.specs.Runs.{EachSince, Makes, no_write}
use Rattle.model_disk.proofs.RunLemmas.{Makes-more, Makes-wider, each_weaker}
use Rattle.uberblock_ring.specs.Uberblock.{Fits}
use Rattle.vdev_label.specs.Room.{relabeled}
use Rattle.vdev_label.specs.declared.label.State.TheVariants.{Active}
use Rattle.pool_slots.specs.Commits.{AreAt, LeadAlways}
use Rattle.pool_slots.specs.Surveys.{Surveyed, IsSurveyed}
use Rattle.pool_slots.specs.Labels.{AreasOn, AreasStand, InAreaTurn, IsAreaWrite, IsClaimWrite, IsLabelShown, area_place}
use Rattle.pool_slots.specs.Marks.{AreMarked, LeavesMarked, SparesMark}
use Rattle.pool_slots.specs.Opens.{AreKnown, AreOn, AreSpared, CanOpen, ClaimGives, ClaimKeeps, ClaimsAt, IsClaimOf, MarksAt, MayClaim, OpenTakes, also_begun}
use Rattle.pool_slots.specs.Possible.{Possible, Trees, LeavesLeading}
use Rattle.pool_slots.specs.Relabels.{AreFirst, AreMadeOf, AreMarkedFirst, IsClaimLabelWrite, IsRelabeled, InAllLabels}
use Rattle.pool_slots.specs.Slots.{AreThere, InUse}
use Rattle.pool_slots.specs.declared.found.Found.{Found}
use Rattle.pool_slots.specs.declared.labeled.Area.{Area}
use Rattle.pool_slots.proofs.ClaimPhases.{also}
use Rattle.pool_slots.proofs.Finding.{honest_before}
use Rattle.pool_slots.proofs.LabelPhases.{each_joined, marked_always}
use Rattle.pool_slots.proofs.LabelPlans.{claim_label_small, label_for_valid, relabeled_valid}
use Rattle.pool_slots.proofs.LabelScans.{label_later}
use Rattle.pool_slots.proofs.OpenSteps.{chosen, claim_always, leads_before, takes_of}
use Rattle.pool_slots.proofs.Phases.{leads_more}
use Rattle.pool_slots.proofs.Reading.{longer}

-- what was chosen, as the claim saw it
seen_by_claim : (trees : Trees) (out : List Bool) (rewind : ℕ) (first disks new : Disks) (p : Possible) (s : Surveyed) (given : List (Option Found)) → CanOpen trees out first p → rewind < 3
    → AreOn out s.found → IsSurveyed out rewind first disks s → Makes (IsClaimWrite disks.starts out s.claimed) disks new → AreHonestSince (length first.calls) new.starts new.calls → given ≡ s.found
    → IsClaimOf p rewind s.claimed × MayClaim trees out disks p s.claimed given
seen_by_claim trees out rewind first disks new p s given can few on surveyed makes honest same =
    let says = surveyed.says can.known (honest_before (length first.calls) (IsClaimWrite disks.starts out s.claimed) disks new makes honest) in
    let it = chosen trees out rewind first disks p s can few surveyed.unwritten on says in
    let P : List (Option Found) → Type 0 = λ xs. MayClaim trees out disks p s.claimed xs in
    (it.claim, subst P (sym same) it.may)

-- ---- at each moment

leads_also : (trees : Trees) (out : List Bool) (disks : Disks) (p : Possible) (u : Uberblock) (areas : List (Option Area)) (calls : List JointCall) → ClaimsAt trees out disks p u areas calls
    → LeavesLeading trees out disks.starts (also_begun u p) calls
leads_also trees out disks p u areas calls (inl before) = λ images left untorn.
    leads_more trees out images _ p.last p.begun (u ∷ p.begun) p.before (also p.last u p.begun) (before.0 images left untorn)
leads_also trees out disks p u areas calls (inr after) = after.0

pub claims_always : (trees : Trees) (out : List Bool) (rewind : ℕ) (first disks new : Disks) (p : Possible) (s : Surveyed) (given : List (Option Found)) (seen : List (Option Area)) → AreThere out first.starts
    → CanOpen trees out first p → rewind < 3 → AreOn out s.found → IsSurveyed out rewind first disks s → Makes (IsClaimWrite disks.starts out s.claimed) disks new
    → AreHonestSince (length first.calls) new.starts new.calls → given ≡ s.found → ClaimKeeps out disks s.claimed given seen new
    → (w : Uberblock) × IsClaimOf p rewind w × LeadAlways trees out first new (also_begun w p)
claims_always trees out rewind first disks new p s given seen there can few on surveyed makes honest same keeps =
    let u = s.claimed in
    let it = seen_by_claim trees out rewind first disks new p s given can few on surveyed makes honest same in
    let always : LeadAlways trees out disks new (also_begun u p) =
    each_weaker (ClaimsAt trees out disks p u seen) (LeavesLeading trees out disks.starts (also_begun u p)) (length disks.calls) new.calls (leads_also trees out disks p u seen) (keeps trees p it.1) in
    (u, it.0, claim_always trees out first disks new p u there can surveyed.unwritten (IsClaimWrite disks.starts out u) makes always)

-- nothing is written yet
pub marks_before : (trees : Trees) (out : List Bool) (rewind : ℕ) (old new : Disks) (p : Possible) (claim : ℕ) → AreThere out old.starts → CanOpen trees out old p
    → AreMarked out old.starts (content old) claim → Makes no_write old new → EachSince (length old.calls) (MarksAt trees out rewind old p claim) new.calls
marks_before trees out rewind old new p claim there can marked makes earlier moment =
    inl (
      leads_before trees out old new p there can makes earlier moment,
      marked_always out old new no_write claim there can.settled makes
          (λ which used.
          let it = marked which used in
          record { number = it.number; label = it.label; shown = it.shown; no_less = it.no_less; off = λ i below at bytes none. absurd none })
          earlier moment,
    )

-- beside each claim label another shows no less than some label did
spared_by : (out : List Bool) (old disks : Disks) (areas : List (Option Area)) (claim : ℕ) → Makes no_write old disks → SparesMark out old areas → AreMarked out old.starts (content old) claim
    → AreSpared out disks areas claim
spared_by out old disks areas claim scan spares marked which area used at =
    let mark = marked which used in
    let it = spares which mark.number area mark.label at mark.shown in
    record { number = it.number; other = it.other; label = it.label; shown = label_later old disks which it.number it.label scan it.shown; no_less = omega (arith, it.no_less, mark.no_less) }

marks_case : (trees : Trees) (out : List Bool) (rewind : ℕ) (old disks : Disks) (p : Possible) (u : Uberblock) (areas : List (Option Area)) (claim : ℕ) (calls : List JointCall) → disks.starts ≡ old.starts
    → IsClaimOf p rewind u → claim < u.claim → AreSpared out disks areas claim → ClaimsAt trees out disks p u areas calls → MarksAt trees out rewind old p claim calls
marks_case trees out rewind old disks p u areas claim calls same is above spared (inl before) =
    let P : List (List ℕ) → Type 0 = λ starts. LeavesLeading trees out starts p calls × LeavesMarked out starts claim calls in
    inl (subst P same (before.0, before.1 claim spared))
marks_case trees out rewind old disks p u areas claim calls same is above spared (inr after) =
    let P : List (List ℕ) → Type 0 = λ starts. LeavesLeading trees out starts (also_begun u p) calls × LeavesMarked out starts u.claim calls in
    let it = subst P same after in
    inr (u, is, above, it.0, it.1)

pub marks_always : (trees : Trees) (out : List Bool) (rewind : ℕ) (first disks new : Disks) (p : Possible) (claim : ℕ) (s : Surveyed) (given : List (Option Found)) (seen : List (Option Area))
    → AreThere out first.starts → CanOpen trees out first p → AreMarked out first.starts (content first) claim → rewind < 3 → AreOn out s.found → IsSurveyed out rewind first disks s
    → Makes (IsClaimWrite disks.starts out s.claimed) disks new → AreHonestSince (length first.calls) new.starts new.calls → given ≡ s.found → seen ≡ s.areas
    → ClaimKeeps out disks s.claimed given seen new → EachSince (length first.calls) (MarksAt trees out rewind first p claim) new.calls
marks_always trees out rewind first disks new p claim s given seen there can marked few on surveyed makes honest same also_same keeps =
    let u = s.claimed in
    let it = seen_by_claim trees out rewind first disks new p s given can few on surveyed makes honest same in
    let scan = surveyed.unwritten in
    let planned = (surveyed.says can.known (honest_before (length first.calls) (IsClaimWrite disks.starts out u) disks new makes honest)).planned in
    let S : List (Option Area) → Type 0 = λ xs. AreSpared out disks xs claim in
    let spared : AreSpared out disks seen claim = subst S (sym also_same) (spared_by out first disks s.areas claim scan planned.spared marked) in
    let mark = marked can.some.0 can.some.1 in
    let above : claim < u.claim = omega (arith, mark.no_less, planned.next.above_labels mark.label (record { which = can.some.0; used = can.some.1; number = mark.number; shown = mark.shown })) in
    each_joined (MarksAt trees out rewind first p claim) (IsClaimWrite disks.starts out u) first disks new makes (marks_before trees out rewind first disks p claim there can marked scan)
    (each_weaker (ClaimsAt trees out disks p u seen) (MarksAt trees out rewind first p claim) (length disks.calls) new.calls
    (λ calls at. marks_case trees out rewind first disks p u seen claim calls scan.starts it.0 above spared at) (keeps trees p it.1))

-- ---- once it is done

pub opened_is : (trees : Trees) (out : List Bool) (rewind : ℕ) (first disks new : Disks) (p : Possible) (s : Surveyed) (given : List (Option Found)) → CanOpen trees out first p → rewind < 3 → AreOn out s.found
    → IsSurveyed out rewind first disks s → Makes (IsClaimWrite disks.starts out s.claimed) disks new → AreHonestSince (length first.calls) new.starts new.calls → given ≡ s.found
    → ClaimGives out disks s.claimed given new → IsClaimOf p rewind s.claimed × AreAt trees out new s.claimed []
opened_is trees out rewind first disks new p s given can few on surveyed makes honest same gives =
    let it = seen_by_claim trees out rewind first disks new p s given can few on surveyed makes honest same in
    (it.0, gives trees p it.1)

pub opened_from : (out : List Bool) (rewind : ℕ) (first disks new : Disks) (s : Surveyed) → AreOn out s.found → IsSurveyed out rewind first disks s → Makes (IsClaimWrite disks.starts out s.claimed) disks new
    → OpenTakes out rewind first s.claimed new
opened_from out rewind first disks new s on surveyed makes known honest =
    takes_of out rewind first s on (surveyed.says known (honest_before (length first.calls) (IsClaimWrite disks.starts out s.claimed) disks new makes honest))

-- ---- what is made of labels

-- the areas that were planned are those of the disks' labels
pub made_from : (out : List Bool) (rewind : ℕ) (first disks new : Disks) (s : Surveyed) → IsSurveyed out rewind first disks s → Makes (IsClaimWrite disks.starts out s.claimed) disks new → AreKnown out first
    → AreHonestSince (length first.calls) new.starts new.calls → AreMadeOf out first s.claimed s.areas
made_from out rewind first disks new s surveyed makes known honest =
    (surveyed.says known (honest_before (length first.calls) (IsClaimWrite disks.starts out s.claimed) disks new makes honest)).planned.made

-- so each disk's labels are
pub relabeled_by : (out : List Bool) (old new : Disks) (u : Uberblock) (areas : List (Option Area)) → AreMadeOf out old u areas → AreasOn out areas → Fits u → new.starts ≡ old.starts
    → AreasStand (content new) old.starts (InAllLabels areas) → (which : ℕ) → InUse out which → IsRelabeled out old u new which
relabeled_by out old new u areas made on fits starts stand which used =
    let area = (on which).0 used in
    let mine = made which area.0 area.1 in
    let l = relabeled mine.label u.claim u.group Active in
    record {
      it = mine.it;
      read = mine.read;
      label = mine.label;
      source = mine.source;
      each = λ number is.
          let P : List (List ℕ) → Type 0 = λ them. IsLabelShown (length (bytes_of them which)) (content new which) number l in
          subst P (sym starts) (record {
            is_label = is;
            valid = relabeled_valid mine.label u (label_for_valid out old u which mine.it mine.label mine.source) fits;
            bytes = λ i below. stand which number area.0.bytes.items is (record { area = area.0; has = area.1; same = refl }) i below ∙ ap (λ (them : List ℕ). slice_get them i) mine.spells;
          });
    }

-- a claim label is written where its disk's labels say
first_write : (starts : List (List ℕ)) (out : List Bool) (old : Disks) (u : Uberblock) (areas : List (Option Area)) → AreMadeOf out old u areas → old.starts ≡ starts → (which at : ℕ) (bytes : List ℕ)
    → IsAreaWrite starts (InAreaTurn areas true) which at bytes → IsClaimLabelWrite old u which at bytes
first_write starts out old u areas made same which at bytes write =
    let mine = made which write.picked.area write.picked.has in
    let number : write.number ≡ mine.it.first = write.picked.turn ∙ mine.first in
    let P : List (List ℕ) → Type 0 = λ them. at ≡ area_place (length (bytes_of them which)) write.number in
    let Q : ℕ → Type 0 = λ n. at ≡ area_place (length (bytes_of old.starts which)) n in
    record { it = mine.it; read = mine.read; place = subst Q number (subst P (sym same) write.place) }

-- at the moment at which the claim labels stand
pub marked_by : (out : List Bool) (old disks new : Disks) (u : Uberblock) (areas : List (Option Area)) → Makes no_write old disks → AreMadeOf out old u areas → AreasOn out areas → Fits u
    → AreFirst out disks areas new → AreMarkedFirst out old u new
marked_by out old disks new u areas scan made on fits first =
    let M : (ℕ → ℕ → List ℕ → Type 0) → Type 0 = λ may. Makes may old first.now in
    let wrote = Makes-wider (IsAreaWrite disks.starts (InAreaTurn areas true)) (IsClaimLabelWrite old u) disks first.now
    (first_write disks.starts out old u areas made (sym scan.starts)) first.alone in
    let long : length old.calls ≤ length first.now.calls = omega (arith, longer old disks no_write scan, longer disks first.now (IsClaimLabelWrite old u) wrote) in
    record {
      now = first.now;
      moment = record { newer = first.moment.newer; is = first.moment.is; since = inr long };
      alone = Makes-more (IsClaimLabelWrite old u) old disks first.now (Makes-wider no_write (IsClaimLabelWrite old u) old disks (λ which at bytes none. absurd none) scan) wrote;
      settled = first.settled;
      marked = λ which used.
          let area = (on which).0 used in
          let mine = made which area.0 area.1 in
          let valid = relabeled_valid mine.label u (label_for_valid out old u which mine.it mine.label mine.source) fits in
          let small : mine.it.first < 4 = claim_label_small (length (bytes_of old.starts which)) (content old which) u.config_digest mine.it mine.read in
          let turn : InAreaTurn areas true which mine.it.first area.0.bytes.items = record { area = area.0; has = area.1; turn = sym mine.first; same = refl } in
          let P : List (List ℕ) → Type 0 = λ them. IsLabelShown (length (bytes_of them which)) (content first.now which) mine.it.first (relabeled mine.label u.claim u.group Active) in
          record {
            it = mine.it;
            read = mine.read;
            label = relabeled mine.label u.claim u.group Active;
            shown = subst P (sym first.alone.starts) (record {
              is_label = small;
              valid = valid;
              bytes = λ i below. first.stand which mine.it.first area.0.bytes.items small turn i below ∙ ap (λ (them : List ℕ). slice_get them i) mine.spells;
            });
            claim = refl;
          };
    }
