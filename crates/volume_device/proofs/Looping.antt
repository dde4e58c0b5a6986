-- A write, piece by piece.
use Rattle.std.proofs.Common.{◌≡◌, ◌⊎◌, inl, inr, ℕ, ◌+◌, ◌≤◌, List, [], ◌++◌, length, take, drop, None, refl, sym, ap, ◌∙◌, subst, arith}
use Rattle.std.proofs.Math.Seq.{take-add}
use Rattle.std.proofs.lemmas.List.{append-nil, length-drop, length-take-le, take-append-drop, take_all}
use Rattle.pool_model.specs.declared.refusal.Refusal.{Refusal}
use Rattle.pool_model.specs.declared.step.Step.{Step}
use Rattle.pool_model.specs.declared.step.Step.TheVariants as step
use Rattle.pool_steps.specs.declared.steps.PoolSteps.{Ghosts}
use Rattle.volume_device.specs.Causes.{IsCaused, flushing, writing}
use Rattle.volume_device.specs.Contents.{Contents, FitsIn, IsCutOff, IsOverwritten, IsSame, IsSettled, IsWritten, IsWrittenOn}
use Rattle.volume_device.specs.Devices.{Leads}
use Rattle.volume_device.specs.declared.device.Device.{Device}
use Rattle.volume_device.proofs.Flushing.{CameFurther, PartsTell, caused_in, caused_then}
use Rattle.volume_device.proofs.Pieces.{overwritten_none}

abbrev pub FitAsOne : Type 0
FitAsOne = (name : List ℕ) (offset : ℕ) (first second : List ℕ) (c d e : Contents) → IsWritten name offset first c d → IsWritten name (offset + length first) second d e → ((first ++ second) ≡ []) ⊎ FitsIn c.now name offset (length (first ++ second))

abbrev pub AreAsOne : Type 0
AreAsOne = (name : List ℕ) (offset : ℕ) (first second : List ℕ) (c d e : Contents) → IsWritten name offset first c d → IsWritten name (offset + length first) second d e → IsOverwritten name offset (first ++ second) c.now e.now

is_written : (name : List ℕ) (offset : ℕ) (bytes : List ℕ) (c d : Contents) → IsWrittenOn name offset bytes c d → IsWritten name offset bytes c d
is_written name offset bytes c d on = record { fits = on.fits; now = on.now; safe = inl on.safe }

nothing_written : (name : List ℕ) (offset : ℕ) (c : Contents) → IsWrittenOn name offset [] c c
nothing_written name offset c = record { fits = inl refl; now = overwritten_none name offset c.now; safe = refl }

both_written : FitAsOne → AreAsOne → (name : List ℕ) (offset : ℕ) (first second : List ℕ) (c d e : Contents) → IsWrittenOn name offset first c d → IsWrittenOn name (offset + length first) second d e → IsWrittenOn name offset (first ++ second) c e
both_written fit one name offset first second c d e before after =
    let a = is_written name offset first c d before in
    let b = is_written name (offset + length first) second d e after in record {
      fits = fit name offset first second c d e a b;
      now = one name offset first second c d e a b;
      safe = after.safe ∙ before.safe;
    }

-- the bytes up to a piece, and the piece
with_piece : FitAsOne → AreAsOne → (name : List ℕ) (offset done len : ℕ) (bytes : List ℕ) (c d e : Contents) → done + len ≤ length bytes → IsWrittenOn name offset (take done bytes) c d
    → IsWrittenOn name (offset + done) (take len (drop done bytes)) d e → IsWrittenOn name offset (take (done + len) bytes) c e
with_piece fit one name offset done len bytes c d e within before after =
    let front = length-take-le done bytes (omega arith) in
    subst (λ (xs : List ℕ). IsWrittenOn name offset xs c e) (sym (take-add done len bytes))
    (both_written fit one name offset (take done bytes) (take len (drop done bytes)) c d e before
    (subst (λ (n : ℕ). IsWrittenOn name (offset + n) (take len (drop done bytes)) d e) (sym front) after))

-- ---- steps

-- the steps of a piece are steps of the whole
wider : (name : List ℕ) (offset at : ℕ) (bytes piece : List ℕ) → offset ≤ at → at + length piece ≤ offset + length bytes → (s : Step) → writing name at piece s → writing name offset bytes s
wider name offset at bytes piece low high (step.Hold writer) is = is
wider name offset at bytes piece low high (step.Write w) is = (is.0, is.1, (let le = is.2 in omega arith), (let le = is.3 in omega arith))
wider name offset at bytes piece low high (step.Release writer) is = is
wider name offset at bytes piece low high step.Close is = is
wider name offset at bytes piece low high step.Quiesce is = is
wider name offset at bytes piece low high (step.Plan timestamp) is = is
wider name offset at bytes piece low high step.Device is = is
wider name offset at bytes piece low high s is = absurd is

flushes : (name : List ℕ) (offset : ℕ) (bytes : List ℕ) (s : Step) → flushing s → writing name offset bytes s
flushes name offset bytes (step.Hold writer) is = absurd is
flushes name offset bytes (step.Write w) is = absurd is
flushes name offset bytes s is = is

-- ---- devices

module _ {P : Type 0} (g : Ghosts P) where
  -- so far the bytes are written
  pub record HasWritten (old : Device P) (offset : ℕ) (bytes : List ℕ) (done : ℕ) (new : Device P) : Type 0 where
    pub follows : g.came_from old.core new.core
    pub name : new.name ≡ old.name
    pub goes_on : new.refused ≡ None
    pub within : done ≤ length bytes
    pub leads : Leads g old new (IsWrittenOn old.name offset (take done bytes))

  pub begins : ((core : P) → g.came_from core core) → (old : Device P) (offset : ℕ) (bytes : List ℕ) → old.refused ≡ None → HasWritten old offset bytes 0 old
  begins itself old offset bytes goes_on = record {
    follows = itself old.core;
    name = refl;
    goes_on = goes_on;
    within = omega arith;
    leads = λ c shows tell. (c, shows, nothing_written old.name offset c);
  }

  pub more : CameFurther g → PartsTell g → FitAsOne → AreAsOne → (old mid new : Device P) (offset : ℕ) (bytes : List ℕ) (done len at : ℕ) (piece : List ℕ) → HasWritten old offset bytes done mid → at ≡ offset + done → piece ≡ take len (drop done bytes)
      → done + len ≤ length bytes → g.came_from mid.core new.core → new.name ≡ mid.name → new.refused ≡ None → Leads g mid new (IsWrittenOn mid.name at piece) → HasWritten old offset bytes (done + len) new
  more further parts fit one old mid new offset bytes done len at piece so_far place is within follows name goes_on leads = record {
    follows = further old.core mid.core new.core so_far.follows follows;
    name = name ∙ so_far.name;
    goes_on = goes_on;
    within = within;
    leads = λ c shows tell.
        let both = parts old.core mid.core new.core so_far.follows follows tell in
        let first = so_far.leads c shows both.0 in
        let second = leads first.0 first.1 both.1 in (
          second.0,
          second.1,
          with_piece fit one old.name offset done len bytes c first.0 second.0 within first.2
              (subst (λ (n : List ℕ). IsWrittenOn n (offset + done) (take len (drop done bytes)) first.0 second.0) so_far.name
              (subst (λ (xs : List ℕ). IsWrittenOn mid.name (offset + done) xs first.0 second.0) is (subst (λ (n : ℕ). IsWrittenOn mid.name n piece first.0 second.0) place second.2))),
        );
  }

  pub ends : (old : Device P) (offset : ℕ) (bytes : List ℕ) (done : ℕ) (new : Device P) → length bytes ≤ done → HasWritten old offset bytes done new → Leads g old new (IsWrittenOn old.name offset bytes)
  ends old offset bytes done new all so_far = subst (λ (xs : List ℕ). Leads g old new (IsWrittenOn old.name offset xs)) (take_all done bytes all) so_far.leads

  -- a front is written
  pub cut_off : (old : Device P) (offset : ℕ) (bytes : List ℕ) (done : ℕ) (new : Device P) → HasWritten old offset bytes done new → Leads g old new (IsCutOff old.name offset bytes)
  cut_off old offset bytes done new so_far c shows tell =
      let it = so_far.leads c shows tell in (
        it.0,
        it.1,
        record {
          front = take done bytes;
          back = drop done bytes;
          parts = sym (take-append-drop done bytes);
          fits = it.2.fits;
          now = it.2.now;
          safe = it.2.safe;
        },
      )

  pub then_cut_off : PartsTell g → (old : Device P) (offset : ℕ) (bytes : List ℕ) (done : ℕ) (mid new : Device P) → HasWritten old offset bytes done mid → g.came_from mid.core new.core → Leads g mid new IsSame → Leads g old new (IsCutOff old.name offset bytes)
  then_cut_off parts old offset bytes done mid new so_far follows same c shows tell =
      let both = parts old.core mid.core new.core so_far.follows follows tell in
      let first = cut_off old offset bytes done mid so_far c shows both.0 in
      let second = same first.0 first.1 both.1 in
      (second.0, second.1, subst (IsCutOff old.name offset bytes c) (sym second.2) first.2)

  pub caused_at : CameFurther g → (old : Device P) (offset : ℕ) (bytes : List ℕ) (done : ℕ) (mid new : Device P) (len at : ℕ) (piece : List ℕ) (cause : Refusal) → old.refused ≡ None → HasWritten old offset bytes done mid → at ≡ offset + done
      → piece ≡ take len (drop done bytes) → done + len ≤ length bytes → IsCaused g (writing mid.name at piece) mid new cause → IsCaused g (writing old.name offset bytes) old new cause
  caused_at further old offset bytes done mid new len at piece cause goes_on so_far place is within caused =
      let size : length piece ≡ len = ap length is ∙ length-take-le len (drop done bytes) (omega (arith, length-drop done bytes)) in
      caused_then g further (writing old.name offset bytes) old mid new cause so_far.follows (so_far.goes_on ∙ sym goes_on)
      (caused_in g (writing mid.name at piece) (writing old.name offset bytes) mid new cause
      (λ s kind. wider old.name offset at bytes piece (omega arith) (omega arith) s (subst (λ (n : List ℕ). writing n at piece s) so_far.name kind)) caused)

  -- ---- behind the last piece

  settled_as : (name : List ℕ) (offset : ℕ) (bytes : List ℕ) (c d e : Contents) → IsWrittenOn name offset bytes c d → IsSettled d e → IsWritten name offset bytes c e
  settled_as name offset bytes c d e on (inl same) = subst (IsWritten name offset bytes c) (sym same) (is_written name offset bytes c d on)
  settled_as name offset bytes c d e on (inr flushed) = record {
    fits = on.fits;
    now = subst (IsOverwritten name offset bytes c.now) (sym flushed.now) on.now;
    safe = inr (flushed.safe ∙ sym flushed.now);
  }

  pub then_settled : PartsTell g → (old mid new : Device P) (offset : ℕ) (bytes : List ℕ) → g.came_from old.core mid.core → g.came_from mid.core new.core → Leads g old mid (IsWrittenOn old.name offset bytes) → Leads g mid new IsSettled
      → Leads g old new (IsWritten old.name offset bytes)
  then_settled parts old mid new offset bytes first second written settled c shows tell =
      let both = parts old.core mid.core new.core first second tell in
      let one = written c shows both.0 in
      let two = settled one.0 one.1 both.1 in
      (two.0, two.1, settled_as old.name offset bytes c one.0 two.0 one.2 two.2)

  -- all is written, and not committed
  pub then_not_settled : PartsTell g → (old mid new : Device P) (offset : ℕ) (bytes : List ℕ) → g.came_from old.core mid.core → g.came_from mid.core new.core → Leads g old mid (IsWrittenOn old.name offset bytes) → Leads g mid new IsSame
      → Leads g old new (IsCutOff old.name offset bytes)
  then_not_settled parts old mid new offset bytes first second written same c shows tell =
      let both = parts old.core mid.core new.core first second tell in
      let one = written c shows both.0 in
      let two = same one.0 one.1 both.1 in (
        two.0,
        two.1,
        record {
          front = bytes;
          back = [];
          parts = sym (append-nil bytes);
          fits = one.2.fits;
          now = subst (λ (d : Contents). IsOverwritten old.name offset bytes c.now d.now) (sym two.2) one.2.now;
          safe = ap (λ (d : Contents). d.safe) two.2 ∙ one.2.safe;
        },
      )

  pub caused_behind : CameFurther g → (old mid new : Device P) (offset : ℕ) (bytes : List ℕ) (cause : Refusal) → old.refused ≡ None → mid.refused ≡ None → g.came_from old.core mid.core → IsCaused g flushing mid new cause → IsCaused g (writing old.name offset bytes) old new cause
  caused_behind further old mid new offset bytes cause goes_on still first caused =
      caused_then g further (writing old.name offset bytes) old mid new cause first (still ∙ sym goes_on) (caused_in g flushing (writing old.name offset bytes) mid new cause (flushes old.name offset bytes) caused)

  -- nothing is written once a commit was refused
  pub none_written : (old : Device P) (offset : ℕ) (bytes : List ℕ) → Leads g old old (IsCutOff old.name offset bytes)
  none_written old offset bytes c shows tell = (
    c,
    shows,
    record {
      front = [];
      back = bytes;
      parts = refl;
      fits = inl refl;
      now = overwritten_none old.name offset c.now;
      safe = refl;
    },
  )
