-- Reads, piece by piece.
use Rattle.std.proofs.Common.{◌≡◌, ⊎_elim, ℕ, ◌+◌, ◌-◌, ◌≤◌, List, [], ◌∷◌, ◌++◌, take, drop, Bool, true, false, not, Option, Some, None, refl, sym, ap, ◌∙◌, subst, arith}
use Rattle.std.specs.Prelude.{slice_range}
use Rattle.std.proofs.Math.Seq.{take-add}
use Rattle.std.proofs.lemmas.List.{drop-drop}
use Rattle.pool_model.specs.declared.refusal.Refusal.{Refusal}
use Rattle.pool_model.specs.declared.refusal.Refusal.TheVariants.{OutOfRange}
use Rattle.pool_model.specs.declared.step.Step.{Step}
use Rattle.pool_model.specs.declared.step.Step.TheVariants as step
use Rattle.pool_model.specs.declared.step.Reply.{Reply}
use Rattle.pool_model.specs.declared.step.Reply.TheVariants as reply
use Rattle.pool_model.specs.declared.volume.PlainVolume.{PlainVolume}
use Rattle.pool_model.specs.Machine.{AreBytesOf, IsAnswered, IsRefused, LacksMemory, MayAnswer, StepOf}
use Rattle.pool_model.specs.Pools.{PlainPool, volume_at}
use Rattle.pool_model.specs.Refusals.{first_cause, is_in_range, read_refusal}
use Rattle.pool_model.specs.View.{View, Given, now_of}
use Rattle.pool_steps.specs.declared.steps.PoolSteps.{Ghosts}
use Rattle.volume_device.specs.Causes.{IsCaused, reading}
use Rattle.volume_device.specs.Contents.{AreRead, Contents, HasRange, IsSame}
use Rattle.volume_device.specs.Devices.{Leads}
use Rattle.volume_device.specs.declared.device.Device.{Device}
use Rattle.volume_device.proofs.Flushing.{CameFurther, EachGoes, PartsTell, caused_in, caused_then}
use Rattle.volume_device.proofs.Holding.{unchanged}
use Rattle.volume_device.proofs.Writing.{in_range, not_false}

-- ---- ranges

joined : (bytes : List ℕ) (offset n m : ℕ) → slice_range bytes offset (offset + n) ++ slice_range bytes (offset + n) (offset + n + m) ≡ slice_range bytes offset (offset + (n + m))
joined bytes offset n m =
    (λ i. take (first i) (drop offset bytes) ++ take (second i) (drop (offset + n) bytes))
    ∙ (ap (λ xs. take n (drop offset bytes) ++ take m xs) (sym (drop-drop n offset bytes))
    ∙ (sym (take-add n m (drop offset bytes)) ∙ ap (λ k. take k (drop offset bytes)) whole))
  where
    first : offset + n - offset ≡ n
    first = omega arith

    second : offset + n + m - (offset + n) ≡ m
    second = omega arith

    whole : n + m ≡ offset + (n + m) - offset
    whole = omega arith

some_is : (x y : PlainVolume) → Some x ≡ Some y → x ≡ y
some_is x y e = cc

both_read : (pool : PlainPool) (name : List ℕ) (offset n m : ℕ) (first second : List ℕ) → AreBytesOf pool name offset n first → AreBytesOf pool name (offset + n) m second → AreBytesOf pool name offset (n + m) (first ++ second)
both_read pool name offset n m first second one two = (
  one.0,
  one.1,
  (λ i. one.2 i ++ (two.2 ∙ ap (λ (v : PlainVolume). slice_range v.bytes (offset + n) (offset + n + m)) (some_is two.0 one.0 (sym two.1 ∙ one.1))) i) ∙ joined one.0.bytes offset n m,
)

range_joined : (pool : PlainPool) (name : List ℕ) (offset n m : ℕ) → HasRange pool name (offset + n) m → HasRange pool name offset (n + m)
range_joined pool name offset n m range = record { volume = range.volume; there = range.there; within = let w = range.within in omega arith }

-- ---- steps

read_same : (name : List ℕ) (offset len : ℕ) (r : Reply) (v : View) (given : Given) (w : View) → MayAnswer v given (step.Read name offset len) r w → w ≡ v
read_same name offset len (reply.Bytes bytes) v given w a = a.1
read_same name offset len (reply.Refused cause) v given w a = a.1
read_same name offset len r v given w a = absurd a

-- a read changes nothing
pub reads_keep : (name : List ℕ) (offset len : ℕ) (r : Reply) (v : View) (given : Given) (w : View) → StepOf v given (step.Read name offset len) r w → w ≡ v
reads_keep name offset len r v given w is = ⊎_elim
    (λ (y : IsRefused v given (step.Read name offset len) r w). y.unchanged)
    (λ more. ⊎_elim
    (λ (y : LacksMemory v given (step.Read name offset len) r w). y.leaves)
    (λ (y : IsAnswered v given (step.Read name offset len) r w). read_same name offset len r v given w y.answered)
    more)
    is

only_none : (b : Bool) (cause : Refusal) → first_cause ((b, cause) ∷ []) ≡ None → b ≡ false
only_none true cause e = absurd cc
only_none false cause e = refl

-- a read that is not refused by its place lies within what stands there
within : (pool : PlainPool) (name : List ℕ) (offset len : ℕ) (found : Option PlainVolume) → volume_at name pool ≡ found → read_refusal offset len found ≡ None → HasRange pool name offset len
within pool name offset len None there e = absurd cc
within pool name offset len (Some volume) there e = record {
  volume = volume;
  there = there;
  within = in_range offset len volume (not_false (is_in_range offset len volume) (only_none (not (is_in_range offset len volume)) OutOfRange e));
}

-- what it gives is NOW's
gives : (name : List ℕ) (offset len : ℕ) (bytes : List ℕ) (v : View) (given : Given) (w : View) → given.trusted ≡ true → StepOf v given (step.Read name offset len) (reply.Bytes bytes) w → AreBytesOf (now_of v) name offset len bytes × HasRange (now_of v) name offset len
gives name offset len bytes v given w trusted is = ⊎_elim
    (λ (y : IsRefused v given (step.Read name offset len) (reply.Bytes bytes) w). let e = y.answer in absurd cc)
    (λ more. ⊎_elim
    (λ (y : LacksMemory v given (step.Read name offset len) (reply.Bytes bytes) w). let e = y.answer in absurd cc)
    (λ (y : IsAnswered v given (step.Read name offset len) (reply.Bytes bytes) w). (y.answered.0 trusted, within (now_of v) name offset len (volume_at name (now_of v)) refl y.none))
    more)
    is

wider : (name : List ℕ) (offset len at n : ℕ) → offset ≤ at → at + n ≤ offset + len → (s : Step) → reading name at n s → reading name offset len s
wider name offset len at n low high (step.Read volume from count) is = (is.0, (let le = is.1 in omega arith), (let le = is.2 in omega arith))
wider name offset len at n low high s is = absurd is

-- ---- devices

module _ {P : Type 0} (g : Ghosts P) where
  pub read_leads : (old : Device P) (new : P) (offset len : ℕ) (bytes : List ℕ) → EachGoes g old.core (step.Read old.name offset len) (reply.Bytes bytes) new → Leads g old (record old { core = new }) (AreRead old.name offset len bytes)
  read_leads old new offset len bytes goes c shows tell =
      let one = goes shows.view shows.represents tell in
      let same = unchanged g old new (step.Read old.name offset len) (reply.Bytes bytes) (reads_keep old.name offset len (reply.Bytes bytes)) goes c shows tell in (
        same.0,
        same.1,
        (
          (subst (λ (p : PlainPool). AreBytesOf p old.name offset len bytes) shows.now (gives old.name offset len bytes shows.view one.given one.after one.trusted one.is_step).0),
          same.2,
          (subst (λ (p : PlainPool). HasRange p old.name offset len) shows.now (gives old.name offset len bytes shows.view one.given one.after one.trusted one.is_step).1),
        ),
      )

  pub not_read_leads : (old : Device P) (new : P) (offset len : ℕ) (r : Reply) → EachGoes g old.core (step.Read old.name offset len) r new → Leads g old (record old { core = new }) IsSame
  not_read_leads old new offset len r goes = unchanged g old new (step.Read old.name offset len) r (reads_keep old.name offset len r) goes

  -- so far the range is read
  pub record HasRead (old : Device P) (offset len done : ℕ) (bytes : List ℕ) (new : Device P) : Type 0 where
    pub follows : g.came_from old.core new.core
    pub kept : new ≡ record old { core = new.core }
    pub within : done ≤ len
    pub leads : Leads g old new (AreRead old.name offset done bytes)

  pub more : CameFurther g → PartsTell g → (old mid new : Device P) (offset len done count at : ℕ) (bytes piece : List ℕ) → HasRead old offset len done bytes mid → at ≡ offset + done → done + count ≤ len → g.came_from mid.core new.core → new ≡ record mid { core = new.core }
      → Leads g mid new (AreRead mid.name at count piece) → HasRead old offset len (done + count) (bytes ++ piece) new
  more further parts old mid new offset len done count at bytes piece so_far place within follows kept leads = record {
    follows = further old.core mid.core new.core so_far.follows follows;
    kept = kept ∙ ap (λ (d : Device P). record d { core = new.core }) so_far.kept;
    within = within;
    leads = λ c shows tell.
        let both = parts old.core mid.core new.core so_far.follows follows tell in
        let first = so_far.leads c shows both.0 in
        let second = leads first.0 first.1 both.1 in
        let name : mid.name ≡ old.name = ap (λ (d : Device P). d.name) so_far.kept in (
          second.0,
          second.1,
          (
            both_read c.now old.name offset done count bytes piece first.2.0
                (subst (λ (n : List ℕ). AreBytesOf c.now n (offset + done) count piece) name
                (subst (λ (n : ℕ). AreBytesOf c.now mid.name n count piece) place
                (subst (λ (d : Contents). AreBytesOf d.now mid.name at count piece) first.2.1 second.2.0))),
            second.2.1 ∙ first.2.1,
            range_joined c.now old.name offset done count
                (subst (λ (n : List ℕ). HasRange c.now n (offset + done) count) name
                (subst (λ (n : ℕ). HasRange c.now mid.name n count) place
                (subst (λ (d : Contents). HasRange d.now mid.name at count) first.2.1 second.2.2))),
          ),
        );
  }

  pub with_more : CameFurther g → PartsTell g → (old mid new : Device P) (offset len done count at : ℕ) (bytes piece slice all : List ℕ) → HasRead old offset len done bytes mid → at ≡ offset + done → done + count ≤ len → g.came_from mid.core new.core
      → new ≡ record mid { core = new.core } → Leads g mid new (AreRead mid.name at count piece) → slice ≡ piece → all ≡ bytes ++ slice → HasRead old offset len (done + count) all new
  with_more further parts old mid new offset len done count at bytes piece slice all so_far place within follows kept leads same appended =
      subst (λ (xs : List ℕ). HasRead old offset len (done + count) xs new) (sym (appended ∙ ap (λ (xs : List ℕ). bytes ++ xs) same))
      (more further parts old mid new offset len done count at bytes piece so_far place within follows kept leads)

  pub stays : (old : Device P) (offset len done : ℕ) (bytes : List ℕ) (new : Device P) → HasRead old offset len done bytes new → Leads g old new IsSame
  stays old offset len done bytes new so_far c shows tell = let it = so_far.leads c shows tell in (it.0, it.1, it.2.1)

  pub then_stays : PartsTell g → (old : Device P) (offset len done : ℕ) (bytes : List ℕ) (mid new : Device P) → HasRead old offset len done bytes mid → g.came_from mid.core new.core → Leads g mid new IsSame → Leads g old new IsSame
  then_stays parts old offset len done bytes mid new so_far follows same c shows tell =
      let both = parts old.core mid.core new.core so_far.follows follows tell in
      let first = stays old offset len done bytes mid so_far c shows both.0 in
      let second = same first.0 first.1 both.1 in
      (second.0, second.1, second.2 ∙ first.2)

  pub caused_at : CameFurther g → (old : Device P) (offset len done : ℕ) (bytes : List ℕ) (mid new : Device P) (at count : ℕ) (cause : Refusal) → HasRead old offset len done bytes mid → at ≡ offset + done → done + count ≤ len
      → IsCaused g (reading mid.name at count) mid new cause → IsCaused g (reading old.name offset len) old new cause
  caused_at further old offset len done bytes mid new at count cause so_far place within caused =
      let name : mid.name ≡ old.name = ap (λ (d : Device P). d.name) so_far.kept in
      caused_then g further (reading old.name offset len) old mid new cause so_far.follows (ap (λ (d : Device P). d.refused) so_far.kept)
      (caused_in g (reading mid.name at count) (reading old.name offset len) mid new cause
      (λ s kind. wider old.name offset len at count (omega arith) (omega arith) s (subst (λ (n : List ℕ). reading n at count s) name kind)) caused)

  pub first_caused : (old new : Device P) (offset len count : ℕ) (cause : Refusal) → count ≤ len → IsCaused g (reading old.name offset count) old new cause → IsCaused g (reading old.name offset len) old new cause
  first_caused old new offset len count cause within caused = caused_in g (reading old.name offset count) (reading old.name offset len) old new cause (wider old.name offset len offset count (omega arith) (omega arith)) caused
