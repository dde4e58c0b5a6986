-- An input that is written to a device, piece by piece.
use Rattle.std.proofs.Common.{◌≡◌, ◌⊎◌, inl, inr, ◌+◌, ℕ, List, [], ◌++◌, length, Option, None, Some, refl, sym, ap, ◌∙◌, subst, arith, append_assoc, append-nil, length-append}
use Rattle.std.specs.Io.KnownBytes.{Consumes, IsAtEnd}
use Rattle.pool_model.specs.Pools.{PlainPool}
use Rattle.pool_steps.specs.declared.steps.PoolSteps.{Ghosts}
use Rattle.volume_device.specs.Contents.{Contents, FitsIn, IsCutOff, IsFlushed, IsOverwritten, IsWritten}
use Rattle.volume_device.specs.Devices.{Leads, name_of}
use Rattle.volume_device.specs.declared.device.Device.{Device}
use Rattle.commands.proofs.Consuming.{consumed_more, nothing}
use Rattle.commands.proofs.Leading.{CameFurther, PartsTell, leads_on}
use Rattle.commands.specs.Input.{IsNoInput}
use Rattle.commands.specs.Pouring.{IfKnown, IsFrontIn, IsIn, IsPouredIn, IsPouredInPart, IsTakenIn, IsWhollyIn}
use Rattle.commands.specs.declared.stop.Stop.{Stop}
use Rattle.commands.specs.declared.stop.Stop.TheVariants as stop

-- two writes, of which the second goes on where the first ended, are one; and a write of nothing is none
abbrev pub PartsFit : Type 0
PartsFit = (name : List ℕ) (offset : ℕ) (first second : List ℕ) (c d e : Contents) → IsWritten name offset first c d → IsWritten name (offset + length first) second d e → ((first ++ second) ≡ []) ⊎ FitsIn c.now name offset (length (first ++ second))

abbrev pub PartsAreOne : Type 0
PartsAreOne = (name : List ℕ) (offset : ℕ) (first second : List ℕ) (c d e : Contents) → IsWritten name offset first c d → IsWritten name (offset + length first) second d e → IsOverwritten name offset (first ++ second) c.now e.now

abbrev pub NothingIsOverwritten : Type 0
NothingIsOverwritten = (name : List ℕ) (at : ℕ) (p : PlainPool) → IsOverwritten name at [] p p

-- ---- what is in a volume

none_in : NothingIsOverwritten → (name : List ℕ) (c : Contents) → IsIn name [] c c
none_in nothing name c = record {
  fits = inl refl;
  now = nothing name 0 c.now;
  front = record { front = []; back = []; parts = refl; safe = λ all. subst (IsOverwritten name 0 [] c.now) (sym all) (nothing name 0 c.now) };
}

-- as if all were committed
abbrev safely : Contents → Contents
safely c = record { now = c.now; safe = c.now }

module _ (fit : PartsFit) (one : PartsAreOne) (name done piece : List ℕ) (c d e : Contents) (is : IsIn name done c d) (w : IsWritten name (length done) piece d e) where
  first : IsWritten name 0 done (safely c) (safely d)
  first = record { fits = is.fits; now = is.now; safe = inr refl }

  second : IsWritten name (0 + length done) piece (safely d) (safely e)
  second =
      let same : length done ≡ 0 + length done = omega arith in
      subst (λ n. IsWritten name n piece (safely d) (safely e)) same (record { fits = w.fits; now = w.now; safe = inr refl })

  whole : IsOverwritten name 0 (done ++ piece) c.now e.now
  whole = one name 0 done piece (safely c) (safely d) (safely e) first second

  front_of : ((e.safe ≡ d.safe) ⊎ (e.safe ≡ e.now)) → IsFrontIn name (done ++ piece) c e
  front_of (inl same) = record {
    front = is.front.front;
    back = is.front.back ++ piece;
    parts = ap (λ l. l ++ piece) is.front.parts ∙ append_assoc is.front.front is.front.back piece;
    safe = λ all. subst (IsOverwritten name 0 is.front.front c.now) (sym same) (is.front.safe all);
  }
  front_of (inr now) = record { front = done ++ piece; back = []; parts = sym (append-nil (done ++ piece)); safe = λ all. subst (IsOverwritten name 0 (done ++ piece) c.now) (sym now) whole }

  more_in : IsIn name (done ++ piece) c e
  more_in = record { fits = fit name 0 done piece (safely c) (safely d) (safely e) first second; now = whole; front = front_of w.safe }

cut_in : (name all done rest : List ℕ) (c d e : Contents) → all ≡ done ++ rest → IsIn name done c d → e.safe ≡ d.safe → IsFrontIn name all c e
cut_in name all done rest c d e parts is same = record {
  front = is.front.front;
  back = is.front.back ++ rest;
  parts = parts ∙ (ap (λ l. l ++ rest) is.front.parts ∙ append_assoc is.front.front is.front.back rest);
  safe = λ all. subst (IsOverwritten name 0 is.front.front c.now) (sym same) (is.front.safe all);
}

flushed_in : (name all : List ℕ) (c d e : Contents) → IsIn name all c d → IsFlushed d e → IsWhollyIn name all c e
flushed_in name all c d e is f = record { now = subst (IsOverwritten name 0 all c.now) (sym f.now) is.now; safe = f.safe ∙ sym f.now }

-- ---- what was read

-- what is left of an input once these bytes were read
left_of : (all done : List ℕ) (now : Option (List ℕ)) → Consumes (Some all) now done → (rest : List ℕ) × (all ≡ done ++ rest)
left_of all done None c = absurd c
left_of all done (Some rest) c = (rest, c)

at_end : (all done : List ℕ) (now : Option (List ℕ)) → Consumes (Some all) now done → IsAtEnd now → all ≡ done
at_end all done None c ended = absurd c
at_end all done (Some rest) c ended = c ∙ (ap (λ l. done ++ l) ended ∙ append-nil done)

module _ {P : Type 0} (g : Ghosts P) where
  -- so far these bytes were read and written
  pub record TakenSoFar (old now : Device P) (at : ℕ) (before after : Option (List ℕ)) : Type 0 where
    pub follows : g.came_from old.core now.core
    pub named : name_of now ≡ name_of old
    pub done : List ℕ
    pub consumed : Consumes before after done
    pub count : at ≡ length done
    pub leads : Leads g old now (IsIn (name_of old) done)

  pub none_taken : NothingIsOverwritten → (device : Device P) (now : Option (List ℕ)) → g.came_from device.core device.core → TakenSoFar device device 0 now now
  none_taken law device now still = record { follows = still; named = refl; done = []; consumed = nothing now; count = refl; leads = λ c shown tell. (c, shown, none_in law (name_of device) c) }

  module _ (fit : PartsFit) (one : PartsAreOne) (parts : PartsTell g) (further : CameFurther g) (old mid new : Device P) (at : ℕ) (a b c : Option (List ℕ)) (so_far : TakenSoFar old mid at a b) (follows : g.came_from mid.core new.core) where
    pub taken_more : (piece : List ℕ) → Consumes b c piece → name_of new ≡ name_of mid → Leads g mid new (IsWritten (name_of mid) at piece) → TakenSoFar old new (at + length piece) a c
    taken_more piece more named written = record {
      follows = further old.core mid.core new.core so_far.follows follows;
      named = named ∙ so_far.named;
      done = so_far.done ++ piece;
      consumed = consumed_more a b c so_far.done piece so_far.consumed more;
      count = ap (λ n. n + length piece) so_far.count ∙ sym (length-append so_far.done piece);
      leads = leads_on g parts old mid new (IsIn (name_of old) so_far.done) (IsWritten (name_of old) (length so_far.done) piece) (IsIn (name_of old) (so_far.done ++ piece)) so_far.follows follows
          (more_in fit one (name_of old) so_far.done piece) so_far.leads
          (subst (λ n. Leads g mid new (IsWritten (name_of old) n piece)) so_far.count (subst (λ name. Leads g mid new (IsWritten name at piece)) so_far.named written));
    }

    -- a call that commits no more
    part_taken : (all : List ℕ) → a ≡ Some all → Leads g mid new (λ d e. e.safe ≡ d.safe) → Leads g old new (IsFrontIn (name_of old) all)
    part_taken all known same =
        let left = left_of all so_far.done b (subst (λ x. Consumes x b so_far.done) known so_far.consumed) in
        leads_on g parts old mid new (IsIn (name_of old) so_far.done) (λ d e. e.safe ≡ d.safe) (IsFrontIn (name_of old) all) so_far.follows follows
        (λ d e f is still. cut_in (name_of old) all so_far.done left.0 d e f left.1 is still) so_far.leads same

    pub in_part : Leads g mid new (λ d e. e.safe ≡ d.safe) → IfKnown a (λ all. Leads g old new (IsFrontIn (name_of old) all))
    in_part same = if_known a (λ all. Leads g old new (IsFrontIn (name_of old) all)) (λ all known. part_taken all known same)
      where
        if_known : (x : Option (List ℕ)) (holds : List ℕ → Type 0) → ((all : List ℕ) → x ≡ Some all → holds all) → IfKnown x holds
        if_known None holds f = tt
        if_known (Some all) holds f = f all refl

  -- the device stays as it is, and nothing was read for it
  pub taken_part : (old now : Device P) (at : ℕ) (a b : Option (List ℕ)) → TakenSoFar old now at a b → IfKnown a (λ all. Leads g old now (IsFrontIn (name_of old) all))
  taken_part old now at None b so_far = tt
  taken_part old now at (Some all) b so_far =
      let left = left_of all so_far.done b so_far.consumed in
      λ c shown tell.
      let d = so_far.leads c shown tell in
      (d.0, d.1, cut_in (name_of old) all so_far.done left.0 c d.0 d.0 left.1 d.2 refl)

  -- the input is at its end
  pub all_taken : (old now : Device P) (at : ℕ) (a b : Option (List ℕ)) → TakenSoFar old now at a b → IsAtEnd b → IsTakenIn g old now a
  all_taken old now at None b so_far ended = tt
  all_taken old now at (Some all) b so_far ended = subst (λ l. Leads g old now (IsIn (name_of old) l)) (sym (at_end all so_far.done b so_far.consumed ended)) so_far.leads

  pub cut_commits_none : (mid new : Device P) (name : List ℕ) (at : ℕ) (piece : List ℕ) → Leads g mid new (IsCutOff name at piece) → Leads g mid new (λ d e. e.safe ≡ d.safe)
  cut_commits_none mid new name at piece cut = λ c shown tell. let d = cut c shown tell in (d.0, d.1, d.2.safe)

  pub same_commits_none : (mid new : Device P) → Leads g mid new (λ c d. d ≡ c) → Leads g mid new (λ d e. e.safe ≡ d.safe)
  same_commits_none mid new same = λ c shown tell. let d = same c shown tell in (d.0, d.1, ap (λ (x : Contents). x.safe) d.2)

  -- why no piece was read
  pub stops_part : {R : Type 0} (old now : Device P) (a : Option (List ℕ)) (s : Stop R) → IsNoInput s → IfKnown a (λ all. Leads g old now (IsFrontIn (name_of old) all)) → IsPouredInPart g old now a s
  stops_part old now a stop.Input is part = part
  stops_part old now a (stop.Pool cause) is part = part
  stops_part old now a s is part = absurd is

  -- ---- the last commit
  pub poured_in : PartsTell g → (old mid new : Device P) (a : Option (List ℕ)) → g.came_from old.core mid.core → g.came_from mid.core new.core → IsTakenIn g old mid a → Leads g mid new IsFlushed → IsPouredIn g old new a
  poured_in parts old mid new None from to is flushed = tt
  poured_in parts old mid new (Some all) from to is flushed = leads_on g parts old mid new (IsIn (name_of old) all) IsFlushed (IsWhollyIn (name_of old) all) from to (flushed_in (name_of old) all) is flushed

  pub poured_part : PartsTell g → (old mid new : Device P) (a : Option (List ℕ)) → g.came_from old.core mid.core → g.came_from mid.core new.core → IsTakenIn g old mid a → Leads g mid new (λ c d. d ≡ c)
      → IfKnown a (λ all. Leads g old new (IsFrontIn (name_of old) all))
  poured_part parts old mid new None from to is same = tt
  poured_part parts old mid new (Some all) from to is same = leads_on g parts old mid new (IsIn (name_of old) all) (λ c d. d ≡ c) (IsFrontIn (name_of old) all) from to
      (λ c d e in_all still. cut_in (name_of old) all all [] c d e (sym (append-nil all)) in_all (ap (λ (x : Contents). x.safe) still)) is same
