-- Options that are answered one after another.
use Rattle.std.proofs.Common.{◌≡◌, ◌≢◌, ◌⊎◌, inl, inr, ℕ, Bool, false, List, [], ◌∷◌, ◌++◌, Option, Some, Ok, Err, refl, sym, subst}
use Rattle.std.specs.List.{AllByRecursion, flat_map}
use Rattle.std.specs.Io.KnownBytes.{Appends, Consumes}
use Rattle.nbd_wire.specs.Options.{option_kind_of}
use Rattle.nbd_wire.specs.declared.options.OptionKind.TheVariants.{ExportName}
use Rattle.nbd_serve.specs.Dealings.{DealsOne, IsDealtWith}
use Rattle.nbd_serve.specs.Haggling.{Deals, EndsOptions, IsSettled, IsNoOption}
use Rattle.nbd_serve.specs.Options.{answered, is_known, optioned, wished}
use Rattle.nbd_serve.specs.declared.course.Course.{Course}
use Rattle.nbd_serve.specs.declared.course.Course.TheVariants.{GoesOn}
use Rattle.nbd_serve.specs.declared.ended.Ended.{Ended}
use Rattle.nbd_serve.specs.declared.ended.Ended.TheVariants.{Hostile, NoMemory, Output, Refused, Torn}
use Rattle.nbd_serve.specs.declared.export.Export.{Export}
use Rattle.nbd_serve.proofs.Consuming.{appended_more, appended_none, consumed_more, consumed_none, one_more}

each_more : {X : Type 0} (P : X → Type 0) (xs : List X) (x : X) → AllByRecursion P xs → P x → AllByRecursion P (xs ++ x ∷ [])
each_more P [] x each holds = (holds, tt)
each_more P (y ∷ xs) x each holds = (each.0, each_more P xs x each.1 holds)

module _ (export : Export) (no_zeroes : Bool) where
  abbrev pub IsUnread : Option (List ℕ) → Option (List ℕ) → Ended → Type 0
  IsUnread input left ended = (ended ≡ Torn) ⊎ ((ended ≡ NoMemory) ⊎ ((ended ≡ Hostile) × ((bytes : List ℕ) × IsNoOption export bytes × Consumes input left bytes)))

  -- an option wasn't read
  pub unread : (input left output : Option (List ℕ)) (ended : Ended) → IsUnread input left ended → DealsOne export no_zeroes input left output output (Err ended)
  unread input left output ended (inl torn) = subst (λ (x : Ended). DealsOne export no_zeroes input left output output (Err x)) (sym torn) refl
  unread input left output ended (inr (inl none)) = subst (λ (x : Ended). DealsOne export no_zeroes input left output output (Err x)) (sym none) refl
  unread input left output ended (inr (inr hostile)) = subst (λ (x : Ended). DealsOne export no_zeroes input left output output (Err x)) (sym hostile.0) (refl, hostile.1)

  abbrev pub IsUndealt : ℕ → List ℕ → Ended → Type 0
  IsUndealt option content ended = (ended ≡ NoMemory) ⊎ ((ended ≡ Hostile) × (option_kind_of option ≡ Some ExportName) × (is_known export content ≡ false))

  -- an option was read, but not answered
  pub undealt : (input left output : Option (List ℕ)) (option : ℕ) (content : List ℕ) (ended : Ended) → Consumes input left (optioned option content) → IsUndealt option content ended → DealsOne export no_zeroes input left output output (Err ended)
  undealt input left output option content ended read (inl none) = subst (λ (x : Ended). DealsOne export no_zeroes input left output output (Err x)) (sym none) refl
  undealt input left output option content ended read (inr hostile) =
      subst (λ (x : Ended). DealsOne export no_zeroes input left output output (Err x)) (sym hostile.0) (refl, (optioned option content, inr (inr (option, content, hostile.1, refl, hostile.2)), read))

  pub deals_none : (input output : Option (List ℕ)) → Deals export no_zeroes input input output output
  deals_none input output = record { dealings = []; each = tt; asked = consumed_none input; told = appended_none output }

  pub deals_more : (input left further output written sent : Option (List ℕ)) → Deals export no_zeroes input left output written → IsDealtWith export no_zeroes left further written sent GoesOn → Deals export no_zeroes input further output sent
  deals_more input left further output written sent so_far one = record {
    dealings = so_far.dealings ++ one.dealing ∷ [];
    each = each_more (λ d. IsSettled export no_zeroes d GoesOn) so_far.dealings one.dealing so_far.each one.is_settled;
    asked = subst (Consumes input further) (one_more wished so_far.dealings one.dealing) (consumed_more input left further (flat_map wished so_far.dealings) (wished one.dealing) so_far.asked one.asked);
    told = subst (Appends output sent) (one_more answered so_far.dealings one.dealing) (appended_more output written sent (flat_map answered so_far.dealings) one.dealing.answer so_far.told one.told);
  }

  pub deals_elsewhere : (course : Course) (input left further output written sent : Option (List ℕ)) → course ≢ GoesOn → Deals export no_zeroes input left output written → IsDealtWith export no_zeroes left further written sent course
      → EndsOptions export no_zeroes input further output sent (Ok course)
  deals_elsewhere course input left further output written sent ends so_far one =
      record { between = left; sent = written; before = so_far; last = one.dealing; ends = ends; is_settled = one.is_settled; asked = one.asked; told = one.told }

  pub deals_short : (ended : Ended) (input left further output written sent : Option (List ℕ)) → Deals export no_zeroes input left output written → DealsOne export no_zeroes left further written sent (Err ended)
      → EndsOptions export no_zeroes input further output sent (Err ended)
  deals_short Torn input left further output written sent so_far one = (left, subst (Deals export no_zeroes input left output) (sym one) so_far)
  deals_short NoMemory input left further output written sent so_far one = (left, subst (Deals export no_zeroes input left output) (sym one) so_far)
  deals_short Hostile input left further output written sent so_far one =
      record { between = left; before = subst (Deals export no_zeroes input left output) (sym one.0) so_far; bytes = one.1.0; none = one.1.1; asked = one.1.2 }
  deals_short Output input left further output written sent so_far one = tt
  deals_short (Refused cause) input left further output written sent so_far one = absurd one
