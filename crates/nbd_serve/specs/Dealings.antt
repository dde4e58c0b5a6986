-- How one option is answered, and how the handshake ends at it.
use Rattle.std.specs.Prelude.{◌≡◌, ℕ, Bool, List, Option, Result, Ok, Err}
use Rattle.std.specs.Io.KnownBytes.{Appends, Consumes}
use Rattle.nbd_serve.specs.Haggling.{IsSettled, IsNoOption}
use Rattle.nbd_serve.specs.Options.{Dealing, wished}
use Rattle.nbd_serve.specs.declared.course.Course.{Course}
use Rattle.nbd_serve.specs.declared.ended.Ended.{Ended}
use Rattle.nbd_serve.specs.declared.ended.Ended.TheVariants.{Hostile, NoMemory, Output, Refused, Torn}
use Rattle.nbd_serve.specs.declared.export.Export.{Export}

module _ (export : Export) (no_zeroes : Bool) (input left output written : Option (List ℕ)) where
  -- the option was answered, and led there
  pub record IsDealtWith (course : Course) : Type 0 where
    pub dealing : Dealing
    pub is_settled : IsSettled export no_zeroes dealing course
    pub asked : Consumes input left (wished dealing)
    pub told : Appends output written dealing.answer

  -- How an option ended. It was answered; or nothing was told, as the input tore, memory ran out or its
  -- bytes break the protocol. Where the output failed nothing is said of it.
  abbrev pub DealsOne : Result Course Ended → Type 0
  DealsOne (Ok course) = IsDealtWith course
  DealsOne (Err Torn) = written ≡ output
  DealsOne (Err NoMemory) = written ≡ output
  DealsOne (Err Hostile) = (written ≡ output) × ((bytes : List ℕ) × IsNoOption export bytes × Consumes input left bytes)
  DealsOne (Err Output) = Unit {0}
  DealsOne (Err (Refused cause)) = ⊥
