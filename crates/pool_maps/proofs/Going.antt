-- A plan that goes on, step by step.
use Rattle.objset.specs.declared.changes.ObjectChange.{ObjectChange}
use Rattle.std.proofs.Common.{◌⊎◌, ℕ, ◌≤◌, List, Option, inl, inr, refl, subst, ◌∙◌, arith}
use Rattle.block_pointer.specs.declared.block.Block.{Block}
use Rattle.block_store.specs.Spaces.{VdevSpace}
use Rattle.meta_objset.specs.declared.space_maps.MetaslabPlace.{MetaslabPlace}
use Rattle.objset.specs.Objects.{Object}
use Rattle.pool_maps.specs.declared.steps.MapPlan.{MapPlan}
use Rattle.pool_maps.specs.Maps.{HasMapPlace}
use Rattle.pool_maps.specs.Plans.{Advances, AreAhead, AreOrdered, AreUnmade, GoesOn, IsForMetaslab, IsMapNumber, IsStep}

pub stands : (plan : MapPlan) → GoesOn plan plan
stands plan = record {
  kept = λ change held. held;
  only = λ change held. inl held;
  others = λ objects number other. refl;
  rows = λ row held. held;
  added = λ row held. inl held;
  next = omega arith;
  idle = λ is. (refl, is);
}

number_sooner : (old mid : MapPlan) (number : ℕ) → GoesOn old mid → IsMapNumber mid.maps mid.next number → IsMapNumber old.maps old.next number
number_sooner old mid number first (inl (row, there, is)) =
    elim (first.added row there) [
      | inl before ↦ inl (row, before, is)
      | inr made ↦ inr (subst (λ n. old.next ≤ n) is made)
    ]
number_sooner old mid number first (inr later) = inr (let from = first.next in omega (arith, from, later))

pub goes_further : (old mid new : MapPlan) → GoesOn old mid → GoesOn mid new → GoesOn old new
goes_further old mid new first rest = record {
  kept = λ change held. rest.kept change (first.kept change held);
  only = λ change held. elim (rest.only change held) [
    | inl before ↦ first.only change before
    | inr of_map ↦ inr (number_sooner old mid change.number first of_map)
  ];
  others = λ objects number other. rest.others objects number (λ of_map. other (number_sooner old mid number first of_map)) ∙ first.others objects number other;
  rows = λ row held. rest.rows row (first.rows row held);
  added = λ row held. elim (rest.added row held) [
    | inl before ↦ first.added row before
    | inr made ↦ inr (let from = first.next in omega (arith, from, made))
  ];
  next = (let from = first.next in let to = rest.next in omega (arith, from, to));
  idle = λ is. let later = rest.idle is in let sooner = first.idle later.1 in (later.0 ∙ sooner.0, sooner.1);
}

pub no_step : (spaces : List VdevSpace) (gone : List Block) (plan : MapPlan) → AreOrdered plan.changes.items → IsStep spaces gone plan plan
no_step spaces gone plan ordered = record { ordered = ordered; goes_on = stands plan; spare = λ change held. inl held; sound = λ is. is; below = λ is are. are }

metaslab_sooner : (spaces : List VdevSpace) (gone : List Block) (old mid : MapPlan) (change : ObjectChange) → GoesOn old mid → IsForMetaslab spaces gone mid.maps mid.next change
    → IsForMetaslab spaces gone old.maps old.next change
metaslab_sooner spaces gone old mid change first is = record {
  place = is.place;
  there = is.there;
  before = is.before;
  free = is.free;
  was = is.was;
  is = is.is;
  differ = is.differ;
  number = elim is.number [
    | inl (row, held, of, number) ↦ elim (first.added row held) [
      | inl sooner ↦ inl (row, sooner, of, number)
      | inr made ↦ inr (subst (λ n. old.next ≤ n) number made)
    ]
    | inr later ↦ inr (let from = first.next in omega (arith, from, later))
  ];
}

pub step_on : (spaces : List VdevSpace) (gone : List Block) (old mid new : MapPlan) → IsStep spaces gone old mid → IsStep spaces gone mid new → IsStep spaces gone old new
step_on spaces gone old mid new first rest = record {
  ordered = rest.ordered;
  spare = λ change held. elim (rest.spare change held) [
    | inl before ↦ first.spare change before
    | inr is ↦ inr (metaslab_sooner spaces gone old mid change first.goes_on is)
  ];
  goes_on = goes_further old mid new first.goes_on rest.goes_on;
  sound = λ is. rest.sound (first.sound is);
  below = λ is are. rest.below (first.sound is) (first.below is are);
}

pub unmade_later : (objects : ℕ → Option Object) (old new : MapPlan) → GoesOn old new → AreUnmade old objects → AreUnmade new objects
unmade_later objects old new goes unmade = λ number later. unmade number (let from = goes.next in omega (arith, from, later))

-- ---- some metaslabs, and then others

module _ (objects : ℕ → Option Object) (spaces : List VdevSpace) (gone : List Block) where
  pub none_advances : (plan : MapPlan) → Advances objects spaces gone (λ place. ⊥) plan plan
  none_advances plan = record {
    stay = λ place free other is. is;
    untouched = λ place other is. is;
    anew = λ place is. absurd is;
    there = λ place is. absurd is;
    may = λ yet may. may;
    leave = λ yet change held. inl held;
    short = λ yet are. are;
  }

  pub advances_on : (first rest : MetaslabPlace → Type 0) (old mid new : MapPlan) → ((place : MetaslabPlace) → first place → ¬ rest place)
      → Advances objects spaces gone first old mid → Advances objects spaces gone rest mid new → Advances objects spaces gone (λ place. first place ⊎ rest place) old new
  advances_on first rest old mid new apart one two = record {
    stay = λ place free other is. two.stay place free (λ of. other (inr of)) (one.stay place free (λ of. other (inl of)) is);
    untouched = λ place other is. two.untouched place (λ of. other (inr of)) (one.untouched place (λ of. other (inl of)) is);
    anew = λ place which there. elim which [
      | inl of ↦ λ yet free after group released frees is. two.stay place free (apart place of) (one.anew place of there yet free after group released frees is)
      | inr of ↦ λ yet. two.anew place of there (λ free are was. one.stay place free (λ sooner. apart place sooner of) (yet free are was))
    ];
    there = λ place which there. elim which [
      | inl of ↦ one.there place of there
      | inr of ↦ two.there place of there
    ];
    may = λ yet may.
        two.may (λ place of there free are was. one.stay place free (λ sooner. apart place sooner of) (yet place (inr of) there free are was))
        (one.may (λ place of there. yet place (inl of) there) may);
    leave = λ yet change held.
        elim (two.leave (λ place of there free are was. one.stay place free (λ sooner. apart place sooner of) (yet place (inr of) there free are was)) change held) [
          | inl before ↦ one.leave (λ place of there. yet place (inl of) there) change before
          | inr map ↦ inr map
        ];
    short = λ yet are.
        two.short (λ place of there free frees was. one.stay place free (λ sooner. apart place sooner of) (yet place (inr of) there free frees was))
        (one.short (λ place of there. yet place (inl of) there) are);
  }

  -- the same metaslabs by other words
  pub advances_as : (are same : MetaslabPlace → Type 0) (old new : MapPlan) → ((place : MetaslabPlace) → are place → same place)
      → ((place : MetaslabPlace) → HasMapPlace spaces place → same place → are place) → Advances objects spaces gone are old new → Advances objects spaces gone same old new
  advances_as are same old new into out is = record {
    stay = λ place free other. is.stay place free (λ of. other (into place of));
    untouched = λ place other. is.untouched place (λ of. other (into place of));
    anew = λ place of there. is.anew place (out place there of) there;
    there = λ place of there. is.there place (out place there of) there;
    may = λ yet may. is.may (λ place of there. yet place (into place of) there) may;
    leave = λ yet. is.leave (λ place of there. yet place (into place of) there);
    short = λ yet are. is.short (λ place of there. yet place (into place of) there) are;
  }

  -- what is ahead is so still
  pub ahead_still : (are done some : MetaslabPlace → Type 0) (old mid : MapPlan) → ((place : MetaslabPlace) → some place → are place)
      → ((place : MetaslabPlace) → some place → ¬ done place) → Advances objects spaces gone done old mid → AreAhead objects spaces are old → AreAhead objects spaces some mid
  ahead_still are done some old mid into apart is ahead = λ place of there.
      let before = ahead place (into place of) there in (
        λ free frees was. is.stay place free (apart place of) (before.0 free frees was),
        is.untouched place (apart place of) before.1,
      )
