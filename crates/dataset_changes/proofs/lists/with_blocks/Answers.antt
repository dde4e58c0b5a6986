use Rattle.std.proofs.Common.{Some, subst}
use Rattle.dataset_changes.specs.Fitting.{FitsListState}
use Rattle.dataset_changes.specs.Over.{IsListNow, IsListOver}
use Rattle.dataset_changes.specs.declared.states.ListState.{ListState}
use Rattle.dataset_changes.proofs.Joining.{added_more, fit_joined, more}
use Rattle.dataset_changes.proofs.lists.with_blocks.Goals as goal

pub returns-in_ok-blocks-in-Added-clause-fits : goal.returns-in_ok-blocks-in-Added-clause-fits
returns-in_ok-blocks-in-Added-clause-fits c =
    fit_joined c.in-Added.blocks c.args.added.now _ (subst (λ (s : ListState). FitsListState s) c.in-Added.is c.requires.fits) c.requires.added c.in_ok-blocks-in-Added.ensures.value

pub returns-in_ok-blocks-in-Added-clause-value : goal.returns-in_ok-blocks-in-Added-clause-value
returns-in_ok-blocks-in-Added-clause-value c = λ object list over now.
    added_more object list c.in-Added.blocks c.args.added.now c.in_ok-blocks-in-Added.blocks c.in-Added.end c.in_ok-blocks-in-Added.ensures.value
    (subst (λ (s : ListState). IsListOver object (Some s)) c.in-Added.is over) (subst (λ (s : ListState). IsListNow object (Some s) list) c.in-Added.is now)

pub returns-in_ok-pushed-in-Whole-clause-fits : goal.returns-in_ok-pushed-in-Whole-clause-fits
returns-in_ok-pushed-in-Whole-clause-fits c =
    fit_joined c.in-Whole.list c.args.added.now _ (subst (λ (s : ListState). FitsListState s) c.in-Whole.is c.requires.fits) c.requires.added c.in_ok-pushed-in-Whole.ensures.value

pub returns-in_ok-pushed-in-Whole-clause-value : goal.returns-in_ok-pushed-in-Whole-clause-value
returns-in_ok-pushed-in-Whole-clause-value c = λ object list over now. (
  subst (λ (s : ListState). IsListOver object (Some s)) c.in-Whole.is over,
  more c.in-Whole.list c.args.added.now _ list c.in_ok-pushed-in-Whole.ensures.value (subst (λ (s : ListState). IsListNow object (Some s) list) c.in-Whole.is now),
)

pub returns-in_ok-pushed-in-Made-clause-fits : goal.returns-in_ok-pushed-in-Made-clause-fits
returns-in_ok-pushed-in-Made-clause-fits c =
    fit_joined c.in-Made.list c.args.added.now _ (subst (λ (s : ListState). FitsListState s) c.in-Made.is c.requires.fits) c.requires.added c.in_ok-pushed-in-Made.ensures.value

pub returns-in_ok-pushed-in-Made-clause-value : goal.returns-in_ok-pushed-in-Made-clause-value
returns-in_ok-pushed-in-Made-clause-value c = λ object list over now. (
  subst (λ (s : ListState). IsListOver object (Some s)) c.in-Made.is over,
  more c.in-Made.list c.args.added.now _ list c.in_ok-pushed-in-Made.ensures.value (subst (λ (s : ListState). IsListNow object (Some s) list) c.in-Made.is now),
)
