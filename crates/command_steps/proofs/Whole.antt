-- Sessions of a change are changes, and those of a commit commits.
use Rattle.std.proofs.Common.{◌≡◌, ◌∙◌, ◌⊎◌, ◌≤◌, ◌^◌, inl, inr, ⊎_elim, ℕ, List, [], ◌∷◌, length, Some, None, ap, subst}
use Rattle.std.specs.List.{last_or}
use Rattle.pool_model.specs.declared.step.Step.{Step}
use Rattle.pool_model.specs.declared.step.Step.TheVariants.{Close}
use Rattle.pool_model.specs.declared.step.Reply.{Reply}
use Rattle.pool_model.specs.declared.step.Reply.TheVariants.{Committed}
use Rattle.pool_model.specs.Flow.{FlowRun, flow_of}
use Rattle.pool_model.specs.Groups.{commits}
use Rattle.pool_model.specs.Headline.{Headline}
use Rattle.pool_model.specs.Sound.{IsSound}
use Rattle.pool_model.specs.View.{View}
use Rattle.pool_model.proofs.Sounds.{flow_run}
use Rattle.pool_model.proofs.Whole.{headline}
use Rattle.pool_steps.specs.declared.steps.PoolSteps.{Ghosts}
use Rattle.command_steps.specs.Changes.{Changes, Commits, IsAnswer, IsOneChange, IsOneCommit, steps_of}
use Rattle.command_steps.specs.Due.{AreTaken}
use Rattle.command_steps.specs.Made.{IsItem}
use Rattle.command_steps.specs.Sessions.{RunsOn, Session}
use Rattle.command_steps.proofs.Courses.{EndInCommit, OnlyLastCommits, answered, commits_last, commits_none, item_not_device}
use Rattle.command_steps.proofs.Making.{kept, made, same}

module _ {C : Type 0} (g : Ghosts C) (t : ℕ) where
  -- what a run of steps that end in a commit tells
  module _ (old : C) (v : View) (due : List Step) (last : Reply) (left : List Step) (new : C) (sound : IsSound v) (s : Session g t old v due last left new) where
    the_headline : Headline v s.steps s.givens s.replies s.after
    the_headline = headline v s.steps s.givens s.replies s.after sound s.run

    the_flow : FlowRun (flow_of v) s.steps s.replies (flow_of s.after)
    the_flow = flow_run v s.steps s.givens s.replies s.after s.run

    one_commits : OnlyLastCommits due → commits s.replies ≡ commits (last ∷ [])
    one_commits only = commits_last t (flow_of v) (flow_of s.after) due s.steps s.replies left last only s.taken the_flow s.last_reply

    committed_last : (group : ℕ) → last ≡ Committed group → last_or None s.replies ≡ Some (Committed group)
    committed_last group is = s.last_reply ∙ ap (λ (r : Reply). Some r) is

    committed_one : (group : ℕ) → last ≡ Committed group → OnlyLastCommits due → commits s.replies ≡ group ∷ []
    committed_one group is only = one_commits only ∙ ap (λ (r : Reply). commits (r ∷ [])) is

    ends : EndInCommit due → (left ≡ []) ⊎ (2 ^ 64 ≤ length s.steps) → ((left ≡ []) × IsAnswer last) ⊎ (2 ^ 64 ≤ length s.steps)
    ends in_commit =
        ⊎_elim
        (λ (none : left ≡ []). inl (none, answered t (flow_of v) (flow_of s.after) due s.steps s.replies last in_commit (subst (AreTaken t due s.steps s.replies) none s.taken) the_flow s.last_reply))
        inr

  one_change : (old : C) (v : View) (item : Step) (last : Reply) (left : List Step) (new : C) → IsSound v → (s : Session g t old v (steps_of item) last left new) → (left ≡ []) ⊎ (2 ^ 64 ≤ length s.steps)
      → IsOneChange g t old v item last new
  one_change old v item last left new sound s all =
      let due = steps_of item in
      let only : IsItem item → OnlyLastCommits due = λ is. (tt, (item_not_device item is, (tt, tt))) in
      let h = the_headline old v due last left new sound s in
      let run = the_flow old v due last left new sound s in
      record {
        left = left;
        session = s;
        ended = ends old v due last left new sound s tt all;
        headline = h;
        made = λ group is_last is rest.
            made t v s.after item s.steps s.givens s.replies left group sound s.taken run (committed_last old v due last left new sound s group is_last) (committed_one old v due last left new sound s group is_last (only is)) h is rest;
        kept = λ other is. kept v s.after s.steps s.givens s.replies (one_commits old v due last left new sound s (only is) ∙ commits_none last other) h;
      }

  one_commit : (old : C) (v : View) (last : Reply) (left : List Step) (new : C) → IsSound v → (s : Session g t old v (Close ∷ []) last left new) → (left ≡ []) ⊎ (2 ^ 64 ≤ length s.steps)
      → IsOneCommit g t old v last new
  one_commit old v last left new sound s all =
      let due = Close ∷ [] in
      let h = the_headline old v due last left new sound s in
      let run = the_flow old v due last left new sound s in
      record {
        left = left;
        session = s;
        ended = ends old v due last left new sound s tt all;
        headline = h;
        made = λ group is_last rest.
            same t v s.after s.steps s.givens s.replies left group sound s.taken run (committed_last old v due last left new sound s group is_last) (committed_one old v due last left new sound s group is_last tt) h rest;
        kept = λ other. kept v s.after s.steps s.givens s.replies (one_commits old v due last left new sound s tt ∙ commits_none last other) h;
      }

  abbrev AllSound : Type 0
  AllSound = (core : C) (v : View) → g.represents core v → IsSound v

  pub changes : AllSound → (old : C) (item : Step) (last : Reply) (new : C) → RunsOn g t old (steps_of item) last new → Changes g t old item last new
  changes sound old item last new runs = λ v represents tell.
      let all = runs.sessions v represents tell in one_change old v item last all.0 new (sound old v represents) all.1 all.2

  pub commits_all : AllSound → (old : C) (last : Reply) (new : C) → RunsOn g t old (Close ∷ []) last new → Commits g t old last new
  commits_all sound old last new runs = λ v represents tell.
      let all = runs.sessions v represents tell in one_commit old v last all.0 new (sound old v represents) all.1 all.2
