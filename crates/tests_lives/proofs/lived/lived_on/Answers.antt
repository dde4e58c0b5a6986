use Rattle.std.proofs.lemmas.Result.{IfOk-weaker}
use Rattle.pool_create.specs.CoreStateOf.{state_of}
use Rattle.tests_lives.specs.Lived.{GivesBackAndOpens, HasLivedOn}
use Rattle.tests_lives.proofs.Living.{has_lived_on}
use Rattle.tests_lives.proofs.lived.lived_on.Goals as goal

pub returns : goal.returns
returns g c =
    let first = c.in_ok-first.first in
    let second = c.in_ok-second.second in
    let last = c.in_ok-last.last in
    let a = c.args in
    IfOk-weaker c.taken_back.result (λ end. GivesBackAndOpens g.D.Disk (state_of last.core) end.uberblock (state_of end.core))
    (λ end. HasLivedOn g.D.Disk a.disks.items a.pool a.config a.steps.items a.more.items end.uberblock (state_of end.core))
    (λ end gives. has_lived_on g.D.Disk c.crash_histories_keep_the_last_group.ensures a.disks.items a.pool a.config a.steps.items a.more.items first.uberblock second.uberblock
    end.uberblock (state_of first.core) (state_of second.core) (state_of last.core) (state_of end.core) c.in_ok-first.ensures c.in_ok-second.ensures
    c.in_ok-last.ensures gives)
    c.taken_back.ensures
