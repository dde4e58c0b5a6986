use Rattle.volume_rules.proofs.Laying.{base_stands, committed_bytes}
use Rattle.volume_rules.proofs.Pending.{committed_iff}
use Rattle.volume_rules.proofs.laws.creation_groups_tell_what_is_committed.Goals as goal

pub returns : goal.returns
returns c = record {
  committed = committed_iff;
  bytes = committed_bytes;
  stands = base_stands;
}
