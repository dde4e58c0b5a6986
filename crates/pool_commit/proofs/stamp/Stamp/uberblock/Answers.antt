use Rattle.std.proofs.Common.{rules}
use Rattle.pool_commit.proofs.stamp.Stamp.uberblock.Goals as goal

pub returns-clause-fits : goal.returns-clause-fits
returns-clause-fits c = record {
  group = (c.requires.born, c.requires.last);
  claim = c.requires.claim;
  guid_sum = c.guids-guid_sum.type_inv;
  timestamp = c.ranges.timestamp.fits;
  root = c.requires.root;
  root_fits = c.requires.fits;
  checksum = search rules;
  config_digest = search rules;
}

pub returns-clause-is : goal.returns-clause-is
returns-clause-is c = λ i. record {
  group = c.args.group;
  guid_sum = c.guids-guid_sum.ensures i;
  timestamp = c.args.timestamp;
  root = c.args.root;
  claim = c.args.self.now.claim;
  config_digest = c.args.self.now.config_digest;
}
