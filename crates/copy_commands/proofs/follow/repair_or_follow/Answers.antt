use Rattle.std.proofs.Common.{inl, inr}
use Rattle.copy_commands.proofs.follow.repair_or_follow.Goals as goal

pub returns-in-Ok-clause-does : goal.returns-in-Ok-clause-does
returns-in-Ok-clause-does g c = inr (
  c.if-follow.true,
  record {
    left = c.run_repair.new.places;
    failures = _;
    more_failures = _;
    begun = c.args.repaired.now;
    nothing = c.requires;
    done = c.run_repair.new.repaired;
    runs = c.in-Ok.ensures;
  },
)

pub returns-in-Err-clause-does : goal.returns-in-Err-clause-does
returns-in-Err-clause-does g c = (
  c.if-follow.true,
  record {
    left = c.run_repair.new.places;
    failures = _;
    more_failures = _;
    begun = c.args.repaired.now;
    nothing = c.requires;
    done = c.run_repair.new.repaired;
    runs = c.in-Err.ensures;
  },
)

pub returns-in-Ok-run_follow-clause-does : goal.returns-in-Ok-run_follow-clause-does
returns-in-Ok-run_follow-clause-does g c = inl (
  c.if-follow.false,
  record {
    left = c.run_follow.new.places;
    failures = _;
    more_failures = _;
    runs = c.in-Ok-run_follow.ensures.runs;
  },
)

pub returns-in-Err-run_follow-clause-does : goal.returns-in-Err-run_follow-clause-does
returns-in-Err-run_follow-clause-does g c = (
  c.if-follow.false,
  record {
    left = c.run_follow.new.places;
    failures = _;
    more_failures = _;
    runs = c.in-Err-run_follow.ensures.runs;
  },
)
