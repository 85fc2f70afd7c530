-- What a run's outcome tells the one who started it.
use Rattle.std.specs.Prelude.{ℕ}
use Rattle.hypercube_cli.specs.declared.outcome.Outcome.{Outcome}
use Rattle.hypercube_cli.specs.declared.outcome.Outcome.TheVariants as outcome

abbrev pub status_of : Outcome → ℕ
status_of outcome.Done = 0
status_of outcome.Usage = 1
status_of (outcome.Refused refusal) = 2
status_of (outcome.TooWide place m lo hi) = 3
status_of (outcome.FleetTooWide m lo hi) = 3
status_of (outcome.Absent place) = 4
status_of outcome.ReadFault = 5
status_of outcome.WriteFault = 6
status_of outcome.NoMemory = 7
