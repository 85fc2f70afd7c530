-- The meaning of each command, and of arguments that are none.
use Rattle.std.specs.Prelude.{◌≡◌, false, Option, Some, None}
use Rattle.command_words.specs.declared.command.Command.{Command}
use Rattle.command_words.specs.declared.command.Command.TheVariants as command
use Rattle.hypercube_cli.specs.Endings.{usage_ending}
use Rattle.hypercube_cli.specs.Meanings.{Meaning}
use Rattle.hypercube_cli.specs.Tasks.Comparisons.{compare_meaning}
use Rattle.hypercube_cli.specs.Tasks.FiniteLines.{finite_meaning}
use Rattle.hypercube_cli.specs.Tasks.Fleets.{fleet_meaning}
use Rattle.hypercube_cli.specs.Tasks.MadePlans.{make_meaning}
use Rattle.hypercube_cli.specs.Tasks.PairedCalls.{pairs_meaning}
use Rattle.hypercube_cli.specs.Tasks.ReachedCalls.{reach_meaning}
use Rattle.hypercube_cli.specs.Tasks.ReplayedDays.{replay_meaning}
use Rattle.hypercube_cli.specs.Tasks.Reports.{solve_meaning}
use Rattle.hypercube_cli.specs.Tasks.SweptSites.{sweep_meaning}

-- it ends with the usage line, and never well
abbrev pub usage_meaning : Meaning
usage_meaning = record {
  ends = λ texts ending. ending ≡ usage_ending;
  proves = λ texts text. ⊥;
  asks = λ told fault. ⊥;
  reads = false;
}

unfoldable pub meaning_of : Option Command → Meaning
meaning_of None = usage_meaning
meaning_of (Some (command.Solve file widths workers summary method)) = solve_meaning file widths summary method
meaning_of (Some (command.Compare study widths workers method)) = compare_meaning study widths method
meaning_of (Some (command.Make units number)) = make_meaning units number
meaning_of (Some (command.Finite file places)) = finite_meaning file places
meaning_of (Some (command.Pairs file percent)) = pairs_meaning file percent
meaning_of (Some (command.Sweep file unit m)) = sweep_meaning file unit m
meaning_of (Some (command.Replay file day)) = replay_meaning file day
meaning_of (Some (command.Reach file limits)) = reach_meaning file limits
meaning_of (Some (command.Fleet file widths summary)) = fleet_meaning file widths summary
