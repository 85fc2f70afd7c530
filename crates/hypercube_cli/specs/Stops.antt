-- Why a command came to no text of its own, and the ending that this is.
use Rattle.std.specs.Prelude.{Option, Some, None}
use Rattle.hypercube_cli.specs.declared.stop.Stop.{Stop}
use Rattle.hypercube_cli.specs.declared.stop.Stop.TheVariants as stop
use Rattle.hypercube_cli.specs.Endings.{Ending, absent_ending, refused_ending, usage_ending}
use Rattle.hypercube_cli.specs.Refusals.{WantsMemory}

-- its ending: no text tells of a fault or of memory
abbrev pub ending_at : Stop → Option Ending
ending_at stop.Usage = Some usage_ending
ending_at (stop.Refused r) = Some (refused_ending r)
ending_at (stop.Absent place) = Some (absent_ending place)
ending_at stop.ReadFault = None
ending_at stop.NoMemory = None

-- a command stops so: it is one, and no refusal is for lack of memory
abbrev pub IsOfCommand : Stop → Type 0
IsOfCommand stop.Usage = ⊥
IsOfCommand (stop.Refused r) = ¬ WantsMemory r
IsOfCommand s = Prim.Unit {0}

-- the reading of a text that is there stops so
abbrev pub IsOfReading : Stop → Type 0
IsOfReading (stop.Refused r) = ¬ WantsMemory r
IsOfReading stop.NoMemory = Prim.Unit {0}
IsOfReading s = ⊥
