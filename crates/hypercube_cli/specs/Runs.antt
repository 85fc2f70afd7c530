-- What a run of the program comes to, by the endings that its command means.
use Rattle.std.specs.Prelude.{◌≡◌, ◌⊎◌, ℕ, List, Option, Result, Ok, Err, IfSome}
use Rattle.std.specs.Io.KnownBytes.{Appends, Keeps}
use Rattle.outer_world.specs.Sink.{AppendsFront}
use Rattle.hypercube_cli.specs.declared.outcome.Outcome.{Outcome}
use Rattle.hypercube_cli.specs.declared.outcome.Outcome.TheVariants as outcome
use Rattle.hypercube_cli.specs.declared.stop.Stop.{Stop}
use Rattle.hypercube_cli.specs.declared.stop.Stop.TheVariants as stop
use Rattle.hypercube_cli.specs.Endings.{Ending, refused_ending, usage_ending}
use Rattle.hypercube_cli.specs.Stops.{ending_at}

-- a call answers one of these endings, or stops at one, or for what no text tells of
abbrev pub Answers : (Ending → Type 0) → Result Ending Stop → Type 0
Answers ends (Ok ending) = ends ending
Answers ends (Err s) = IfSome (ending_at s) ends

-- the run has this ending, or was cut short while it wrote
abbrev pub Finishes : Ending → Outcome → Option (List ℕ) → Option (List ℕ) → Type 0
Finishes ending result before after =
    ((result ≡ ending.outcome) × Appends before after ending.text)
    ⊎ (((result ≡ outcome.WriteFault) ⊎ (result ≡ outcome.NoMemory)) × AppendsFront before after ending.text)

-- the run ends as was answered, or was cut short while it wrote
abbrev pub FinishesAs : Result Ending Stop → Outcome → Option (List ℕ) → Option (List ℕ) → Type 0
FinishesAs (Ok ending) result before after = Finishes ending result before after
FinishesAs (Err stop.Usage) result before after = Finishes usage_ending result before after
FinishesAs (Err (stop.Refused r)) result before after =
    Finishes (refused_ending r) result before after ⊎ ((result ≡ outcome.NoMemory) × Keeps before after)
FinishesAs (Err (stop.Absent place)) result before after = (result ≡ outcome.Absent place) × Keeps before after
FinishesAs (Err stop.ReadFault) result before after = (result ≡ outcome.ReadFault) × Keeps before after
FinishesAs (Err stop.NoMemory) result before after = (result ≡ outcome.NoMemory) × Keeps before after

-- the answer that is the one cause of an outcome
abbrev pub ComesFrom : Result Ending Stop → Outcome → Type 0
ComesFrom answer outcome.Usage = answer ≡ Err stop.Usage
ComesFrom answer (outcome.Refused r) = answer ≡ Err (stop.Refused r)
ComesFrom answer (outcome.Absent place) = answer ≡ Err (stop.Absent place)
ComesFrom answer outcome.ReadFault = answer ≡ Err stop.ReadFault
ComesFrom answer o = Prim.Unit {0}

-- the run has one of these endings, or was cut short while it wrote
pub record FinishesBy (ends : Ending → Type 0) (result : Outcome) (before after : Option (List ℕ)) : Type 0 where
  pub ending : Ending
  pub is_one : ends ending
  pub finishes : Finishes ending result before after

-- or before it wrote anything
abbrev pub Runs : (Ending → Type 0) → Outcome → Option (List ℕ) → Option (List ℕ) → Type 0
Runs ends result before after =
    FinishesBy ends result before after
    ⊎ (((result ≡ outcome.ReadFault) ⊎ (result ≡ outcome.NoMemory)) × Keeps before after)

-- a text was written of which this is proved
pub record WritesProved (proves : List ℕ → Type 0) (before after : Option (List ℕ)) : Type 0 where
  pub text : List ℕ
  pub written : Appends before after text
  pub proved : proves text
