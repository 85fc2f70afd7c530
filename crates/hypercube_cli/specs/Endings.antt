-- How a run ends if nothing outside fails: its outcome, and all that it writes.
use Rattle.std.specs.Prelude.{◌≡◌, ℕ, List, [], Result, Ok, Err}
use Rattle.hyper_model.specs.Measures.{scale_of}
use Rattle.hyper_model.specs.declared.kinds.Measure.{Measure}
use Rattle.fleet_measures.specs.FleetMeasures.{fleet_scale}
use Rattle.fleet_measures.specs.declared.kinds.FleetMeasure.{FleetMeasure}
use Rattle.hypercube_cli.specs.declared.outcome.Outcome.{Outcome}
use Rattle.hypercube_cli.specs.declared.outcome.Outcome.TheVariants as outcome
use Rattle.hypercube_cli.specs.declared.refusal.Refusal.{Refusal}
use Rattle.command_words.specs.Command.{usage_line}
use Rattle.hypercube_cli.specs.Lines.{refusal_line, wide_line}

pub record Ending : Type 0 where
  pub outcome : Outcome
  pub text : List ℕ

abbrev pub usage_ending : Ending
usage_ending = record { outcome = outcome.Usage; text = usage_line }

-- the text of the command
abbrev pub done_ending : List ℕ → Ending
done_ending text = record { outcome = outcome.Done; text = text }

-- no text has the name that is asked at this place
abbrev pub absent_ending : ℕ → Ending
absent_ending place = record { outcome = outcome.Absent place; text = [] }

abbrev pub refused_ending : Refusal → Ending
refused_ending r = record { outcome = outcome.Refused r; text = refusal_line r }

abbrev pub wide_ending : List ℕ → ℕ → Measure → ℕ → ℕ → Ending
wide_ending label place m lo hi = record {
  outcome = outcome.TooWide place m lo hi;
  text = wide_line label place (scale_of m) lo hi;
}

-- a fleet stands at place 1
abbrev pub wide_fleet_ending : List ℕ → FleetMeasure → ℕ → ℕ → Ending
wide_fleet_ending label m lo hi = record {
  outcome = outcome.FleetTooWide m lo hi;
  text = wide_line label 1 (fleet_scale m) lo hi;
}

-- the outcome of what a command writes of its own: its text, or a measure that is too wide for it
abbrev pub IsOwn : Outcome → Type 0
IsOwn outcome.Done = Prim.Unit {0}
IsOwn (outcome.TooWide place m lo hi) = Prim.Unit {0}
IsOwn (outcome.FleetTooWide m lo hi) = Prim.Unit {0}
IsOwn o = ⊥

-- the ending is one of those that a value has, or, if there is none, the one that stands in its place
abbrev pub EndsFrom : {X : Type 0} → Result X Ending → (X → Ending → Type 0) → Ending → Type 0
EndsFrom (Ok x) ends ending = ends x ending
EndsFrom (Err instead) ends ending = ending ≡ instead
