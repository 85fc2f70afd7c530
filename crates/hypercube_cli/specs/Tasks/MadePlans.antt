-- What the text of a plan comes to that is drawn from numbers: the text, or a refusal.
use Rattle.std.specs.Prelude.{◌≡◌, ◌⊎◌, ℕ, false}
use Rattle.plan_maker.specs.Plans.{IsMakeable, plan_bytes}
use Rattle.plan_maker.specs.declared.refusal.MakeRefusal.TheVariants.{MakeRange}
use Rattle.hypercube_cli.specs.declared.refusal.Refusal.TheVariants as refused
use Rattle.hypercube_cli.specs.Endings.{Ending, done_ending, refused_ending}
use Rattle.hypercube_cli.specs.Meanings.{Meaning}

abbrev pub IsMade : ℕ → ℕ → Ending → Type 0
IsMade units number ending =
    (IsMakeable units number × (ending ≡ done_ending (plan_bytes units number)))
    ⊎ ((IsMakeable units number → ⊥) × (ending ≡ refused_ending (refused.Make MakeRange)))

abbrev pub make_meaning : ℕ → ℕ → Meaning
make_meaning units number = record {
  ends = λ texts. IsMade units number;
  proves = λ texts text. text ≡ plan_bytes units number;
  asks = λ told fault. ⊥;
  reads = false;
}
