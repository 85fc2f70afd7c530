-- What holds of all records that a text gives.
use Rattle.std.specs.Prelude.{◌≡◌, ℕ, ◌<◌, ◌≤◌, true, List, length, All, AllPairs}
use Rattle.hyper_model.specs.Name.{is_name}
use Rattle.hyper_model.specs.Plans.{IsBetween}
use Rattle.hyper_model.specs.declared.TheConstants.{MOST_UNITS}
use Rattle.plan_text.specs.declared.TheConstants.{MOST_RECORDS}
use Rattle.plan_text.specs.declared.kind.Kind.{Kind}
use Rattle.plan_text.specs.declared.kind.Kind.TheVariants as kind
use Rattle.plan_text.specs.declared.record.Record.{Record}
use Rattle.plan_text.specs.declared.record.Record.TheVariants as rec

-- the number of a record
abbrev pub at_of : Record → ℕ
at_of (rec.Version at number) = at
at_of (rec.LineIs at line) = at
at_of (rec.RuleIs at rule) = at
at_of (rec.Period at seconds) = at
at_of (rec.UnitIs at name rate) = at
at_of (rec.AtomIs at name rate x y unit) = at
at_of (rec.Travel at origin target seconds) = at
at_of (rec.Located at unit atom thousandths) = at
at_of (rec.Prefer at atom units) = at
at_of (rec.Group at atom units) = at
at_of (rec.Crews at unit count) = at

-- the kind of a record
abbrev pub kind_in : Record → Kind
kind_in (rec.Version at number) = kind.Version
kind_in (rec.LineIs at line) = kind.Line
kind_in (rec.RuleIs at rule) = kind.Rule
kind_in (rec.Period at seconds) = kind.Period
kind_in (rec.UnitIs at name rate) = kind.Unit
kind_in (rec.AtomIs at name rate x y unit) = kind.Atom
kind_in (rec.Travel at origin target seconds) = kind.Travel
kind_in (rec.Located at unit atom thousandths) = kind.Located
kind_in (rec.Prefer at atom units) = kind.Prefer
kind_in (rec.Group at atom units) = kind.Group
kind_in (rec.Crews at unit count) = kind.Crews

abbrev pub IsName : List ℕ → Type 0
IsName bytes = is_name bytes ≡ true

-- one name or more, as many as there can be units at most
abbrev pub AreNames : List (List ℕ) → Type 0
AreNames names = All IsName names × IsBetween 1 MOST_UNITS (length names)

-- each value is in its range
abbrev pub HasValues : Record → Type 0
HasValues (rec.Version at number) = number ≤ 999999999
HasValues (rec.LineIs at line) = Unit {0}
HasValues (rec.RuleIs at rule) = Unit {0}
HasValues (rec.Period at seconds) = IsBetween 1 100000000 seconds
HasValues (rec.UnitIs at name rate) = IsName name × IsBetween 1 1000000 rate
HasValues (rec.AtomIs at name rate x y unit) =
    IsName name × (rate ≤ 1000000) × (x ≤ 1000000) × (y ≤ 1000000) × IsName unit
HasValues (rec.Travel at origin target seconds) = IsName origin × IsName target × (seconds ≤ 100000)
HasValues (rec.Located at unit atom thousandths) = IsName unit × IsName atom × IsBetween 1 1000 thousandths
HasValues (rec.Prefer at atom units) = IsName atom × AreNames units
HasValues (rec.Group at atom units) = IsName atom × AreNames units
HasValues (rec.Crews at unit count) = IsName unit × IsBetween 1 200 count

-- records with values in range, whose numbers rise
pub record IsInForm (records : List Record) : Type 0 where
  pub values : All HasValues records
  pub numbers : All (λ r. IsBetween 1 MOST_RECORDS (at_of r)) records
  pub rising : AllPairs (λ earlier later. at_of earlier < at_of later) records
