-- Refusals of a plan: their numbers, their arguments, and those of the readers as such.
use Rattle.std.specs.Prelude.{ℕ, List, Option}
use Rattle.text_lines.specs.RefusalCodes.{of_one, of_two, plain}
use Rattle.text_lines.specs.declared.refusal_code.RefusalCode.{RefusalCode}
use Rattle.plan_text.specs.declared.refusal.TextRefusal.{TextRefusal}
use Rattle.plan_text.specs.declared.refusal.TextRefusal.TheVariants as text
use Rattle.atom_table.specs.declared.refusal.AtomRefusal.{AtomRefusal}
use Rattle.atom_table.specs.declared.refusal.AtomRefusal.TheVariants as atom
use Rattle.travel_table.specs.declared.refusal.TravelRefusal.{TravelRefusal}
use Rattle.travel_table.specs.declared.refusal.TravelRefusal.TheVariants as travel
use Rattle.unit_location.specs.declared.refusal.LocationRefusal.{LocationRefusal}
use Rattle.unit_location.specs.declared.refusal.LocationRefusal.TheVariants as location
use Rattle.preference_rules.specs.declared.refusal.ListRefusal.{ListRefusal}
use Rattle.preference_rules.specs.declared.refusal.ListRefusal.TheVariants as list
use Rattle.plan_reader.specs.declared.refusal.PlanRefusal.{PlanRefusal}
use Rattle.plan_reader.specs.declared.refusal.PlanRefusal.TheVariants as plan

-- the number and the arguments by which a refusal is reported
abbrev pub code_of : PlanRefusal → RefusalCode
code_of (plan.NotUtf8 row) = of_one 1 row
code_of (plan.TooLong bytes) = of_one 2 bytes
code_of (plan.UnknownKind row) = of_one 3 row
code_of (plan.FieldCount row) = of_one 4 row
code_of (plan.BadNumber row field) = of_two 5 row field
code_of (plan.BadName row field) = of_two 6 row field
code_of (plan.TooManyRecords row) = of_one 7 row
code_of (plan.DuplicateAtom row) = of_one 10 row
code_of (plan.DuplicateUnit row) = of_one 11 row
code_of (plan.TooManyAtoms row) = of_one 12 row
code_of (plan.TooManyUnits row) = of_one 13 row
code_of (plan.UnknownName row field) = of_two 14 row field
code_of plan.NoUnits = plain 15
code_of plan.NoAtoms = plain 16
code_of plan.NoCalls = plain 17
code_of (plan.RateSum sum) = of_one 18 sum
code_of (plan.ServiceSum sum) = of_one 19 sum
code_of (plan.DuplicateTravel row) = of_one 20 row
code_of (plan.MissingTravel origin target) = of_two 21 origin target
code_of (plan.DuplicateLocation row) = of_one 30 row
code_of (plan.LocationSum unit sum) = of_two 31 unit sum
code_of (plan.MissingList atom) = of_one 40 atom
code_of (plan.ListNotWhole atom) = of_one 41 atom
code_of (plan.ListNotAsked row) = of_one 42 row
code_of (plan.ListTwice row) = of_one 43 row
code_of (plan.Version row) = of_one 50 row
code_of (plan.SettingTwice row) = of_one 51 row
code_of (plan.NotStable calls service) = of_two 52 calls service
code_of plan.NoMemory = plain 0

abbrev pub number_of : PlanRefusal → ℕ
number_of r = (code_of r).number

abbrev pub arguments_of : PlanRefusal → List (Option ℕ)
arguments_of r = (code_of r).arguments

abbrev pub of_text : TextRefusal → PlanRefusal
of_text (text.NotUtf8 row) = plan.NotUtf8 row
of_text (text.TooLong bytes) = plan.TooLong bytes
of_text (text.UnknownKind row) = plan.UnknownKind row
of_text (text.FieldCount row) = plan.FieldCount row
of_text (text.BadNumber row field) = plan.BadNumber row field
of_text (text.BadName row field) = plan.BadName row field
of_text (text.TooManyRecords row) = plan.TooManyRecords row
of_text text.NoMemory = plan.NoMemory

abbrev pub of_atom : AtomRefusal → PlanRefusal
of_atom (atom.DuplicateAtom row) = plan.DuplicateAtom row
of_atom (atom.DuplicateUnit row) = plan.DuplicateUnit row
of_atom (atom.TooManyAtoms row) = plan.TooManyAtoms row
of_atom (atom.TooManyUnits row) = plan.TooManyUnits row
of_atom (atom.UnknownName row field) = plan.UnknownName row field
of_atom atom.NoUnits = plan.NoUnits
of_atom atom.NoAtoms = plan.NoAtoms
of_atom atom.NoCalls = plan.NoCalls
of_atom (atom.RateSum sum) = plan.RateSum sum
of_atom (atom.ServiceSum sum) = plan.ServiceSum sum
of_atom atom.NoMemory = plan.NoMemory

abbrev pub of_travel : TravelRefusal → PlanRefusal
of_travel (travel.DuplicateTravel row) = plan.DuplicateTravel row
of_travel (travel.MissingTravel origin target) = plan.MissingTravel origin target
of_travel travel.NoMemory = plan.NoMemory

abbrev pub of_location : LocationRefusal → PlanRefusal
of_location (location.DuplicateLocation row) = plan.DuplicateLocation row
of_location (location.LocationSum unit sum) = plan.LocationSum unit sum
of_location location.NoMemory = plan.NoMemory

abbrev pub of_list : ListRefusal → PlanRefusal
of_list (list.MissingList atom) = plan.MissingList atom
of_list (list.ListNotWhole atom) = plan.ListNotWhole atom
of_list (list.ListNotAsked row) = plan.ListNotAsked row
of_list (list.ListTwice row) = plan.ListTwice row
of_list list.NoMemory = plan.NoMemory
