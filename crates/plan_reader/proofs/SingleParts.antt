-- The parts that records without groups give.
use Rattle.std.proofs.Common.{◌≡◌, ℕ, ◌<◌, true, List, subst}
use Rattle.std.specs.Prelude.{All, Ok}
use Rattle.hyper_model.specs.Plans.{are_single, atoms, groups_of}
use Rattle.hyper_model.specs.declared.parts.PlanParts.{PlanParts}
use Rattle.plan_text.specs.declared.kind.AddedKind.{AddedKind}
use Rattle.plan_text.specs.declared.record.Record.{Record}
use Rattle.plan_text.proofs.NoGroups.{IsUngrouped}
use Rattle.atom_table.specs.Refusals.{entries_of}
use Rattle.travel_table.specs.Travel.{travel_of}
use Rattle.unit_location.specs.Located.{located_of}
use Rattle.preference_rules.specs.Given.{preferences_of}
use Rattle.preference_rules.proofs.SingleLists.{single_lists}
use Rattle.plan_reader.specs.PlanOf.{parts_given, parts_of}
use Rattle.plan_reader.specs.Refusals.{of_atom, of_list, of_location, of_travel}
use Rattle.plan_reader.specs.Settings.{settings_of}
use Rattle.plan_reader.proofs.AcceptedPlan.{after_own, after_step}

-- each group of each list has one unit
abbrev pub AreSingle : PlanParts → Type 0
AreSingle p = (j : ℕ) → j < atoms p → are_single (groups_of p j) ≡ true

pub parts_given-single : (more : AddedKind) (records : List Record) (parts : PlanParts) → All IsUngrouped records
    → parts_given more records ≡ Ok parts → AreSingle parts
unfolding parts_given
parts_given-single more records parts plain h =
    after_own AreSingle (settings_of more records) _ parts h (λ settings set h1.
    after_step AreSingle of_atom (entries_of records) _ parts h1 (λ entries given h2.
    after_step AreSingle of_travel (travel_of entries records) _ parts h2 (λ travel trips h3.
    after_step AreSingle of_location (located_of entries records) _ parts h3 (λ located places h4.
    after_step AreSingle of_list (preferences_of settings.rule entries located records) _ parts h4 (λ lists preferred h5.
    let is : parts_of settings entries lists located travel ≡ parts = cc in
    subst AreSingle is (single_lists settings.rule entries located records lists plain preferred))))))
