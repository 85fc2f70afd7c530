use Rattle.std.proofs.Common.{rules, ◌∙◌, ap}
use Rattle.hypercube_cli.specs.Endings.{Ending}
use Rattle.hypercube_cli.proofs.TrueFleets.{wide_claims, wide_in_fleet, wide_reported}
use Rattle.hypercube_cli.proofs.tasks.fleet.fleet_answer.Goals as goal

pub returns-in-Ok-clause-proved : goal.returns-in-Ok-clause-proved
returns-in-Ok-clause-proved c done = record {
  solvable = c.enclose_fleet.ensures.solvable;
  positive = c.law_fleet_measures.ensures.positive c.args.fleet.now c.law_fleet.ensures;
  list = c.in_ok-found.found.items;
  enclosed = c.in_ok-found.ensures.exact;
  written = ap (λ (ending : Ending). ending.text) c.of_text.ensures ∙ rw c.deref.ensures.value at c.in-Ok.ensures.text;
  contains = c.in_ok-found.ensures.contains;
  each_crew = c.in_ok-found.ensures.each_crew;
}

pub fleet_label-requires : goal.fleet_label-requires
fleet_label-requires c =
    wide_in_fleet c.args.fleet.now c.args.widths c.args.summary c.in_ok-found.found.items c.in-Err-TooWide.field-0
    c.in-Err-TooWide.measure c.in-Err-TooWide.low c.in-Err-TooWide.high (search rules) c.in_ok-found.ensures.in_range
    (rw c.deref.ensures.value at c.in-Err-TooWide.ensures.end)

pub returns-in-Err-TooWide-clause-ending : goal.returns-in-Err-TooWide-clause-ending
returns-in-Err-TooWide-clause-ending c =
    wide_reported c.args.fleet.now c.args.widths c.args.summary c.in_ok-found.found.items c.in-Err-TooWide.field-0
    c.in-Err-TooWide.measure c.in-Err-TooWide.low c.in-Err-TooWide.high c.deref-in-Err-TooWide.result.now
    c.of_wide_fleet.result (search rules) (rw c.deref.ensures.value at c.in-Err-TooWide.ensures.end)
    c.in_ok-found.ensures.exact
    (c.deref-in-Err-TooWide.ensures.value ∙ c.in_ok-fleet_label-in-Err-TooWide.ensures) c.of_wide_fleet.ensures

pub returns-in-Err-TooWide-clause-proved : goal.returns-in-Err-TooWide-clause-proved
returns-in-Err-TooWide-clause-proved c =
    wide_claims c.args.fleet.now c.args.summary c.in-Err-TooWide.measure c.in-Err-TooWide.low c.in-Err-TooWide.high
    c.deref-in-Err-TooWide.result.now c.of_wide_fleet.result c.of_wide_fleet.ensures
