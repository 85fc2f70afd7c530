use Rattle.std.proofs.Common.{◌*◌, length, map, sym, ap, ap₂, ◌∙◌}
use Rattle.std.specs.List.{range_with_len}
use Rattle.std.proofs.lemmas.List.FromFn.{length-map-range_with_len}
use Rattle.fixed_interval.specs.Ends.{Ends, ratio_ends}
use Rattle.fixed_interval.specs.WeightList.{ends_at}
use Rattle.hyper_model.specs.Plans.{units, atoms, service_of, all_service}
use Rattle.busy_words.specs.WeightParts.{taken_part}
use Rattle.dispatch_fractions.specs.PartLists.{waiting_on}
use Rattle.hyper_model.proofs.Ranges.{table_length}
use Rattle.dispatch_fractions.proofs.Holding.{same_parts}
use Rattle.dispatch_fractions.proofs.part_list.Parts.of.Goals as goal

pub invariant_of-result : goal.invariant_of-result
invariant_of-result c =
    let p = c.args.plan.now in (
      c.units.ensures.most,
      c.atoms.ensures.most,
      ap (λ (xs : _). length xs) c.in_ok-taken.ensures
          ∙ table_length (taken_part p c.args.order.now (ends_at c.args.weights.now.items)) (atoms p) (units p)
          ∙ ap₂ (λ a b. a * b) (sym c.units.ensures.units) (sym c.atoms.ensures.atoms),
      ap (λ (xs : _). length xs) c.in_ok-help.ensures
          ∙ length-map-range_with_len (λ n. ratio_ends c.waiting_part.result (service_of p n) (all_service p)) 0 (units p)
          ∙ sym c.units.ensures.units,
    )

pub returns-clause-exact : goal.returns-clause-exact
returns-clause-exact c =
    let p = c.args.plan.now in
    let w = ends_at c.args.weights.now.items in
    let waiting = c.waiting_part.ensures ∙ ap (waiting_on p.line) c.full_part-full.ensures.ends in
    same_parts _ _ _ _ _ _ _ _ _ _ c.units.ensures.units c.atoms.ensures.atoms c.in_ok-taken.ensures
    c.full_part-full.ensures.ends
    (c.in_ok-help.ensures
    ∙ ap (λ (w : Ends). map (λ n. ratio_ends w (service_of p n) (all_service p)) (range_with_len 0 (units p))) waiting)

pub returns-clause-sized : goal.returns-clause-sized
returns-clause-sized c = record { same_units = c.units.ensures.units; same_atoms = c.atoms.ensures.atoms }
