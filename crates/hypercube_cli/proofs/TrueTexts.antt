-- What is proved of the texts of one plan, by the list that each of them prints.
use Rattle.std.proofs.Common.{◌≡◌, ℕ, ◌≤◌, ◌<◌, Bool, true, List}
use Rattle.std.specs.Prelude.{Ok}
use Rattle.hyper_model.specs.Measures.{is_of_region}
use Rattle.hyper_model.specs.Plans.{IsAccepted, units}
use Rattle.hyper_model.specs.declared.kinds.Enclosed.{Enclosed}
use Rattle.hyper_model.specs.declared.kinds.Measure.{Measure}
use Rattle.hyper_model.specs.declared.kinds.Method.{Method}
use Rattle.hyper_model.specs.declared.kinds.Method.TheVariants as method
use Rattle.hyper_model.specs.declared.parts.PlanParts.{PlanParts}
use Rattle.hyper_model.proofs.Denominators.{denominator_positive}
use Rattle.hyper_model.proofs.PlanLaws.{has_solution}
use Rattle.report_text.specs.Reports.{report_bytes}
use Rattle.plan_solver.specs.Enclosures.{IsEnclosureOf}
use Rattle.plan_solver.specs.SoundEnclosures.{IsEnclosureBy}
use Rattle.plan_solver.proofs.AllMeasures.{one_enclosure}
use Rattle.plan_solver.proofs.SoundMeasures.{sound_by, sound_contains}
use Rattle.finite_line.specs.declared.kinds.FiniteEnds.{FiniteEnds}
use Rattle.finite_line.specs.PrintedEnds.{IsFiniteEnclosureOf}
use Rattle.finite_line.specs.Refusals.{IsFinitePlan}
use Rattle.finite_line.specs.Rows.{finite_bytes}
use Rattle.finite_line.proofs.Enclosures.{finite_contains, one_finite_enclosure}
use Rattle.finite_line.proofs.Existence.{has_finite_solution}
use Rattle.finite_line.proofs.QueueMasses.{denominators_positive}
use Rattle.pair_dispatch.specs.declared.measure.PairEnds.{PairEnds}
use Rattle.pair_dispatch.specs.Acceptance.{MayPair}
use Rattle.pair_dispatch.specs.PairEnds.{IsPairEnclosureOf}
use Rattle.pair_dispatch.specs.PairTexts.{pair_bytes}
use Rattle.pair_dispatch.proofs.Contained.{enclosure_contains as pairs_contain, one_enclosure as one_pair_enclosure}
use Rattle.pair_dispatch.proofs.PairChains.{has_pair_solution}
use Rattle.site_sweep.specs.Finding.{unit_of}
use Rattle.site_sweep.specs.Placed.{placed}
use Rattle.site_sweep.specs.Sites.{AreSitesOf}
use Rattle.site_sweep.specs.Texts.{sweep_bytes}
use Rattle.site_sweep.specs.declared.site_list.Site.{Site}
use Rattle.site_sweep.proofs.AcceptedPlaces.{placed_accepted}
use Rattle.site_sweep.proofs.BestSites.{best_kept, dropped_beaten, one_list, sites_contain}
use Rattle.hypercube_cli.specs.Tasks.FiniteLines.{IsTrueFinite}
use Rattle.hypercube_cli.specs.Tasks.PairedCalls.{IsTruePairs}
use Rattle.hypercube_cli.specs.Tasks.Reports.{IsTrueReport}
use Rattle.hypercube_cli.specs.Tasks.SweptSites.{IsTrueSweep}

-- by elimination there is one list of measures
only_by : (m : Method) (p : PlanParts) (items others : List Enclosed) → IsEnclosureBy m p items → m ≡ method.Elimination
    → IsEnclosureOf p others → others ≡ items
only_by method.Elimination p items others enclosed is other = one_enclosure p items others enclosed other
only_by method.Certificate p items others enclosed is other = absurd (cc)

pub true_report : (p : PlanParts) (m : Method) (items : List Enclosed) (summary : Bool) (text : List ℕ) → IsAccepted p
    → IsEnclosureBy m p items → text ≡ report_bytes p items summary → IsTrueReport p m summary text
true_report p m items summary text accepted enclosed written = record {
  solvable = has_solution p accepted;
  positive = denominator_positive p accepted;
  items = items;
  enclosed = enclosed;
  alone = λ is others. only_by m p items others enclosed is;
  written = written;
  contains = sound_contains p accepted items (sound_by m p accepted items enclosed);
}

pub true_finite : (p : PlanParts) (places : ℕ) (items : List FiniteEnds) (text : List ℕ) → IsAccepted p → IsFinitePlan p
    → 1 ≤ places → IsFiniteEnclosureOf p places items → text ≡ finite_bytes p places items → IsTrueFinite p places text
true_finite p places items text accepted possible some enclosed written = record {
  possible = possible;
  solvable = has_finite_solution p accepted places some;
  positive = denominators_positive p accepted places some;
  contains = record {
    list = items;
    exact = enclosed;
    alone = λ (others : List FiniteEnds). one_finite_enclosure p places items others enclosed;
    written = written;
    holds = finite_contains p accepted possible.zero_line places some items enclosed;
  };
}

pub true_pairs : (p : PlanParts) (percent : ℕ) (items : List PairEnds) (text : List ℕ) → IsAccepted p → MayPair p
    → percent ≤ 100 → IsPairEnclosureOf p percent items → text ≡ pair_bytes p percent items → IsTruePairs p percent text
true_pairs p percent items text accepted possible in_range enclosed written = record {
  possible = possible;
  solvable = has_pair_solution p percent accepted in_range;
  contains = record {
    list = items;
    exact = enclosed;
    alone = λ (others : List PairEnds). one_pair_enclosure p percent items others enclosed;
    written = written;
    holds = pairs_contain p percent accepted in_range items enclosed;
  };
}

pub true_sweep : (p : PlanParts) (name : List ℕ) (n : ℕ) (m : Measure) (sites : List Site) (text : List ℕ) → IsAccepted p
    → unit_of p name ≡ Ok n → n < units p → is_of_region m ≡ true → AreSitesOf p n m sites → text ≡ sweep_bytes p n m sites
    → IsTrueSweep p name m text
true_sweep p name n m sites text accepted named l region exact written = record {
  unit = n;
  named = named;
  accepted = λ k h. placed_accepted p accepted n k l h;
  solvable = λ k h. has_solution (placed p n k) (placed_accepted p accepted n k l h);
  positive = λ k h. denominator_positive (placed p n k) (placed_accepted p accepted n k l h);
  sites = record {
    list = sites;
    exact = exact;
    alone = λ (others : List Site). one_list p n m sites others exact;
    written = written;
    holds = record {
      contains = sites_contain p n m sites exact accepted l region;
      beaten = dropped_beaten p n m sites exact accepted l region;
      best = best_kept p n m sites exact accepted l region;
    };
  };
}
