use Rattle.std.proofs.Common.{◌≡◌, ◌∙◌, ◌<◌, length, get_or, false, true, refl, sym, ap, arith, rules}
use Rattle.std.specs.Prelude.{not}
use Rattle.std.proofs.lemmas.Grind.{common_steps}
use Rattle.atom_table.specs.Pairs.{PairTable, is_known}
use Rattle.atom_table.proofs.FirstBelow.{find-more}
use Rattle.atom_table.proofs.pair_values.PairValues.first_gap.Goals as goal

pub loop-pair-preserved : goal.loop-pair-preserved
loop-pair-preserved c =
    let same : c.self.inside.known.items ≡ c.args.self.now.known = ap (λ (values : PairTable). values.known) c.self.view_is in
    let inside : c.loop-pair.pair < length c.self.inside.known.items = omega arith in
    let lt : c.loop-pair.pair < length c.args.self.now.known = rw same at inside in
    let there : get_or c.self.inside.known.items c.loop-pair.pair false ≡ true = first_of (search rules, grind (arith, common_steps)) in
    let known : is_known c.args.self.now c.loop-pair.pair ≡ true = rw same at there in
    let fails : not (is_known c.args.self.now c.loop-pair.pair) ≡ false = rw known refl in
    sym (find-more (λ pair. not (is_known c.args.self.now pair)) c.loop-pair.pair (length c.args.self.now.known) lt fails)
    ∙ c.loop-pair.invariant
