use Rattle.std.proofs.Common.{◌≡◌, ℕ, ◌^◌, ◌<◌, length, leb, ap, ◌∙◌, arith}
use Rattle.std.proofs.lemmas.Bool.Decides.{nat_tests}
use Rattle.fixed_interval.specs.WeightList.{ends_at}
use Rattle.busy_words.specs.Parts.{is_from_to, set_part}
use Rattle.busy_words.proofs.SetParts.{set_part_same}
use Rattle.busy_words.proofs.sums.part_from.Goals as goal

-- no place is past the last
up_to_all : (first n i : ℕ) → i < n → is_from_to first n i ≡ leb first i
up_to_all first n i inside = grind (arith, nat_tests)

pub returns : goal.returns
returns c =
    let items = c.args.weights.now.items in
    c.part_between.ensures
    ∙ ap (λ past. set_part (2 ^ 62) (length items) (is_from_to c.args.first past) (ends_at items)) c.len.ensures.count
    ∙ set_part_same (2 ^ 62) (length items) (is_from_to c.args.first (length items)) (λ i. leb c.args.first i) (ends_at items)
    (up_to_all c.args.first (length items))
