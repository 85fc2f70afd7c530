use Rattle.std.proofs.Common.{◌≡◌, ℕ, ◌-◌, ◌∙◌, ap, sym, arith, Bool, List, length, take, drop, length-drop}
use Rattle.std.proofs.Math.Seq.{take-length}
use Rattle.std.specs.List.{list_all}
use Rattle.hyper_model.specs.Groups.{row_of, list_of}
use Rattle.hyper_model.proofs.Grouping.{are_single_from}
use Rattle.hyper_model.proofs.preference.Lists.is_single.Goals as goal

pub returns : goal.returns
returns c =
    let row = row_of c.args.self.now c.args.atom in
    let later = drop 1 row.begins in
    let units = list_of c.args.self.now c.args.atom in
    let size : length later ≡ length units - 1 =
    omega (arith, length-drop 1 row.begins, c.list-list.ensures.one_each, c.later_begins.ensures.one_each) in
    c.all_begin.ensures
    ∙ ap (λ (bs : List Bool). list_all (λ b. b) bs) (c.later_begins.ensures.begins ∙ sym (take-length later))
    ∙ ap (λ (n : ℕ). list_all (λ b. b) (take n later)) size
    ∙ are_single_from units later
