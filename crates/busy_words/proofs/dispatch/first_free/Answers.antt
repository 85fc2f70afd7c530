use Rattle.std.proofs.Common.{◌≡◌, ℕ, ◌-◌, ◌<◌, ◌^◌, drop, not, sym, ap, ◌∙◌, subst, arith}
use Rattle.std.specs.Prelude.{◌↔◌, Option, Some, None}
use Rattle.hyper_model.specs.Groups.{GroupLists, IsGrouped, groups_in, list_of, row_of}
use Rattle.hyper_model.specs.Words.{is_busy, first_free}
use Rattle.busy_words.proofs.FirstGroups.{first_none_full, found_here, found_none, found_later, list_reaches, list_ends, member_small}
use Rattle.busy_words.proofs.dispatch.first_free.Goals as goal

-- there is no answer exactly at the full word
none_full : (lists : GroupLists) (atom word : ℕ) → IsGrouped lists.units (groups_in lists atom) → word < 2 ^ lists.units
    → (answer : Option ℕ) → answer ≡ first_free lists atom word → (answer ≡ None) ↔ (word ≡ 2 ^ lists.units - 1)
none_full lists atom word grouped below answer is =
    subst (λ r. (r ≡ None) ↔ (word ≡ 2 ^ lists.units - 1)) (sym is)
    (first_none_full lists.units (list_of lists atom) (drop 1 (row_of lists atom).begins) grouped word below)

pub is_busy-requires : goal.is_busy-requires
is_busy-requires c =
    member_small c.args.lists.now c.units-place-end.ensures.regular c.args.atom c.loop-place.place c.unit-unit.result
    c.requires.atom (omega arith) c.requires.grouped (omega (arith, c.units-place-end.ensures.most, c.units-place-end.ensures.units))
    c.unit-unit.ensures

pub returns-then-not-is_busy : goal.returns-then-not-is_busy
returns-then-not-is_busy c =
    let lists = c.args.lists.now in
    let inside = list_reaches lists c.units-place-end.ensures.regular c.args.atom c.loop-place.place c.requires.atom
    (omega arith) in
    let free = ap not (sym c.is_busy.ensures ∙ c.if-not-is_busy.true) in
    let found : Some c.unit-unit.result ≡ first_free lists c.args.atom c.args.word =
    ap (λ u. Some u) c.unit-unit.ensures
    ∙ sym (found_here (list_of lists c.args.atom) c.args.word c.loop-place.place inside
    (ap (λ u. not (is_busy c.args.word u)) (sym c.unit-unit.ensures) ∙ free))
    ∙ c.loop-place.invariant in
    record { first = found; full = none_full lists c.args.atom c.args.word c.requires.grouped c.requires.word _ found }

pub loop-place-preserved : goal.loop-place-preserved
loop-place-preserved c =
    let lists = c.args.lists.now in
    let inside = list_reaches lists c.units-place-end.ensures.regular c.args.atom c.loop-place.place c.requires.atom
    (omega arith) in
    let busy = ap not (sym c.is_busy.ensures ∙ c.if-not-is_busy.false) in
    found_later (list_of lists c.args.atom) c.args.word c.loop-place.place inside
    (ap (λ u. not (is_busy c.args.word u)) (sym c.unit-unit.ensures) ∙ busy)
    ∙ c.loop-place.invariant

pub returns : goal.returns
returns c =
    let lists = c.args.lists.now in
    let found : None ≡ first_free lists c.args.atom c.args.word =
    sym (found_none (list_of lists c.args.atom) c.args.word c.loop-place.place
    (list_ends lists c.units-place-end.ensures.regular c.args.atom c.loop-place.place c.requires.atom (omega arith)))
    ∙ c.loop-place.invariant in
    record { first = found; full = none_full lists c.args.atom c.args.word c.requires.grouped c.requires.word _ found }
