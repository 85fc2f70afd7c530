use Rattle.std.proofs.Common.{◌≡◌, ℕ, suc, ◌+◌, ◌*◌, ◌%◌, ◌^◌, ◌<◌, not, eqb, true, false, true≢false, length, sym, ap, ◌∙◌, arith, eq-eqb, Bool, ◌⊎◌, inl, inr}
use Rattle.std.proofs.lemmas.Nat.{or_lt}
use Rattle.std.proofs.Math.Pow.{pow-lt}
use Rattle.std.specs.Int.Bits.{bit_or}
use Rattle.hyper_model.specs.Groups.{list_of, begins_at, groups_in}
use Rattle.busy_words.proofs.FirstGroups.{search_busy, search_free, search_stops, search_ends, takers_none_full, list_reaches, list_ends, member_below, member_small}
use Rattle.busy_words.proofs.dispatch.takers.Goals as goal
use Rattle.busy_words.proofs.dispatch.takers.Goals.{else-takers-ne0-via-then-takers-ne0+else-begins, else-takers-ne0-via-else-takers-ne0, then-not-is_busy, else-not-is_busy}

pub is_busy-requires : goal.is_busy-requires
is_busy-requires c =
    member_small c.args.lists.now c.units-place-end.ensures.regular c.args.atom c.loop-place.place c.unit-member.result
    c.requires.atom (omega arith) c.requires.grouped (omega (arith, c.units-place-end.ensures.most, c.units-place-end.ensures.units))
    c.unit-member.ensures

pub overflow_shl-takers : goal.overflow_shl-takers
overflow_shl-takers c =
    member_small c.args.lists.now c.units-place-end.ensures.regular c.args.atom c.loop-place.place c.unit-member.result
    c.requires.atom (omega arith) c.requires.grouped (omega (arith, c.units-place-end.ensures.most, c.units-place-end.ensures.units))
    c.unit-member.ensures

pub returns-then-begins-clause-takers : goal.returns-then-begins-clause-takers
returns-then-begins-clause-takers c =
    search_stops c.args.lists.now c.args.atom c.args.word c.loop-place.place c.loop-place.takers c.if-takers-ne0.true
    (sym c.if-begins.ensures) c.loop-place.invariant.carried

pub returns-then-begins-clause-full : goal.returns-then-begins-clause-full
returns-then-begins-clause-full c =
    takers_none_full c.args.lists.now.units (groups_in c.args.lists.now c.args.atom) c.args.word c.loop-place.takers
    c.requires.grouped c.requires.word c.loop-place.invariant.below (returns-then-begins-clause-takers c)

-- if a free unit was found, the place does not begin a group
goes_on : (takers : ℕ) (begin : Bool) → (takers ≡ 0) ⊎ (begin ≡ false) → not (eqb takers 0) ≡ true → begin ≡ false
goes_on takers begin h some = elim h [
  | inl none ↦ absurd (true≢false (sym some ∙ ap not (eq-eqb takers 0 none)))
  | inr same ↦ same
]

pub loop-place-preserved : goal.loop-place-preserved
loop-place-preserved c =
    let lists = c.args.lists.now in
    let regular = c.units-place-end.ensures.regular in
    let place : c.loop-place.place < lists.units = omega arith in
    let inside : c.loop-place.place < length (list_of lists c.args.atom) =
    list_reaches lists regular c.args.atom c.loop-place.place c.requires.atom place in
    let next : c.loop-place.place + 1 ≡ suc c.loop-place.place = omega arith in
    let go : not (eqb c.loop-place.takers 0) ≡ true → begins_at lists c.args.atom c.loop-place.place ≡ false =
    goes_on c.loop-place.takers (begins_at lists c.args.atom c.loop-place.place)
    (elim c.else-takers-ne0.branch [
      | else-takers-ne0-via-then-takers-ne0+else-begins w ↦ inr (sym w.if-begins.ensures)
      | else-takers-ne0-via-else-takers-ne0 w ↦ inl w.if-takers-ne0.false
    ]) in
    let unit_in : c.unit-member.result < lists.units =
    omega (
      arith,
      c.unit-member.ensures,
      member_below lists regular c.args.atom c.loop-place.place c.requires.atom place c.requires.grouped,
    ) in
    elim c.if-not-is_busy.branch [
      | then-not-is_busy w ↦
          let small : c.unit-member.result < 16 =
          omega (arith, c.units-place-end.ensures.most, c.units-place-end.ensures.units) in
          let bit : 1 * 2 ^ c.unit-member.result % 65536 ≡ 2 ^ c.unit-member.result = omega (arith, pow-lt small) in
          let more : c.if-not-is_busy.takers ≡ bit_or c.loop-place.takers (2 ^ c.unit-member.result) =
          w.takers-is ∙ ap (bit_or c.loop-place.takers) bit in
          record {
            carried = rw next
                (search_free lists c.args.atom c.args.word c.loop-place.place c.loop-place.takers c.unit-member.result
                c.if-not-is_busy.takers inside c.unit-member.ensures go
                (ap not (sym c.is_busy.ensures ∙ w.if-not-is_busy.true)) more c.loop-place.invariant.carried);
            below = rw more
                (or_lt lists.units c.loop-place.takers (2 ^ c.unit-member.result) c.loop-place.invariant.below
                (pow-lt unit_in));
          }
      | else-not-is_busy w ↦ record {
        carried = rw (next, w.takers-is)
            (search_busy lists c.args.atom c.args.word c.loop-place.place c.loop-place.takers c.unit-member.result inside
            c.unit-member.ensures go (ap not (sym c.is_busy.ensures ∙ w.if-not-is_busy.false))
            c.loop-place.invariant.carried);
        below = rw w.takers-is c.loop-place.invariant.below;
      }
    ]

pub returns-clause-takers : goal.returns-clause-takers
returns-clause-takers c =
    search_ends c.args.lists.now c.args.atom c.args.word c.loop-place.place c.loop-place.takers
    (list_ends c.args.lists.now c.units-place-end.ensures.regular c.args.atom c.loop-place.place c.requires.atom
    (omega arith))
    c.loop-place.invariant.carried

pub returns-clause-full : goal.returns-clause-full
returns-clause-full c =
    takers_none_full c.args.lists.now.units (groups_in c.args.lists.now c.args.atom) c.args.word c.loop-place.takers
    c.requires.grouped c.requires.word c.loop-place.invariant.below (returns-clause-takers c)
