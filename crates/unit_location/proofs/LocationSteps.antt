-- Thousandths that are read one by one, and the refusal of all.
use Rattle.std.proofs.Common.{◌≡◌, ◌≢◌, ◌∙◌, ℕ, ◌+◌, ◌<◌, List, length, true, false, refl, sym, ap, arith}
use Rattle.std.specs.Prelude.{Bool, ◌==◌, Option, Some, None, Result, Ok, Err, find, not}
use Rattle.std.specs.List.{range_with_len}
use Rattle.std.specs.Option.{option_map, option_or}
use Rattle.std.proofs.lemmas.Bool.Decides.{nat_tests}
use Rattle.hyper_model.specs.Acceptance.{AreWhole}
use Rattle.hyper_model.specs.Grid.{Grid}
use Rattle.plan_text.specs.Steps.{◌>>=◌, unless_refused}
use Rattle.plan_text.specs.declared.record.Record.{Record}
use Rattle.plan_text.specs.declared.record.Record.TheVariants as rec
use Rattle.plan_text.proofs.Over.{option_or-none}
use Rattle.atom_table.specs.Names.{place_of}
use Rattle.atom_table.specs.Entries.{Entries, atom_names, unit_names}
use Rattle.atom_table.proofs.FirstBelow.{find-here, find-more, find-none, numbers_from}
use Rattle.atom_table.proofs.GivenValues.{IsInside, given_for-inside}
use Rattle.atom_table.proofs.OwnNames.{atom_of-within, unit_of-within}
use Rattle.unit_location.specs.Located.{located_in, located_of, row_sum, share_in, shares_refusal, sums_refusal}
use Rattle.unit_location.specs.declared.refusal.LocationRefusal.{LocationRefusal}
use Rattle.unit_location.specs.declared.refusal.LocationRefusal.TheVariants.{LocationSum}

-- a unit and an atom lie within the table
pub share_in-inside : (entries : Entries) (r : Record) → 0 < length entries.units → 0 < length entries.atoms
    → IsInside (length entries.units) (length entries.atoms) (share_in entries r)
share_in-inside entries (rec.Located at unit atom thousandths) units atoms given is =
    given_for-inside (length entries.units) (length entries.atoms) at thousandths (place_of (unit_names entries.units) unit)
    (place_of (atom_names entries.atoms) atom) (unit_of-within entries.units unit) (atom_of-within entries.atoms atom) given is
share_in-inside entries _ units atoms given is = absurd (cc)

-- in a table that is not refused each row sums to 1000
pub sums_refusal-none : (table : Grid) → sums_refusal table ≡ None → AreWhole table
sums_refusal-none table h r lt =
    let none = gone (find (λ unit. not (row_sum table unit == 1000)) (range_with_len 0 table.rows)) h in
    let fails : not (row_sum table r == 1000) ≡ false =
    find-none (λ unit. not (row_sum table unit == 1000)) 0 table.rows none r (omega arith) (omega arith) in
    whole (row_sum table r) fails
  where
    gone : (o : Option ℕ) → option_map (λ unit. LocationSum (unit + 1) (row_sum table unit)) o ≡ None → o ≡ None
    gone None q = refl
    gone (Some unit) q = absurd (cc)

    whole : (sum : ℕ) → not (sum == 1000) ≡ false → sum ≡ 1000
    whole sum q = grind (arith, nat_tests, q)

-- the test that a unit fails whose thousandths are 1000
abbrev pub is_not_whole : Grid → ℕ → Bool
is_not_whole table unit = not (row_sum table unit == 1000)

differs : (sum : ℕ) → sum ≢ 1000 → not (sum == 1000) ≡ true
differs sum ne = grind (arith, nat_tests)

agrees : (sum : ℕ) → sum ≡ 1000 → not (sum == 1000) ≡ false
agrees sum e = grind (arith, nat_tests)

-- the first unit with another sum
pub sums_refusal-here : (table : Grid) (unit sum : ℕ) → unit < table.rows → sum ≡ row_sum table unit → sum ≢ 1000
    → find (is_not_whole table) (numbers_from unit table.rows) ≡ find (is_not_whole table) (range_with_len 0 table.rows)
    → sums_refusal table ≡ Some (LocationSum (unit + 1) sum)
sums_refusal-here table unit sum lt is ne so =
    let passes : is_not_whole table unit ≡ true = rw is at (differs sum ne) in
    let found : find (is_not_whole table) (range_with_len 0 table.rows) ≡ Some unit =
    sym so ∙ find-here (is_not_whole table) unit table.rows lt passes in
    rw is (ap (option_map (λ (n : ℕ). LocationSum (n + 1) (row_sum table n))) found)

-- a unit with the right sum
pub is_not_whole-more : (table : Grid) (unit sum : ℕ) → unit < table.rows → sum ≡ row_sum table unit → sum ≡ 1000
    → find (is_not_whole table) (numbers_from unit table.rows) ≡ find (is_not_whole table) (range_with_len 0 table.rows)
    → find (is_not_whole table) (numbers_from (unit + 1) table.rows) ≡ find (is_not_whole table) (range_with_len 0 table.rows)
is_not_whole-more table unit sum lt is e so =
    let fails : is_not_whole table unit ≡ false = rw is at (agrees sum e) in
    sym (find-more (is_not_whole table) unit table.rows lt fails) ∙ so

module _ (entries : Entries) (records : List Record) where
  -- what the records give, by the refusal
  abbrev by_refusal : Option LocationRefusal → Result Grid LocationRefusal
  by_refusal refused = unless_refused refused >>= λ _. Ok (located_in entries records)

  pub located_of-twice : (e : LocationRefusal) → shares_refusal entries records ≡ Some e → located_of entries records ≡ Err e
  unfolding located_of
  located_of-twice e h =
      let all : option_or (shares_refusal entries records) (sums_refusal (located_in entries records)) ≡ Some e = rw h refl in
      ap by_refusal all

  pub located_of-sum : (e : LocationRefusal) → shares_refusal entries records ≡ None
      → sums_refusal (located_in entries records) ≡ Some e → located_of entries records ≡ Err e
  unfolding located_of
  located_of-sum e none h =
      let all : option_or (shares_refusal entries records) (sums_refusal (located_in entries records)) ≡ Some e =
      ap (λ (o : Option LocationRefusal). option_or o (sums_refusal (located_in entries records))) none ∙ h in
      ap by_refusal all

  pub located_of-read : shares_refusal entries records ≡ None → sums_refusal (located_in entries records) ≡ None
      → located_of entries records ≡ Ok (located_in entries records)
  unfolding located_of
  located_of-read none whole =
      let all : option_or (shares_refusal entries records) (sums_refusal (located_in entries records)) ≡ None =
      ap (λ (o : Option LocationRefusal). option_or o (sums_refusal (located_in entries records))) none ∙ whole in
      ap by_refusal all

  -- what records give is the table of their thousandths, and its rows are whole
  pub located_of-ok : (table : Grid) → located_of entries records ≡ Ok table
      → (table ≡ located_in entries records) × (sums_refusal (located_in entries records) ≡ None)
  unfolding located_of
  located_of-ok table h =
      by (option_or (shares_refusal entries records) (sums_refusal (located_in entries records))) refl h
    where
      by : (refused : Option LocationRefusal)
          → option_or (shares_refusal entries records) (sums_refusal (located_in entries records)) ≡ refused
          → (unless_refused refused >>= λ _. Ok (located_in entries records)) ≡ Ok table
          → (table ≡ located_in entries records) × (sums_refusal (located_in entries records) ≡ None)
      by None e q = (cc, (option_or-none (shares_refusal entries records) (sums_refusal (located_in entries records)) e).1)
      by (Some x) e q = absurd (cc)
