-- The crews that records give stations.
use Rattle.std.proofs.Common.{◌≡◌, ◌∙◌, ℕ, ◌+◌, ◌<◌, List, [], ◌∷◌, ◌++◌, length, get_or, take, drop, refl, ap, arith}
use Rattle.std.specs.Prelude.{Bool, true, false, if◌then◌else◌, All, Option, Some, None, slice_get, slice_index_or, unwrap_or}
use Rattle.std.specs.Option.{option_or}
use Rattle.std.specs.Str.{bytes_eq}
use Rattle.std.proofs.lemmas.List.{get_or-map, length-map, map-append}
use Rattle.std.proofs.lemmas.List.Elements.{All-head, All-tail}
use Rattle.std.proofs.lemmas.Option.{get_or_from_slice_get, slice_get_within}
use Rattle.hyper_model.specs.declared.parts.Unit as declared_unit
use Rattle.hyper_model.proofs.ListPlaces.{rest_at, taken_at}
use Rattle.plan_text.specs.Form.{HasValues}
use Rattle.plan_text.specs.declared.record.Record.{Record}
use Rattle.plan_text.specs.declared.record.Record.TheVariants as rec
use Rattle.atom_table.specs.Entries.{unit_names}
use Rattle.atom_table.specs.Names.{is_among}
use Rattle.plan_reader.specs.Settings.{first_value}
use Rattle.plan_reader.specs.Crews.{count_for, crews_given, crews_in}

-- crews that a record gives are one at least
count_for-some : (name : List ℕ) (r : Record) (count : ℕ) → HasValues r → count_for name r ≡ Some count → 0 < count
count_for-some name (rec.Crews at unit given) count values h = by (bytes_eq unit name) h
  where
    by : (same : Bool) → (if same then Some given else None) ≡ Some count → 0 < count
    by true q = let is : given ≡ count = cc in omega (arith, is, values.1.low)
    by false q = absurd (cc)
count_for-some name _ count values h = absurd (cc)

pub crews_given-some : (records : List Record) (name : List ℕ) → All HasValues records → 0 < crews_given records name
crews_given-some [] name values = omega arith
crews_given-some (r ∷ records) name values =
    by (count_for name r) refl (crews_given-some records name (All-tail HasValues r records values))
  where
    by : (o : Option ℕ) → count_for name r ≡ o → 0 < crews_given records name
        → 0 < unwrap_or (option_or o (first_value (count_for name) records)) 1
    by None e rest = rest
    by (Some count) e rest = count_for-some name r count (All-head HasValues r records values) e

-- one number of crews for each station
pub one_each : (stations : List declared_unit.Unit) (records : List Record)
    → length (crews_in (unit_names stations) records) ≡ length stations
one_each stations records =
    length-map (unit_names stations) (crews_given records) ∙ length-map stations (λ (unit : declared_unit.Unit). unit.name)

pub crews_at-some : (stations : List declared_unit.Unit) (records : List Record) (k : ℕ) → All HasValues records → k < length stations
    → 0 < slice_index_or (crews_in (unit_names stations) records) k 0
crews_at-some stations records k values lt =
    let long : length (unit_names stations) ≡ length stations = length-map stations (λ (unit : declared_unit.Unit). unit.name) in
    let is : get_or (crews_in (unit_names stations) records) k 0 ≡ crews_given records (get_or (unit_names stations) k []) =
    get_or-map (crews_given records) (unit_names stations) k [] 0 (omega (arith, long, lt)) in
    omega (arith, is, crews_given-some records (get_or (unit_names stations) k []) values)

-- the crews of the first stations, and of one more
pub crews_in-more : (stations : List declared_unit.Unit) (records : List Record) (k : ℕ) (unit : declared_unit.Unit)
    → slice_get stations k ≡ Some unit
    → crews_in (unit_names (take (k + 1) stations)) records
    ≡ crews_in (unit_names (take k stations)) records ++ crews_given records unit.name ∷ []
crews_in-more stations records k unit got =
    let is : get_or stations k unit ≡ unit = get_or_from_slice_get stations k unit unit got in
    let next : take (k + 1) stations ≡ take k stations ++ unit ∷ [] = taken_at stations k unit (slice_get_within stations k unit got) is in
    ap (λ (list : List declared_unit.Unit). crews_in (unit_names list) records) next
    ∙ ap (λ (names : List (List ℕ)). crews_in names records) (map-append (λ (u : declared_unit.Unit). u.name) (take k stations) (unit ∷ []))
    ∙ map-append (crews_given records) (unit_names (take k stations)) (unit.name ∷ [])

-- a name among those of the stations from one on
pub found_at : (stations : List declared_unit.Unit) (name : List ℕ) (k : ℕ) (unit : declared_unit.Unit) → slice_get stations k ≡ Some unit
    → bytes_eq name unit.name ≡ true → is_among (unit_names (drop k stations)) name ≡ true
found_at stations name k unit got same =
    let is : get_or stations k unit ≡ unit = get_or_from_slice_get stations k unit unit got in
    rw (rest_at stations k unit (slice_get_within stations k unit got) is, same) refl

pub missed_at : (stations : List declared_unit.Unit) (name : List ℕ) (k : ℕ) (unit : declared_unit.Unit) → slice_get stations k ≡ Some unit
    → bytes_eq name unit.name ≡ false
    → is_among (unit_names (drop k stations)) name ≡ is_among (unit_names (drop (k + 1) stations)) name
missed_at stations name k unit got other =
    let is : get_or stations k unit ≡ unit = get_or_from_slice_get stations k unit unit got in
    rw (rest_at stations k unit (slice_get_within stations k unit got) is, other) refl
