-- The values that records give the settings, with one record more.
use Rattle.std.proofs.Common.{◌≡◌, ◌∙◌, ℕ, ◌+◌, ◌<◌, ◌≤◌, true, false, List, [], ◌∷◌, ◌++◌, length, get_or, take, refl, sym, ap, arith}
use Rattle.std.specs.Prelude.{Bool, ◌==◌, ◌||◌, if◌then◌else◌, Option, Some, None, Ok, Err, All, is_some, unwrap_or}
use Rattle.std.specs.List.{list_any}
use Rattle.std.specs.Option.{option_or}
use Rattle.std.proofs.lemmas.List.{take_all, take_more}
use Rattle.std.proofs.lemmas.List.Elements.{All-head, All-tail}
use Rattle.std.proofs.lemmas.List.Folds.{list_any_none}
use Rattle.hyper_model.specs.Plans.{IsBetween}
use Rattle.hyper_model.specs.declared.kinds.Line.{Line}
use Rattle.hyper_model.specs.declared.kinds.Rule.{Rule}
use Rattle.plan_text.specs.Form.{HasValues, at_of}
use Rattle.plan_text.specs.Kinds.{added_version}
use Rattle.plan_text.specs.Steps.{◌>>=◌, unless_refused}
use Rattle.plan_text.specs.declared.kind.AddedKind.{AddedKind}
use Rattle.plan_text.specs.declared.record.Record.{Record}
use Rattle.plan_text.specs.declared.record.Record.TheVariants as rec
use Rattle.plan_reader.specs.Settings.{are_one_setting, first_value, line_in, period_in, rule_in, setting_refusal, settings_in, settings_of, settings_refusal, version_in, version_refusal}
use Rattle.plan_reader.specs.SettingValues.{settings_of_values, value_refusal, with_setting}
use Rattle.plan_reader.specs.declared.refusal.PlanRefusal.{PlanRefusal}
use Rattle.plan_reader.specs.declared.refusal.PlanRefusal.TheVariants.{SettingTwice, Version}
use Rattle.plan_reader.specs.declared.settings.Settings.{Settings}
use Rattle.plan_reader.specs.declared.settings.TheConstants.{HOUR}
use Rattle.plan_reader.specs.declared.settings.Values.{Values}

-- the values that records give the settings
abbrev pub values_in : List Record → Values
values_in records = record {
  version = first_value version_in records;
  line = first_value line_in records;
  rule = first_value rule_in records;
  period = first_value period_in records;
}

or_assoc : {A : Type 0} (a b c : Option A) → option_or a (option_or b c) ≡ option_or (option_or a b) c
or_assoc None b c = refl
or_assoc (Some x) b c = refl

or_none : {A : Type 0} (a : Option A) → option_or a None ≡ a
or_none None = refl
or_none (Some x) = refl

first_value-push : {A : Type 0} (value : Record → Option A) (records : List Record) (r : Record)
    → first_value value (records ++ r ∷ []) ≡ option_or (first_value value records) (value r)
first_value-push value [] r = or_none (value r)
first_value-push value (x ∷ records) r =
    ap (option_or (value x)) (first_value-push value records r) ∙ or_assoc (value x) (first_value value records) (value r)

-- a record without a value, and the first with one
without_value : {A : Type 0} (value : Record → Option A) (records : List Record) (r : Record) → value r ≡ None
    → first_value value (records ++ r ∷ []) ≡ first_value value records
without_value value records r none =
    first_value-push value records r ∙ ap (option_or (first_value value records)) none ∙ or_none (first_value value records)

with_first_value : {A : Type 0} (value : Record → Option A) (records : List Record) (r : Record) (x : A) → value r ≡ Some x
    → is_some (first_value value records) ≡ false → first_value value (records ++ r ∷ []) ≡ Some x
with_first_value {A} value records r x some new =
    first_value-push value records r ∙ ap (option_or (first_value value records)) some ∙ by (first_value value records) new
  where
    by : (o : Option A) → is_some o ≡ false → option_or o (Some x) ≡ Some x
    by None e = refl
    by (Some y) e = absurd (cc)

-- a setting that is not refused has no value before
fresh : (has : Bool) (at : ℕ) (rest : Option PlanRefusal) → (if has then Some (SettingTwice at) else rest) ≡ None → has ≡ false
fresh true at rest h = absurd (cc)
fresh false at rest h = refl

abbrev values_as : Option ℕ → Option Line → Option Rule → Option ℕ → Values
values_as version line rule period = record { version = version; line = line; rule = rule; period = period }

same_values : (v v' : Option ℕ) (l l' : Option Line) (r r' : Option Rule) (p p' : Option ℕ) → v ≡ v' → l ≡ l' → r ≡ r' → p ≡ p'
    → values_as v l r p ≡ values_as v' l' r' p'
same_values v v' l l' r r' p p' a b c d = rw (a, b, c, d) refl

-- a record for no setting
other_record : (before : List Record) (r : Record) → version_in r ≡ None → line_in r ≡ None → rule_in r ≡ None → period_in r ≡ None
    → values_in (before ++ r ∷ []) ≡ values_in before
other_record before r v l u p =
    same_values (first_value version_in (before ++ r ∷ [])) (first_value version_in before) (first_value line_in (before ++ r ∷ [])) (first_value line_in before)
    (first_value rule_in (before ++ r ∷ [])) (first_value rule_in before) (first_value period_in (before ++ r ∷ [])) (first_value period_in before)
    (without_value version_in before r v) (without_value line_in before r l) (without_value rule_in before r u) (without_value period_in before r p)

pub values_in-push : (more : AddedKind) (before : List Record) (r : Record) → value_refusal more (values_in before) r ≡ None
    → values_in (before ++ r ∷ []) ≡ with_setting (values_in before) r
values_in-push more before (rec.Version at number) h =
    same_values (first_value version_in (before ++ rec.Version at number ∷ [])) (Some number) (first_value line_in (before ++ rec.Version at number ∷ [])) (first_value line_in before)
    (first_value rule_in (before ++ rec.Version at number ∷ [])) (first_value rule_in before) (first_value period_in (before ++ rec.Version at number ∷ [])) (first_value period_in before)
    (with_first_value version_in before (rec.Version at number) number refl (fresh (is_some (first_value version_in before)) at (if (number == 1) || (number == added_version more) then None else Some (Version at)) h)) (without_value line_in before (rec.Version at number) refl)
    (without_value rule_in before (rec.Version at number) refl) (without_value period_in before (rec.Version at number) refl)
values_in-push more before (rec.LineIs at line) h =
    same_values (first_value version_in (before ++ rec.LineIs at line ∷ [])) (first_value version_in before) (first_value line_in (before ++ rec.LineIs at line ∷ [])) (Some line)
    (first_value rule_in (before ++ rec.LineIs at line ∷ [])) (first_value rule_in before) (first_value period_in (before ++ rec.LineIs at line ∷ [])) (first_value period_in before)
    (without_value version_in before (rec.LineIs at line) refl) (with_first_value line_in before (rec.LineIs at line) line refl (fresh (is_some (first_value line_in before)) at None h))
    (without_value rule_in before (rec.LineIs at line) refl) (without_value period_in before (rec.LineIs at line) refl)
values_in-push more before (rec.RuleIs at rule) h =
    same_values (first_value version_in (before ++ rec.RuleIs at rule ∷ [])) (first_value version_in before) (first_value line_in (before ++ rec.RuleIs at rule ∷ [])) (first_value line_in before)
    (first_value rule_in (before ++ rec.RuleIs at rule ∷ [])) (Some rule) (first_value period_in (before ++ rec.RuleIs at rule ∷ [])) (first_value period_in before)
    (without_value version_in before (rec.RuleIs at rule) refl) (without_value line_in before (rec.RuleIs at rule) refl)
    (with_first_value rule_in before (rec.RuleIs at rule) rule refl (fresh (is_some (first_value rule_in before)) at None h)) (without_value period_in before (rec.RuleIs at rule) refl)
values_in-push more before (rec.Period at seconds) h =
    same_values (first_value version_in (before ++ rec.Period at seconds ∷ [])) (first_value version_in before) (first_value line_in (before ++ rec.Period at seconds ∷ [])) (first_value line_in before)
    (first_value rule_in (before ++ rec.Period at seconds ∷ [])) (first_value rule_in before) (first_value period_in (before ++ rec.Period at seconds ∷ [])) (Some seconds)
    (without_value version_in before (rec.Period at seconds) refl) (without_value line_in before (rec.Period at seconds) refl)
    (without_value rule_in before (rec.Period at seconds) refl) (with_first_value period_in before (rec.Period at seconds) seconds refl (fresh (is_some (first_value period_in before)) at None h))
values_in-push more before (rec.UnitIs at name rate) h = other_record before (rec.UnitIs at name rate) refl refl refl refl
values_in-push more before (rec.AtomIs at name rate x y unit) h = other_record before (rec.AtomIs at name rate x y unit) refl refl refl refl
values_in-push more before (rec.Travel at origin target seconds) h = other_record before (rec.Travel at origin target seconds) refl refl refl refl
values_in-push more before (rec.Located at unit atom thousandths) h = other_record before (rec.Located at unit atom thousandths) refl refl refl refl
values_in-push more before (rec.Prefer at atom units) h = other_record before (rec.Prefer at atom units) refl refl refl refl
values_in-push more before (rec.Group at atom units) h = other_record before (rec.Group at atom units) refl refl refl refl
values_in-push more before (rec.Crews at unit count) h = other_record before (rec.Crews at unit count) refl refl refl refl

pub values-more : (more : AddedKind) (records : List Record) (i : ℕ) (r : Record) (values new : Values) → i < length records → get_or records i r ≡ r
    → values ≡ values_in (take i records) → value_refusal more (values_in (take i records)) r ≡ None → new ≡ with_setting values r
    → new ≡ values_in (take (i + 1) records)
values-more more records i r values new lt read is passed made =
    let next : take (i + 1) records ≡ take i records ++ r ∷ [] = rw read at (take_more records i r lt) in
    made ∙ ap (λ (v : Values). with_setting v r) is ∙ sym (values_in-push more (take i records) r passed) ∙ ap values_in (sym next)

pub values-all : (records : List Record) (i : ℕ) (values : Values) → length records ≤ i → values ≡ values_in (take i records) → values ≡ values_in records
values-all records i values le is = is ∙ ap values_in (take_all i records le)

-- a record that gives a value is one for the setting
value_or : {A : Type 0} (o rest : Option A) → is_some (option_or o rest) ≡ (is_some o || is_some rest)
value_or None rest = refl
value_or (Some x) rest = refl

has_value-is : {A : Type 0} (value : Record → Option A) (test : Record → Bool) (records : List Record)
    → ((r : Record) → is_some (value r) ≡ test r) → is_some (first_value value records) ≡ list_any test records
has_value-is value test [] same = refl
has_value-is value test (r ∷ records) same =
    value_or (value r) (first_value value records)
    ∙ ap (λ (b : Bool). b || is_some (first_value value records)) (same r)
    ∙ ap (λ (b : Bool). test r || b) (has_value-is value test records same)

version_is : (at number : ℕ) (r : Record) → is_some (version_in r) ≡ are_one_setting (rec.Version at number) r
version_is at number (rec.Version a n) = refl
version_is at number _ = refl

line_is : (at : ℕ) (line : Line) (r : Record) → is_some (line_in r) ≡ are_one_setting (rec.LineIs at line) r
line_is at line (rec.LineIs a l) = refl
line_is at line _ = refl

rule_is : (at : ℕ) (rule : Rule) (r : Record) → is_some (rule_in r) ≡ are_one_setting (rec.RuleIs at rule) r
rule_is at rule (rec.RuleIs a u) = refl
rule_is at rule _ = refl

period_is : (at seconds : ℕ) (r : Record) → is_some (period_in r) ≡ are_one_setting (rec.Period at seconds) r
period_is at seconds (rec.Period a s) = refl
period_is at seconds _ = refl

-- the refusal by the values is that by the records before
alike : (has earlier : Bool) (at : ℕ) (rest : Option PlanRefusal) → has ≡ earlier
    → ◌≡◌ {A = Option PlanRefusal} (if has then Some (SettingTwice at) else rest) (if earlier then Some (SettingTwice at) else rest)
alike has earlier at rest same = ap {B = Option PlanRefusal} (λ (b : Bool). if b then Some (SettingTwice at) else rest) same

unlike : (more : AddedKind) (before : List Record) (r : Record) → ((other : Record) → are_one_setting r other ≡ false) → version_refusal more r ≡ None
    → None ≡ setting_refusal more before r
unlike more before r none passed =
    let no : list_any (are_one_setting r) before ≡ false = list_any_none (are_one_setting r) before (λ k d lt. none (get_or before k d)) in
    sym (ap {B = Option PlanRefusal} (λ (b : Bool). if b then Some (SettingTwice (at_of r)) else version_refusal more r) no ∙ passed)

pub value_refusal-is : (more : AddedKind) (before : List Record) (r : Record)
    → value_refusal more (values_in before) r ≡ setting_refusal more before r
value_refusal-is more before (rec.Version at number) =
    alike (is_some (first_value version_in before)) (list_any (are_one_setting (rec.Version at number)) before) at
    (version_refusal more (rec.Version at number))
    (has_value-is version_in (are_one_setting (rec.Version at number)) before (version_is at number))
value_refusal-is more before (rec.LineIs at line) =
    alike (is_some (first_value line_in before)) (list_any (are_one_setting (rec.LineIs at line)) before) at None
    (has_value-is line_in (are_one_setting (rec.LineIs at line)) before (line_is at line))
value_refusal-is more before (rec.RuleIs at rule) =
    alike (is_some (first_value rule_in before)) (list_any (are_one_setting (rec.RuleIs at rule)) before) at None
    (has_value-is rule_in (are_one_setting (rec.RuleIs at rule)) before (rule_is at rule))
value_refusal-is more before (rec.Period at seconds) =
    alike (is_some (first_value period_in before)) (list_any (are_one_setting (rec.Period at seconds)) before) at None
    (has_value-is period_in (are_one_setting (rec.Period at seconds)) before (period_is at seconds))
value_refusal-is more before (rec.UnitIs at name rate) = unlike more before (rec.UnitIs at name rate) (λ other. refl) refl
value_refusal-is more before (rec.AtomIs at name rate x y unit) = unlike more before (rec.AtomIs at name rate x y unit) (λ other. refl) refl
value_refusal-is more before (rec.Travel at origin target seconds) = unlike more before (rec.Travel at origin target seconds) (λ other. refl) refl
value_refusal-is more before (rec.Located at unit atom thousandths) = unlike more before (rec.Located at unit atom thousandths) (λ other. refl) refl
value_refusal-is more before (rec.Prefer at atom units) = unlike more before (rec.Prefer at atom units) (λ other. refl) refl
value_refusal-is more before (rec.Group at atom units) = unlike more before (rec.Group at atom units) (λ other. refl) refl
value_refusal-is more before (rec.Crews at unit count) = unlike more before (rec.Crews at unit count) (λ other. refl) refl

pub settings_of-refused : (more : AddedKind) (records : List Record) (e : PlanRefusal) → settings_refusal more records ≡ Some e
    → settings_of more records ≡ Err e
unfolding settings_of
settings_of-refused more records e h = rw h refl

pub settings_of-done : (more : AddedKind) (records : List Record) (settings : Settings) → settings_refusal more records ≡ None
    → settings ≡ settings_of_values (values_in records) → settings_of more records ≡ Ok settings
unfolding settings_of
settings_of-done more records settings none is = rw none (ap Ok (sym is))

pub settings_of-ok : (more : AddedKind) (records : List Record) (settings : Settings) → settings_of more records ≡ Ok settings
    → settings ≡ settings_in records
unfolding settings_of
settings_of-ok more records settings h = by (settings_refusal more records) h
  where
    by : (o : Option PlanRefusal) → (unless_refused o >>= λ _. Ok (settings_in records)) ≡ Ok settings → settings ≡ settings_in records
    by None q = cc
    by (Some e) q = absurd (cc)

-- the period of records in form
period_value : (r : Record) (seconds : ℕ) → HasValues r → period_in r ≡ Some seconds → IsBetween 1 100000000 seconds
period_value (rec.Period at given) seconds values h = let e : given ≡ seconds = cc in rw e at values
period_value _ seconds values h = absurd (cc)

pub period_within : (records : List Record) → All HasValues records → IsBetween 1 100000000 (unwrap_or (first_value period_in records) HOUR)
period_within [] values = record { low = omega arith; high = omega arith }
period_within (r ∷ records) values =
    by (period_in r) refl (period_within records (All-tail HasValues r records values))
  where
    by : (o : Option ℕ) → period_in r ≡ o → IsBetween 1 100000000 (unwrap_or (first_value period_in records) HOUR)
        → IsBetween 1 100000000 (unwrap_or (option_or o (first_value period_in records)) HOUR)
    by None e rest = rest
    by (Some seconds) e rest = period_value r seconds (All-head HasValues r records values) e
