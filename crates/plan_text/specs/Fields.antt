-- What a field of a row says.
use Rattle.std.specs.Prelude.{ℕ, ◌+◌, Bool, ◌&&◌, if◌then◌else◌, nat_le, List, [], ◌∷◌, find, slice_index_or, Option, Some, None, Result, Err, codes}
use Rattle.std.specs.Option.{ok_or, option_and_then}
use Rattle.std.specs.Str.{bytes_eq, is_utf8}
use Rattle.text_lines.specs.Numbers as digits
use Rattle.hyper_model.specs.Name.{is_name}
use Rattle.hyper_model.specs.declared.kinds.Line.{Line}
use Rattle.hyper_model.specs.declared.kinds.Line.TheVariants as line
use Rattle.hyper_model.specs.declared.kinds.Rule.{Rule}
use Rattle.hyper_model.specs.declared.kinds.Rule.TheVariants as rule
use Rattle.plan_text.specs.Rows.{Fields}
use Rattle.plan_text.specs.declared.field.TheConstants.{MOST_DIGITS}
use Rattle.plan_text.specs.declared.refusal.TextRefusal.{TextRefusal}
use Rattle.plan_text.specs.declared.refusal.TextRefusal.TheVariants.{NotUtf8, BadNumber, BadName}

abbrev pub is_within : ℕ → ℕ → ℕ → Bool
is_within least most value = nat_le least value && nat_le value most

-- the number that the bytes are, if it has at most nine digits and is in range
abbrev pub number_in : ℕ → ℕ → List ℕ → Option ℕ
number_in least most bytes =
    option_and_then (λ value. if is_within least most value then Some value else None) (digits.number_in MOST_DIGITS bytes)

-- the name that the bytes are
abbrev pub name_in : List ℕ → Option (List ℕ)
name_in bytes = if is_name bytes then Some bytes else None

-- the line that the bytes name
abbrev pub line_keyword : Line → List ℕ
line_keyword line.Zero = codes "zero"
line_keyword line.Infinite = codes "infinite"

abbrev pub line_in : List ℕ → Option Line
line_in bytes = find (λ l. bytes_eq bytes (line_keyword l)) (line.Zero ∷ line.Infinite ∷ [])

-- the rule that the bytes name
abbrev pub rule_keyword : Rule → List ℕ
rule_keyword rule.Given = codes "given"
rule_keyword rule.Strict = codes "strict"
rule_keyword rule.Modified = codes "modified"

abbrev pub rule_in : List ℕ → Option Rule
rule_in bytes = find (λ r. bytes_eq bytes (rule_keyword r)) (rule.Given ∷ rule.Strict ∷ rule.Modified ∷ [])

-- the field at a place counted from 0, empty after the last
abbrev pub field : Fields → ℕ → List ℕ
field row place = slice_index_or row place []

-- What a field of record `number` says: it has to be text, and to say something of this sort. Refusals count
-- fields from 1.
abbrev pub field_value : {A : Type 0} → (List ℕ → Option A) → (ℕ → ℕ → TextRefusal) → ℕ → Fields → ℕ → Result A TextRefusal
field_value sort wrong number row place =
    if is_utf8 (field row place) then ok_or (sort (field row place)) (wrong number (place + 1)) else Err (NotUtf8 number)

abbrev pub number_at : ℕ → ℕ → ℕ → Fields → ℕ → Result ℕ TextRefusal
number_at least most = field_value (number_in least most) BadNumber

abbrev pub name_at : ℕ → Fields → ℕ → Result (List ℕ) TextRefusal
name_at = field_value name_in BadName

abbrev pub line_at : ℕ → Fields → ℕ → Result Line TextRefusal
line_at = field_value line_in BadName

abbrev pub rule_at : ℕ → Fields → ℕ → Result Rule TextRefusal
rule_at = field_value rule_in BadName
