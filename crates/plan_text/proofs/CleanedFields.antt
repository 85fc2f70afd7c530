-- The fields of a clean_row record, one by one.
use Rattle.std.proofs.Common.{◌≡◌, ◌∙◌, ◌<◌, ℕ, zero, suc, List, [], ◌∷◌, Some, None, length, map, slice_index_or, ap, sym, arith}
use Rattle.std.proofs.lemmas.List.{get_or-take, get_or_past}
use Rattle.csv.specs.Records.{field_at}
use Rattle.plan_text.specs.Rows.{Fields, clean_row, is_empty_field, without_blanks}
use Rattle.plan_text.proofs.LastDropped.{drop_last_while-take}

-- a field of a record, without blanks
pub field_at-trimmed : (fields : Fields) (place : ℕ) (x : List ℕ) → Some x ≡ field_at fields place
    → without_blanks x ≡ slice_index_or (map without_blanks fields) place []
unfolding field_at
field_at-trimmed [] place x h = absurd (cc)
field_at-trimmed (f ∷ fs) zero x h = let e : x ≡ f = cc in ap without_blanks e
field_at-trimmed (f ∷ fs) (suc i) x h = field_at-trimmed fs i x h

-- after the last field
pub field_at-beyond : (fields : Fields) (place : ℕ) → None ≡ field_at fields place
    → [] ≡ slice_index_or (map without_blanks fields) place []
unfolding field_at
field_at-beyond [] place h = sym (get_or_past [] place [] (omega arith))
field_at-beyond (f ∷ fs) zero h = absurd (cc)
field_at-beyond (f ∷ fs) (suc i) h = field_at-beyond fs i h

-- what stays of a record stands where it stood
pub clean_row-field : (fields : Fields) (place : ℕ) → place < length (clean_row fields)
    → slice_index_or (map without_blanks fields) place [] ≡ slice_index_or (clean_row fields) place []
clean_row-field fields place lt =
    let all : Fields = map without_blanks fields in
    sym (ap (λ (xs : Fields). slice_index_or xs place []) (drop_last_while-take is_empty_field all)
    ∙ get_or-take (length (clean_row fields)) all place [] lt)
