use Rattle.std.proofs.Common.{rules, ◌≡◌, ◌∙◌, ◌<◌, ◌^◌, ℕ, List, [], ◌∷◌, true, length, refl, sym, ap, arith, ◌&&◌}
use Rattle.std.specs.Char.{is_ascii_digit}
use Rattle.std.specs.List.{list_all}
use Rattle.std.specs.Str.{all_ascii_digits}
use Rattle.std.specs.Str.Parse.{digits_value}
use Rattle.std.proofs.lemmas.Str.Parse.{IsNumeralModel, numerals_by_value, tells_all_ascii_digits, digits_value_short, parse_gives}
use Rattle.text_lines.proofs.numbers.number_of.Goals as goal

numerals : IsNumeralModel (λ bytes. all_ascii_digits bytes ≡ true) (digits_value 10)
numerals = numerals_by_value _ tells_all_ascii_digits

list_all-digits : (bytes : List ℕ) → list_all is_ascii_digit bytes ≡ all_ascii_digits bytes
list_all-digits [] = refl
list_all-digits (byte ∷ bytes) = ap (λ rest. is_ascii_digit byte && rest) (list_all-digits bytes)

pub returns-in-Ok-clause-below : goal.returns-in-Ok-clause-below
returns-in-Ok-clause-below c =
    let text = c.args.text.now in
    let digits : all_ascii_digits text ≡ true = sym (list_all-digits text) ∙ search rules in
    let small : digits_value 10 text < 10 ^ c.args.most_digits =
    digits_value_short numerals text c.args.most_digits digits (omega arith) in
    search rules

-- eighteen digits are below the most that a u64 holds
pub returns-in-Err : goal.returns-in-Err
returns-in-Err c =
    let digits : all_ascii_digits c.args.text.now ≡ true = sym (list_all-digits c.args.text.now) ∙ search rules in
    let some : 0 < length c.args.text.now = search rules in
    let small : digits_value 10 c.args.text.now < 10 ^ 18 =
    digits_value_short numerals c.args.text.now 18 digits (omega (arith, c.requires)) in
    let gives = parse_gives numerals 64 c.args.text.now c.parse.result c.parse.ensures.value.0 digits some (omega (arith, small)) in
    absurd (cc)
