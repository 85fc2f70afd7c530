-- Texts that are read and written piece by piece.
use Rattle.std.proofs.Common.{◌≡◌, ℕ, ◌≤◌, List, [], ◌++◌, Option, None, Some, length, take, drop, sym, ap, ◌∙◌, refl, subst, arith, append_assoc, append-nil}
use Rattle.std.specs.Option.{IsSome, option_map}
use Rattle.std.specs.Io.KnownBytes.{Appends, IsAtEnd}
use Rattle.std.proofs.lemmas.List.{take_all, take-append-le, take-append-drop}
use Rattle.outer_world.specs.Shelf.{Ends, HoldsText}
use Rattle.outer_world.specs.Taken.{IsTaken, taken}
use Rattle.outer_world.specs.declared.named_text.NamedText.{NamedText}
use Rattle.outer_world.specs.declared.read.TheConstants.{MOST_BYTES}

-- bytes that grow by one part and then by the next grow by both
pub Appends-append : (before now after : Option (List ℕ)) (front more : List ℕ)
    → Appends before now front → Appends now after more → Appends before after (front ++ more)
Appends-append None now after front more first next = tt
Appends-append (Some xs) None after front more first next = absurd first
Appends-append (Some xs) (Some ys) None front more first next = absurd next
Appends-append (Some xs) (Some ys) (Some zs) front more first next =
    next ∙ ap (λ bytes. bytes ++ more) first ∙ append_assoc xs front more

-- a text of which a front was taken, and then a front of the rest
pub front_more : (before now after : Option (List ℕ)) (text front rest : List ℕ) (n : ℕ)
    → text ≡ front ++ rest → Appends before now front → Appends now after (take n rest)
    → (longer : List ℕ) × (text ≡ longer ++ drop n rest) × Appends before after longer
front_more before now after text front rest n parts first next = (
  front ++ take n rest,
  parts ∙ ap (λ bytes. front ++ bytes) (sym (take-append-drop n rest))
      ∙ sym (append_assoc front (take n rest) (drop n rest)),
  Appends-append before now after front (take n rest) first next,
)

-- a text of which nothing is left is read whole
pub taken-read : (whole text rest : List ℕ) → whole ≡ text ++ rest → rest ≡ []
    → length text ≤ MOST_BYTES → text ≡ taken whole
taken-read whole text rest parts none most =
    let all : whole ≡ text = parts ∙ ap (λ bytes. text ++ bytes) none ∙ append-nil text in
    sym (ap taken all ∙ take_all MOST_BYTES text most)

-- the most bytes that are read of a text are its front
pub taken-front : (whole text rest : List ℕ) → whole ≡ text ++ rest → length text ≡ MOST_BYTES
    → text ≡ taken whole
taken-front whole text rest parts full =
    let within : MOST_BYTES ≤ length text = omega arith in
    let most : length text ≤ MOST_BYTES = omega arith in
    sym (ap taken parts ∙ take-append-le MOST_BYTES text rest within
    ∙ take_all MOST_BYTES text most)

-- an open text that ends has no bytes left
pub Ends-left : (name before after : Option (List ℕ)) (rest : List ℕ) → IsSome name
    → Ends name before after → before ≡ Some rest → rest ≡ []
Ends-left None before after rest is_open ends left = grind (arith, is_open)
Ends-left (Some name) before after rest is_open ends left = subst IsAtEnd left ends.0

-- what is read of the text that a shelf has opened
pub IsTaken-opened : (told : Option (List NamedText)) (name : List ℕ) (left : Option (List ℕ))
    (text : List ℕ) → HoldsText told name left
    → ((whole : List ℕ) → left ≡ Some whole → text ≡ taken whole)
    → IsTaken told name text
IsTaken-opened None name left text holds read = tt
IsTaken-opened (Some texts) name None text holds read = grind (arith, holds.0)
IsTaken-opened (Some texts) name (Some whole) text holds read =
    ap (option_map taken) (sym holds.1) ∙ ap Some (sym (read whole refl))
