-- Which kind of record a row is.
use Rattle.std.specs.Prelude.{ℕ, Bool, ◌==◌, ◌&&◌, ◌||◌, List, [], ◌∷◌, ◌++◌, find, length, Option, Some, None, codes, is_ok}
use Rattle.std.specs.Str.{bytes_eq}
use Rattle.plan_text.specs.Fields.{field, is_within, number_at}
use Rattle.plan_text.specs.Rows.{Fields}
use Rattle.plan_text.specs.declared.kind.AddedKind.{AddedKind}
use Rattle.plan_text.specs.declared.kind.AddedKind.TheVariants as added
use Rattle.plan_text.specs.declared.kind.Kind.{Kind}
use Rattle.plan_text.specs.declared.kind.Kind.TheVariants as kind
use Rattle.plan_text.specs.declared.kind.TheConstants.{MOST_FIELDS}

-- a row with no field, or whose first field is `note`
abbrev pub is_passed_over : Fields → Bool
is_passed_over row = (length row == 0) || bytes_eq (field row 0) (codes "note")

-- a row that says that the text is of this version
abbrev pub says_version : ℕ → Fields → Bool
says_version version row = bytes_eq (field row 0) (codes "version") && is_ok (number_at version version 0 row 1)

-- the version from which on a kind is added
abbrev pub added_version : AddedKind → ℕ
added_version added.Group = 2
added_version added.Crews = 3

-- the keyword of a kind, and the fewest and the most fields of a record of it, the keyword included
pub record Shape : Type 0 where
  pub keyword : List ℕ
  pub fewest : ℕ
  pub most : ℕ

abbrev shape : List ℕ → ℕ → ℕ → Shape
shape keyword fewest most = record { keyword = keyword; fewest = fewest; most = most }

abbrev pub shape_of : Kind → Shape
shape_of kind.Version = shape (codes "version") 2 2
shape_of kind.Line = shape (codes "line") 2 2
shape_of kind.Rule = shape (codes "rule") 2 2
shape_of kind.Period = shape (codes "period") 2 2
shape_of kind.Unit = shape (codes "unit") 3 3
shape_of kind.Atom = shape (codes "atom") 6 6
shape_of kind.Travel = shape (codes "travel") 4 4
shape_of kind.Located = shape (codes "at") 4 4
shape_of kind.Prefer = shape (codes "prefer") 3 MOST_FIELDS
shape_of kind.Group = shape (codes "group") 3 MOST_FIELDS
shape_of kind.Crews = shape (codes "crews") 3 3

-- the kinds of version 1
abbrev pub first_kinds : List Kind
first_kinds =
    kind.Version ∷ kind.Line ∷ kind.Rule ∷ kind.Period ∷ kind.Unit ∷ kind.Atom ∷ kind.Travel ∷ kind.Located ∷ kind.Prefer ∷ []

-- and the one that is added
abbrev pub added_kinds : Option AddedKind → List Kind
added_kinds None = []
added_kinds (Some added.Group) = kind.Group ∷ []
added_kinds (Some added.Crews) = kind.Crews ∷ []

-- which of them a first field names
abbrev pub named_kind : List Kind → List ℕ → Option Kind
named_kind kinds keyword = find (λ k. bytes_eq keyword (shape_of k).keyword) kinds

abbrev pub added_kind_of : Option AddedKind → List ℕ → Option Kind
added_kind_of more keyword = named_kind (added_kinds more) keyword

abbrev pub kind_of : Option AddedKind → List ℕ → Option Kind
kind_of more keyword = named_kind (first_kinds ++ added_kinds more) keyword

-- how many fields a record of a kind may have
abbrev pub has_field_count : Kind → ℕ → Bool
has_field_count k count = is_within (shape_of k).fewest (shape_of k).most count
