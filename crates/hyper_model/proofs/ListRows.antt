-- What contracts see of the twelve places of a row, and how a write to a place is seen.
use Rattle.std.proofs.Common.{◌≡◌, ℕ, ◌<◌, ◌≤◌, true, false, List, ◌∷◌, length, map, take, drop, min, ◌+◌, ◌-◌, get_or, set, replicate, refl, sym, ap, ◌∙◌, zero, suc, arith}
use Rattle.std.proofs.lemmas.List.{drop-take, length-map, map-set, length-take-le, take-replicate}
use Rattle.std.proofs.lemmas.List as lists
use Rattle.std.proofs.lemmas.List.Elements.{All-map, All-weaker}
use Rattle.std.proofs.Math.Seq.{take-set-lt}
use Rattle.hyper_model.specs.declared.preference.ListRow.{ListRow}
use Rattle.hyper_model.specs.Groups.{AtomList, GroupLists, no_row, row_of, IsRegular, first_lists, with_member, with_joined}
use Rattle.hyper_model.specs.ListRows.{used_part, lists_seen, IsRoomy}

pub row_seen : (n : ℕ) (rows : List ListRow) (atom : ℕ) (r : ListRow) → atom < length rows → r ≡ get_or rows atom r
    → row_of (lists_seen n rows) atom ≡ used_part n r
row_seen n rows atom r h e = lists.get_or-map (used_part n) rows atom r no_row h ∙ ap (used_part n) (sym e)

pub member_written : (n : ℕ) (rows : List ListRow) (atom place unit : ℕ) (r : ListRow) → atom < length rows
    → place < n → r ≡ get_or rows atom r
    → lists_seen n (set rows atom (record { members = set r.members place unit; begins = r.begins }))
    ≡ with_member (lists_seen n rows) atom place unit
member_written n rows atom place unit r h small e =
    let seen : row_of (lists_seen n rows) atom ≡ used_part n r = row_seen n rows atom r h e in
    let written : take n (set r.members place unit) ≡ set (take n r.members) place unit =
    take-set-lt n r.members place unit small in
    rw (seen, map-set (used_part n) rows atom _, written) refl

pub join_written : (n : ℕ) (rows : List ListRow) (atom place : ℕ) (r : ListRow) → atom < length rows
    → place < n → r ≡ get_or rows atom r
    → lists_seen n (set rows atom (record { members = r.members; begins = set r.begins place false }))
    ≡ with_joined (lists_seen n rows) atom place
join_written n rows atom place r h small e =
    let seen : row_of (lists_seen n rows) atom ≡ used_part n r = row_seen n rows atom r h e in
    let written : take n (set r.begins place false) ≡ set (take n r.begins) place false =
    take-set-lt n r.begins place false small in
    rw (seen, map-set (used_part n) rows atom _, written) refl

pub seen_regular : (n : ℕ) (rows : List ListRow) → IsRoomy n rows → IsRegular (lists_seen n rows)
seen_regular n rows roomy = record {
  members = All-map (λ (row : AtomList). length row.members ≡ n) (used_part n) rows
      (All-weaker (λ (row : ListRow). length row.members ≡ 12) (λ row. length (take n row.members) ≡ n)
      (λ row e. length-take-le n row.members (omega (arith, e, roomy.few_units))) rows roomy.members);
  begins = All-map (λ (row : AtomList). length row.begins ≡ n) (used_part n) rows
      (All-weaker (λ (row : ListRow). length row.begins ≡ 12) (λ row. length (take n row.begins) ≡ n)
      (λ row e. length-take-le n row.begins (omega (arith, e, roomy.few_units))) rows roomy.begins);
}

pub map_replicate : {A B : Type 0} (f : A → B) (n : ℕ) (x : A) → map f (replicate n x) ≡ replicate n (f x)
map_replicate f zero x = refl
map_replicate f (suc n) x = ap (λ xs. f x ∷ xs) (map_replicate f n x)

pub first_seen : (atoms units : ℕ) (rows : List ListRow) → units ≤ 12
    → rows ≡ replicate atoms (record { members = replicate 12 0; begins = replicate 12 true })
    → lists_seen units rows ≡ first_lists atoms units
first_seen atoms units rows few e =
    let zeros : take units (replicate {A = ℕ} 12 0) ≡ replicate {A = ℕ} units 0 = take-replicate units 12 0 few in
    let ones : take units (replicate 12 true) ≡ replicate units true = take-replicate units 12 true few in
    rw (e, map_replicate (used_part units) atoms _, zeros, ones) refl

pub rows_seen : (n : ℕ) (rows : List ListRow) (seen : GroupLists) (atom : ℕ) → lists_seen n rows ≡ seen
    → atom < length seen.rows → atom < length rows
rows_seen n rows seen atom e h =
    omega (arith, ap (λ (lists : GroupLists). length lists.rows) e, length-map rows (used_part n))

pub units_seen : (n : ℕ) (rows : List ListRow) (seen : GroupLists) (place : ℕ) → lists_seen n rows ≡ seen
    → place < seen.units → place < n
units_seen n rows seen place e h = omega (arith, ap (λ (lists : GroupLists). lists.units) e)

-- the places that are in use, but the first
pub later_part : {A : Type 0} (n k : ℕ) (xs : List A) → k ≡ min n 1 → take (n - k) (drop k xs) ≡ drop 1 (take n xs)
later_part zero k xs e = rw e refl
later_part (suc n) k xs e =
    let one : k ≡ 1 = omega arith in
    let left : suc n - 1 ≡ n = omega arith in
    let whole : 1 + n ≡ suc n = omega arith in
    rw (one, left, ← whole) (sym (drop-take 1 n xs))
