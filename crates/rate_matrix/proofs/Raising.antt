-- One elimination, entry by entry: which entries it changes, and what it keeps of their ends.
use Rattle.std.proofs.Common.{◌≡◌, ◌≢◌, ℕ, suc, ◌-◌, ◌^◌, ◌<◌, ◌≤◌, true, false, refl, ap, arith}
use Rattle.std.specs.Prelude.{Bool, ◌==◌, not, if◌then◌else◌}
use Rattle.std.proofs.lemmas.Bool.Decides.{nat_tests}
use Rattle.fixed_interval.specs.Ends.{Ends}
use Rattle.fixed_interval.proofs.Rounding.{share-ordered, times_part-ordered}
use Rattle.hyper_model.proofs.Sums.{sum-le}
use Rattle.rate_matrix.specs.Elimination.{Entries, entries_after, is_raised, entries_left_after, part_to, raised_entry, raised_entries, without_ends}

pub is_raised-before : (t i j : ℕ) → i < t → j < t → i ≢ j → is_raised t i j ≡ true
is_raised-before t i j row column apart = grind (arith, nat_tests)

pub is_raised-from : (t i j : ℕ) → t ≤ i → is_raised t i j ≡ false
is_raised-from t i j row = grind (arith, nat_tests)

pub is_raised-to : (t i j : ℕ) → t ≤ j → is_raised t i j ≡ false
is_raised-to t i j column = grind (arith, nat_tests)

pub is_raised-itself : (t i j : ℕ) → i ≡ j → is_raised t i j ≡ false
is_raised-itself t i j same = grind (arith, nat_tests)

-- between two different states before the one that goes
pub raised_entries-before : (parts : ℕ → Ends) (entries : Entries) (caps : ℕ → ℕ) (t i j : ℕ) → i < t → j < t → i ≢ j
    → raised_entries parts entries caps t i j ≡ raised_entry (entries i j) (entries i t) (parts j) (caps i)
unfolding raised_entries
raised_entries-before parts entries caps t i j row column apart =
    ap (λ b. if b then raised_entry (entries i j) (entries i t) (parts j) (caps i) else entries i j)
    (is_raised-before t i j row column apart)

-- elsewhere
pub raised_entries-stays : (parts : ℕ → Ends) (entries : Entries) (caps : ℕ → ℕ) (t i j : ℕ) → is_raised t i j ≡ false
    → raised_entries parts entries caps t i j ≡ entries i j
unfolding raised_entries
raised_entries-stays parts entries caps t i j stays =
    ap (λ b. if b then raised_entry (entries i j) (entries i t) (parts j) (caps i) else entries i j) stays

-- an elimination with the parts that its own entries give
pub entries_after-before : (entries : Entries) (caps : ℕ → ℕ) (t i j : ℕ) → i < t → j < t → i ≢ j
    → entries_after entries caps t i j ≡ raised_entry (entries i j) (entries i t) (part_to entries t j) (caps i)
unfolding entries_after
entries_after-before entries caps t i j row column apart =
    raised_entries-before (part_to entries t) entries caps t i j row column apart

-- from the state that goes, or from one after it
pub entries_after-from : (entries : Entries) (caps : ℕ → ℕ) (t i j : ℕ) → t ≤ i
    → entries_after entries caps t i j ≡ entries i j
unfolding entries_after
entries_after-from entries caps t i j row =
    raised_entries-stays (part_to entries t) entries caps t i j (is_raised-from t i j row)

-- to the state that goes, or to one after it
pub entries_after-to : (entries : Entries) (caps : ℕ → ℕ) (t i j : ℕ) → t ≤ j
    → entries_after entries caps t i j ≡ entries i j
unfolding entries_after
entries_after-to entries caps t i j column =
    raised_entries-stays (part_to entries t) entries caps t i j (is_raised-to t i j column)

-- a run without eliminations
pub entries_left_after-none : (entries : Entries) (caps : ℕ → ℕ) (size i j : ℕ) → entries_left_after entries caps size 0 i j ≡ entries i j
unfolding entries_left_after
entries_left_after-none entries caps size i j = refl

-- and with one more
pub entries_left_after-more : (entries : Entries) (caps : ℕ → ℕ) (size k t i j : ℕ) → size - suc k ≡ t
    → entries_left_after entries caps size (suc k) i j ≡ entries_after (entries_left_after entries caps size k) caps t i j
unfolding entries_left_after
entries_left_after-more entries caps size k t i j last =
    ap (λ a. entries_after (entries_left_after entries caps size k) caps a i j) last

where_ordered : (test : Bool) (a b : ℕ) → a ≤ b → (if test then a else 0) ≤ (if test then b else 0)
where_ordered true a b le = le
where_ordered false a b le = omega arith

-- what remains of a row of ordered ends is in order
pub rest-ordered : (n : ℕ) (row : ℕ → Ends) (j : ℕ) → ((k : ℕ) → k < n → (row k).lo ≤ (row k).hi)
    → (without_ends n j row).lo ≤ (without_ends n j row).hi
rest-ordered n row j ordered =
    sum-le n (λ k. if not (k == j) then (row k).lo else 0) (λ k. if not (k == j) then (row k).hi else 0)
    (λ k l. where_ordered (not (k == j)) (row k).lo (row k).hi (ordered k l))

pub part_to-ordered : (entries : Entries) (t j : ℕ) → j < t → ((k : ℕ) → k < t → (entries t k).lo ≤ (entries t k).hi)
    → (part_to entries t j).lo ≤ (part_to entries t j).hi
unfolding part_to
part_to-ordered entries t j inside ordered =
    share-ordered (2 ^ 62) (entries t j).lo (entries t j).hi
    (without_ends t j (entries t)).lo (without_ends t j (entries t)).hi
    (ordered j inside) (rest-ordered t (entries t) j ordered)

-- an entry that is raised has its ends in order, and at most the cap
pub raised_entry-ordered : (old into part : Ends) (cap : ℕ) → old.lo ≤ old.hi → into.lo ≤ into.hi → part.lo ≤ part.hi
    → (raised_entry old into part cap).lo ≤ (raised_entry old into part cap).hi
raised_entry-ordered old into part cap first second third = omega (arith, times_part-ordered into part second third)

pub raised_entry-capped : (old into part : Ends) (cap : ℕ) → (raised_entry old into part cap).hi ≤ cap
raised_entry-capped old into part cap = omega arith

-- no low end under the cap falls
pub raised_entry-grows : (old into part : Ends) (cap : ℕ) → old.lo ≤ cap → old.lo ≤ (raised_entry old into part cap).lo
raised_entry-grows old into part cap under = omega arith
