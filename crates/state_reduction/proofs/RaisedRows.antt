-- What the entries of a matrix are after one state is eliminated.
use Rattle.std.proofs.Common.{◌≡◌, ℕ, ◌<◌, Bool, List, refl, sym, ◌∙◌, inl, inr, arith}
use Rattle.std.specs.Prelude.{if◌then◌else◌}
use Rattle.std.proofs.lemmas.Bool.{cases_lt}
use Rattle.fixed_interval.specs.Ends.{Ends}
use Rattle.rate_matrix.specs.Bands.{BandedRates, cap, entry}
use Rattle.rate_matrix.specs.Elimination.{Entries, is_raised, raised_entry, raised_entries}
use Rattle.rate_matrix.specs.Rows.{part_in}
use Rattle.rate_matrix.proofs.Raising.{is_raised-to, raised_entries-stays}

raised_if-alike : (b : Bool) (old into part old' into' part' : Ends) (limit limit' : ℕ) → old ≡ old' → into ≡ into'
    → part ≡ part' → limit ≡ limit'
    → (if b then raised_entry old into part limit else old) ≡ (if b then raised_entry old' into' part' limit' else old')
raised_if-alike b old into part old' into' part' limit limit' first second third fourth = cc

raised_entries-open : (parts : ℕ → Ends) (a : Entries) (caps : ℕ → ℕ) (t i j : ℕ)
    → raised_entries parts a caps t i j ≡ (if is_raised t i j then raised_entry (a i j) (a i t) (parts j) (caps i) else a i j)
unfolding raised_entries
raised_entries-open parts a caps t i j = refl

-- an entry that is raised follows from few others
pub raised_entries-same : (parts shares : ℕ → Ends) (a b : Entries) (caps limits : ℕ → ℕ) (t i j : ℕ)
    → (j < t → parts j ≡ shares j) → a i j ≡ b i j → a i t ≡ b i t → caps i ≡ limits i
    → raised_entries parts a caps t i j ≡ raised_entries shares b limits t i j
raised_entries-same parts shares a b caps limits t i j part old into limit = elim (cases_lt j t) [
  | inl before ↦
      raised_entries-open parts a caps t i j
      ∙ raised_if-alike (is_raised t i j) (a i j) (a i t) (parts j) (b i j) (b i t) (shares j) (caps i) (limits i)
      old into (part before) limit
      ∙ sym (raised_entries-open shares b limits t i j)
  | inr after ↦
      raised_entries-stays parts a caps t i j (is_raised-to t i j (omega arith)) ∙ old
      ∙ sym (raised_entries-stays shares b limits t i j (is_raised-to t i j (omega arith)))
]

-- the entries of `first` with what goes through its next state in these parts
abbrev pub next_entries : List Ends → BandedRates → Entries
next_entries parts first i j = raised_entries (part_in parts) (entry first) (cap first) first.alive i j
