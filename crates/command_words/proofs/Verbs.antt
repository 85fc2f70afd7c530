-- Plain arguments whose first asks for a command without options.
use Rattle.std.proofs.Common.{◌≡◌, ℕ, Bool, true, false, List, refl}
use Rattle.std.specs.Prelude.{Result, codes}
use Rattle.std.specs.Str.{bytes_eq}
use Rattle.std.proofs.lemmas.Slice.Eq.{bytes_eq-Decides}
use Rattle.command_words.specs.Command.{Gives, asked_by, plain_command, without_options}
use Rattle.command_words.specs.declared.command.Command.{Command}
use Rattle.command_words.specs.declared.command.WordsEnd.{WordsEnd}
use Rattle.command_words.specs.declared.options.Setting.{Setting}

unequal : (a b : List ℕ) → (a ≡ b → ⊥) → bytes_eq a b ≡ false
unequal a b apart = by (bytes_eq a b) (bytes_eq-Decides a b).0
  where
    by : (test : Bool) → (test ≡ true → a ≡ b) → test ≡ false
    by true same = absurd (apart (same refl))
    by false same = refl

pub without : (verb : List ℕ) (names : List (List ℕ)) (settings : List Setting) (result : Result Command WordsEnd)
    → (verb ≡ codes "solve" → ⊥) → (verb ≡ codes "compare" → ⊥) → (verb ≡ codes "fleet" → ⊥)
    → Gives (without_options (plain_command verb names) settings) result → Gives (asked_by verb names settings) result
without verb names settings result solves compares fleets given =
    rw (unequal verb (codes "solve") solves, unequal verb (codes "compare") compares, unequal verb (codes "fleet") fleets) given
