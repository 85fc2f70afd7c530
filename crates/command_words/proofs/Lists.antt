-- Arguments that are read one by one, each after those before it.
use Rattle.std.proofs.Common.{◌≡◌, ℕ, suc, ◌+◌, ◌<◌, ◌≤◌, List, [], ◌∷◌, length, drop, refl, sym, arith, append_assoc}
use Rattle.std.specs.Prelude.{true, false, Option, Some, None, slice_index_or}
use Rattle.std.specs.Option.{option_map}
use Rattle.std.proofs.lemmas.List.{append-nil, drop_all}
use Rattle.std.proofs.Math.Seq.{drop-cons}
use Rattle.command_words.specs.Options.{◌>>=◌}
use Rattle.command_words.specs.Arguments.{ArgumentLists, concatenation, lists_from, may_end, mode_after, argument_in, lists_of_one}
use Rattle.command_words.specs.declared.argument.Mode.{Mode}
use Rattle.command_words.specs.declared.argument.Argument.{Argument}

-- lists that stand after a front
abbrev pub after : ArgumentLists → Option ArgumentLists → Option ArgumentLists
after front lists = option_map (concatenation front) lists

drop_more : (words : List (List ℕ)) (i : ℕ) → i < length words
    → drop i words ≡ slice_index_or words i [] ∷ drop (i + 1) words
drop_more words i lt =
    let next : i + 1 ≡ suc i = omega arith in
    rw next (drop-cons words i [] lt)

regroup : (front part : ArgumentLists) (lists : Option ArgumentLists)
    → after front (lists >>= λ rest. Some (concatenation part rest)) ≡ after (concatenation front part) lists
regroup front part (Some lists) = simp append_assoc
regroup front part None = refl

-- an argument more that is read
pub lists_from-more : (words : List (List ℕ)) (i : ℕ) (front : ArgumentLists) (m : Mode) (a : Argument) (text : List ℕ) → i < length words
    → text ≡ slice_index_or words i [] → argument_in m text ≡ Some a
    → after front (lists_from m (drop i words))
    ≡ after (concatenation front (lists_of_one a text)) (lists_from (mode_after m a) (drop (i + 1) words))
unfolding lists_from
lists_from-more words i front m a text lt is read =
    rw (drop_more words i lt, sym is, read) (regroup front (lists_of_one a text) (lists_from (mode_after m a) (drop (i + 1) words)))

-- an argument that cannot be read
pub lists_from-none : (words : List (List ℕ)) (i : ℕ) (front : ArgumentLists) (m : Mode) (text : List ℕ) → i < length words
    → text ≡ slice_index_or words i [] → argument_in m text ≡ None
    → after front (lists_from m (drop i words)) ≡ None
unfolding lists_from
lists_from-none words i front m text lt is none = rw (drop_more words i lt, sym is, none) refl

-- after the last argument
pub lists_from-done : (words : List (List ℕ)) (i : ℕ) (front : ArgumentLists) (m : Mode) → length words ≤ i → may_end m ≡ true
    → after front (lists_from m (drop i words)) ≡ Some front
unfolding lists_from
lists_from-done words i front m le end = rw (drop_all i words le, end, append-nil front.plain, append-nil front.options) refl

pub lists_from-ended : (words : List (List ℕ)) (i : ℕ) (front : ArgumentLists) (m : Mode) → length words ≤ i → may_end m ≡ false
    → after front (lists_from m (drop i words)) ≡ None
unfolding lists_from
lists_from-ended words i front m le end = rw (drop_all i words le, end) refl
