use Rattle.std.proofs.Common.{◌≡◌, ℕ, List, length, drop, true, false, sym, subst, ap, ◌∙◌, Bor}
use Rattle.std.specs.Prelude.{Option, Some, None, MatchOption}
use Rattle.std.specs.Str.{IsCharBoundary}
use Rattle.std.specs.Str.Pattern.{FindsTextPrefix, StripsPrefix}
use Rattle.std.proofs.lemmas.Str.Pattern.{starts_text}
use Rattle.command_words.specs.Arguments.{begins}
use Rattle.command_words.proofs.argument.rest_after.Goals as goal

strips : (begin text : List ℕ) (rest : Option (Bor (List ℕ)))
    → MatchOption rest (FindsTextPrefix begin text None) (λ r. StripsPrefix (FindsTextPrefix begin) text r.now)
    → MatchOption rest (begins begin text ≡ false) (λ r. (begins begin text ≡ true) × (r.now ≡ drop (length begin) text))
strips begin text None none = sym (starts_text false begin text none)
strips begin text (Some r) some =
    let n = some.0 in
    let found = some.1 in (
      sym (starts_text true begin text (n, found, subst (IsCharBoundary text) (sym found.0) found.2)),
      some.2 ∙ ap (λ k. drop k text) found.0,
    )

pub returns : goal.returns
returns c = strips c.args.begin.now c.args.text.now c.strip_prefix.result c.strip_prefix.ensures.cases
