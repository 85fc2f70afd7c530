-- How a run ends, by what was answered and by what was written.
use Rattle.std.proofs.Common.{◌≡◌, ℕ, inl, inr, List, [], refl, sym, subst, ◌∙◌, append-nil}
use Rattle.std.specs.Prelude.{Option, Some, None, Result, Ok, Err, IfOk, IfSome}
use Rattle.std.specs.Io.KnownBytes.{Appends, Keeps}
use Rattle.outer_world.specs.Sink.{AppendsFront}
use Rattle.outer_world.specs.declared.named_text.NamedText.{NamedText}
use Rattle.command_words.specs.declared.command.Command.{Command}
use Rattle.hypercube_cli.specs.declared.outcome.Outcome.{Outcome}
use Rattle.hypercube_cli.specs.declared.outcome.Outcome.TheVariants as outcome
use Rattle.hypercube_cli.specs.declared.stop.Stop.{Stop}
use Rattle.hypercube_cli.specs.declared.stop.Stop.TheVariants as stop
use Rattle.hypercube_cli.specs.Commands.{meaning_of}
use Rattle.hypercube_cli.specs.Endings.{Ending, IsOwn, absent_ending, refused_ending, usage_ending}
use Rattle.hypercube_cli.specs.Meanings.{texts_for}
use Rattle.hypercube_cli.specs.Runs.{Answers, ComesFrom, Finishes, FinishesAs, Runs, WritesProved}

-- nothing more was taken
appends_kept : (before after : Option (List ℕ)) → Keeps before after → Appends before after []
appends_kept None after kept = tt
appends_kept (Some xs) None kept = kept
appends_kept (Some xs) (Some ys) kept = kept ∙ sym (append-nil xs)

front_kept : (before after : Option (List ℕ)) (text : List ℕ) → Keeps before after → AppendsFront before after text
front_kept before after text kept = ([], text, refl, appends_kept before after kept)

runs : (ends : Ending → Type 0) (answer : Result Ending Stop) (result : Outcome) (before after : Option (List ℕ))
    → Answers ends answer → FinishesAs answer result before after → Runs ends result before after
runs ends (Ok ending) result before after is finishes =
    inl (record { ending = ending; is_one = is; finishes = finishes })
runs ends (Err stop.Usage) result before after is finishes =
    inl (record { ending = usage_ending; is_one = is; finishes = finishes })
runs ends (Err (stop.Refused r)) result before after is (inl finishes) =
    inl (record { ending = refused_ending r; is_one = is; finishes = finishes })
runs ends (Err (stop.Refused r)) result before after is (inr ended) = inr (inr ended.0, ended.1)
runs ends (Err (stop.Absent place)) result before after is finishes =
    inl (record {
      ending = absent_ending place;
      is_one = is;
      finishes = inl (finishes.0, appends_kept before after finishes.1);
    })
runs ends (Err stop.ReadFault) result before after is finishes = inr (inl finishes.0, finishes.1)
runs ends (Err stop.NoMemory) result before after is finishes = inr (inr finishes.0, finishes.1)

-- the run has an ending of those of the answer
pub answer_runs : (told : Option (List NamedText)) (ends : List NamedText → Ending → Type 0) (answer : Result Ending Stop)
    (result : Outcome) (before after : Option (List ℕ)) → IfSome told (λ texts. Answers (ends texts) answer)
    → FinishesAs answer result before after → IfSome told (λ texts. Runs (ends texts) result before after)
answer_runs None ends answer result before after is finishes = tt
answer_runs (Some texts) ends answer result before after is finishes = runs (ends texts) answer result before after is finishes

-- what was written well is the text that was answered
writes : (proves : List ℕ → Type 0) (answer : Result Ending Stop) (result : Outcome) (before after : Option (List ℕ))
    → IfOk answer (λ ending. ending.outcome ≡ outcome.Done → proves ending.text)
    → FinishesAs answer result before after → result ≡ outcome.Done → WritesProved proves before after
writes proves (Ok ending) result before after proved (inl whole) done =
    record { text = ending.text; written = whole.1; proved = proved (sym whole.0 ∙ done) }
writes proves (Ok ending) result before after proved (inr cut) done = elim cut.0 [ inl f ↦ absurd (cc) | inr m ↦ absurd (cc) ]
writes proves (Err stop.Usage) result before after proved (inl whole) done = absurd (cc)
writes proves (Err stop.Usage) result before after proved (inr cut) done = elim cut.0 [ inl f ↦ absurd (cc) | inr m ↦ absurd (cc) ]
writes proves (Err (stop.Refused r)) result before after proved (inl (inl whole)) done = absurd (cc)
writes proves (Err (stop.Refused r)) result before after proved (inl (inr cut)) done =
    elim cut.0 [ inl f ↦ absurd (cc) | inr m ↦ absurd (cc) ]
writes proves (Err (stop.Refused r)) result before after proved (inr ended) done = absurd (cc)
writes proves (Err (stop.Absent place)) result before after proved finishes done = absurd (cc)
writes proves (Err stop.ReadFault) result before after proved finishes done = absurd (cc)
writes proves (Err stop.NoMemory) result before after proved finishes done = absurd (cc)

pub answer_proved : (told : Option (List NamedText)) (proves : List NamedText → List ℕ → Type 0) (answer : Result Ending Stop)
    (result : Outcome) (before after : Option (List ℕ))
    → IfSome told (λ texts. IfOk answer (λ ending. ending.outcome ≡ outcome.Done → proves texts ending.text))
    → FinishesAs answer result before after
    → IfSome told (λ texts. result ≡ outcome.Done → WritesProved (proves texts) before after)
answer_proved None proves answer result before after proved finishes = tt
answer_proved (Some texts) proves answer result before after proved finishes =
    writes (proves texts) answer result before after proved finishes

-- what is proved of the text of a command is proved of that of an equal one
pub proved_as : {asked named : Command} (told : Option (List NamedText)) (answer : Result Ending Stop) → asked ≡ named
    → IfSome (texts_for (meaning_of (Some named)) told)
    (λ texts. IfOk answer (λ ending. ending.outcome ≡ outcome.Done → (meaning_of (Some named)).proves texts ending.text))
    → IfSome (texts_for (meaning_of (Some asked)) told)
    (λ texts. IfOk answer (λ ending. ending.outcome ≡ outcome.Done → (meaning_of (Some asked)).proves texts ending.text))
proved_as told answer is proved = rw is proved

-- an outcome of the command's own is no other's
pub own_cause : (answer : Result Ending Stop) (o : Outcome) → IsOwn o → ComesFrom answer o
own_cause answer outcome.Done own = tt
own_cause answer outcome.Usage own = absurd own
own_cause answer (outcome.Refused r) own = absurd own
own_cause answer (outcome.TooWide place m lo hi) own = tt
own_cause answer (outcome.FleetTooWide m lo hi) own = tt
own_cause answer (outcome.Absent place) own = absurd own
own_cause answer outcome.ReadFault own = absurd own
own_cause answer outcome.WriteFault own = tt
own_cause answer outcome.NoMemory own = tt

-- the cause of an outcome is that of the ending, if it was not cut short
pub finish_cause : (answer : Result Ending Stop) (ending : Ending) (result : Outcome) (before after : Option (List ℕ))
    → ComesFrom answer ending.outcome → Finishes ending result before after → ComesFrom answer result
finish_cause answer ending result before after cause (inl whole) = subst (ComesFrom answer) (sym whole.0) cause
finish_cause answer ending result before after cause (inr cut) =
    elim cut.0 [ inl f ↦ subst (ComesFrom answer) (sym f) tt | inr m ↦ subst (ComesFrom answer) (sym m) tt ]

-- nothing was written if a text was not read
pub fault_keeps : (answer : Result Ending Stop) (result : Outcome) (before after : Option (List ℕ)) → answer ≡ Err stop.ReadFault
    → FinishesAs answer result before after → Keeps before after
fault_keeps answer result before after is finishes =
    (subst (λ (a : Result Ending Stop). FinishesAs a result before after) is finishes).1

pub absent_keeps : (answer : Result Ending Stop) (place : ℕ) (result : Outcome) (before after : Option (List ℕ))
    → answer ≡ Err (stop.Absent place) → FinishesAs answer result before after → Keeps before after
absent_keeps answer place result before after is finishes =
    (subst (λ (a : Result Ending Stop). FinishesAs a result before after) is finishes).1

-- arguments that are no command end with the usage line, over every shelf
pub usage_finishes : (asked : Option Command) (told : Option (List NamedText)) (fault : Option (List ℕ)) (result : Outcome)
    (before after : Option (List ℕ)) → asked ≡ None
    → IfSome (texts_for (meaning_of asked) told) (λ texts. Runs ((meaning_of asked).ends texts) result before after)
    → (result ≡ outcome.ReadFault → (meaning_of asked).asks told fault)
    → Finishes usage_ending result before after
unfolding meaning_of
usage_finishes None told fault result before after none (inl finishes) asks =
    subst (λ (ending : Ending). Finishes ending result before after) finishes.is_one finishes.finishes
usage_finishes None told fault result before after none (inr ended) asks =
    elim ended.0 [
      | inl f ↦ absurd (asks f)
      | inr m ↦ inr (inr m, front_kept before after usage_ending.text ended.1)
    ]
usage_finishes (Some command) told fault result before after none is asks = absurd (cc)
