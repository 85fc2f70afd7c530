use Rattle.std.proofs.Common.{◌≡◌, ◌<◌, ◌*◌, ◌^◌, ◌%◌, ℕ, sym, ap, ◌∙◌, arith}
use Rattle.std.specs.Prelude.{bit_xor}
use Rattle.std.proofs.Math.Pow.{pow-lt}
use Rattle.hyper_model.specs.Tables.{word_table}
use Rattle.hyper_model.proofs.WordRates.{table_at_turned, table_elsewhere}
use Rattle.rate_matrix.proofs.words.rate_between_words.Goals as goal

one_bit : (n : ℕ) → n < 16 → 1 * 2 ^ n % 65536 ≡ 2 ^ n
one_bit n l = let small : 2 ^ n < 2 ^ 16 = pow-lt l in omega arith

pub returns-then-word-unit : goal.returns-then-word-unit
returns-then-word-unit c =
    c.rate_of_turn.ensures
    ∙ sym (table_at_turned c.args.plan.now c.args.word c.loop-unit.unit (omega arith))
    ∙ ap (word_table c.args.plan.now c.args.word) (ap (bit_xor c.args.word) (sym (one_bit c.loop-unit.unit (omega arith))) ∙ c.if-word-unit.true)

pub returns : goal.returns
returns c = sym (table_elsewhere c.args.plan.now c.args.word c.args.next (λ n l. c.loop-unit.invariant n (omega arith)))
