use Rattle.std.proofs.Common.{◌≡◌, ℕ, suc, ◌+◌, ◌*◌, ◌≤◌, ap, subst, cond, arith}
use Rattle.hyper_model.specs.Sums.{sum_below}
use Rattle.hyper_model.specs.Plans.{atoms, calls_of, split}
use Rattle.hyper_model.specs.Words.{takes, portion}
use Rattle.busy_words.proofs.dispatch.up.Goals as goal

-- a sum with one place more
sum_next : (n : ℕ) (f : ℕ → ℕ) → sum_below (n + 1) f ≡ sum_below n f + f n
sum_next n f = let more : n + 1 ≡ suc n = omega arith in ap (λ k. sum_below k f) more

-- the calls of one atom more
next_rate : (n rate more : ℕ) (f : ℕ → ℕ) → rate ≡ sum_below n f → more ≡ f n → rate + more ≡ sum_below (n + 1) f
next_rate n rate more f before here = omega (arith, before, here, sum_next n f)

next_most : (n rate more shares : ℕ) (calls : ℕ → ℕ) → rate ≤ shares * sum_below n calls → more ≤ calls n * shares
    → rate + more ≤ shares * sum_below (n + 1) calls
next_most n rate more shares calls before here = omega (arith, before, here, ap (λ c. shares * c) (sum_next n calls))

pub loop-atom-preserved : goal.loop-atom-preserved
loop-atom-preserved c = record {
  rate =
      next_rate c.loop-atom.atom c.loop-atom.rate c.rate_of_atom-rate.result
      (λ j. cond (takes c.args.plan.now j c.args.word c.args.unit) (calls_of c.args.plan.now j * portion c.args.plan.now j c.args.word) 0)
      c.loop-atom.invariant.rate c.rate_of_atom-rate.ensures.rate;
  most =
      next_most c.loop-atom.atom c.loop-atom.rate c.rate_of_atom-rate.result (split c.args.plan.now) (calls_of c.args.plan.now)
      c.loop-atom.invariant.most c.rate_of_atom-rate.ensures.most;
  small = omega (arith, c.loop-atom.invariant.small, c.rate_of_atom-rate.ensures.small);
}

pub returns-clause-most : goal.returns-clause-most
returns-clause-most c =
    let all : c.loop-atom.atom ≡ atoms c.args.plan.now =
    omega (arith, c.atoms-atom-end.ensures.atoms, c.loop-atom.auto.atom-end, c.loop-atom-test.false) in
    subst (λ n. c.loop-atom.rate ≤ split c.args.plan.now * sum_below n (calls_of c.args.plan.now)) all
    c.loop-atom.invariant.most
