-- Why each operation on intervals encloses its result, over plain numbers. Each lemma takes the
-- answer r with the equation that an exact clause gives, so it serves a call (by its clause `ends`)
-- and a definition built of the same ends (by `refl`) alike.
use Rattle.std.proofs.Common.{◌≡◌, ℕ, suc, zero, ◌+◌, ◌-◌, ◌*◌, ◌/◌, ◌^◌, ◌<◌, ◌≤◌, Bool, true, false, min, nat_eq, refl, arith}
use Rattle.std.specs.Int.{div_ceil}
use Rattle.std.proofs.Math.Nat.{div-mul-le_self, div-zero, div-le_of_le-mul, div-eq_of_lt-le, le_of_mul-le-mul_right, lt_of_mul-lt-mul_right, mul-le-mul_left, mul-le-mul_right}
use Rattle.std.proofs.lemmas.Nat.{mul-le, pow_pos}
use Rattle.std.proofs.lemmas.Bool.Decides.{nat_tests}
use Rattle.std.proofs.lemmas.Grind.{div_ceil_times}
use Rattle.std.specs.Prelude.{if◌then◌else◌}
use Rattle.fixed_interval.specs.Ends.{Ends, Encloses, exact_ends, outward_ends, plus_capped_ends, plus_ends, product_ends, quotient_ends, ratio_ends, scaled_ends, share_ends, shifted_ends, times_part_ends}

-- A quotient rounded down stays below what the whole stays below.
pub floor_below : (x k d a : ℕ) → 0 < k → x * d ≤ k * a → x / k * d ≤ a
floor_below x k d a some below =
    let inner : x / k * k * d ≤ x * d = mul-le-mul_right d (div-mul-le_self x k) in
    let whole : x / k * d * k ≤ a * k = omega (arith, inner, below) in
    le_of_mul-le-mul_right whole some

-- A quotient rounded up stays above what the whole stays above.
pub ceil_above : (x k d a : ℕ) → 0 < k → k * a ≤ x * d → a ≤ div_ceil x k * d
ceil_above x k d a some above =
    let inner : x * d ≤ div_ceil x k * k * d = mul-le-mul_right d ((div_ceil_times x k some).0) in
    let whole : a * k ≤ div_ceil x k * d * k = omega (arith, inner, above) in
    le_of_mul-le-mul_right whole some

-- A product past some number has no factor that is 0.
pub factor-positive : (x a b : ℕ) → x < a * b → 0 < b
factor-positive x a zero past = absurd (omega (arith, past))
factor-positive x a (suc b) past = omega arith

-- What is above 0 is not rounded up to 0.
pub div_ceil-positive : (x k : ℕ) → 0 < k → 0 < x → 0 < div_ceil x k
div_ceil-positive x k some above =
    factor-positive 0 k (div_ceil x k) (omega (arith, (div_ceil_times x k some).0))

-- Rounding up stays below what the whole stays below.
pub div_ceil-le : (x k n : ℕ) → 0 < k → x ≤ n * k → div_ceil x k ≤ n
div_ceil-le x k n some le =
    let less : div_ceil x k * k < (n + 1) * k = omega (arith, (div_ceil_times x k some).1, le) in
    let below : div_ceil x k < n + 1 = lt_of_mul-lt-mul_right k less in
    omega arith

-- Two quotients by one number, the first rounded down and the second up, keep the order of cross products.
pub rounded-cross : (k l h a b : ℕ) → 0 < k → l * a ≤ h * b → l / k * a ≤ div_ceil h k * b
rounded-cross k l h a b some cross =
    let inner : l / k * k * a ≤ l * a = mul-le-mul_right a (div-mul-le_self l k) in
    let outer : h * b ≤ div_ceil h k * k * b = mul-le-mul_right b ((div_ceil_times h k some).0) in
    let whole : l / k * a * k ≤ div_ceil h k * b * k = omega (arith, inner, outer, cross) in
    le_of_mul-le-mul_right whole some

-- A quotient rounded down is at most a larger one rounded up.
pub rounded-ordered : (k l h : ℕ) → 0 < k → l ≤ h → l / k ≤ div_ceil h k
rounded-ordered k l h some le =
    let cross = rounded-cross k l h 1 1 some (omega arith) in
    omega (arith, cross)

-- Rounding up by an addition before the division.
pub div_ceil-by_sum : (x k : ℕ) → 0 < k → (x + (k - 1)) / k ≡ div_ceil x k
div_ceil-by_sum x k some =
    let bounds = div_ceil_times x k some in
    div-eq_of_lt-le k (omega (arith, bounds.0, bounds.1)) (omega (arith, bounds.0, bounds.1))

-- An interval that contains a number has its ends in order.
pub Encloses-ordered : (i : Ends) (x den : ℕ) → 0 < den → Encloses i x den → i.lo ≤ i.hi
Encloses-ordered i x den some e =
    let whole : i.lo * den ≤ i.hi * den = omega (arith, e.low, e.high) in
    le_of_mul-le-mul_right whole some

-- The same fraction in lower terms.
pub encloses_same : (i : Ends) (k a b x d : ℕ) → 0 < k → x ≡ k * a → d ≡ k * b → Encloses i x d → Encloses i a b
encloses_same i k a b x d some num den e =
    let low : i.lo * (k * b) ≤ k * a = rw (← num, ← den) e.low in
    let high : k * a ≤ i.hi * (k * b) = rw (← num, ← den) e.high in
    let low_k : i.lo * b * k ≤ a * k = omega (arith, low) in
    let high_k : a * k ≤ i.hi * b * k = omega (arith, high) in
    record { low = le_of_mul-le-mul_right low_k some; high = le_of_mul-le-mul_right high_k some }

-- The same fraction in higher terms.
pub encloses_times : (i : Ends) (k a b x d : ℕ) → x ≡ k * a → d ≡ k * b → Encloses i a b → Encloses i x d
encloses_times i k a b x d num den e =
    rw (num, den) (record {
      low = omega (arith, mul-le-mul_left k e.low);
      high = omega (arith, mul-le-mul_left k e.high);
    })

-- A single number contains itself, over every denominator.
pub encloses_exact : (v : ℕ) (r : Ends) → r ≡ exact_ends v → (den : ℕ) → Encloses r (v * den) den
encloses_exact v r is den = rw is (record { low = omega arith; high = omega arith })

-- A sum of two numbers over one denominator.
pub encloses_plus : (s t r : Ends) → r ≡ plus_ends s t → (a b den : ℕ) → Encloses s a den → Encloses t b den
    → Encloses r (a + b) den
encloses_plus s t r is a b den es et = rw is (record {
  low = omega (arith, es.low, et.low);
  high = omega (arith, es.high, et.high);
})

-- A cap only lowers a low end.
low_capped : (l cap d a : ℕ) → l * d ≤ a → min l cap * d ≤ a
low_capped l cap d a low =
    let less : min l cap ≤ l = omega arith in
    omega (arith, mul-le-mul_right d less, low)

-- A cap leaves a high end above each number that the cap itself is above.
high_capped : (h cap d a : ℕ) → a ≤ h * d → a ≤ cap * d → a ≤ min h cap * d
high_capped h cap d a high fits = grind arith

-- The same sum, if it is known to be at most the cap.
pub encloses_plus_capped : (s t r : Ends) (cap : ℕ) → r ≡ plus_capped_ends s t cap → (a b den : ℕ)
    → Encloses s a den → Encloses t b den → a + b ≤ cap * den → Encloses r (a + b) den
encloses_plus_capped s t r cap is a b den es et fits = rw is (record {
  low = low_capped (s.lo + t.lo) cap den (a + b) (omega (arith, es.low, et.low));
  high = high_capped (s.hi + t.hi) cap den (a + b) (omega (arith, es.high, et.high)) fits;
})

-- A product of two numbers, each over a denominator of its own.
pub encloses_product : (s t r : Ends) → r ≡ product_ends s t → (a m b n : ℕ) → Encloses s a m → Encloses t b n
    → Encloses r (a * b) (m * n)
encloses_product s t r is a m b n es et = rw is (record {
  low = omega (arith, mul-le (s.lo * m) (t.lo * n) a b es.low et.low);
  high = omega (arith, mul-le a b (s.hi * m) (t.hi * n) es.high et.high);
})

-- The same product, if the second is a part of 2 ^ 62.
pub encloses_times_part : (s t r : Ends) → r ≡ times_part_ends s t → (a m p n : ℕ) → Encloses s a m
    → Encloses t (2 ^ 62 * p) n → Encloses r (a * p) (m * n)
encloses_times_part s t r is a m p n es et = rw is (record {
  low = floor_below (s.lo * t.lo) (2 ^ 62) (m * n) (a * p) (omega arith)
      (omega (arith, mul-le (s.lo * m) (t.lo * n) a (2 ^ 62 * p) es.low et.low));
  high = ceil_above (s.hi * t.hi) (2 ^ 62) (m * n) (a * p) (omega arith)
      (omega (arith, mul-le a (2 ^ 62 * p) (s.hi * m) (t.hi * n) es.high et.high));
})

-- A part of 2 ^ 62, in another unit.
pub encloses_outward : (s r : Ends) (unit : ℕ) → r ≡ outward_ends unit s → (p den : ℕ) → Encloses s (2 ^ 62 * p) den
    → Encloses r (unit * p) den
encloses_outward s r unit is p den e = rw is (record {
  low = floor_below (unit * s.lo) (2 ^ 62) den (unit * p) (omega arith) (omega (arith, mul-le-mul_left unit e.low));
  high = ceil_above (unit * s.hi) (2 ^ 62) den (unit * p) (omega arith) (omega (arith, mul-le-mul_left unit e.high));
})

-- A number times a whole number.
pub encloses_scaled : (s r : Ends) (k : ℕ) → r ≡ scaled_ends k s → (x den : ℕ) → Encloses s x den → Encloses r (k * x) den
encloses_scaled s r k is x den e = rw is (record {
  low = omega (arith, mul-le-mul_left k e.low);
  high = omega (arith, mul-le-mul_left k e.high);
})

-- A number times a fraction.
pub encloses_ratio : (s r : Ends) (a b : ℕ) → 0 < b → r ≡ ratio_ends s a b → (x den : ℕ) → Encloses s x den
    → Encloses r (x * a) (b * den)
encloses_ratio s r a b some is x den e = rw is (record {
  low = floor_below (s.lo * a) b (b * den) (x * a) some (omega (arith, mul-le-mul_left (a * b) e.low));
  high = ceil_above (s.hi * a) b (b * den) (x * a) some (omega (arith, mul-le-mul_left (a * b) e.high));
})

-- A number divided by a power of two.
pub encloses_shifted : (s r : Ends) (h : ℕ) → r ≡ shifted_ends h s → (x den : ℕ) → Encloses s x den
    → Encloses r x (2 ^ h * den)
encloses_shifted s r h is x den e = rw is (record {
  low = floor_below s.lo (2 ^ h) (2 ^ h * den) x (pow_pos h) (omega (arith, mul-le-mul_left (2 ^ h) e.low));
  high = ceil_above s.hi (2 ^ h) (2 ^ h * den) x (pow_pos h) (omega (arith, mul-le-mul_left (2 ^ h) e.high));
})

-- Of the unit u, the rounded share takes q and leaves w. Then all that is to be shown is linear in products.
share_low_step : (q w l h d x y : ℕ) → q * (l + h) ≤ (q + w) * l → l * d ≤ x → y ≤ h * d → q * (x + y) ≤ (q + w) * x
share_low_step q w l h d x y below low high =
    let left : q * h ≤ w * l = omega (arith, below) in
    omega (arith, mul-le-mul_left q high, mul-le-mul_right d left, mul-le-mul_left w low)

share_high_step : (q w l h d x y : ℕ) → (q + w) * h ≤ q * (h + l) → x ≤ h * d → l * d ≤ y → (q + w) * x ≤ q * (x + y)
share_high_step q w l h d x y above high low =
    let left : w * h ≤ q * l = omega (arith, above) in
    omega (arith, mul-le-mul_left w high, mul-le-mul_right d left, mul-le-mul_left q low)

split_le : (q u : ℕ) → q ≤ u → q + (u - q) ≡ u
split_le q u le = omega arith

share_low : (u l h d x y : ℕ) → l * d ≤ x → y ≤ h * d → u * l / (l + h) * (x + y) ≤ u * x
share_low u l h d x y low high =
    let q : ℕ = u * l / (l + h) in
    let le : q ≤ u = div-le_of_le-mul (l + h) (omega arith) in
    let below : (q + (u - q)) * l ≡ u * l = rw (split_le q u le) refl in
    let step = share_low_step q (u - q) l h d x y (rw below (div-mul-le_self (u * l) (l + h))) low high in
    rw (split_le q u le) at step

share_le_unit : (u h l : ℕ) → 0 < h + l → div_ceil (u * h) (h + l) ≤ u
share_le_unit u h l some =
    let room : u * h ≤ u * (h + l) = mul-le-mul_left u (let le : h ≤ h + l = omega arith in le) in
    let less : div_ceil (u * h) (h + l) * (h + l) < (u + 1) * (h + l) =
    omega (arith, (div_ceil_times (u * h) (h + l) some).1, room) in
    let below : div_ceil (u * h) (h + l) < u + 1 = lt_of_mul-lt-mul_right (h + l) less in
    omega arith

share_high : (u l h d x y s : ℕ) → h + l ≡ s → x ≤ h * d → l * d ≤ y → u * x ≤ div_ceil (u * h) (h + l) * (x + y)
share_high u l h d x y zero is high low =
    let no_high : h ≡ 0 = omega arith in
    let none : x ≤ 0 * d = rw no_high at high in
    let no_number : x ≡ 0 = omega (arith, none) in
    rw no_number (omega arith)
share_high u l h d x y (suc s) is high low =
    let some : 0 < h + l = omega arith in
    let q : ℕ = div_ceil (u * h) (h + l) in
    let le : q ≤ u = share_le_unit u h l some in
    let above : (q + (u - q)) * h ≡ u * h = rw (split_le q u le) refl in
    let step = share_high_step q (u - q) l h d x y (rw above ((div_ceil_times (u * h) (h + l) some).0)) high low in
    rw (split_le q u le) at step

at_most_unit : (u h l s : ℕ) → h + l ≡ s → div_ceil (u * h) (h + l) ≤ u
at_most_unit u h l zero is =
    let none : h ≡ 0 = omega arith in
    let no_rest : l ≡ 0 = omega arith in
    rw (none, no_rest) (omega arith)
at_most_unit u h l (suc s) is = share_le_unit u h l (omega arith)

-- A share is at most the whole.
pub share-le_unit : (u h l : ℕ) → div_ceil (u * h) (h + l) ≤ u
share-le_unit u h l = at_most_unit u h l _ refl

-- A share and the rest stand over one denominator, which falls out.
pub encloses_share : (s rest r : Ends) (unit : ℕ) → r ≡ share_ends unit s rest → (x y den : ℕ) → Encloses s x den
    → Encloses rest y den → Encloses r (unit * x) (x + y)
encloses_share s rest r unit is x y den es er = rw is (record {
  low = share_low unit s.lo rest.hi den x y es.low er.high;
  high = share_high unit rest.lo s.hi den x y _ refl es.high er.low;
})

-- Two numbers that stand over one denominator have a quotient without it.
quotient_low : (l h cap d x y : ℕ) → l * d ≤ x → y ≤ h * d → min (l / h) cap * y ≤ x
quotient_low l h cap d x y low high =
    let inner : l / h * h * d ≤ l * d = mul-le-mul_right d (div-mul-le_self l h) in
    let outer : l / h * y ≤ l / h * (h * d) = mul-le-mul_left (l / h) high in
    low_capped (l / h) cap y x (omega (arith, inner, outer, low))

quotient_high : (b : Bool) (h l cap d x y : ℕ) → nat_eq l 0 ≡ b → x ≤ h * d → l * d ≤ y → x ≤ cap * y
    → x ≤ (if b then cap else min (div_ceil h l) cap) * y
quotient_high true h l cap d x y is high low fits = fits
quotient_high false h l cap d x y is high low fits =
    let some : 0 < l = grind (arith, nat_tests) in
    let inner : h * d ≤ div_ceil h l * l * d = mul-le-mul_right d ((div_ceil_times h l some).0) in
    let outer : div_ceil h l * (l * d) ≤ div_ceil h l * y = mul-le-mul_left (div_ceil h l) low in
    high_capped (div_ceil h l) cap y x (omega (arith, high, inner, outer)) fits

-- The quotient of two numbers over one denominator, if it is known to be at most the cap.
pub encloses_quotient : (s t r : Ends) (cap : ℕ) → r ≡ quotient_ends s t cap → (x y den : ℕ) → Encloses s x den
    → Encloses t y den → x ≤ cap * y → Encloses r x y
encloses_quotient s t r cap is x y den es et fits = rw is (record {
  low = quotient_low s.lo t.hi cap den x y es.low et.high;
  high = quotient_high _ s.hi t.lo cap den x y refl es.high et.low fits;
})

-- The ends of each answer are in order if those of the arguments are.
pub plus_capped-ordered : (s t : Ends) (cap : ℕ) → s.lo ≤ s.hi → t.lo ≤ t.hi
    → (plus_capped_ends s t cap).lo ≤ (plus_capped_ends s t cap).hi
plus_capped-ordered s t cap es et = omega arith

pub times_part-ordered : (s t : Ends) → s.lo ≤ s.hi → t.lo ≤ t.hi → (times_part_ends s t).lo ≤ (times_part_ends s t).hi
times_part-ordered s t es et =
    rounded-ordered (2 ^ 62) (s.lo * t.lo) (s.hi * t.hi) (omega arith) (mul-le s.lo t.lo s.hi t.hi es et)

-- A product with a part of the whole is at most what it is a part of.
pub times_part-in_range : (s t : Ends) → t.hi ≤ 2 ^ 62 → (times_part_ends s t).hi ≤ s.hi
times_part-in_range s t part =
    div_ceil-le (s.hi * t.hi) (2 ^ 62) s.hi (omega arith) (mul-le-mul_left s.hi part)

share_ordered_at : (u a b c d s : ℕ) → a + d ≡ s → a ≤ b → c ≤ d → u * a / (a + d) ≤ div_ceil (u * b) (b + c)
share_ordered_at u a b c d zero is le rest = rw (is, div-zero (u * a)) (omega arith)
share_ordered_at u a b c d (suc s) is le rest =
    let low : u * a / (a + d) * (a + d) ≤ u * a = share_low u a d 1 a d (omega arith) (omega arith) in
    let high : u * a ≤ div_ceil (u * b) (b + c) * (a + d) = share_high u c b 1 a d _ refl (omega arith) (omega arith) in
    let whole : u * a / (a + d) * (a + d) ≤ div_ceil (u * b) (b + c) * (a + d) = omega (arith, low, high) in
    let some : 0 < a + d = omega arith in
    le_of_mul-le-mul_right whole some

-- The ends of a share are in order.
pub share-ordered : (u a b c d : ℕ) → a ≤ b → c ≤ d → u * a / (a + d) ≤ div_ceil (u * b) (b + c)
share-ordered u a b c d le rest = share_ordered_at u a b c d _ refl le rest
