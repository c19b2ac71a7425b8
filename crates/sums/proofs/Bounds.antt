-- Factors and multipliers are near 0. Assumes nothing.
use Rattle.std.proofs.Common.{Result, Ok, Err}
use mathlib.Core.Bool.{Bool, true, false, cond}
use mathlib.Core.List.{List}
use Prim.Native.Nat.{ℕ, ◌+◌, ◌≤◌}
use native.Mathlib.Omega.{arith}
use lib.Dec.{eqb}
use lib.IntN.{ℤ, pos, neg_ℤ, nat_abs, ◌-ℤ◌}
use Rattle.integers.specs.Sum.{sum_to, same}
use Rattle.integers.proofs.Near.{nat_abs-add, nat_abs-neg, nat_abs-sum, if-near}
use Rattle.refusals.specs.declared.Refusal.{Refusal}
use Rattle.record.specs.Table.{row}
use Rattle.component.specs.declared.kinds.Map.{Map}
use Rattle.component.specs.Row.{map_of}
use Rattle.component.specs.Limits.{most_colours}
use Rattle.equations.specs.Numbers.{mapped_factor, all_factor, factor_of, equation_factor}
use Rattle.equations.specs.declared.Equation.{Equation}
use Rattle.equations.specs.declared.Equation.TheVariants.{One, Two, Three, Mapped, All}

pub same-near : (a v : ℕ) → nat_abs (same a v) ≤ 1
unfolding same
same-near a v = go (eqb a v)
  where
    go : (t : Bool) → nat_abs (cond t (pos 1) (pos 0)) ≤ 1
    go true = omega arith
    go false = omega arith

-- some flows of a channel
pub some_near : (p : ℕ → Bool) (from d v : ℕ) → d ≤ 8 → nat_abs (sum_to d (λ e. cond (p e) (same (from + e) v) (pos 0))) ≤ 8
some_near p from d v h =
    omega (arith, nat_abs-sum d 1 (λ e. cond (p e) (same (from + e) v) (pos 0)) (λ e l. if-near (p e) (same (from + e) v) 1 (same-near (from + e) v)))

pub mapped-near : (t : List ℕ) (c from q : ℕ) (map : Map) (to v : ℕ) → c ≤ most_colours → nat_abs (mapped_factor t c from q map to v) ≤ 8
unfolding mapped_factor
mapped-near t c from q map to v h = some_near (λ d. eqb (map_of map (row t q) d) to) from c v h

pub all_near : (c from v : ℕ) → c ≤ most_colours → nat_abs (all_factor c from v) ≤ 8
unfolding all_factor
all_near c from v h = some_near (λ d. true) from c v h

less-near : (a b : ℤ) (m n : ℕ) → nat_abs a ≤ m → nat_abs b ≤ n → nat_abs (a -ℤ b) ≤ m + n
less-near a b m n h k = omega (arith, nat_abs-add a (neg_ℤ b), nat_abs-neg b)

-- a factor
pub factor-near : (t : List ℕ) (c : ℕ) → c ≤ most_colours → (e : Equation) (v : ℕ) → nat_abs (factor_of t c e v) ≤ 16
unfolding factor_of
factor-near t c h (One p) v = omega (arith, same-near p v)
factor-near t c h (Two p q) v = omega (arith, less-near (same p v) (same q v) 1 1 (same-near p v) (same-near q v))
factor-near t c h (Three p q r) v =
    omega (arith, less-near (same p v -ℤ same q v) (same r v) 2 1 (less-near (same p v) (same q v) 1 1 (same-near p v) (same-near q v)) (same-near r v))
factor-near t c h (Mapped p from q map to) v =
    omega (arith, less-near (same p v) (mapped_factor t c from q map to v) 1 8 (same-near p v) (mapped-near t c from q map to v h))
factor-near t c h (All p q) v = less-near (all_factor c p v) (all_factor c q v) 8 8 (all_near c p v h) (all_near c q v h)

-- of a term's equation
pub named-near : (t : List ℕ) (c : ℕ) → c ≤ most_colours → (e : Result Equation Refusal) (v : ℕ) → nat_abs (equation_factor t c e v) ≤ 16
named-near t c h (Ok e) v = factor-near t c h e v
named-near t c h (Err r) v = omega arith
