-- The headroom is not below 0, and with counts that keep the sum at its constant no place has more of it than there is. Assumes nothing.
use mathlib.Core.Path.{◌≡◌, refl, ap, sym, ◌∙◌}
use mathlib.Core.Bool.{Bool, true, false, cond}
use mathlib.Core.List.{List}
use Prim.Native.Nat.{ℕ, ◌+◌, ◌-◌, ◌*◌, ◌≤◌, ◌<◌}
use native.Mathlib.Nat.{mul-le-mul_left, zero-mul}
use native.Mathlib.Omega.{arith}
use lib.Dec.{eqb}
use lib.IntN.{ℤ, pos, ◌+ℤ◌, ◌*ℤ◌}
use Rattle.integers.specs.Sum.{sum_to}
use Rattle.integers.specs.Total.{total}
use Rattle.integers.specs.Sign.{above_zero, below_zero}
use Rattle.integers.proofs.Sum.{sum-add}
use Rattle.integers.proofs.Total.{total-at, sum-total}
use Rattle.integers.proofs.Sign.{product-raised, raised-back}
use Rattle.component.specs.Kind.{is_queue}
use Rattle.component.specs.Row.{kind, capacity, fill_colour}
use Rattle.component.proofs.ByKind.{is-queue}
use Rattle.netlist.specs.Netlist.{Netlist, row_of}
use Rattle.netlist.specs.Accepted.{AcceptedNetlist}
use Rattle.flows.specs.Flows.{weight, accepted_sum, start_count, constant}
use Rattle.flows.proofs.Weights.{weight-other}
use Rattle.headroom.specs.Headroom.{owed_of, owed, headroom}

-- no queue holds more of a colour than its capacity
pub record Within (f : Netlist) (n : ℕ → ℕ → ℕ) : Type 0 where
  pub most : (q : ℕ) → q < f.components → is_queue (kind (row_of f q)) ≡ true → (d : ℕ) → n q d ≤ capacity (row_of f q)

module _ (f : Netlist) (p : List ℕ) (n : ℕ → ℕ → ℕ) (within : Within f n) where
  -- weight times n(q,d), raised by the capacity for a weight below 0
  abbrev share : ℕ → ℕ → ℕ
  share q d = above_zero (weight f p q d) * n q d + below_zero (weight f p q d) * capacity (row_of f q) - below_zero (weight f p q d) * n q d

  low : (q d : ℕ) → q < f.components → below_zero (weight f p q d) * n q d ≤ below_zero (weight f p q d) * capacity (row_of f q)
  low q d l = go (is_queue (kind (row_of f q))) refl
    where
      go : (b : Bool) → is_queue (kind (row_of f q)) ≡ b → below_zero (weight f p q d) * n q d ≤ below_zero (weight f p q d) * capacity (row_of f q)
      go true e = mul-le-mul_left (below_zero (weight f p q d)) (within.most q l e d)
      go false e = rw (weight-other f p q d e) (omega (arith, zero-mul (n q d), zero-mul (capacity (row_of f q))))

  -- the sum, and what is owed, place by place
  spread : accepted_sum f p n +ℤ pos (owed f p) ≡ pos (total f.components (λ q. total f.colours (share q)))
  unfolding accepted_sum owed_of
  spread =
      let a : ℕ → ℕ → ℤ = λ q d. weight f p q d *ℤ pos (n q d) in
      let b : ℕ → ℕ → ℤ = λ q d. pos (below_zero (weight f p q d) * capacity (row_of f q)) in
      ap (λ (z : ℤ). sum_to f.components (λ q. sum_to f.colours (a q)) +ℤ z)
      (sym (sum-total f.components (λ q. sum_to f.colours (b q)) (λ q. total f.colours (λ d. below_zero (weight f p q d) * capacity (row_of f q))) (λ q l. sum-total f.colours (b q) _ (λ d m. refl))))
      ∙ sym (sum-add f.components (λ q. sum_to f.colours (a q)) (λ q. sum_to f.colours (b q)))
      ∙ sum-total f.components (λ q. sum_to f.colours (a q) +ℤ sum_to f.colours (b q)) (λ q. total f.colours (share q))
      (λ q l. sym (sum-add f.colours (a q) (b q)) ∙ sum-total f.colours (λ d. a q d +ℤ b q d) (share q) (λ d m. product-raised (weight f p q d) (n q d) (capacity (row_of f q)) (low q d l)))

  module _ (same : accepted_sum f p n ≡ constant f p) where
    natural : headroom f p ≡ pos (total f.components (λ q. total f.colours (share q)))
    unfolding headroom
    natural = ap (λ (z : ℤ). z +ℤ pos (owed f p)) (sym same) ∙ spread

    -- one place's share is at most all of them
    pub place-le : (q d : ℕ) → q < f.components → d < f.colours → above_zero (weight f p q d) * n q d ≤ above_zero (headroom f p)
    place-le q d l m =
        omega (arith, low q d l, total-at f.colours (share q) d m, total-at f.components (λ q. total f.colours (share q)) q l, ap above_zero natural)

-- ---- at start
-- the fillings are within the capacities
start-within : (f : Netlist) → AcceptedNetlist f → Within f (start_count f)
start-within f h = record { most = λ q l e d. go (eqb d (fill_colour (row_of f q))) ((h.facts.rows q l).fillings (is-queue (kind (row_of f q)) e)) }
  where
    go : (b : Bool) {x c : ℕ} → x ≤ c → cond b x 0 ≤ c
    go true h = h
    go false h = omega arith

-- so what is divided is never below 0
pub headroom-natural : (f : Netlist) (p : List ℕ) → AcceptedNetlist f → below_zero (constant f p) ≤ above_zero (constant f p) + owed f p
unfolding constant
headroom-natural f p h = raised-back (constant f p) (owed f p) _ (spread f p (start_count f) (start-within f h))
