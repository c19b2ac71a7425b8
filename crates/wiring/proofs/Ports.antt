-- What a port's code tells agrees with the kinds' table and rules: computed tests. Assumes nothing.
use mathlib.Core.Path.{◌≡◌, refl, sym, subst}
use Prim.Native.Nat.{ℕ, zero, suc, ◌+◌, ◌*◌, ◌/◌, ◌%◌, ◌<◌}
use native.Mathlib.Omega.{arith}
use mathlib.Core.Bool.{Bool, true, false, not}
use mathlib.Core.List.{List, [], ◌∷◌}
use lib.ListN.{get_or}
use denote.Enum.Declared.{tag_of}
use Rattle.component.specs.contracts.kinds.Kind as of_kind
use Rattle.component.specs.contracts.kinds.Port as of_port
use borrow.Author.Tests.{not-false}
use Rattle.digits.specs.Least.{least}
use Rattle.digits.proofs.Least.{least-before}
use Rattle.record.specs.Table.{row}
use Rattle.component.specs.declared.kinds.Kind.{Kind}
use Rattle.component.specs.declared.kinds.Kind.TheVariants.{Source, Sink, Queue, Function, Fork, Join, Switch, Merge}
use Rattle.component.specs.declared.kinds.Port.{Port}
use Rattle.component.specs.declared.kinds.Port.TheVariants.{A, B, C}
use Rattle.component.specs.Kind.{kind_of, port_of, port_use}
use Rattle.component.specs.Row.{kind, port}
use Rattle.wiring.specs.Ends.{end_row, end_port, on_side}
use Rattle.wiring.specs.Signals.{depends_on, has, near_of, signal_of}
use Rattle.wiring.specs.Ports.{port_code, end_code, code_side, slot_of, code_has}
use Rattle.wiring.specs.Stages.{port_number}
use Rattle.wiring.proofs.Ends.{use_slot}

-- a test that passes at each number below n
each : (p : ℕ → Bool) (n : ℕ) → least (λ i. not (p i)) n ≡ n → (i : ℕ) → i < n → p i ≡ true
each p n e i h = not-false (p i) (least-before (λ i. not (p i)) n i (rw e h))

-- each kind and port has its number
by_kind : (P : Kind → Type 0) → ((k : ℕ) → k < 8 → P (kind_of k)) → (kind : Kind) → P kind
unfolding kind_of
by_kind P h Source = h 0 (omega arith)
by_kind P h Sink = h 1 (omega arith)
by_kind P h Queue = h 2 (omega arith)
by_kind P h Function = h 3 (omega arith)
by_kind P h Fork = h 4 (omega arith)
by_kind P h Join = h 5 (omega arith)
by_kind P h Switch = h 6 (omega arith)
by_kind P h Merge = h 7 (omega arith)

by_port : (P : Port → ℕ → Type 0) → ((p : ℕ) → p < 3 → P (port_of p) p) → (port : Port) → P port (port_number port)
unfolding port_of
by_port P h A = h 0 (omega arith)
by_port P h B = h 1 (omega arith)
by_port P h C = h 2 (omega arith)

pub port-tag : (port : Port) → tag_of of_port.the_type port ≡ port_number port
port-tag A = refl
port-tag B = refl
port-tag C = refl

-- a test that passes at each kind and port
at-port : (f : Kind → Port → Bool) → least (λ i. not (f (kind_of (i / 3)) (port_of (i % 3)))) 24 ≡ 24 → (kind : Kind) (port : Port) → f kind port ≡ true
at-port f e = λ kind port. by_kind (λ kind. f kind port ≡ true) (λ k hk. by_port (λ port p. f (kind_of k) port ≡ true) (λ p hp. here k p hk hp) port) kind
  where
    here : (k p : ℕ) → k < 8 → p < 3 → f (kind_of k) (port_of p) ≡ true
    here k p hk hp =
        let a : (3 * k + p) / 3 ≡ k = omega arith in
        let b : (3 * k + p) % 3 ≡ p = omega arith in
        subst (λ (j : ℕ). f (kind_of k) (port_of j) ≡ true) b
        (subst (λ (i : ℕ). f (kind_of i) (port_of ((3 * k + p) % 3)) ≡ true) a (each (λ i. f (kind_of (i / 3)) (port_of (i % 3))) 24 e (3 * k + p) (omega arith)))

-- the code's table: a row a kind, a number a port
unfoldable pub ports : List (List ℕ)
ports = (16 ∷ 0 ∷ 0 ∷ []) ∷ (32 ∷ 0 ∷ 0 ∷ []) ∷ (32 ∷ 16 ∷ 0 ∷ []) ∷ (34 ∷ 24 ∷ 0 ∷ []) ∷ (35 ∷ 25 ∷ 26 ∷ []) ∷ (37 ∷ 41 ∷ 28 ∷ []) ∷ (43 ∷ 24 ∷ 24 ∷ []) ∷ (45 ∷ 45 ∷ 28 ∷ []) ∷ []

-- the table has each kind's and port's code: each line computed
pub port-code : (kind : Kind) (port : Port) → get_or {A = ℕ} (get_or {A = List ℕ} ports (tag_of of_kind.the_type kind) []) (tag_of of_port.the_type port) 0 ≡ port_code kind port
unfolding ports port_use depends_on
port-code Source A = refl
port-code Source B = refl
port-code Source C = refl
port-code Sink A = refl
port-code Sink B = refl
port-code Sink C = refl
port-code Queue A = refl
port-code Queue B = refl
port-code Queue C = refl
port-code Function A = refl
port-code Function B = refl
port-code Function C = refl
port-code Fork A = refl
port-code Fork B = refl
port-code Fork C = refl
port-code Join A = refl
port-code Join B = refl
port-code Join C = refl
port-code Switch A = refl
port-code Switch B = refl
port-code Switch C = refl
port-code Merge A = refl
port-code Merge B = refl
port-code Merge C = refl

-- what a code tells
same : Bool → Bool → Bool
same true b = b
same false b = not b

same_true : (a b : Bool) → same a b ≡ true → a ≡ b
unfolding same
same_true true b e = sym e
same_true false b e = sym (not-true b e)
  where
    not-true : (b : Bool) → not b ≡ true → b ≡ false
    not-true true e = sym e
    not-true false e = refl

pub port-side : (side : Bool) (kind : Kind) (port : Port) → code_side side (port_code kind port) ≡ on_side side (port_use kind port)
unfolding same least kind_of port_of port_use depends_on
port-side true kind port = same_true _ _ (at-port (λ k p. same (code_side true (port_code k p)) (on_side true (port_use k p))) refl kind port)
port-side false kind port = same_true _ _ (at-port (λ k p. same (code_side false (port_code k p)) (on_side false (port_use k p))) refl kind port)

has-test : ℕ → Kind → Port → Bool
has-test j kind port = same (code_has (port_code kind port) j) (has (depends_on kind port) (near_of j))

pub port-has : (j : ℕ) → j < 4 → (kind : Kind) (port : Port) → code_has (port_code kind port) j ≡ has (depends_on kind port) (near_of j)
unfolding same has-test least kind_of port_of port_use depends_on near_of
port-has zero h kind port = same_true _ _ (at-port (has-test 0) refl kind port)
port-has (suc zero) h kind port = same_true _ _ (at-port (has-test 1) refl kind port)
port-has (suc (suc zero)) h kind port = same_true _ _ (at-port (has-test 2) refl kind port)
port-has (suc (suc (suc zero))) h kind port = same_true _ _ (at-port (has-test 3) refl kind port)
port-has (suc (suc (suc (suc j)))) h kind port = absurd (omega arith)

-- ---- the channel of a dependence: port A, B, B and C
pub near-port : (r : List ℕ) (j : ℕ) → j < 4 → 2 * port r (port_of ((j + 1) / 2)) + j / 2 ≡ signal_of r (near_of j)
unfolding near_of port_of
near-port r zero h = omega arith
near-port r (suc zero) h = omega arith
near-port r (suc (suc zero)) h = refl
near-port r (suc (suc (suc zero))) h = refl
near-port r (suc (suc (suc (suc j)))) h = absurd (omega arith)

-- ---- port p of component k is end 3 k + p
module _ (table : List ℕ) (k : ℕ) where
  end-row : (port : Port) → end_row table (3 * k + port_number port) ≡ row table k
  end-row port = let e : (3 * k + port_number port) / 3 ≡ k = by_port (λ port p. (3 * k + p) / 3 ≡ k) (λ p h. omega arith) port in rw e

  end-port : (port : Port) → end_port (3 * k + port_number port) ≡ port
  end-port = by_port (λ port p. end_port (3 * k + p) ≡ port) (λ p h. let e : (3 * k + p) % 3 ≡ p = omega arith in rw e)

  pub port-channel : (p : Port) → port (row table k) p ≡ port (end_row table (3 * k + port_number p)) (end_port (3 * k + port_number p))
  port-channel p = rw (end-row p, end-port p)

  pub port-slot : (p : Port) (x : ℕ) → slot_of (port_code (kind (row table k)) p) x ≡ use_slot (port_use (kind (end_row table (3 * k + port_number p))) (end_port (3 * k + port_number p))) x
  port-slot p x = rw (end-row p, end-port p, port-side true (kind (row table k)) p, port-side false (kind (row table k)) p)

-- ---- the code of end e
pub end-has : (table : List ℕ) (e j : ℕ) → j < 4 → code_has (end_code table e) j ≡ has (depends_on (kind (end_row table e)) (end_port e)) (near_of j)
unfolding end_code
end-has table e j h = port-has j h (kind (end_row table e)) (end_port e)
