-- A fact with choices that a value holds truncated gives the fact itself, since each choice can be found again. Assumes nothing.
use Rattle.std.proofs.Common.{ℕ, ◌≡◌, ◌*◌, ◌<◌, ◌≤◌, Bool, true, List, get_or, suc, arith}
use Rattle.std.proofs.Math.Logic.{∥∥₁_elim}
use Rattle.std.proofs.Math.Bridge.{le_prop}
use Rattle.std.specs.Coded.{Coded-set, coded_ℕ, coded_bool}
use lib.Dec.{eqb}
use borrow.Author.Tests.{eqb-true, eq-eqb}
use Rattle.digits.proofs.Some.{some_at, some_is}
use Rattle.order.specs.Graph.{Sorted}
use Rattle.order.proofs.Exists.{listed, sorted-exists}
use Rattle.order.proofs.Values.{sorted-no-circle}
use Rattle.component.specs.Facts.{RowFacts}
use Rattle.component.specs.Row.{masked}
use Rattle.component.specs.Limits.{most_channels}
use Rattle.wiring.specs.Sound.{Ends, SoundWires}
use Rattle.wiring.specs.Signals.{end_of, dependence}
use Rattle.netlist.specs.Netlist.{Netlist}
use Rattle.netlist.specs.Accepted.{AcceptedFabric, AcceptedNetlist}

module _ {A : Type 0} (t : ∥ A ∥₁) where
  lt : {a b : ℕ} → (A → a < b) → a < b
  lt f = ∥∥₁_elim t le_prop f

  le : {a b : ℕ} → (A → a ≤ b) → a ≤ b
  le f = ∥∥₁_elim t le_prop f

  eq : {a b : ℕ} → (A → a ≡ b) → a ≡ b
  eq f = ∥∥₁_elim t (Coded-set coded_ℕ _ _) f

  eq_b : {a b : Bool} → (A → a ≡ b) → a ≡ b
  eq_b f = ∥∥₁_elim t (Coded-set coded_bool _ _) f

  -- a number below n that passes a test
  found : (p : ℕ → Bool) (n : ℕ) → (A → (k : ℕ) × (k < n) × (p k ≡ true)) → (k : ℕ) × (k < n) × (p k ≡ true)
  found p n f = some_is p n (eq_b (λ a. let w = f a in some_at p n w.0 w.1 w.2))

  -- a place below n where a list has v
  placed : (O : List ℕ) (n v : ℕ) → (A → (k : ℕ) × (k < n) × (get_or O k 0 ≡ v)) → (k : ℕ) × (k < n) × (get_or O k 0 ≡ v)
  placed O n v f =
      let w = found (λ k. eqb (get_or O k 0) v) n (λ a. let w = f a in (w.0, w.1, eq-eqb _ _ w.2)) in
      (w.0, w.1, eqb-true _ _ w.2)

  sorted_of : {D : ℕ → ℕ → ℕ} {n : ℕ} {O : List ℕ} → (A → Sorted D n O) → Sorted D n O
  sorted_of {D} {n} {O} f = record {
    below = λ p h. lt (λ a. (f a).below p h);
    each = λ s h. placed O n s (λ a. (f a).each s h);
    once = λ p q h g e. eq (λ a. (f a).once p q h g e);
    after = λ p d h u. placed O p d (λ a. (f a).after p d h u);
  }

  ends_of : {table : List ℕ} {n channels : ℕ} {ends : List ℕ} → (A → Ends table n channels ends) → Ends table n channels ends
  ends_of f = record {
    at = λ s h. eq (λ a. (f a).at s h);
    inside = λ s h. lt (λ a. (f a).inside s h);
    is = λ s h. eq_b (λ a. (f a).is s h);
    only = λ s e h g u. eq (λ a. (f a).only s e h g u);
  }

  row_of_facts : {colours channels : ℕ} {row : List ℕ} → (A → RowFacts colours channels row) → RowFacts colours channels row
  row_of_facts {colours} {channels} {row} f = record {
    kinds = le (λ a. (f a).kinds);
    ports = λ p. lt (λ a. (f a).ports p);
    first_maps = λ d h. lt (λ a. (f a).first_maps d h);
    second_maps = λ d h. lt (λ a. (f a).second_maps d h);
    masks = λ d h e. lt (λ a. (f a).masks d h e);
    some_mask = λ e. found (masked row) colours (λ a. (f a).some_mask e);
    capacities = λ e. (lt (λ a. ((f a).capacities e).0), le (λ a. ((f a).capacities e).1));
    fillings = λ e. le (λ a. (f a).fillings e);
    fill_colours = lt (λ a. (f a).fill_colours);
  }

  fabric_of : {f : Netlist} {ends order : List ℕ} → (A → (e o : List ℕ) × AcceptedFabric f e o) → SoundWires f.table f.components f.channels ends order → AcceptedFabric f ends order
  fabric_of g w = record {
    some_colours = lt (λ a. (g a).2.some_colours);
    few_colours = le (λ a. (g a).2.few_colours);
    some_channels = lt (λ a. (g a).2.some_channels);
    few_channels = le (λ a. (g a).2.few_channels);
    some_rows = lt (λ a. (g a).2.some_rows);
    few_rows = le (λ a. (g a).2.few_rows);
    long = eq (λ a. (g a).2.long);
    rows = λ k h. row_of_facts (λ a. (g a).2.rows k h);
    wires = w;
  }

-- of a fabric that was read
pub accepted_fabric : {f : Netlist} {ends order : List ℕ} → ∥ AcceptedFabric f ends order ∥₁ → AcceptedFabric f ends order
accepted_fabric {f} {ends} {order} t = fabric_of t (λ a. (ends, order, a)) (record { matched = ends_of t (λ a. a.wires.matched); sorted = sorted_of t (λ a. a.wires.sorted) })

-- and of its netlist alone: ends and an order of its signals can be worked out again
pub accepted_netlist : {f : Netlist} → ∥ AcceptedNetlist f ∥₁ → AcceptedNetlist f
accepted_netlist {f} t =
    let few : f.channels ≤ most_channels = le t (λ a. a.facts.few_channels) in
    let order = sorted-exists (dependence f.table f.components) (2 * f.channels) (omega arith) (eq_b t (λ a. sorted-no-circle _ _ _ a.facts.wires.sorted)) in
    let l = listed (λ s. suc (end_of f.table f.components s)) (2 * f.channels) in
    record {
      ends = l.0;
      order = order.0;
      facts = fabric_of t (λ a. (a.ends, a.order, a.facts)) (record {
        matched = record {
          at = l.2;
          inside = λ s h. lt t (λ a. a.facts.wires.matched.inside s h);
          is = λ s h. eq_b t (λ a. a.facts.wires.matched.is s h);
          only = λ s e h g u. eq t (λ a. a.facts.wires.matched.only s e h g u);
        };
        sorted = order.1;
      });
    }
