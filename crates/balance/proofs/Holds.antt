-- In every step from a good state under allowed choices, every equation that exists holds. Assumes nothing.
use mathlib.Core.Path.{◌≡◌, refl, sym, ap, subst, ◌∙◌}
use mathlib.Core.Logic.{inl, inr}
use mathlib.Core.Bool.{Bool, true, false, cond, not, ◌&&◌, true≢false}
use mathlib.Core.List.{List}
use Prim.Native.Nat.{ℕ, zero, suc, ◌+◌, ◌-◌, ◌≤◌, ◌<◌}
use native.Mathlib.Omega.{arith}
use lib.Dec.{ltb, eqb, eqb-zero-suc, eqb-suc-suc}
use lib.IntN.{+ℤ_comm, pos, ◌+ℤ◌, ◌-ℤ◌}
use borrow.Author.Tests.{ltb-true, eqb-true, eq-eqb, ne_eqb, not-true}
use Rattle.digits.proofs.Bools.{and_both}
use Rattle.component.specs.declared.kinds.Kind.{Kind}
use Rattle.component.specs.declared.kinds.Kind.TheVariants.{Source, Sink, Queue, Function, Fork, Join, Switch, Merge}
use Rattle.component.specs.declared.kinds.Port.{Port}
use Rattle.component.specs.declared.kinds.Port.TheVariants.{A, B, C}
use Rattle.component.specs.Kind.{is_queue}
use Rattle.component.specs.Row.{kind, port, first_map, second_map, masked}
use Rattle.netlist.specs.Netlist.{Netlist, row_of}
use Rattle.cells.specs.Counts.{counts}
use Rattle.held.specs.Values.{bit, offered, when, unless}
use Rattle.rules.specs.Rules.{mapped, to_b}
use Rattle.signals.specs.Signals.{moved}
use Rattle.state.specs.Step.{next, CanStep}
use Rattle.state.proofs.Bounds.{moved-le}
use Rattle.equations.specs.Equations.{flow, mapped_to, all_of, less, side, has_index, has_equation, factor}
use Rattle.flows.specs.Steps.{flow_change, count_change, Holds}
use Rattle.balance.specs.Balance.{Balanced, transfer}
use Rattle.balance.proofs.Sums.{total, Amounts, amounts-part, amounts-less, amounts-even, amounts-when, amounts-cond, grown-less, still}
use Rattle.balance.proofs.Balanced.{balanced}

-- a factor of two tests
both : (a b : Bool) → cond (a && b) (pos 1) (pos 0) ≡ cond a (pos (bit b)) (pos 0)
both true true = refl
both true false = refl
both false b = refl

-- the switch's share of colour d
module _ (r : List ℕ) (d : ℕ) where
  own : (b : Bool) → (bit (eqb (when (bit b) (suc d)) (suc d)) ≡ cond b 1 0) × (bit (eqb (unless (bit b) (suc d)) (suc d)) ≡ cond (not b) 1 0)
  own true = (rw (eq-eqb (suc d) (suc d) refl), rw eqb-zero-suc)
  own false = (rw eqb-zero-suc, rw (eq-eqb (suc d) (suc d) refl))

  other : (g m : ℕ) → eqb m (suc d) ≡ false → (eqb (when g m) (suc d) ≡ false) × (eqb (unless g m) (suc d) ≡ false)
  other zero m e = (eqb-zero-suc d, e)
  other (suc g) m e = (e, eqb-zero-suc d)

  none : (b : Bool) → bit false ≡ cond b (bit false) 0
  none true = refl
  none false = refl

  share-by : (m : ℕ) (b : Bool) → eqb m (suc d) ≡ b →
      (bit (eqb (when (to_b r m) m) (suc d)) ≡ cond (masked r d) (bit b) 0) × (bit (eqb (unless (to_b r m) m) (suc d)) ≡ cond (not (masked r d)) (bit b) 0)
  share-by m true e = rw (eqb-true m (suc d) e) (own (masked r d))
  share-by m false e = let o = other (to_b r m) m e in rw (o.0, o.1) (none (masked r d), none (not (masked r d)))

  share : (m : ℕ) →
      (bit (eqb (when (to_b r m) m) (suc d)) ≡ cond (masked r d) (bit (eqb m (suc d))) 0) × (bit (eqb (unless (to_b r m) m) (suc d)) ≡ cond (not (masked r d)) (bit (eqb m (suc d))) 0)
  share m = share-by m (eqb m (suc d)) refl

module _ (f : Netlist) (t : ℕ → ℕ) (r : List ℕ) (inside : (p : Port) → port r p < f.channels) (small : (p : Port) → t (port r p) ≤ f.colours) where
  -- the parts of the equations, by port: one colour, those mapped to e, all
  one : (p : Port) (e : ℕ) → Amounts f t (flow (port r p) e) (bit (eqb (t (port r p)) (suc e)))
  one p e =
      amounts-part (port r p) (inside p) (small p) (flow (port r p) e) (λ m. bit (eqb m (suc e))) (rw eqb-zero-suc)
      (λ x d. rw eqb-suc-suc (both (eqb x (port r p)) (eqb d e)))

  to : (p : Port) (map : ℕ → ℕ) (e : ℕ) → Amounts f t (mapped_to (port r p) map e) (bit (eqb (mapped map (t (port r p))) (suc e)))
  to p map e =
      amounts-part (port r p) (inside p) (small p) (mapped_to (port r p) map e) (λ m. bit (eqb (mapped map m) (suc e))) (rw eqb-zero-suc)
      (λ x d. rw eqb-suc-suc (both (eqb x (port r p)) (eqb (map d) e)))

  any : (p : Port) → Amounts f t (all_of (port r p)) (offered (t (port r p)))
  any p = amounts-part (port r p) (inside p) (small p) (all_of (port r p)) offered refl (λ x d. refl)

  -- what goes out at p is what came in at A, mapped
  maps : (p : Port) (map : ℕ → ℕ) (e : ℕ) → t (port r p) ≡ mapped map (t (port r A)) → Amounts f t (less (flow (port r p) e) (mapped_to (port r A) map e)) 0
  maps p map e q = amounts-even (ap (λ (s : ℕ). bit (eqb s (suc e))) q) (one p e) (to A map e)

  module _ (n m : ℕ → ℕ) (i : ℕ) where
    unmasked : Balanced Source r t n m → masked r i ≡ false → bit (eqb (t (port r A)) (suc i)) ≡ 0
    unfolding Balanced
    unmasked b x = rw (ne_eqb (t (port r A)) (suc i) (λ q. true≢false (sym (b i q) ∙ x)))

    merged : Balanced Merge r t n m → bit (eqb (t (port r C)) (suc i)) ≡ bit (eqb (t (port r B)) (suc i)) + bit (eqb (t (port r A)) (suc i))
    unfolding Balanced
    merged (inl e) = rw (e.0, e.1, eqb-zero-suc) (omega arith)
    merged (inr e) = rw (e.0, e.1, eqb-zero-suc) (omega arith)

    by_kind : (k : Kind) → Balanced k r t n m → has_index k r f.colours i ≡ true → cond (is_queue k) (pos (m i) -ℤ pos (n i)) (pos 0) +ℤ total f t (side k r i) ≡ pos 0
    unfolding Balanced has_index is_queue side
    by_kind Source b x = still (subst (Amounts f t _) (unmasked b (not-true (masked r i) (and_both (ltb i f.colours) (not (masked r i)) x).1)) (one A i))
    by_kind Sink b x = absurd (true≢false (sym x))
    by_kind Queue b x = grown-less (m i) (n i) (b i) (one B i) (one A i)
    by_kind Function b x = still (maps B (first_map r) i b)
    by_kind Fork b x = still (amounts-cond (ltb i 8) (maps B (first_map r) i b.0) (maps C (second_map r) (i - 8) b.1))
    by_kind Join b x = still (amounts-cond (eqb i 8) (amounts-even b.1 (any A) (any B)) (maps C (first_map r) i b.0))
    by_kind Switch b x =
        still
        (amounts-cond (ltb i 8)
        (amounts-even (rw b.0 (share r i (t (port r A))).0) (one B i) (amounts-when (masked r i) (one A i)))
        (amounts-even (rw b.1 (share r (i - 8) (t (port r A))).1) (one C (i - 8)) (amounts-when (not (masked r (i - 8))) (one A (i - 8)))))
    by_kind Merge b x = still (amounts-even refl (amounts-less (merged b) (one C i) (one A i)) (one B i))

pub holds : (f : Netlist) (ends order state choices : List ℕ) → CanStep f ends order state choices → Holds f (transfer (moved f state choices)) (counts state) (counts (next f state choices))
unfolding flow_change count_change factor has_equation total
holds f ends order state choices s = record {
  holds = λ k i x.
      let t = moved f state choices in
      let r = row_of f k in
      let own : Bool = has_index (kind r) r f.colours i in
      let h : k < f.components = ltb-true k f.components (and_both (ltb k f.components) own x).0 in
      let ports = (s.accepted.rows k h).ports in
      let small : (p : Port) → t (port r p) ≤ f.colours = λ p. moved-le f ends order state choices s (port r p) (ports p) in
      rw x
      (+ℤ_comm (total f t (side (kind r) r i)) (cond (is_queue (kind r)) (pos (counts (next f state choices) k i) -ℤ pos (counts state k i)) (pos 0))
      ∙ by_kind f t r ports small (counts state k) (counts (next f state choices) k) i (kind r) (balanced f ends order state choices s k h) (and_both (ltb k f.components) own x).1);
}
