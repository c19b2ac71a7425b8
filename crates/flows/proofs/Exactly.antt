-- A well formed proposal is accepted exactly if every flow inside the sets cancels and some weight is not 0. Assumes nothing.
use Rattle.std.proofs.Common.{Ok}
use mathlib.Core.Path.{◌≡◌, refl, sym, ap, ◌∙◌}
use mathlib.Core.Bool.{Bool, true, false, cond, not, ◌&&◌, true≢false}
use mathlib.Core.List.{List}
use Prim.Native.Nat.{ℕ, ◌+◌, ◌*◌, ◌/◌, ◌%◌, ◌≤◌, ◌<◌}
use native.Mathlib.Omega.{arith}
use lib.Dec.{ltb}
use lib.IntN.{pos}
use borrow.Author.Tests.{ltb-true, ltb-false, lt-ltb, le-ltb, eqb-false, ne_eqb, not-false}
use Rattle.digits.specs.Least.{least}
use Rattle.digits.proofs.Least.{least-none, least-before, least-true, least-le}
use Rattle.digits.proofs.Bools.{and-false}
use Rattle.integers.specs.Sum.{is_zero}
use Rattle.integers.proofs.Sum.{zero_is, is-zero}
use Rattle.refusals.specs.declared.Refusal.TheVariants.{ProposalLength, NoEquation, FlowLeft, NoWeight}
use Rattle.refusals.proofs.Refusals.{cond-accepted}
use Rattle.component.specs.Limits.{most_colours}
use Rattle.netlist.specs.Netlist.{Netlist}
use Rattle.netlist.specs.Accepted.{AcceptedNetlist}
use Rattle.reach.specs.Rounds.{reachable}
use Rattle.reach.proofs.Rounds.{reachable-reaches, reaches-reachable}
use Rattle.flows.specs.Terms.{terms}
use Rattle.flows.specs.Flows.{flow_sum, CancelsInside, weight, entry}
use Rattle.flows.specs.Verdict.{bad_length, bad_term, first_bad_term, is_left, lowest_left, is_weight, weightless, judged, WellFormed, SomeWeight}
use Rattle.flows.proofs.Weights.{entry-weight}

-- a flow of a colour below C, inside the sets, that is not left cancels
not_left : (a b c : Bool) → (a && (not b && c)) ≡ false → a ≡ true → c ≡ true → b ≡ true
not_left true true c n e q = refl
not_left true false c n e q = absurd (true≢false (sym q ∙ n))
not_left false b c n e q = absurd (true≢false (sym e))

module _ (f : Netlist) (p : List ℕ) where
  -- no flow left: every flow inside the sets cancels
  pub none-left-cancels : AcceptedNetlist f → lowest_left f p ≡ 8 * f.channels → CancelsInside f p
  unfolding is_left
  none-left-cancels h none x d lx ld r =
      let few = h.facts.few_colours in
      let ex : (8 * x + d) / 8 ≡ x = omega arith in
      let ed : (8 * x + d) % 8 ≡ d = omega arith in
      let n = least-before (is_left f p) (8 * f.channels) (8 * x + d) (omega (arith, none)) in
      zero_is (flow_sum f p x d)
      (not_left (ltb d f.colours) (is_zero (flow_sum f p x d)) (reachable f x d) (rw (ex, ed) at n) (lt-ltb d f.colours ld) (reaches-reachable f h.ends h.order h.facts r))

  -- and back
  pub cancels-none-left : AcceptedNetlist f → CancelsInside f p → lowest_left f p ≡ 8 * f.channels
  unfolding is_left
  cancels-none-left h c = least-none (is_left f p) (8 * f.channels) (λ v l. go v l (ltb (v % 8) f.colours) refl (reachable f (v / 8) (v % 8)) refl)
    where
      go : (v : ℕ) → v < 8 * f.channels → (a : Bool) → ltb (v % 8) f.colours ≡ a → (b : Bool) → reachable f (v / 8) (v % 8) ≡ b → (a && (not (is_zero (flow_sum f p (v / 8) (v % 8))) && b)) ≡ false
      go v l true e true r =
          let x : v / 8 < f.channels = omega arith in
          rw (is-zero (flow_sum f p (v / 8) (v % 8)) (c (v / 8) (v % 8) x (ltb-true (v % 8) f.colours e) (reachable-reaches f h.ends h.order h.facts (v / 8) (v % 8) x r)))
      go v l true e false r = and-false (not (is_zero (flow_sum f p (v / 8) (v % 8))))
      go v l false e b r = refl

  -- not weightless: some weight is not 0
  pub weighty-some : (least (is_weight f p) (8 * f.components) ≡ 8 * f.components → ⊥) → SomeWeight f p
  unfolding is_weight entry
  weighty-some ne = go (ltb (u % 8) f.colours) refl
    where
      u : ℕ
      u = least (is_weight f p) (8 * f.components)

      low : u < 8 * f.components
      low = below u (8 * f.components) (least-le (is_weight f p) (8 * f.components)) ne
        where
          below : (a b : ℕ) → a ≤ b → (a ≡ b → ⊥) → a < b
          below a b l k = omega arith

      found : not (is_zero (entry f p u)) ≡ true
      found = least-true (is_weight f p) (8 * f.components) low

      go : (b : Bool) → ltb (u % 8) f.colours ≡ b → SomeWeight f p
      go true e = (
        u / 8,
        u % 8,
        omega (arith, low),
        ltb-true (u % 8) f.colours e,
        λ z. true≢false (sym found ∙ ap not (is-zero (entry f p u) (ap (λ (b : Bool). cond b (weight f p (u / 8) (u % 8)) (pos 0)) e ∙ z))),
      )
      go false e = absurd (true≢false (sym found ∙ ap not (is-zero (entry f p u) (ap (λ (b : Bool). cond b (weight f p (u / 8) (u % 8)) (pos 0)) e))))

  -- and back
  pub some-weighty : f.colours ≤ most_colours → SomeWeight f p → least (is_weight f p) (8 * f.components) ≡ 8 * f.components → ⊥
  unfolding is_weight
  some-weighty few (q, d, lq, ld, ne) e =
      ne (sym (entry-weight f p q d (omega arith) ld) ∙ zero_is (entry f p (8 * q + d)) (not-false (is_zero (entry f p (8 * q + d))) (least-before (is_weight f p) (8 * f.components) (8 * q + d) (omega (arith, e)))))

  -- ---- accepted
  parts : judged f p ≡ (Ok tt) → (bad_length p ≡ false) × (ltb (first_bad_term f p) (terms p) ≡ false) × (ltb (lowest_left f p) (8 * f.channels) ≡ false) × (weightless f p ≡ false)
  unfolding judged
  parts e =
      let a = cond-accepted ProposalLength (bad_length p) _ e in
      let b = cond-accepted (NoEquation (first_bad_term f p)) (ltb (first_bad_term f p) (terms p)) _ a.1 in
      let c = cond-accepted (FlowLeft (lowest_left f p)) (ltb (lowest_left f p) (8 * f.channels)) _ b.1 in
      let d = cond-accepted NoWeight (weightless f p) (Ok tt) c.1 in
      (a.0, b.0, c.0, d.0)

  pub accepted-formed : judged f p ≡ (Ok tt) → WellFormed f p
  accepted-formed e = record {
    lengths = (parts e).0;
    named = λ k l. least-before (bad_term f p) (terms p) k (omega (arith, ltb-false (first_bad_term f p) (terms p) (parts e).1));
  }

  pub accepted-cancels : AcceptedNetlist f → judged f p ≡ (Ok tt) → CancelsInside f p
  accepted-cancels h e =
      none-left-cancels h (omega (arith, ltb-false (lowest_left f p) (8 * f.channels) (parts e).2, least-le (is_left f p) (8 * f.channels)))

  pub accepted-weighty : judged f p ≡ (Ok tt) → SomeWeight f p
  accepted-weighty e = weighty-some (eqb-false (least (is_weight f p) (8 * f.components)) (8 * f.components) (parts e).3)

  pub accepted-exactly : AcceptedNetlist f → WellFormed f p → CancelsInside f p → SomeWeight f p → judged f p ≡ (Ok tt)
  unfolding judged
  accepted-exactly h w c s =
      let k : terms p ≤ first_bad_term f p = omega (arith, least-none (bad_term f p) (terms p) w.named) in
      let v : 8 * f.channels ≤ lowest_left f p = omega (arith, cancels-none-left h c) in
      simp (w.lengths, le-ltb (first_bad_term f p) (terms p) k, le-ltb (lowest_left f p) (8 * f.channels) v, ne_eqb (least (is_weight f p) (8 * f.components)) (8 * f.components) (some-weighty h.facts.few_colours s))
