-- One component at all its output ports. Assumes nothing.
use mathlib.Core.Path.{◌≡◌, refl, sym, subst, ◌∙◌}
use mathlib.Core.Logic.{◌⊎◌, inl, inr}
use mathlib.Core.Bool.{true, false, false≢true}
use mathlib.Core.List.{List}
use Prim.Native.Nat.{ℕ, ◌<◌}
use native.Mathlib.Omega.{arith}
use Rattle.component.specs.declared.kinds.Kind.{Kind}
use Rattle.component.specs.declared.kinds.Kind.TheVariants.{Source, Sink, Queue, Function, Fork, Join, Switch, Merge}
use Rattle.component.specs.declared.kinds.Port.{Port}
use Rattle.component.specs.declared.kinds.Port.TheVariants.{A, B, C}
use Rattle.component.specs.Kind.{port_use, is_output}
use Rattle.netlist.specs.Netlist.{Netlist}
use Rattle.spread.specs.Spread.{first_output, Spreading, Covered, PassedOn}

module _ {f : Netlist} {next : ℕ} {sets list : List ℕ} {k : ℕ} where
  -- at none
  pub pass-none : (done : Port → Type 0) → Spreading f sets list → ((p : Port) → done p → ⊥) → PassedOn f next sets list sets list done k
  pass-none done s never = record {
    spreading = s;
    onward = record { paid = omega arith; keeps = λ j m p c. c };
    covers = λ p d. absurd (never p d);
  }

  -- at one
  pub pass-one : {sets' list' : List ℕ} (done : Port → Type 0) {p : Port} → PassedOn f next sets list sets' list' (λ q. q ≡ p) k → ((q : Port) → done q → q ≡ p) → PassedOn f next sets list sets' list' done k
  pass-one done h only = record { spreading = h.spreading; onward = h.onward; covers = λ q d. h.covers q (only q d) }

  -- at one, then at another
  pub pass-two : {sets' list' sets'' list'' : List ℕ} (done : Port → Type 0) {p r : Port} → k < next → PassedOn f next sets list sets' list' (λ q. q ≡ p) k
      → PassedOn f next sets' list' sets'' list'' (λ q. q ≡ r) k → ((q : Port) → done q → (q ≡ p) ⊎ (q ≡ r)) → PassedOn f next sets list sets'' list'' done k
  pass-two {sets'} {list'} {sets''} {list''} done {p} {r} low h g either = record {
    spreading = g.spreading;
    onward = record {
      paid = omega (arith, h.onward.paid, g.onward.paid);
      keeps = λ j m q c. g.onward.keeps j m q (h.onward.keeps j m q c);
    };
    covers = λ q d. by-port q (either q d);
  }
    where
      by-port : (q : Port) → (q ≡ p) ⊎ (q ≡ r) → Covered f sets'' list'' k q
      by-port q (inl e) = g.onward.keeps k low q (h.covers q e)
      by-port q (inr e) = g.covers q e

-- ---- the output ports by the kind that was read
abbrev pub OutputOf : Kind → Port → Type 0
OutputOf n p = is_output (port_use n p) ≡ true

no : {X : Type 0} → false ≡ true → X
no e = absurd (false≢true e)

-- the first is one,
first_out : (n : Kind) → (n ≡ Sink → ⊥) → OutputOf n (first_output n)
unfolding port_use first_output
first_out Source e = refl
first_out Sink e = absurd (e refl)
first_out Queue e = refl
first_out Function e = refl
first_out Fork e = refl
first_out Join e = refl
first_out Switch e = refl
first_out Merge e = refl

sink_none : (p : Port) → OutputOf Sink p → ⊥
unfolding port_use
sink_none A o = no o
sink_none B o = no o
sink_none C o = no o

-- and C the other of a fork and a switch
c_out : {n : Kind} → (n ≡ Fork) ⊎ (n ≡ Switch) → OutputOf n C
unfolding port_use
c_out (inl e) = subst (λ (m : Kind). OutputOf m C) (sym e) refl
c_out (inr e) = subst (λ (m : Kind). OutputOf m C) (sym e) refl

first_or_c : (n : Kind) (p : Port) → OutputOf n p → (p ≡ first_output n) ⊎ (p ≡ C)
unfolding port_use first_output
first_or_c Source A o = inl refl
first_or_c Source B o = no o
first_or_c Source C o = inr refl
first_or_c Sink A o = inl refl
first_or_c Sink B o = no o
first_or_c Sink C o = inr refl
first_or_c Queue A o = no o
first_or_c Queue B o = inl refl
first_or_c Queue C o = inr refl
first_or_c Function A o = no o
first_or_c Function B o = inl refl
first_or_c Function C o = inr refl
first_or_c Fork A o = no o
first_or_c Fork B o = inl refl
first_or_c Fork C o = inr refl
first_or_c Join A o = no o
first_or_c Join B o = no o
first_or_c Join C o = inr refl
first_or_c Switch A o = no o
first_or_c Switch B o = inl refl
first_or_c Switch C o = inr refl
first_or_c Merge A o = no o
first_or_c Merge B o = no o
first_or_c Merge C o = inr refl

-- no other kind has two
only_first : (n : Kind) → (n ≡ Fork → ⊥) → (n ≡ Switch → ⊥) → (p : Port) → OutputOf n p → p ≡ first_output n
unfolding port_use first_output
only_first Source e d A o = refl
only_first Source e d B o = no o
only_first Source e d C o = no o
only_first Sink e d p o = absurd (sink_none p o)
only_first Queue e d A o = no o
only_first Queue e d B o = refl
only_first Queue e d C o = no o
only_first Function e d A o = no o
only_first Function e d B o = refl
only_first Function e d C o = no o
only_first Fork e d p o = absurd (e refl)
only_first Join e d A o = no o
only_first Join e d B o = no o
only_first Join e d C o = refl
only_first Switch e d p o = absurd (d refl)
only_first Merge e d A o = no o
only_first Merge e d B o = no o
only_first Merge e d C o = refl

-- ---- of the kind that was read
module _ {n r : Kind} (read : n ≡ r) where
  of : (p : Port) → OutputOf r p → OutputOf n p
  of p o = subst (λ (t : Kind). OutputOf t p) (sym read) o

  is : (p : Port) → OutputOf n p → OutputOf r p
  is p o = subst (λ (t : Kind). OutputOf t p) read o

  pub out_none : n ≡ Sink → (p : Port) → OutputOf r p → ⊥
  out_none e p o = sink_none p (subst (λ (t : Kind). OutputOf t p) e (of p o))

  pub out_c : (n ≡ Fork) ⊎ (n ≡ Switch) → OutputOf r C
  out_c e = is C (c_out e)

  module _ {p : Port} (e : p ≡ first_output n) where
    pub out_first : (n ≡ Sink → ⊥) → OutputOf r p
    out_first ne = subst (λ (t : Port). OutputOf r t) (sym e) (is (first_output n) (first_out n ne))

    pub out_both : (q : Port) → OutputOf r q → (q ≡ p) ⊎ (q ≡ C)
    out_both q o = subst (λ (t : Port). (q ≡ t) ⊎ (q ≡ C)) (sym e) (first_or_c n q (of q o))

    pub out_one : (n ≡ Fork → ⊥) → (n ≡ Switch → ⊥) → (q : Port) → OutputOf r q → q ≡ p
    out_one f s q o = only_first n f s q (of q o) ∙ sym e
