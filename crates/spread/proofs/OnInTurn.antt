-- One component at all its output ports, where each has its first turn once all its inputs have come. Assumes nothing.
use mathlib.Core.Path.{◌≡◌}
use mathlib.Core.Logic.{◌⊎◌, inl, inr}
use mathlib.Core.List.{List}
use Prim.Native.Nat.{ℕ, ◌≤◌, ◌<◌}
use native.Mathlib.Omega.{arith}
use Rattle.component.specs.declared.kinds.Port.{Port}
use Rattle.netlist.specs.Netlist.{Netlist}
use Rattle.spread.specs.Spread.{Spreading, Waits, Covered, PassedOn}
use Rattle.spread.specs.InTurn.{SpreadingInTurn, dues, Due, OnwardInTurn, PassedOnInTurn, Further, FurtherTurns}
use Rattle.spread.proofs.PassOn.{pass-none, pass-one}

module _ {f : Netlist} {sets to_come list : List ℕ} {k : ℕ} where
  -- at none
  pub pass-none-in-turn : (done : Port → Type 0) → SpreadingInTurn f sets to_come list → ((p : Port) → done p → ⊥) → PassedOnInTurn f sets to_come list sets to_come list done k
  pass-none-in-turn done s never = record {
    spreading = s;
    onward = record { paid = omega arith; still = λ j w. w; stays = λ j e. e; keeps = λ j m e p c. c; fresh = λ j e. inl e };
    covers = λ p d. absurd (never p d);
  }

  -- at one
  pub pass-one-in-turn : {sets' to_come' list' : List ℕ} (done : Port → Type 0) {p : Port} → PassedOnInTurn f sets to_come list sets' to_come' list' (λ q. q ≡ p) k → ((q : Port) → done q → q ≡ p) → PassedOnInTurn f sets to_come list sets' to_come' list' done k
  pass-one-in-turn done h only = record { spreading = h.spreading; onward = h.onward; covers = λ q d. h.covers q (only q d) }

  -- at one, then at another
  pub pass-two-in-turn : {sets' to_come' list' sets'' to_come'' list'' : List ℕ} (done : Port → Type 0) {p r : Port} → k < f.components → Due to_come k → PassedOnInTurn f sets to_come list sets' to_come' list' (λ q. q ≡ p) k
      → PassedOnInTurn f sets' to_come' list' sets'' to_come'' list'' (λ q. q ≡ r) k → ((q : Port) → done q → (q ≡ p) ⊎ (q ≡ r)) → PassedOnInTurn f sets to_come list sets'' to_come'' list'' done k
  pass-two-in-turn {sets'} {to_come'} {list'} {sets''} {to_come''} {list''} done {p} {r} low due h g either = record {
    spreading = g.spreading;
    onward = record {
      paid = omega (arith, h.onward.paid, g.onward.paid);
      still = λ j w. g.onward.still j (h.onward.still j w);
      stays = λ j e. g.onward.stays j (h.onward.stays j e);
      keeps = λ j m e q c. g.onward.keeps j m (h.onward.stays j e) q (h.onward.keeps j m e q c);
      fresh = λ j e. by-second j (g.onward.fresh j e);
    };
    covers = λ q d. by-port q (either q d);
  }
    where
      by-first : (j : ℕ) → Due to_come j ⊎ Waits list' j → Due to_come j ⊎ Waits list'' j
      by-first j (inl e) = inl e
      by-first j (inr w) = inr (g.onward.still j w)

      by-second : (j : ℕ) → Due to_come' j ⊎ Waits list'' j → Due to_come j ⊎ Waits list'' j
      by-second j (inl e) = by-first j (h.onward.fresh j e)
      by-second j (inr w) = inr w

      by-port : (q : Port) → (q ≡ p) ⊎ (q ≡ r) → Covered f sets'' list'' k q
      by-port q (inl e) = g.onward.keeps k low (h.onward.stays k due) q (h.covers q e)
      by-port q (inr e) = g.covers q e

  -- where nobody becomes due, the list itself is as Spread has it
  pub pass-again : {sets' to_come' list' : List ℕ} (done : Port → Type 0) → PassedOnInTurn f sets to_come list sets' to_come' list' done k → dues to_come' ≡ dues to_come → Spreading f sets list
      → (next : ℕ) → next ≤ f.components → ((j : ℕ) → j < next → Due to_come j) → PassedOn f next sets list sets' list' done k
  pass-again done h same s next m early = record {
    spreading = record {
      sets_long = h.spreading.sets_long;
      small = h.spreading.small;
      inside = h.spreading.inside;
      few = omega (arith, h.onward.paid, same, s.few);
      named = λ i l. (h.spreading.named i l).0;
    };
    onward = record { paid = omega (arith, h.onward.paid, same); keeps = λ j l. h.onward.keeps j (omega (arith, l, m)) (early j l) };
    covers = h.covers;
  }

-- ---- the same of those that wait for a further turn
module _ {f : Netlist} {sets to_come : List ℕ} {k : ℕ} where
  pub further-none : {list : List ℕ} (done : Port → Type 0) → ((p : Port) → done p → ⊥) → FurtherTurns f sets to_come sets list done k
  further-none done never = record {
    turns = λ again s. (
      again,
      record { passed = λ next m due. pass-none done s never; keeps = λ j m e p c. c; on_list = λ j w. inl w },
    );
  }

  pub further-one : {sets' list' : List ℕ} (done : Port → Type 0) {p : Port} → FurtherTurns f sets to_come sets' list' (λ q. q ≡ p) k → ((q : Port) → done q → q ≡ p) → FurtherTurns f sets to_come sets' list' done k
  further-one done h only = record {
    turns = λ again s.
        let (again', w) = h.turns again s in
        (again', record { passed = λ next m due. pass-one done (w.passed next m due) only; keeps = w.keeps; on_list = w.on_list });
  }

  pub further-two : {list sets' to_come' list' sets'' to_come'' list'' : List ℕ} (done : Port → Type 0) {p r : Port} → k < f.components → Due to_come k → OnwardInTurn f sets to_come list sets' to_come' list'
      → OnwardInTurn f sets' to_come' list' sets'' to_come'' list'' → FurtherTurns f sets to_come sets' list' (λ q. q ≡ p) k → FurtherTurns f sets' to_come' sets'' list'' (λ q. q ≡ r) k
      → ((q : Port) → done q → (q ≡ p) ⊎ (q ≡ r)) → FurtherTurns f sets to_come sets'' list'' done k
  further-two {list} {sets'} {to_come'} {list'} {sets''} {to_come''} {list''} done {p} {r} low due o o' h g either = record { turns = λ again s. twice (h.turns again s) }
    where
      joined : {again again' again'' : List ℕ} → Further f sets to_come again sets' again' list' (λ q. q ≡ p) k → Further f sets' to_come' again' sets'' again'' list'' (λ q. q ≡ r) k → Further f sets to_come again sets'' again'' list'' done k
      joined {again} {again'} {again''} u v = record {
        passed = λ next m early.
            let a = u.passed next m early in
            let b = v.passed next m (λ j l. o.stays j (early j l)) in
            record {
              spreading = b.spreading;
              onward = record { paid = omega (arith, a.onward.paid, b.onward.paid); keeps = λ j l q c. b.onward.keeps j l q (a.onward.keeps j l q c) };
              covers = λ q d. by-turn q (either q d) a b;
            };
        keeps = λ j m e q c. v.keeps j m (o.stays j e) q (u.keeps j m e q c);
        on_list = λ j w. on-second j (v.on_list j w);
      }
        where
          by-turn : {next : ℕ} (q : Port) → (q ≡ p) ⊎ (q ≡ r) → PassedOn f next sets again sets' again' (λ q. q ≡ p) k → PassedOn f next sets' again' sets'' again'' (λ q. q ≡ r) k → Covered f sets'' again'' k q
          by-turn q (inl e) a b = v.keeps k low (o.stays k due) q (a.covers q e)
          by-turn q (inr e) a b = b.covers q e

          on-first : (j : ℕ) → Waits again j ⊎ Waits list' j → Waits again j ⊎ Waits list'' j
          on-first j (inl w) = inl w
          on-first j (inr w) = inr (o'.still j w)

          on-second : (j : ℕ) → Waits again' j ⊎ Waits list'' j → Waits again j ⊎ Waits list'' j
          on-second j (inl w) = on-first j (u.on_list j w)
          on-second j (inr w) = inr w

      twice : {again : List ℕ} → (again' : List ℕ) × Further f sets to_come again sets' again' list' (λ q. q ≡ p) k → (again'' : List ℕ) × Further f sets to_come again sets'' again'' list'' done k
      twice {again} (again', u) =
          let first = u.passed 0 (omega arith) (λ j l. absurd (omega (arith, l))) in
          let (again'', v) = g.turns again' first.spreading in
          (again'', joined u v)
