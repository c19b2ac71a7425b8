-- Each component in turn once its inputs have come, and those on the list, until nobody is left. Assumes nothing.
use mathlib.Core.Path.{◌≡◌, sym, ap, subst, ◌∙◌}
use mathlib.Core.Logic.{◌⊎◌, inl, inr}
use mathlib.Core.Bool.{Bool, ◌&&◌, true≢false}
use mathlib.Core.List.{List, []}
use Prim.Native.Nat.{ℕ, ◌+◌, ◌*◌, ◌-◌, ◌/◌, ◌%◌, ◌≤◌, ◌<◌}
use native.Mathlib.Decide.{ℕ_discrete}
use native.Mathlib.Omega.{arith}
use lib.Dec.{ltb, eqb}
use lib.ListN.{length, get_or, set, replicate, length-replicate, length-set}
use lib.Seq.{get_or-set_same, get_or-set_other}
use Rattle.digits.proofs.Count.{count-le, count-more}
use borrow.Author.Tests.{eqb-true, eq-eqb}
use Rattle.digits.proofs.Bools.{and-false}
use Rattle.order.proofs.Zeros.{get_or-zeros}
use Rattle.component.specs.declared.kinds.Port.{Port}
use Rattle.component.specs.Limits.{most_components}
use Rattle.component.specs.Row.{kind, has_colour}
use Rattle.component.proofs.Sets.{has-none}
use Rattle.netlist.specs.Netlist.{Netlist, row_of}
use Rattle.netlist.specs.Accepted.{AcceptedFabric}
use Rattle.reach.specs.Known.{SetBytes}
use Rattle.spread.specs.Spread.{in_bytes, members, Spreading, Waits, Covered, CoveredTo}
use Rattle.spread.specs.InTurn.{dues, Due, SpreadingInTurn, AllCovered, OnwardInTurn, PassedOnInTurn, Settled}
use Rattle.spread.proofs.PassOn.{OutputOf}
use Rattle.spread.proofs.WorkOut.{Popped, longer, kept, last, later, set-bytes}

-- one component more whose inputs are counted
pub inputs_more : (l : List ℕ) (k v : ℕ) → k < length l → 0 < v → ((j : ℕ) → j < k → 0 < get_or l j 0) → (j : ℕ) → j < k + 1 → 0 < get_or (set l k v) j 0
inputs_more l k v m p h j b = go (ℕ_discrete j k)
  where
    go : Dec (j ≡ k) → 0 < get_or (set l k v) j 0
    go (yes e) = subst (λ (n : ℕ). 0 < n) (sym (ap (λ (n : ℕ). get_or (set l k v) n 0) e ∙ get_or-set_same l k v 0 m)) p
    go (no e) = subst (λ (n : ℕ). 0 < n) (sym (get_or-set_other l k j v 0 e)) (h j (omega arith))

-- no colours, nobody is due, and nobody on the list
pub settled_none : (f : Netlist) {sets to_come list : List ℕ} → sets ≡ replicate 256 0 → list ≡ [] → length to_come ≡ most_components → ((k : ℕ) → k < f.components → 0 < get_or to_come k 0) → Settled f sets to_come list
settled_none f {sets} {to_come} {list} e q long later = record {
  spreading = record {
    sets_long = ap length e ∙ length-replicate {A = ℕ} 256 0;
    come_long = long;
    small = λ x. subst (λ (n : ℕ). n < 256) (sym (zero-at x)) (omega arith);
    inside = λ x d l t. absurd (true≢false (sym t ∙ ap (λ (b : Bool). ltb d 8 && b) (ap (λ (n : ℕ). has_colour n d) (zero-at x) ∙ has-none d) ∙ and-false (ltb d 8)));
    few = omega (arith, ap length q);
    named = λ i l. absurd (omega (arith, l, ap length q));
  };
  covered = record { covered = λ k l due p o. absurd (omega (arith, later k l, due)) };
  nobody = ap length q;
}
  where
    zero-at : (x : ℕ) → get_or sets x 0 ≡ 0
    zero-at x = ap (λ (l : List ℕ). get_or l x 0) e ∙ get_or-zeros 256 x

-- ---- component k is due
module _ {f : Netlist} {sets to_come list : List ℕ} {k : ℕ} (few_rows : f.components ≤ most_components) (low : k < f.components) where
  module _ (h : SpreadingInTurn f sets to_come list) where
    abbrev begun : List ℕ
    begun = set to_come k 0

    pub due-now : Due begun k
    due-now = get_or-set_same to_come k 0 0 (omega (arith, h.come_long, few_rows, low))

    due-still : (j : ℕ) → Due to_come j → Due begun j
    due-still j e = go (ℕ_discrete j k)
      where
        go : Dec (j ≡ k) → Due begun j
        go (yes q) = ap (λ (n : ℕ). get_or begun n 0) q ∙ due-now
        go (no q) = get_or-set_other to_come k j 0 0 q ∙ e

    dues-grow : dues to_come ≤ dues begun
    unfolding dues
    dues-grow = count-more (λ j. eqb (get_or to_come j 0) 0) (λ j. eqb (get_or begun j 0) 0) most_components (λ j l e. eq-eqb _ _ (due-still j (eqb-true _ _ e)))

    pub spread-begun : SpreadingInTurn f sets begun list
    spread-begun = record {
      sets_long = h.sets_long;
      come_long = length-set to_come k 0 ∙ h.come_long;
      small = h.small;
      inside = h.inside;
      few = omega (arith, h.few, dues-grow);
      named = λ i l. ((h.named i l).0, due-still (get_or list i 0) (h.named i l).1);
    }

    -- after its first turn, and who was due stays so
    module _ {sets' to_come' list' : List ℕ} (g : PassedOnInTurn f sets begun list sets' to_come' list' ((λ q. OutputOf (kind (row_of f k)) q)) k) where
      pub cover-next-in-turn : AllCovered f sets to_come list → AllCovered f sets' to_come' list'
      cover-next-in-turn c = record { covered = λ j l due p o. by-fresh j l p o (g.onward.fresh j due) }
        where
          by_place : (j : ℕ) → j < f.components → (p : Port) → OutputOf (kind (row_of f j)) p → Due begun j → Dec (j ≡ k) → Covered f sets' list' j p
          by_place j l p o due (yes q) = subst (λ (m : ℕ). Covered f sets' list' m p) (sym q) (g.covers p (subst (λ (m : ℕ). OutputOf (kind (row_of f m)) p) q o))
          by_place j l p o due (no q) = g.onward.keeps j l due p (c.covered j l (sym (get_or-set_other to_come k j 0 0 q) ∙ due) p o)

          by-fresh : (j : ℕ) → j < f.components → (p : Port) → OutputOf (kind (row_of f j)) p → Due begun j ⊎ Waits list' j → Covered f sets' list' j p
          by-fresh j l p o (inl due) = by_place j l p o due (ℕ_discrete j k)
          by-fresh j l p o (inr w) = inr w

      pub due-first : (j : ℕ) → (j ≡ k) ⊎ Due to_come j → Due to_come' j
      due-first j (inl q) = ap (λ (n : ℕ). get_or to_come' n 0) q ∙ g.onward.stays k due-now
      due-first j (inr e) = g.onward.stays j (due-still j e)

-- ---- the last entry is taken off the list
module _ {all list : List ℕ} {k : ℕ} (e : Popped all list k) where
  pub shorter-in-turn : {f : Netlist} {sets to_come : List ℕ} → SpreadingInTurn f sets to_come all → ((k < f.components) × Due to_come k) × SpreadingInTurn f sets to_come list
  shorter-in-turn {f} {sets} {to_come} s = (
    subst (λ (j : ℕ). (j < f.components) × Due to_come j) (last e) (s.named (length list) (omega (arith, longer e))),
    record {
      sets_long = s.sets_long;
      come_long = s.come_long;
      small = s.small;
      inside = s.inside;
      few = omega (arith, s.few, longer e);
      named = λ i l. subst (λ (j : ℕ). (j < f.components) × Due to_come j) (kept e i l) (s.named i (omega (arith, longer e)));
    },
  )

  module _ {f : Netlist} {sets to_come sets' to_come' list' : List ℕ} where
    -- it has its turn
    pub cover-turn-in-turn : AllCovered f sets to_come all → PassedOnInTurn f sets to_come list sets' to_come' list' ((λ q. OutputOf (kind (row_of f k)) q)) k → AllCovered f sets' to_come' list'
    cover-turn-in-turn c h = record { covered = λ j l due p o. by-fresh j l p o (h.onward.fresh j due) }
      where
        by_place : (j : ℕ) → j < f.components → (p : Port) → OutputOf (kind (row_of f j)) p → Due to_come j → Dec (j ≡ k) → Covered f sets' list' j p
        by_place j l p o due (yes q) = subst (λ (m : ℕ). Covered f sets' list' m p) (sym q) (h.covers p (subst (λ (m : ℕ). OutputOf (kind (row_of f m)) p) q o))
        by_place j l p o due (no q) = h.onward.keeps j l due p (later e f sets j q p (c.covered j l due p o))

        by-fresh : (j : ℕ) → j < f.components → (p : Port) → OutputOf (kind (row_of f j)) p → Due to_come j ⊎ Waits list' j → Covered f sets' list' j p
        by-fresh j l p o (inl due) = by_place j l p o due (ℕ_discrete j k)
        by-fresh j l p o (inr w) = inr w

    -- and there is less to do than before
    pub less-left-in-turn : OnwardInTurn f sets to_come list sets' to_come' list'
        → length list' + ((8 * f.channels - members f sets') + (most_components - dues to_come')) < length all + ((8 * f.channels - members f sets) + (most_components - dues to_come))
    unfolding members dues
    less-left-in-turn o =
        omega (
          arith,
          o.paid,
          longer e,
          count-le (λ v. in_bytes sets' (v / 8) (v % 8)) (8 * f.channels),
          count-le (λ j. eqb (get_or to_come' j 0) 0) most_components,
          count-le (λ v. in_bytes sets (v / 8) (v % 8)) (8 * f.channels),
          count-le (λ j. eqb (get_or to_come j 0) 0) most_components,
        )

-- where nobody waits, whoever is due has passed on as `CoveredTo` has it, and the list is as `Spreading` has it
module _ {f : Netlist} {sets to_come list : List ℕ} (s : Settled f sets to_come list) where
  pub settled-spreading : Spreading f sets list
  settled-spreading = record {
    sets_long = s.spreading.sets_long;
    small = s.spreading.small;
    inside = s.spreading.inside;
    few = omega (arith, s.nobody);
    named = λ i l. (s.spreading.named i l).0;
  }

  pub settled-covered : {n : ℕ} → n ≤ f.components → ((k : ℕ) → k < n → Due to_come k) → CoveredTo f sets list n
  settled-covered few all = record { covered = λ k l p o. s.covered.covered k (omega (arith, l, few)) (all k l) p o }

-- where nobody waits and all are due, the sets are closed, so they are the smallest
pub set-bytes-in-turn : {f : Netlist} {ends order : List ℕ} → AcceptedFabric f ends order → {sets to_come list : List ℕ} → Settled f sets to_come list → ((k : ℕ) → k < f.components → Due to_come k) → SetBytes f sets
set-bytes-in-turn a s all = set-bytes a (settled-spreading s) (settled-covered s (omega arith) all) s.nobody
