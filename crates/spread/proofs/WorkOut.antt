-- All components in turn, then those on the list, until it is at its end. Assumes nothing.
use mathlib.Core.Path.{◌≡◌, sym, ap, subst, ◌∙◌}
use mathlib.Core.Logic.{inl, inr}
use mathlib.Core.Bool.{Bool, ◌&&◌, true≢false}
use mathlib.Core.List.{List, [], ◌∷◌, ◌++◌}
use Prim.Native.Nat.{ℕ, ◌+◌, ◌*◌, ◌-◌, ◌/◌, ◌%◌, ◌<◌}
use native.Mathlib.Decide.{ℕ_discrete}
use native.Mathlib.Omega.{arith}
use lib.Dec.{ltb}
use lib.ListN.{length, get_or, replicate, length-replicate, get_or-append}
use lib.Seq.{get_or-append_seam}
use Rattle.std.proofs.lemmas.List.{length-append}
use Rattle.digits.proofs.Count.{count-le}
use borrow.Author.Tests.{lt-ltb}
use Rattle.digits.proofs.Bools.{and-false}
use Rattle.order.proofs.Zeros.{get_or-zeros}
use Rattle.component.specs.declared.kinds.Port.{Port}
use Rattle.component.specs.Row.{kind, has_colour}
use Rattle.component.proofs.Sets.{has-none, byte-is}
use Rattle.netlist.specs.Netlist.{Netlist, row_of}
use Rattle.netlist.specs.Accepted.{AcceptedFabric}
use Rattle.reach.specs.Rounds.{reachable, Closed, set_byte}
use Rattle.reach.specs.Known.{SetBytes}
use Rattle.reach.proofs.Rounds.{sets-are}
use Rattle.spread.proofs.PassOn.{OutputOf}
use Rattle.spread.specs.Spread.{in_bytes, members, Spreading, Out, Covered, CoveredTo, Onward, PassedOn}

-- no colours, and nobody on the list
pub spread_none : (f : Netlist) {sets list : List ℕ} → sets ≡ replicate 256 0 → list ≡ [] → Spreading f sets list
spread_none f {sets} {list} e q = record {
  sets_long = ap length e ∙ length-replicate {A = ℕ} 256 0;
  small = λ x. subst (λ (n : ℕ). n < 256) (sym (zero-at x)) (omega arith);
  inside = λ x d l t. absurd (true≢false (sym t ∙ ap (λ (b : Bool). ltb d 8 && b) (ap (λ (n : ℕ). has_colour n d) (zero-at x) ∙ has-none d) ∙ and-false (ltb d 8)));
  few = let z : length list ≡ 0 = ap length q in omega arith;
  named = λ i l. let z : length list ≡ 0 = ap length q in absurd (omega arith);
}
  where
    zero-at : (x : ℕ) → get_or sets x 0 ≡ 0
    zero-at x = ap (λ (l : List ℕ). get_or l x 0) e ∙ get_or-zeros 256 x

pub cover-none : {f : Netlist} {sets list : List ℕ} → CoveredTo f sets list 0
cover-none = record { covered = λ k l p o. absurd (omega arith) }

-- one component more in the first round
pub cover-next : {f : Netlist} {sets list sets' list' : List ℕ} {k : ℕ} → CoveredTo f sets list k → PassedOn f (k + 1) sets list sets' list' ((λ q. OutputOf (kind (row_of f k)) q)) k → CoveredTo f sets' list' (k + 1)
cover-next {f} {sets} {list} {sets'} {list'} {k} c h = record { covered = λ j l p o. by_place j l p o (ℕ_discrete j k) }
  where
    by_place : (j : ℕ) → j < k + 1 → (p : Port) → OutputOf (kind (row_of f j)) p → Dec (j ≡ k) → Covered f sets' list' j p
    by_place j l p o (yes e) = subst (λ (m : ℕ). Covered f sets' list' m p) (sym e) (h.covers p (subst (λ (m : ℕ). OutputOf (kind (row_of f m)) p) e o))
    by_place j l p o (no e) = h.onward.keeps j l p (c.covered j (omega arith) p o)

-- ---- the last entry is taken off the list
pub record Popped (all list : List ℕ) (k : ℕ) : Type 0 where
  pub items : all ≡ list ++ k ∷ []

module _ {all list : List ℕ} {k : ℕ} (e : Popped all list k) where
  pub longer : length all ≡ length list + 1
  longer = ap length e.items ∙ length-append list (k ∷ [])

  -- the others stand where they stood
  pub kept : (i : ℕ) → i < length list → get_or all i 0 ≡ get_or list i 0
  kept i l = ap (λ (w : List ℕ). get_or w i 0) e.items ∙ get_or-append list (k ∷ []) 0 i l

  pub last : get_or all (length list) 0 ≡ k
  last = ap (λ (w : List ℕ). get_or w (length list) 0) e.items ∙ get_or-append_seam list k [] 0

  -- who waits still waits, but for it
  pub later : (f : Netlist) (sets : List ℕ) (j : ℕ) → (j ≡ k → ⊥) → (p : Port) → Covered f sets all j p → Covered f sets list j p
  later f sets j ne p (inl o) = inl o
  later f sets j ne p (inr (i, hi, at)) = go (ℕ_discrete i (length list))
    where
      go : Dec (i ≡ length list) → Covered f sets list j p
      go (yes q) = absurd (ne (sym at ∙ ap (λ (m : ℕ). get_or all m 0) q ∙ last))
      go (no q) =
          let l : i < length list = omega (arith, longer) in
          inr (i, l, sym (kept i l) ∙ at)

  pub shorter : {f : Netlist} {sets : List ℕ} → Spreading f sets all → (k < f.components) × Spreading f sets list
  shorter {f} {sets} s = (
    subst (λ (j : ℕ). j < f.components) last (s.named (length list) (omega (arith, longer))),
    record {
      sets_long = s.sets_long;
      small = s.small;
      inside = s.inside;
      few = omega (arith, s.few, longer);
      named = λ i l. subst (λ (j : ℕ). j < f.components) (kept i l) (s.named i (omega (arith, longer)));
    },
  )

  module _ {f : Netlist} {sets sets' list' : List ℕ} where
    -- it has its turn
    pub cover-turn : CoveredTo f sets all f.components → PassedOn f f.components sets list sets' list' ((λ q. OutputOf (kind (row_of f k)) q)) k → CoveredTo f sets' list' f.components
    cover-turn c h = record { covered = λ j l p o. by_place j l p o (ℕ_discrete j k) }
      where
        by_place : (j : ℕ) → j < f.components → (p : Port) → OutputOf (kind (row_of f j)) p → Dec (j ≡ k) → Covered f sets' list' j p
        by_place j l p o (yes q) = subst (λ (m : ℕ). Covered f sets' list' m p) (sym q) (h.covers p (subst (λ (m : ℕ). OutputOf (kind (row_of f m)) p) q o))
        by_place j l p o (no q) = h.onward.keeps j l p (later f sets j q p (c.covered j l p o))

    -- and there is less to do than before
    pub less-left : Onward f f.components sets list sets' list' → length list' + (8 * f.channels - members f sets') < length all + (8 * f.channels - members f sets)
    unfolding members
    less-left o = omega (arith, o.paid, longer, count-le (λ v. in_bytes sets' (v / 8) (v % 8)) (8 * f.channels))

-- at the end of the list the sets are closed, so they are the smallest
module _ {f : Netlist} {ends order : List ℕ} (a : AcceptedFabric f ends order) {sets list : List ℕ} (s : Spreading f sets list) (c : CoveredTo f sets list f.components) (end : length list ≡ 0) where
  all-out : Closed f (in_bytes sets)
  all-out = record { closed = λ k l p o. go k p (c.covered k l p o) }
    where
      go : (k : ℕ) (p : Port) → Covered f sets list k p → Out f sets k p
      go k p (inl o) = o
      go k p (inr (i, hi, e)) = absurd (omega arith)

  pub set-bytes : SetBytes f sets
  unfolding set_byte
  set-bytes = record {
    long = omega (arith, s.sets_long, a.few_channels);
    at = λ x l. byte-is (reachable f x) (get_or sets x 0) (s.small x)
        (λ d m. ap (λ (b : Bool). b && has_colour (get_or sets x 0) d) (sym (lt-ltb d 8 m)) ∙ sets-are f ends order a (in_bytes sets) all-out s.inside x d l);
  }
