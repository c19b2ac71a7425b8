-- Laws of rows. Assumes nothing.
use mathlib.Core.Path.{◌≡◌, refl, ◌∙◌}
use Prim.Native.Nat.{ℕ, zero, suc, ◌+◌, ◌≤◌, ◌<◌}
use native.Mathlib.Omega.{arith}
use mathlib.Core.Bool.{Bool, true, false, ◌&&◌, ◌||◌}
use mathlib.Core.List.{List}
use lib.ListN.{get_or, take, drop}
use Rattle.std.proofs.lemmas.List.{get_or-take, get_or-drop}
use lib.Dec.{leb, ltb, eqb}
use borrow.Author.Tests.{leb-true}
use Rattle.std.proofs.Common.{cond}
use Rattle.std.proofs.lemmas.Bool.{le-ltb}
use Rattle.component.specs.declared.kinds.Port.TheVariants.{A, B, C}
use Rattle.component.specs.Kind.{kind_of, port_use, is_used, uses_first_map, uses_second_map, uses_mask, is_source, is_queue}
use Rattle.component.specs.Row.{fits_below, entry_ok, map_ok, mask_ok, filling_ok, fill_colour_ok, row_ok}

-- what holds of 0 to 7 holds of each number that is at most 7
pub each-kind : (P : ℕ → Type 0) → P 0 → P 1 → P 2 → P 3 → P 4 → P 5 → P 6 → P 7 → (k : ℕ) → k ≤ 7 → P k
each-kind P a b c d e f g h zero l = a
each-kind P a b c d e f g h (suc zero) l = b
each-kind P a b c d e f g h (suc (suc zero)) l = c
each-kind P a b c d e f g h (suc (suc (suc zero))) l = d
each-kind P a b c d e f g h (suc (suc (suc (suc zero)))) l = e
each-kind P a b c d e f g h (suc (suc (suc (suc (suc zero))))) l = f
each-kind P a b c d e f g h (suc (suc (suc (suc (suc (suc zero)))))) l = g
each-kind P a b c d e f g h (suc (suc (suc (suc (suc (suc (suc zero))))))) l = h
each-kind P a b c d e f g h (suc (suc (suc (suc (suc (suc (suc (suc k)))))))) l = absurd (omega arith)

-- what a kind uses, by its number
pub record Numbered (k : ℕ) : Type 0 where
  pub a : is_used (port_use (kind_of k) A) ≡ true
  pub b : is_used (port_use (kind_of k) B) ≡ leb 2 k
  pub c : is_used (port_use (kind_of k) C) ≡ leb 4 k
  pub first : uses_first_map (kind_of k) ≡ (leb 3 k && leb k 5)
  pub second : uses_second_map (kind_of k) ≡ eqb k 4
  pub mask : uses_mask (kind_of k) ≡ (eqb k 0 || eqb k 6)
  pub src : is_source (kind_of k) ≡ eqb k 0
  pub que : is_queue (kind_of k) ≡ eqb k 2

pub numbered : (k : ℕ) → k ≤ 7 → Numbered k
unfolding kind_of port_use uses_first_map uses_second_map uses_mask is_source is_queue
numbered = each-kind Numbered
    (record { a = refl; b = refl; c = refl; first = refl; second = refl; mask = refl; src = refl; que = refl })
    (record { a = refl; b = refl; c = refl; first = refl; second = refl; mask = refl; src = refl; que = refl })
    (record { a = refl; b = refl; c = refl; first = refl; second = refl; mask = refl; src = refl; que = refl })
    (record { a = refl; b = refl; c = refl; first = refl; second = refl; mask = refl; src = refl; que = refl })
    (record { a = refl; b = refl; c = refl; first = refl; second = refl; mask = refl; src = refl; que = refl })
    (record { a = refl; b = refl; c = refl; first = refl; second = refl; mask = refl; src = refl; que = refl })
    (record { a = refl; b = refl; c = refl; first = refl; second = refl; mask = refl; src = refl; que = refl })
    (record { a = refl; b = refl; c = refl; first = refl; second = refl; mask = refl; src = refl; que = refl })

-- the entries of a map, as a part of the row
part-ok : (used : Bool) (n at : ℕ) (f : List ℕ) → map_ok used n (λ d. get_or (take 8 (drop at f)) d 0) ≡ map_ok used n (λ d. get_or f (at + d) 0)
part-ok used n at f =
    let e : (d : ℕ) → d < 8 → get_or (take 8 (drop at f)) d 0 ≡ get_or f (at + d) 0 = λ d h. get_or-take 8 (drop at f) d 0 h ∙ get_or-drop at f d 0 in
    rw (e 0 (omega arith), e 1 (omega arith), e 2 (omega arith), e 3 (omega arith), e 4 (omega arith), e 5 (omega arith), e 6 (omega arith), e 7 (omega arith)) refl

-- `row_ok` with the kind as a number, as the code computes it
abbrev pub numbered_ok : ℕ → ℕ → List ℕ → Bool
numbered_ok colours channels f =
    let kind : ℕ = get_or f 0 0 in
    leb kind 7
    && (fits_below true (get_or f 1 0) channels && fits_below (leb 2 kind) (get_or f 2 0) channels && fits_below (leb 4 kind) (get_or f 3 0) channels)
    && map_ok (leb 3 kind && leb kind 5) colours (λ d. get_or (take 8 (drop 4 f)) d 0)
    && map_ok (eqb kind 4) colours (λ d. get_or (take 8 (drop 12 f)) d 0)
    && mask_ok (eqb kind 0 || eqb kind 6) (eqb kind 0) colours (get_or f 20 0)
    && filling_ok (eqb kind 2) (get_or f 21 0) (get_or f 22 0)
    && fill_colour_ok (eqb kind 2) colours (get_or f 22 0) (get_or f 23 0)

pub numbered_row : (colours channels : ℕ) (f : List ℕ) → numbered_ok colours channels f ≡ row_ok colours channels f
unfolding row_ok
numbered_row colours channels f = go (leb (get_or f 0 0) 7) refl
  where
    go : (b : Bool) → leb (get_or f 0 0) 7 ≡ b → numbered_ok colours channels f ≡ row_ok colours channels f
    go false e = rw e
    go true e =
        let n = numbered (get_or f 0 0) (leb-true (get_or f 0 0) 7 e) in
        rw (part-ok _ _ 4 f, part-ok _ _ 12 f, e, n.a, n.b, n.c, n.first, n.second, n.mask, n.src, n.que)

-- ---- the entries of a map below d
unfoldable pub entries_ok : Bool → ℕ → (ℕ → ℕ) → ℕ → Bool
entries_ok used n map zero = true
entries_ok used n map (suc d) = entries_ok used n map d && entry_ok used n map d

-- so many colours are mapped
pub mapped_below : (used : Bool) (n d : ℕ) → ltb d (cond used n 0) ≡ (used && ltb d n)
mapped_below true n d = refl
mapped_below false n d = le-ltb d 0 (omega arith)
