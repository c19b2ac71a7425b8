-- What each way through the header and the channels shows. Assumes nothing.
use Rattle.std.proofs.Common.{Ok, Err}
use mathlib.Core.Path.{◌≡◌, refl}
use Prim.Native.Nat.{ℕ, ◌*◌, ◌%◌, ◌<◌}
use native.Mathlib.Nat.{mod-lt}
use native.Mathlib.Omega.{arith}
use mathlib.Core.Bool.{Bool, true, false, cond, not, ◌||◌}
use mathlib.Core.List.{List}
use lib.ListN.{length, get_or}
use lib.Dec.{ltb, eqb}
use lib.Pow.{pow_pos}
use borrow.Author.Tests.{eq-eqb, eqb-false}
use Rattle.digits.specs.Sum.{sum}
use Rattle.order.specs.Graph.{has_circle}
use Rattle.refusals.specs.Refusals.{first_refusal}
use Rattle.refusals.specs.declared.Refusal.TheVariants.{ChannelEnds, Circle}
use Rattle.record.specs.Sizes.{file_size}
use Rattle.component.specs.Limits.{most_components}
use Rattle.wiring.specs.Ends.{first_unmatched}
use Rattle.wiring.specs.Signals.{dependence}
use Rattle.wiring.specs.Stages.{wired}
use Rattle.wiring.specs.declared.Miswired.TheVariants.{Unmatched, Circular}
use Rattle.reader.specs.File.{header_fields, size_in, wire_tests}
use Rattle.reader.specs.Stages.{header_read, wired_verdict}

pub wire-tests : (table : List ℕ) (n channels : ℕ) → wired_verdict (wired table n channels) ≡ first_refusal (wire_tests table n channels)
unfolding wired
wire-tests table n channels = go (ltb (first_unmatched table n channels) channels) (has_circle (dependence table n) (2 * channels))
  where
    go : (a b : Bool) → wired_verdict (cond a (Err (Unmatched (first_unmatched table n channels))) (cond b (Err Circular) (Ok tt))) ≡ cond a (Err (ChannelEnds (first_unmatched table n channels))) (cond b (Err Circle) (Ok tt))
    go true b = refl
    go false true = refl
    go false false = refl

-- ---- the header
abbrev pub wrong_edition : List ℕ → Bool
wrong_edition h = not (eqb (get_or h 0 0) 1) || not (eqb (get_or h 2 0) 0)

abbrev pub wrong_range : List ℕ → Bool
wrong_range h = eqb (get_or h 3 0) 0 || ltb most_components (get_or h 3 0) || eqb (get_or h 4 0) 0

-- a header that is right
pub is_right : (h file : List ℕ) → wrong_edition h ≡ false → wrong_range h ≡ false → length file ≡ file_size (get_or h 3 0) → sum file % 256 ≡ 0 → header_read h file ≡ Ok (size_in h)
unfolding header_read
is_right h file e₁ e₂ l z = rw (e₁, e₂, eq-eqb (length file) (file_size (get_or h 3 0)) l, z) refl

-- a count that is not 0
pub positive : (x : ℕ) → eqb x 0 ≡ false → 0 < x
positive x f = let n = eqb-false x 0 f in omega arith

-- the bounds of its fields
pub colours_lt : (file : List ℕ) → get_or (header_fields file) 1 0 < 8
unfolding header_fields
colours_lt file = mod-lt _ (pow_pos 3)

pub channels-lt : (file : List ℕ) → get_or (header_fields file) 4 0 < 256
unfolding header_fields
channels-lt file = mod-lt _ (pow_pos 8)
