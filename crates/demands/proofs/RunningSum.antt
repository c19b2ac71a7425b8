-- The byte sum that pack carries, in the memory that it leaves. Assumes nothing.
use mathlib.Core.Path.{◌≡◌, ap, sym, subst, ◌∙◌}
use Prim.Native.Nat.{ℕ, ◌+◌, ◌-◌, ◌/◌, ◌%◌, ◌≤◌, ◌<◌}
use native.Mathlib.Nat.{le_refl}
use native.Mathlib.Omega.{arith}
use mathlib.Core.List.{List, ◌++◌}
use lib.ListN.{length, get_or, take, drop}
use lib.Seq.{get_or_at}
use Rattle.digits.specs.Sum.{sum, negated}
use Rattle.digits.proofs.Sum.{negated-wraps}
use Rattle.refusals.specs.Refusals.{kept}
use Rattle.std.proofs.Common.{Result}
use Rattle.refusals.specs.declared.Refusal.{Refusal}
use Rattle.record.specs.Sizes.{file_size, row_size}
use Rattle.record.specs.Table.{records}
use Rattle.carried.specs.Carried.{check_place, carried_sum}
use Rattle.carried.proofs.Carried.{carried-in}
use Rattle.fabric.specs.PackedFile.{header_bytes, packed_file}
use Rattle.fabric.specs.Calls.{packed_into}
use Rattle.fabric.proofs.Packing.{check_byte, three, file-parts}
use Rattle.fabric.proofs.Writing.{Inside, pack-accepted}
use Rattle.demands.specs.RunningSum.{CarriedIn, RunningSum}

of_parts : (M N : ℕ) (t rest file : List ℕ) (c : ℕ) → c < 8 → N < 256 → M < 256 → file ≡ packed_file (c + 1) M t N ++ rest → CarriedIn file (c + 1) M t N
of_parts M N t rest file c hc h_n h_m e =
    let parts = e ∙ file-parts c M N t hc h_n h_m rest in
    let front : List ℕ = take check_place (header_bytes (c + 1) N M 0) in
    let check : ℕ = check_byte c M N t hc h_n h_m in
    let long : length front ≡ check_place = three c M N t hc h_n h_m in
    let carried : (k : ℕ) → k ≤ N → carried_sum file k ≡ sum (front ++ records t k) % 256 = λ k h. ap (λ (l : List ℕ). carried_sum l k) parts ∙ carried-in front check t rest N k long h in (
      carried,
      ap (λ (l : List ℕ). get_or l check_place 0) parts
          ∙ get_or_at front check (records t N ++ rest) 0 check_place long
          ∙ sym (ap negated (carried N (le_refl N)) ∙ negated-wraps (sum (front ++ records t N))),
    )

pub running_sum : RunningSum
unfolding packed_into
running_sum colours channels table memory ok =
    let n : ℕ = length table / row_size in
    let rest : List ℕ = drop (file_size n) memory in
    let file : List ℕ = packed_into colours channels table memory in
    let i : Inside colours channels n = (pack-accepted colours channels table (length memory) ok).inside in
    let c : ℕ = colours - 1 in
    let e : c + 1 ≡ colours = omega (arith, i.some_colours) in
    let written : file ≡ packed_file colours channels table n ++ rest = ap (λ (v : Result Unit Refusal). kept v (packed_file colours channels table n ++ rest) memory) ok in
    subst (λ (C : ℕ). file ≡ packed_file C channels table n ++ rest → CarriedIn file C channels table n) e
    (of_parts channels n table rest file c (omega (arith, i.few_colours)) (omega (arith, i.few_rows)) (omega (arith, i.few_channels))) written
