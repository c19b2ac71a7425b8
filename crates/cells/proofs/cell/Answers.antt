use Rattle.std.proofs.Common.{◌≡◌, ◌+◌, ◌*◌, ◌<◌, ◌/◌, ℕ, zero, suc, List, [], take, drop, length, slice_index_or, arith, ◌∙◌}
use Rattle.std.specs.Simd.{first_chunks}
use native.Mathlib.Nat.{mul-zero, mul-suc}
use lib.Seq.{drop-drop}
use Rattle.cells.proofs.cell.Goals as goal

chunk_at : (n c k : ℕ) (xs : List ℕ) → k < c → slice_index_or (first_chunks n c xs) k [] ≡ take n (drop (n * k) xs)
chunk_at n zero k xs h = absurd (omega arith)
chunk_at n (suc c) zero xs h = rw mul-zero
chunk_at n (suc c) (suc k) xs h =
    let e : n + n * k ≡ n * suc k = omega (arith, mul-suc n k) in
    chunk_at n c k (drop n xs) (omega arith) ∙ rw (drop-drop (n * k) n xs, e)

pub returns : goal.returns
returns c = rw c.as_chunks.ensures.front (chunk_at 64 (length c.args.state.now / 64) c.args.k c.args.state.now (omega (arith, c.requires)))
