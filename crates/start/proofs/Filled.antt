-- A queue's bytes at start. Assumes nothing.
use Rattle.std.proofs.Common.{◌≡◌, ℕ, ◌≤◌, List, length, take, drop, set, replicate, length-take, length-drop, ap, ◌∙◌, arith}
use Rattle.std.proofs.lemmas.List.{drop-replicate, length-replicate}
use borrow.Rule.Slice.PartMut.{put_mid}
use Rattle.cells.specs.Cells.{cell_with, cell_size}

-- the count, n colours, zeros: of a cell of zeros, where the part of w bytes after byte 0 is filled
module _ (s t : List ℕ) (size w n c : ℕ) (clear : s ≡ replicate size 0) (whole : size ≡ cell_size)
    (width : w ≡ n) (few : n ≤ 63) (full : t ≡ replicate (length (take w (drop 1 (set s 0 n)))) c) where
  zeros : s ≡ replicate cell_size 0
  zeros = clear ∙ ap (λ (m : ℕ). replicate m 0) whole

  part : t ≡ replicate n c
  part =
      let long : length (take w (drop 1 (set s 0 n))) ≡ n = simp (length-take, length-drop, zeros) (omega arith) in
      full ∙ ap (λ (m : ℕ). replicate m c) long

  pub filled : put_mid 1 w (set s 0 n) t ≡ cell_with (replicate n c)
  unfolding cell_with
  filled = rw (part, zeros, width, length-replicate, drop-replicate {X = ℕ} n 63 0)
